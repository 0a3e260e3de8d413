-- Lines that are executed one after another.
use Rattle.std.proofs.Common.{◌≡◌, List, ℕ, ◌++◌, [], ◌∷◌, Option, ap, sym, subst, ◌∙◌, append_assoc}
use Rattle.std.proofs.lemmas.List.{append-nil}
use Rattle.j_io.specs.Outside.{Grew}
use Rattle.j_cli.specs.Run.{RunState, next, run_after, pieces}
use Rattle.j_cli.specs.Answer.{answer_from, answer_of}
use Rattle.j_cli.specs.Halts.{Answered}
use Rattle.j_cli.proofs.Known.{grew_then}
use Rattle.j_cli.proofs.Sequence.{run_after-append, pieces-append, answered_longer, answered_then, answered_line, answered_whole}

-- All lines but the ones left were executed, and their pieces were written.
pub record IsSofar (run : RunState) (all : List (List ℕ)) (now : RunState) (left : List (List ℕ)) (old new : Option (List ℕ)) : Type 0 where
  pub done : List (List ℕ)
  pub parted : all ≡ done ++ left
  pub state : now ≡ run_after run done
  pub bytes : Grew old new (pieces run done)

-- a line more, which goes on
pub sofar_more : (run : RunState) (all : List (List ℕ)) (now then : RunState) (line : List ℕ) (left left' : List (List ℕ)) (o m n : Option (List ℕ))
    → IsSofar run all now left o m → left ≡ line ∷ left' → then ≡ (next now line).run → Answered (answer_of (next now line)) 0 m n → IsSofar run all then left' o n
sofar_more run all now then line left left' o m n s first after p =
    let grew : Grew m n (next now line).piece = answered_whole (answer_of (next now line)) m n p in
    let one : Grew m n (pieces now (line ∷ [])) = subst (Grew m n) (sym (append-nil (next now line).piece)) grew in
    record {
      done = s.done ++ line ∷ [];
      parted = s.parted ∙ (ap (λ ls. s.done ++ ls) first ∙ sym (append_assoc s.done (line ∷ []) left'));
      state = after ∙ (ap (λ (r : RunState). run_after r (line ∷ [])) s.state ∙ sym (run_after-append run s.done (line ∷ [])));
      bytes = subst (Grew o n) (sym (pieces-append run s.done (line ∷ [])))
          (grew_then o m n (pieces run s.done) (pieces (run_after run s.done) (line ∷ [])) s.bytes (subst (λ (r : RunState). Grew m n (pieces r (line ∷ []))) s.state one));
    }

-- a halt at the first of the lines left
pub sofar_halts : (run : RunState) (all : List (List ℕ)) (now : RunState) (line : List ℕ) (left left' : List (List ℕ)) (s : ℕ) (o m n : Option (List ℕ))
    → IsSofar run all now left o m → left ≡ line ∷ left' → (s ≡ 0 → ⊥) → Answered (answer_of (next now line)) s m n → Answered (answer_from run all) s o n
sofar_halts run all now line left left' s o m n so first halted p =
    let at_done = run_after run so.done in
    let one : Answered (answer_from now (line ∷ [])) s m n = answered_line now line s m n p in
    let there : Answered (answer_from at_done (line ∷ [])) s m n = subst (λ (r : RunState). Answered (answer_from r (line ∷ [])) s m n) so.state one in
    subst (λ ls. Answered (answer_from run ls) s o n) (sym (so.parted ∙ ap (λ ls. so.done ++ ls) first))
    (answered_then run so.done (line ∷ left') s o m n so.bytes (answered_longer at_done (line ∷ []) left' s m n halted there))
