-- Runs of lines that are executed in parts.
use Rattle.std.proofs.Common.{◌≡◌, List, ℕ, ◌++◌, [], ◌∷◌, Option, refl, ap, sym, subst, ◌∙◌, append_assoc, inl, inr, arith}
use Rattle.std.proofs.lemmas.List.{append-nil}
use Rattle.j_io.specs.Outside.{Grew}
use Rattle.j_verbs.specs.State.{State}
use Rattle.j_cli.specs.Run.{RunState, End, going, stopped, spent, next, run_after, pieces, turn_at}
use Rattle.j_cli.specs.Answer.{Answer, GaveUp, IsAnswer, answer_from, answer_of, status_of}
use Rattle.j_cli.specs.Halts.{Answered}
use Rattle.j_cli.proofs.Known.{grew_then}

pub run_after-append : (run : RunState) (ls ms : List (List ℕ)) → run_after run (ls ++ ms) ≡ run_after (run_after run ls) ms
run_after-append run [] ms = refl
run_after-append run (l ∷ ls) ms = run_after-append (next run l).run ls ms

pub pieces-append : (run : RunState) (ls ms : List (List ℕ)) → pieces run (ls ++ ms) ≡ pieces run ls ++ pieces (run_after run ls) ms
pieces-append run [] ms = refl
pieces-append run (l ∷ ls) ms =
    let turn = next run l in
    ap (λ xs. turn.piece ++ xs) (pieces-append turn.run ls ms) ∙ sym (append_assoc turn.piece (pieces turn.run ls) (pieces (run_after turn.run ls) ms))

-- a run that has ended
abbrev HasEnded : End → Type 0
HasEnded going = ⊥
HasEnded stopped = Unit {0}
HasEnded spent = Unit {0}

has_ended : (e : End) → (status_of e ≡ 0 → ⊥) → HasEnded e
has_ended going h = h refl
has_ended stopped h = tt
has_ended spent h = tt

ended_at : (e : End) (s : State) (line : List ℕ) → HasEnded e → turn_at e s line ≡ record { run = record { state = s; end = e }; piece = [] }
ended_at going s line h = absurd h
ended_at stopped s line h = refl
ended_at spent s line h = refl

ended_next : (run : RunState) (line : List ℕ) → HasEnded run.end → next run line ≡ record { run = run; piece = [] }
unfolding next
ended_next run line h = ended_at run.end run.state line h

ended_stays : (run : RunState) (ls : List (List ℕ)) → HasEnded run.end → run_after run ls ≡ run
ended_stays run [] h = refl
ended_stays run (l ∷ ls) h = rw (ended_next run l h) (ended_stays run ls h)

ended_quiet : (run : RunState) (ls : List (List ℕ)) → HasEnded run.end → pieces run ls ≡ []
ended_quiet run [] h = refl
ended_quiet run (l ∷ ls) h = rw (ended_next run l h) (ended_quiet run ls h)

same_answer : (b c : List ℕ) (d e : End) → b ≡ c → d ≡ e → (let it : Answer = record { bytes = b; status = status_of d } in it) ≡ record { bytes = c; status = status_of e }
same_answer b c d e p q = cc

-- where the run has ended, further lines change nothing
answer_longer : (run : RunState) (ls ms : List (List ℕ)) → HasEnded (run_after run ls).end → answer_from run (ls ++ ms) ≡ answer_from run ls
answer_longer run ls ms ended =
    same_answer (pieces run (ls ++ ms)) (pieces run ls) (run_after run (ls ++ ms)).end (run_after run ls).end
    (pieces-append run ls ms ∙ (ap (λ xs. pieces run ls ++ xs) (ended_quiet (run_after run ls) ms ended) ∙ append-nil (pieces run ls)))
    (ap (λ (r : RunState). r.end) (run_after-append run ls ms ∙ ended_stays (run_after run ls) ms ended))

is_longer : (run : RunState) (ls ms : List (List ℕ)) (s : ℕ) (w : List ℕ) → (s ≡ 0 → ⊥) → IsAnswer (answer_from run ls) s w → IsAnswer (answer_from run (ls ++ ms)) s w
is_longer run ls ms s w halted (inl e) =
    subst (λ (a : Answer). IsAnswer a s w) (sym (answer_longer run ls ms (has_ended (run_after run ls).end (λ z. halted (e.0 ∙ z))))) (inl e)
is_longer run ls ms s w halted (inr p) =
    let more = pieces (run_after run ls) ms in
    inr (p.0, (p.1.0 ++ more, sym (append_assoc w p.1.0 more) ∙ (ap (λ ws. ws ++ more) p.1.1 ∙ sym (pieces-append run ls ms))))

-- a halt in the first part is a halt in the whole
pub answered_longer : (run : RunState) (ls ms : List (List ℕ)) (s : ℕ) (o n : Option (List ℕ)) → (s ≡ 0 → ⊥) → Answered (answer_from run ls) s o n → Answered (answer_from run (ls ++ ms)) s o n
answered_longer run ls ms s o n halted p = (p.0, p.1, is_longer run ls ms s p.0 halted p.2)

is_then : (run : RunState) (ls ms : List (List ℕ)) (s : ℕ) (w : List ℕ) → IsAnswer (answer_from (run_after run ls) ms) s w → IsAnswer (answer_from run (ls ++ ms)) s (pieces run ls ++ w)
is_then run ls ms s w (inl e) =
    inl (e.0 ∙ sym (ap (λ (r : RunState). status_of r.end) (run_after-append run ls ms)), ap (λ xs. pieces run ls ++ xs) e.1 ∙ sym (pieces-append run ls ms))
is_then run ls ms s w (inr p) =
    inr (p.0, (p.1.0, append_assoc (pieces run ls) w p.1.0 ∙ (ap (λ xs. pieces run ls ++ xs) p.1.1 ∙ sym (pieces-append run ls ms))))

-- the second part, after the first was executed and written
pub answered_then : (run : RunState) (ls ms : List (List ℕ)) (s : ℕ) (o m n : Option (List ℕ)) → Grew o m (pieces run ls) → Answered (answer_from (run_after run ls) ms) s m n → Answered (answer_from run (ls ++ ms)) s o n
answered_then run ls ms s o m n grew p = (pieces run ls ++ p.0, grew_then o m n (pieces run ls) p.0 grew p.1, is_then run ls ms s p.0 p.2)

-- one line
pub answered_line : (run : RunState) (line : List ℕ) (s : ℕ) (o n : Option (List ℕ)) → Answered (answer_of (next run line)) s o n → Answered (answer_from run (line ∷ [])) s o n
answered_line run line s o n p =
    subst (λ (bs : List ℕ). Answered (record { bytes = bs; status = status_of (next run line).run.end }) s o n) (sym (append-nil (next run line).piece)) p

nothing_given_up : GaveUp 0 → ⊥
nothing_given_up (inl e) = omega (arith, e)
nothing_given_up (inr (inl e)) = omega (arith, e)
nothing_given_up (inr (inr e)) = omega (arith, e)

is_whole : (a : Answer) (w : List ℕ) → IsAnswer a 0 w → w ≡ a.bytes
is_whole a w (inl e) = e.1
is_whole a w (inr p) = absurd (nothing_given_up p.0)

-- status 0 is the whole answer
pub answered_whole : (a : Answer) (o n : Option (List ℕ)) → Answered a 0 o n → Grew o n a.bytes
answered_whole a o n p = subst (Grew o n) (is_whole a p.0 p.2) p.1
