-- Texts are halved from the left, and their nouns.
use Rattle.std.proofs.Common.{◌≡◌, ◌≢◌, ℕ, zero, suc, ◌+◌, ◌==◌, ◌<◌, ◌≤◌, Bool, true, false, cond, List, [], ◌∷◌, ◌++◌, length, map, take, drop, get_or, Some, None, refl, sym, ap, ◌∙◌, arith}
use Rattle.std.proofs.lemmas.List.{append_assoc, append-nil, drop_more, drop_all, drop-drop, take_more, take_all}
use Rattle.std.proofs.lemmas.Bool.{eqb-true, false_from_ne_true}
use Rattle.memchr.specs.Find.{IsFirstByte, is_byte}
use Rattle.j_definitions.specs.Array.{Array, byte}
use Rattle.j_definitions.specs.declared.Kind.TheVariants.{Character}
use Rattle.j_words.specs.Forms.{doubled}
use Rattle.j_explicit.specs.Texts.{halved, characters}

other : (b : ℕ) (bs : List ℕ) → (b == 39) ≡ false → halved (b ∷ bs) ≡ b ∷ halved bs
other b [] h = refl
other b (c ∷ bs) h = ap (λ t. cond t (39 ∷ halved bs) (b ∷ halved (c ∷ bs))) h

quoted : (bs : List ℕ) → halved (39 ∷ bs) ≡ 39 ∷ halved (drop 1 bs)
quoted [] = refl
quoted (c ∷ bs) = refl

-- no quote among the first n bytes
run_kept : (bs : List ℕ) (n : ℕ) → n ≤ length bs → ((k : ℕ) → 0 ≤ k → k < n → (get_or bs k 0 == 39) ≡ true → ⊥) → halved bs ≡ take n bs ++ halved (drop n bs)
run_kept bs zero l none = refl
run_kept [] (suc n) l none = absurd (omega arith)
run_kept (b ∷ bs) (suc n) l none =
    other b bs (false_from_ne_true (b == 39) (none 0 (omega arith) (omega arith)))
    ∙ ap (λ t. b ∷ t) (run_kept bs n (omega arith) (λ k a m. none (suc k) (omega arith) (omega arith)))

pub none_left : (bs : List ℕ) → IsFirstByte (is_byte 39) bs None → halved bs ≡ bs
none_left bs none =
    run_kept bs (length bs) (omega arith) none
    ∙ ap (λ t. take (length bs) bs ++ halved t) (drop_all (length bs) bs (omega arith))
    ∙ append-nil (take (length bs) bs) ∙ take_all (length bs) bs (omega arith)

-- the first quote is kept, and the byte behind it is not
pub quote_halved : (bs : List ℕ) (n : ℕ) → IsFirstByte (is_byte 39) bs (Some n) → halved bs ≡ take (n + 1) bs ++ halved (drop (n + 2) bs)
quote_halved bs n found =
    let is : get_or bs n 0 ≡ 39 = eqb-true _ 39 found.1 in
    let after : drop 1 (drop (n + 1) bs) ≡ drop (n + 2) bs = drop-drop 1 (n + 1) bs ∙ ap (λ (m : ℕ). drop m bs) (omega arith) in
    run_kept bs n (omega (arith, found.0.high)) found.0.before
    ∙ ap (λ t. take n bs ++ halved t) (drop_more bs n 0 found.0.high ∙ ap (λ b. b ∷ drop (n + 1) bs) is)
    ∙ ap (λ t. take n bs ++ t) (quoted (drop (n + 1) bs) ∙ ap (λ t. 39 ∷ halved t) after)
    ∙ sym (append_assoc (take n bs) (39 ∷ []) (halved (drop (n + 2) bs)))
    ∙ ap (λ t. t ++ halved (drop (n + 2) bs)) (ap (λ b. take n bs ++ b ∷ []) (sym is) ∙ sym (take_more bs n 0 found.0.high))

-- a text is read as it is written
pub halved_doubled : (t : List ℕ) → halved (doubled t) ≡ t
halved_doubled [] = refl
halved_doubled (b ∷ t) = go (halved_doubled t) (b == 39) refl
  where
    go : halved (doubled t) ≡ t → (v : Bool) → (b == 39) ≡ v → halved (cond v (39 ∷ 39 ∷ doubled t) (b ∷ doubled t)) ≡ b ∷ t
    go i true e = ap (λ bs. 39 ∷ bs) i ∙ ap (λ c. c ∷ t) (sym (eqb-true b 39 e))
    go i false e = other b (doubled t) e ∙ ap (λ bs. b ∷ bs) i

pub one_atom : (bs : List ℕ) (b : ℕ) → length bs ≡ 1 → b ≡ get_or bs 0 0 → record { kind = Character; shape = []; atoms = byte b ∷ [] } ≡ characters bs
one_atom [] b h e = absurd (omega arith)
one_atom (x ∷ []) b h e = ap (λ (k : ℕ). let a : Array = record { kind = Character; shape = []; atoms = byte k ∷ [] } in a) e
one_atom (x ∷ y ∷ ys) b h e = absurd (omega arith)

pub others_list : (bs : List ℕ) (n : ℕ) → n ≡ length bs → n ≢ 1 → record { kind = Character; shape = n ∷ []; atoms = map byte bs } ≡ characters bs
others_list [] n e h = ap (λ (k : ℕ). let a : Array = record { kind = Character; shape = k ∷ []; atoms = [] } in a) e
others_list (x ∷ []) n e h = absurd (h e)
others_list (x ∷ y ∷ ys) n e h = ap (λ (k : ℕ). let a : Array = record { kind = Character; shape = k ∷ []; atoms = map byte (x ∷ y ∷ ys) } in a) e
