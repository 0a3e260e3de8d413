-- A step for each pair, as the code takes them.
use Rattle.std.proofs.Common.{◌≡◌, ◌<◌, ◌≤◌, ◌+◌, ℕ, ℤ, pos, List, [], ◌∷◌, length, drop, get_or, replicate, zip, cond, Bool, true, false, nat_eq, refl, sym, ap, ◌∙◌, arith, Result, Ok, Err}
use Rattle.std.proofs.lemmas.List.{drop_more, drop_all}
use Rattle.std.proofs.lemmas.Bool.{eq-eqb, ne_eqb}
use Rattle.j_definitions.specs.Array.{Array, atom_array, number}
use Rattle.j_definitions.specs.declared.Kind.TheVariants.{Number}
use Rattle.j_definitions.specs.declared.Fault.{Fault}
use Rattle.j_definitions.specs.declared.Fault.TheVariants.{Length}
use Rattle.j_insert.specs.Bases.{and_then, step, stepped, valued, numbers_of, base}

next_pair : (xs ys : List ℤ) (k n : ℕ) → k < n → length xs ≡ n → length ys ≡ n →
    zip (drop k xs) (drop k ys) ≡ (get_or xs k (pos 0), get_or ys k (pos 0)) ∷ zip (drop (k + 1) xs) (drop (k + 1) ys)
next_pair xs ys k n h m l =
    let a : k < length xs = omega arith in
    let b : k < length ys = omega arith in
    rw (drop_more xs k (pos 0) a, drop_more ys k (pos 0) b) refl

next_step : (xs ys : List ℤ) (k n : ℕ) (r : ℤ) → k < n → length xs ≡ n → length ys ≡ n →
    stepped r (zip (drop k xs) (drop k ys)) ≡ and_then (step r (get_or xs k (pos 0)) (get_or ys k (pos 0))) (λ s. stepped s (zip (drop (k + 1) xs) (drop (k + 1) ys)))
next_step xs ys k n r h m l = ap (stepped r) (next_pair xs ys k n h m l)

pub step_more : (xs ys : List ℤ) (k n : ℕ) (r s x y : ℤ) (q : Result ℤ Fault) → k < n → length xs ≡ n → length ys ≡ n → x ≡ get_or xs k (pos 0) → y ≡ get_or ys k (pos 0) → Ok s ≡ step r x y →
    q ≡ stepped r (zip (drop k xs) (drop k ys)) → q ≡ stepped s (zip (drop (k + 1) xs) (drop (k + 1) ys))
step_more xs ys k n r s x y q h m l ex ey e is =
    let said : Ok s ≡ step r (get_or xs k (pos 0)) (get_or ys k (pos 0)) = rw (← ex, ← ey) e in
    is ∙ next_step xs ys k n r h m l ∙ sym (ap (λ (w : Result ℤ Fault). and_then w (λ t. stepped t (zip (drop (k + 1) xs) (drop (k + 1) ys)))) said)

pub step_fails : (xs ys : List ℤ) (k n : ℕ) (r x y : ℤ) (f : Fault) (q : Result ℤ Fault) → k < n → length xs ≡ n → length ys ≡ n → x ≡ get_or xs k (pos 0) → y ≡ get_or ys k (pos 0) → Err f ≡ step r x y →
    q ≡ stepped r (zip (drop k xs) (drop k ys)) → Err f ≡ q
step_fails xs ys k n r x y f q h m l ex ey e is =
    let said : Err f ≡ step r (get_or xs k (pos 0)) (get_or ys k (pos 0)) = rw (← ex, ← ey) e in
    sym (is ∙ next_step xs ys k n r h m l ∙ sym (ap (λ (w : Result ℤ Fault). and_then w (λ t. stepped t (zip (drop (k + 1) xs) (drop (k + 1) ys)))) said))

pub steps_end : (xs ys : List ℤ) (k n : ℕ) (r : ℤ) (q : Result ℤ Fault) → n ≤ k → length xs ≡ n → q ≡ stepped r (zip (drop k xs) (drop k ys)) → Ok r ≡ q
steps_end xs ys k n r q h m is =
    let none : drop k xs ≡ [] = drop_all k xs (omega arith) in
    sym (is ∙ ap (λ (w : List ℤ). stepped r (zip w (drop k ys))) none)

pub valued_left : (s t : List ℕ) (xs ys : List ℤ) (n : ℕ) (x : ℤ) (r : Result ℤ Fault) → length s ≡ 0 → n ≡ length ys → x ≡ get_or xs 0 (pos 0) → r ≡ stepped (pos 0) (zip (replicate n x) ys) → r ≡ valued s t xs ys
valued_left [] t xs ys n x r h e is said = said ∙ ap (λ (m : ℕ). stepped (pos 0) (zip (replicate m x) ys)) e ∙ ap (λ (z : ℤ). stepped (pos 0) (zip (replicate (length ys) z) ys)) is
valued_left (m ∷ s) t xs ys n x r h e is said = absurd (omega arith)

pub valued_right : (s t : List ℕ) (xs ys : List ℤ) (n : ℕ) (y : ℤ) (r : Result ℤ Fault) → 0 < length s → length t ≡ 0 → n ≡ length xs → y ≡ get_or ys 0 (pos 0) → r ≡ stepped (pos 0) (zip xs (replicate n y)) → r ≡ valued s t xs ys
valued_right [] t xs ys n y r some h e is said = absurd (omega arith)
valued_right (m ∷ s) [] xs ys n y r some h e is said = said ∙ ap (λ (m : ℕ). stepped (pos 0) (zip xs (replicate m y))) e ∙ ap (λ (z : ℤ). stepped (pos 0) (zip xs (replicate (length xs) z))) is
valued_right (m ∷ s) (n ∷ t) xs ys k y r some h e is said = absurd (omega arith)

-- two lists
both : (b c : Bool) (xs ys : List ℤ) → b ≡ c → (let r : Result (List (ℤ × ℤ)) Fault = cond b (Ok (zip xs ys)) (Err Length) in and_then r (stepped (pos 0))) ≡ (let r : Result (List (ℤ × ℤ)) Fault = cond c (Ok (zip xs ys)) (Err Length) in and_then r (stepped (pos 0)))
both b c xs ys e = ap (λ (d : Bool). let r : Result (List (ℤ × ℤ)) Fault = cond d (Ok (zip xs ys)) (Err Length) in and_then r (stepped (pos 0))) e

pub valued_both : (s t : List ℕ) (xs ys : List ℤ) (r : Result ℤ Fault) → 0 < length s → 0 < length t → length xs ≡ length ys → r ≡ stepped (pos 0) (zip xs ys) → r ≡ valued s t xs ys
valued_both [] t xs ys r a b g said = absurd (omega arith)
valued_both (m ∷ s) [] xs ys r a b g said = absurd (omega arith)
valued_both (m ∷ s) (n ∷ t) xs ys r a b g said = said ∙ sym (both (nat_eq (length xs) (length ys)) true xs ys (eq-eqb (length xs) (length ys) g))

pub valued_unequal : (s t : List ℕ) (xs ys : List ℤ) → 0 < length s → 0 < length t → (length xs ≡ length ys → ⊥) → Err Length ≡ valued s t xs ys
valued_unequal [] t xs ys a b g = absurd (omega arith)
valued_unequal (m ∷ s) [] xs ys a b g = absurd (omega arith)
valued_unequal (m ∷ s) (n ∷ t) xs ys a b g = sym (both (nat_eq (length xs) (length ys)) false xs ys (ne_eqb (length xs) (length ys) g))

-- what `#.` gives
pub base_said : (x y : Array) (xs ys : List ℤ) (r : Result ℤ Fault) → numbers_of x ≡ Ok xs → numbers_of y ≡ Ok ys → r ≡ valued x.shape y.shape xs ys →
    base x y ≡ and_then r (λ z. Ok (atom_array Number (number z)))
base_said x y xs ys r ex ey e = rw (ex, ey, e) refl

pub base_left : (x y : Array) (f : Fault) → numbers_of x ≡ Err f → base x y ≡ Err f
base_left x y f ex = rw ex refl

pub base_right : (x y : Array) (xs : List ℤ) (f : Fault) → numbers_of x ≡ Ok xs → numbers_of y ≡ Err f → base x y ≡ Err f
base_right x y xs f ex ey = rw (ex, ey) refl
