-- Digits from the last, as the code finds them.
use Rattle.std.proofs.Common.{◌≡◌, ◌<◌, ◌≤◌, ◌+◌, ◌-◌, ◌++◌, ◌&&◌, ℕ, ℤ, pos, List, [], ◌∷◌, length, drop, reverse, get_or, cond, Bool, true, false, FitsSigned, w64, refl, sym, ap, ◌∙◌, arith, append_assoc, Result, Ok, Err}
use Rattle.std.specs.List.{list_all}
use Rattle.std.proofs.lemmas.List.{drop_more, drop_all, length-reverse, get_or-reverse, append-nil}
use Rattle.std.proofs.lemmas.List.Folds.{list_all-append}
use Rattle.j_definitions.specs.Array.{Array}
use Rattle.j_definitions.specs.Range.{in_range}
use Rattle.j_definitions.specs.Limits.{limited}
use Rattle.j_definitions.specs.declared.Fault.{Fault}
use Rattle.j_definitions.specs.declared.Fault.TheVariants.{Overflow}
use Rattle.j_kernels.specs.Scalars.{residue}
use Rattle.j_insert.specs.Bases.{and_then, numbers_of}
use Rattle.j_insert.specs.Digits.{left_by, digits_from_last, digits_backward, digits, numbers, antibase}
use Rattle.j_insert.proofs.Ranges.{fitting, not_fitting}

-- the next digit, by the base before the k last ones
next_digit : (xs : List ℤ) (k n : ℕ) (r x : ℤ) → length xs ≡ n → k < n → x ≡ get_or xs (n - 1 - k) (pos 0) →
    digits_from_last (drop k (reverse xs)) r ≡ residue x r ∷ digits_from_last (drop (k + 1) (reverse xs)) (left_by x r)
next_digit xs k n r x m h is =
    let long : k < length (reverse xs) = omega (arith, length-reverse xs) in
    let within : k < length xs = omega arith in
    let place : length xs - 1 - k ≡ n - 1 - k = omega arith in
    let at : get_or (reverse xs) k (pos 0) ≡ x = get_or-reverse xs k (pos 0) within ∙ ap (λ (j : ℕ). get_or xs j (pos 0)) place ∙ sym is in
    ap (λ (ws : List ℤ). digits_from_last ws r) (drop_more (reverse xs) k (pos 0) long)
    ∙ ap (λ (w : ℤ). residue w r ∷ digits_from_last (drop (k + 1) (reverse xs)) (left_by w r)) at

pub digit_more : (xs out ds : List ℤ) (k n : ℕ) (r x z s : ℤ) → length xs ≡ n → k < n → x ≡ get_or xs (n - 1 - k) (pos 0) → z ≡ residue x r → s ≡ left_by x r →
    ds ≡ out ++ digits_from_last (drop k (reverse xs)) r → ds ≡ (out ++ z ∷ []) ++ digits_from_last (drop (k + 1) (reverse xs)) s
digit_more xs out ds k n r x z s m h is ez es e =
    e ∙ ap (λ (ws : List ℤ). out ++ ws) (next_digit xs k n r x m h is)
    ∙ ap (λ (w : ℤ). out ++ (w ∷ digits_from_last (drop (k + 1) (reverse xs)) (left_by x r))) (sym ez)
    ∙ ap (λ (w : ℤ). out ++ (z ∷ digits_from_last (drop (k + 1) (reverse xs)) w)) (sym es)
    ∙ sym (append_assoc out (z ∷ []) (digits_from_last (drop (k + 1) (reverse xs)) s))

pub range_more : (out : List ℤ) (z : ℤ) → FitsSigned w64 z → list_all in_range out ≡ true → list_all in_range (out ++ z ∷ []) ≡ true
range_more out z f h = list_all-append in_range out (z ∷ []) ∙ rw (h, fitting z f) refl

-- all digits are found
pub digits_found : (xs out : List ℤ) (k n : ℕ) (r y : ℤ) → length xs ≡ n → n ≤ k → digits_backward xs y ≡ out ++ digits_from_last (drop k (reverse xs)) r → list_all in_range out ≡ true → digits xs y ≡ Ok (reverse out)
digits_found xs out k n r y m h e all =
    let none : drop k (reverse xs) ≡ [] = drop_all k (reverse xs) (omega (arith, length-reverse xs)) in
    let same : digits_backward xs y ≡ out = e ∙ ap (λ (ws : List ℤ). out ++ digits_from_last ws r) none ∙ append-nil out in
    let good : list_all in_range (digits_backward xs y) ≡ true = ap (list_all in_range) same ∙ all in
    ap (λ (b : Bool). let q : Result (List ℤ) Fault = cond b (Ok (reverse (digits_backward xs y))) (Err Overflow) in q) good ∙ ap (λ (ws : List ℤ). Ok (reverse ws)) same

-- a digit is out of range
beyond : (a b : Bool) → b ≡ false → (a && b) ≡ false
beyond true b h = h
beyond false b h = refl

pub digit_beyond : (xs out : List ℤ) (k n : ℕ) (r x z y : ℤ) → length xs ≡ n → k < n → x ≡ get_or xs (n - 1 - k) (pos 0) → z ≡ residue x r → (FitsSigned w64 z → ⊥) →
    digits_backward xs y ≡ out ++ digits_from_last (drop k (reverse xs)) r → digits xs y ≡ Err Overflow
digit_beyond xs out k n r x z y m h is ez f e =
    let rest : List ℤ = digits_from_last (drop (k + 1) (reverse xs)) (left_by x r) in
    let ds : digits_backward xs y ≡ out ++ (z ∷ rest) = e ∙ ap (λ (ws : List ℤ). out ++ ws) (next_digit xs k n r x m h is) ∙ ap (λ (w : ℤ). out ++ (w ∷ rest)) (sym ez) in
    let first : (in_range z && list_all in_range rest) ≡ false = rw (not_fitting z f) refl in
    let bad : list_all in_range (digits_backward xs y) ≡ false = ap (list_all in_range) ds ∙ list_all-append in_range out (z ∷ rest) ∙ beyond (list_all in_range out) (in_range z && list_all in_range rest) first in
    ap (λ (b : Bool). let q : Result (List ℤ) Fault = cond b (Ok (reverse (digits_backward xs y))) (Err Overflow) in q) bad

-- what `#:` gives
pub antibase_said : (x y : Array) (xs ys : List ℤ) (r : Result (List ℤ) Fault) → numbers_of x ≡ Ok xs → numbers_of y ≡ Ok ys → digits xs (get_or ys 0 (pos 0)) ≡ r →
    antibase x y ≡ and_then r (λ zs. limited (numbers x.shape zs))
antibase_said x y xs ys r ex ey e = rw (ex, ey, e) refl

pub antibase_left : (x y : Array) (f : Fault) → numbers_of x ≡ Err f → antibase x y ≡ Err f
antibase_left x y f ex = rw ex refl

pub antibase_right : (x y : Array) (xs : List ℤ) (f : Fault) → numbers_of x ≡ Ok xs → numbers_of y ≡ Err f → antibase x y ≡ Err f
antibase_right x y xs f ex ey = rw (ex, ey) refl
