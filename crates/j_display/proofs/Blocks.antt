-- Blocks side by side, and one under the other.
use Rattle.std.proofs.Common.{◌≡◌, ℕ, ◌+◌, ◌-◌, ◌<◌, ◌≤◌, List, [], ◌∷◌, ◌++◌, length, map, take, get_or, replicate, refl, sym, ap, ◌∙◌, arith, append_assoc}
use Prim.Native.Nat.{zero, suc}
use Rattle.std.proofs.Math.ListN.{set}
use Rattle.std.proofs.lemmas.List.{take_all, append-nil}
use Rattle.j_display.specs.Blocks.{beside, extended}

-- blocks side by side
abbrev pub alongside : List (List ℕ) → List (List ℕ) → List (List ℕ)
alongside [] bs = bs
alongside (a ∷ ls) [] = a ∷ ls
alongside (a ∷ ls) (b ∷ bs) = (a ++ b) ∷ alongside ls bs

pub beside-nil : (xs : List (List ℕ)) → beside xs [] ≡ xs
beside-nil [] = refl
beside-nil (x ∷ xs) = refl

beside-beside : (xs ls bs : List (List ℕ)) → beside (beside xs ls) bs ≡ beside xs (alongside ls bs)
beside-beside [] ls bs = refl
beside-beside (x ∷ xs) [] bs = refl
beside-beside (x ∷ xs) (a ∷ ls) [] = refl
beside-beside (x ∷ xs) (a ∷ ls) (b ∷ bs) = ap (λ r. r ∷ beside (beside xs ls) bs) (append_assoc x a b) ∙ ap (λ r. (x ++ (a ++ b)) ∷ r) (beside-beside xs ls bs)

-- the same from the first row on, by recursion
abbrev pub ext : ℕ → List (List ℕ) → List (List ℕ) → List (List ℕ)
ext zero xs block = beside xs block
ext (suc at) [] block = []
ext (suc at) (x ∷ xs) block = x ∷ ext at xs block

pub is_ext : (at : ℕ) (xs block : List (List ℕ)) → extended xs at block ≡ ext at xs block
is_ext zero xs block = refl
is_ext (suc at) [] block = refl
is_ext (suc at) (x ∷ xs) block = ap (λ r. x ∷ r) (is_ext at xs block)

ext-nil : (at : ℕ) (xs : List (List ℕ)) → ext at xs [] ≡ xs
ext-nil zero xs = beside-nil xs
ext-nil (suc at) [] = refl
ext-nil (suc at) (x ∷ xs) = ap (λ r. x ∷ r) (ext-nil at xs)

ext-ext : (at : ℕ) (xs ls bs : List (List ℕ)) → ext at (ext at xs ls) bs ≡ ext at xs (alongside ls bs)
ext-ext zero xs ls bs = beside-beside xs ls bs
ext-ext (suc at) [] ls bs = refl
ext-ext (suc at) (x ∷ xs) ls bs = ap (λ r. x ∷ r) (ext-ext at xs ls bs)

-- one row more on top
ext-step : (at : ℕ) (xs : List (List ℕ)) (a : List ℕ) (ls : List (List ℕ)) → ext at xs (a ∷ ls) ≡ ext (suc at) (ext at xs (a ∷ [])) ls
ext-step zero [] a ls = refl
ext-step zero (x ∷ xs) a ls = ap (λ r. (x ++ a) ∷ beside r ls) (sym (beside-nil xs))
ext-step (suc at) [] a ls = refl
ext-step (suc at) (x ∷ xs) a ls = ap (λ r. x ∷ r) (ext-step at xs a ls)

ext-under : (ls : List (List ℕ)) (at next : ℕ) (xs bs : List (List ℕ)) → next ≡ at + length ls → ext next (ext at xs ls) bs ≡ ext at xs (ls ++ bs)
ext-under [] at next xs bs e = let same : next ≡ at = omega arith in ap (λ n. ext n (ext at xs []) bs) same ∙ ap (λ r. ext at r bs) (ext-nil at xs)
ext-under (a ∷ ls) at next xs bs e =
    let n : next ≡ suc at + length ls = omega arith in
    ap (λ r. ext next r bs) (ext-step at xs a ls) ∙ ext-under ls (suc at) next (ext at xs (a ∷ [])) bs n ∙ sym (ext-step at xs a (ls ++ bs))

-- nothing is appended
pub extended-nil : (xs : List (List ℕ)) (at : ℕ) → extended xs at [] ≡ xs
extended-nil xs at = is_ext at xs [] ∙ ext-nil at xs

-- one block behind the other
pub extended-alongside : (xs : List (List ℕ)) (at : ℕ) (ls bs : List (List ℕ)) → extended (extended xs at ls) at bs ≡ extended xs at (alongside ls bs)
extended-alongside xs at ls bs = is_ext at (extended xs at ls) bs ∙ ap (λ r. ext at r bs) (is_ext at xs ls) ∙ ext-ext at xs ls bs ∙ sym (is_ext at xs (alongside ls bs))

-- one block under the other
pub extended-under : (xs : List (List ℕ)) (at next : ℕ) (ls bs : List (List ℕ)) → next ≡ at + length ls → extended (extended xs at ls) next bs ≡ extended xs at (ls ++ bs)
extended-under xs at next ls bs e = is_ext next (extended xs at ls) bs ∙ ap (λ r. ext next r bs) (is_ext at xs ls) ∙ ext-under ls at next xs bs e ∙ sym (is_ext at xs (ls ++ bs))

ext-past : (at : ℕ) (xs : List (List ℕ)) (text : List ℕ) → length xs ≤ at → ext at xs (text ∷ []) ≡ xs
ext-past zero [] text h = refl
ext-past zero (x ∷ xs) text h = absurd (omega arith)
ext-past (suc at) [] text h = refl
ext-past (suc at) (x ∷ xs) text h = ap (λ r. x ∷ r) (ext-past at xs text (omega arith))

ext-none : (at : ℕ) (xs : List (List ℕ)) → ext at xs ([] ∷ []) ≡ xs
ext-none zero [] = refl
ext-none zero (x ∷ xs) = ap (λ r. r ∷ beside xs []) (append-nil x) ∙ ap (λ r. x ∷ r) (beside-nil xs)
ext-none (suc at) [] = refl
ext-none (suc at) (x ∷ xs) = ap (λ r. x ∷ r) (ext-none at xs)

-- no bytes are appended to a row
pub extended-none : (xs : List (List ℕ)) (at : ℕ) → extended xs at ([] ∷ []) ≡ xs
extended-none xs at = is_ext at xs ([] ∷ []) ∙ ext-none at xs

-- on empty rows
on_empty : (ls : List (List ℕ)) (n : ℕ) → n ≡ length ls → beside (replicate n []) ls ≡ ls
on_empty [] zero e = refl
on_empty [] (suc n) e = absurd (omega arith)
on_empty (a ∷ ls) zero e = absurd (omega arith)
on_empty (a ∷ ls) (suc n) e = ap (λ r. a ∷ r) (on_empty ls n (omega arith))

pub extended-empty : (ls : List (List ℕ)) (n : ℕ) → n ≡ length ls → extended (replicate n []) 0 ls ≡ ls
extended-empty ls n e = is_ext 0 (replicate n []) ls ∙ on_empty ls n e

pub extended-past : (xs : List (List ℕ)) (at : ℕ) (text : List ℕ) → length xs ≤ at → extended xs at (text ∷ []) ≡ xs
extended-past xs at text h = is_ext at xs (text ∷ []) ∙ ext-past at xs text h

-- one row of those that a function shows
ext-set : {V : Type 0} (f : V → List ℕ) (xs : List V) (i : ℕ) (d v : V) (text : List ℕ) → i < length xs → f v ≡ f (get_or xs i d) ++ text → map f (set xs i v) ≡ ext i (map f xs) (text ∷ [])
ext-set f [] i d v text h e = absurd (omega arith)
ext-set f (x ∷ xs) zero d v text h e = ap (λ r. r ∷ map f xs) e ∙ ap (λ r. (f x ++ text) ∷ r) (sym (beside-nil (map f xs)))
ext-set f (x ∷ xs) (suc i) d v text h e = ap (λ r. f x ∷ r) (ext-set f xs i d v text (omega arith) e)

pub extended-set : {V : Type 0} (xs : List V) (f : V → List ℕ) (i : ℕ) (d v : V) (text : List ℕ) → i < length xs → f v ≡ f (get_or xs i d) ++ text → map f (set xs i v) ≡ extended (map f xs) i (text ∷ [])
extended-set xs f i d v text h e = ext-set f xs i d v text h e ∙ sym (is_ext i (map f xs) (text ∷ []))

pub replicate-push : {X : Type 0} (n : ℕ) (x : X) → replicate n x ++ x ∷ [] ≡ replicate (n + 1) x
replicate-push zero x = refl
replicate-push (suc n) x = ap (λ r. x ∷ r) (replicate-push n x) ∙ ap (λ k. replicate k x) (let e : suc (n + 1) ≡ suc n + 1 = omega arith in e)

-- a list that was filled up
pub filled : {X : Type 0} (old : List X) (x : X) (n size count : ℕ) → n ≡ length old → size ≡ n + count → take size old ++ replicate (size - n) x ≡ old ++ replicate count x
filled old x n size count en es =
    let more : length old ≤ size = omega arith in
    let rest : size - n ≡ count = omega arith in
    ap (λ r. r ++ replicate (size - n) x) (take_all size old more) ∙ ap (λ k. old ++ replicate k x) rest
