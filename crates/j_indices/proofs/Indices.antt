-- Indices as places.
use Rattle.std.proofs.Common.{◌≡◌, ◌<◌, ◌≤◌, ◌≤ℤ◌, ◌<ℤ◌, ◌+◌, ◌-◌, ℕ, ℤ, Bool, cond, pos, negsuc, unsigned_abs, List, [], ◌∷◌, ◌++◌, length, map, take, drop, get_or, arith, refl, sym, ap, ◌∙◌, Result, Ok, Err}
use Prim.Native.Nat.{suc}
use Rattle.std.proofs.lemmas.Int.{ints}
use Rattle.std.proofs.lemmas.Bool.{lt-ltb, le-ltb}
use Rattle.std.proofs.lemmas.List.{map-append, map_more, drop_more, take_all, take-append-drop}
use Rattle.j_definitions.specs.Cells.{in_order, with_first}
use Rattle.j_definitions.specs.declared.Fault.{Fault}
use Rattle.j_definitions.specs.declared.Fault.TheVariants.{Index}
use Rattle.j_indices.specs.Numbers.{index_in}

abbrev chosen : ℕ → Bool → Result ℕ Fault
chosen k b = cond b (Ok k) (Err Index)

pub early_index : (n k : ℕ) (z : ℤ) → pos 0 ≤ℤ z → k ≡ unsigned_abs z → k < n → index_in n z ≡ Ok k
early_index n k (pos m) h e g = let f : m < n = omega arith in ap (chosen m) (lt-ltb m n f) ∙ ap (λ (j : ℕ). let r : Result ℕ Fault = Ok j in r) (sym e)
early_index n k (negsuc m) h e g = absurd (omega (arith, ints))

pub early_beyond : (n : ℕ) (z : ℤ) → pos 0 ≤ℤ z → n ≤ unsigned_abs z → index_in n z ≡ Err Index
early_beyond n (pos m) h g = ap (chosen m) (le-ltb m n g)
early_beyond n (negsuc m) h g = absurd (omega (arith, ints))

pub late_index : (n k : ℕ) (z : ℤ) → z <ℤ pos 0 → k ≡ n - unsigned_abs z → unsigned_abs z ≤ n → index_in n z ≡ Ok k
late_index n k (pos m) h e g = absurd (omega (arith, ints))
late_index n k (negsuc m) h e g = let f : m < n = omega arith in ap (chosen (n - suc m)) (lt-ltb m n f) ∙ ap (λ (j : ℕ). let r : Result ℕ Fault = Ok j in r) (sym e)

pub late_beyond : (n : ℕ) (z : ℤ) → z <ℤ pos 0 → n < unsigned_abs z → index_in n z ≡ Err Index
late_beyond n (pos m) h g = absurd (omega (arith, ints))
late_beyond n (negsuc m) h g = let f : n ≤ m = omega arith in ap (chosen (n - suc m)) (le-ltb m n f)

-- values
abbrev pub oks : {C : Type 0} → List C → List (Result C Fault)
oks {C} vs = map (λ (v : C). let r : Result C Fault = Ok v in r) vs

pub all_in_order : {C : Type 0} (vs : List C) → in_order (oks vs) ≡ Ok vs
all_in_order [] = refl
all_in_order {C = C} (v ∷ vs) = ap (with_first {C = C} {E = Fault} v) (all_in_order vs)

pub stops_in_order : {C : Type 0} (vs : List C) (e : Fault) (rest : List (Result C Fault)) → in_order (oks vs ++ Err e ∷ rest) ≡ Err e
stops_in_order [] e rest = refl
stops_in_order {C = C} (v ∷ vs) e rest = ap (with_first {C = C} {E = Fault} v) (stops_in_order vs e rest)

-- what a function gives of the first i elements are these values
abbrev pub GivesFirst : {X C : Type 0} → (X → Result C Fault) → List X → ℕ → List C → Type 0
GivesFirst f xs i vs = map f (take i xs) ≡ oks vs

pub gives_more : {X C : Type 0} (f : X → Result C Fault) (xs : List X) (i : ℕ) (x : X) (v : C) (vs new : List C) → i < length xs → x ≡ get_or xs i x → f x ≡ Ok v → new ≡ vs ++ v ∷ [] →
    GivesFirst f xs i vs → GivesFirst f xs (i + 1) new
gives_more {C = C} f xs i x v vs new h is e more before =
    let ok : C → Result C Fault = λ w. Ok w in
    map_more f xs i x h ∙ ap (λ y. map f (take i xs) ++ f y ∷ []) (sym is) ∙ ap (λ r. map f (take i xs) ++ r ∷ []) e ∙ ap (λ r. r ++ ok v ∷ []) before
    ∙ sym (map-append ok vs (v ∷ [])) ∙ ap oks (sym more)

pub gives_all : {X C : Type 0} (f : X → Result C Fault) (xs : List X) (i : ℕ) (vs : List C) → length xs ≤ i → GivesFirst f xs i vs → in_order (map f xs) ≡ Ok vs
gives_all f xs i vs h before = ap (λ ys. in_order (map f ys)) (sym (take_all i xs h)) ∙ ap in_order before ∙ all_in_order vs

pub gives_fault : {X C : Type 0} (f : X → Result C Fault) (xs : List X) (i : ℕ) (x : X) (e : Fault) (vs : List C) → i < length xs → x ≡ get_or xs i x → f x ≡ Err e → GivesFirst f xs i vs →
    in_order (map f xs) ≡ Err e
gives_fault f xs i x e vs h is fault before =
    let later = map f (drop (i + 1) xs) in
    ap (λ ys. in_order (map f ys)) (sym (take-append-drop i xs) ∙ ap (λ r. take i xs ++ r) (drop_more xs i x h)) ∙ ap in_order (map-append f (take i xs) (get_or xs i x ∷ drop (i + 1) xs))
    ∙ ap (λ y. in_order (map f (take i xs) ++ f y ∷ later)) (sym is) ∙ ap (λ r. in_order (map f (take i xs) ++ r ∷ later)) fault ∙ ap (λ r. in_order (r ++ Err e ∷ later)) before
    ∙ stops_in_order vs e later
