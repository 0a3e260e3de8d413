-- Axes that numbers count, and their faults.
use Rattle.std.proofs.Common.{◌≡◌, ◌<◌, ◌+◌, ℕ, ℤ, pos, Bool, true, false, nat_eq, cond, List, [], ◌∷◌, ◌++◌, length, map, take, get_or, arith, refl, sym, ap, ◌∙◌, subst, Result, Ok, Err}
use Rattle.std.specs.List.{All, filter, range_with_len}
use Rattle.std.proofs.lemmas.List.{map-append, take_more}
use Rattle.std.proofs.lemmas.List.Elements.{All-nil, All-cons, All-append}
use Rattle.j_definitions.specs.Array.{Array, Atom, byte, boxed}
use Rattle.j_definitions.specs.Cells.{in_order}
use Rattle.j_definitions.specs.declared.Fault.{Fault}
use Rattle.j_definitions.specs.declared.Fault.TheVariants.{Domain}
use Rattle.j_noun.specs.declared.refusal.Refusal.{Refusal}
use Rattle.j_noun.specs.declared.refusal.Refusal.TheVariants.{Fault as RefusedFault, NoMemory}
use Rattle.j_noun.specs.Refused.{OrWanting, OrWantingAs}
use Rattle.j_reshaping.specs.Axes.{counted, axis_of, repeats, is_other, others, axes_last, counted_last, transpose_by}
use Rattle.j_reshaping.specs.Steps.{IsOrder}
use Rattle.j_reshaping.proofs.Reshapes.{range_append, some_there}
use Rattle.j_reshaping.proofs.Lasts.{last_order}

faulty_bytes : (n : ℕ) (bs : List ℕ) → 0 < length (map byte bs) → in_order (map (counted n) (map byte bs)) ≡ Err Domain
faulty_bytes n [] h = absurd (omega arith)
faulty_bytes n (b ∷ bs) h = refl

-- characters count no axes
pub bytes_count : (n : ℕ) (bs : List ℕ) (atoms : List Atom) (b : Bool) → map byte bs ≡ atoms → b ≡ nat_eq (length atoms) 0 → b ≡ false → in_order (map (counted n) atoms) ≡ Err Domain
bytes_count n bs atoms b is e h = ap (λ xs. in_order (map (counted n) xs)) (sym is) ∙ faulty_bytes n bs (omega (arith, some_there atoms b e h, ap length is))

faulty_boxes : (n : ℕ) (kids : List Array) → 0 < length (map boxed kids) → in_order (map (counted n) (map boxed kids)) ≡ Err Domain
faulty_boxes n [] h = absurd (omega arith)
faulty_boxes n (a ∷ kids) h = refl

-- boxes count no axes
pub boxes_count : (n : ℕ) (kids : List Array) (atoms : List Atom) (b : Bool) → map boxed kids ≡ atoms → b ≡ nat_eq (length atoms) 0 → b ≡ false → in_order (map (counted n) atoms) ≡ Err Domain
boxes_count n kids atoms b is e h = ap (λ xs. in_order (map (counted n) xs)) (sym is) ∙ faulty_boxes n kids (omega (arith, some_there atoms b e h, ap length is))

-- one more axis
pub same_more : (zs : List ℤ) (old new : List ℕ) (i a : ℕ) → i < length zs → get_or zs i (pos 0) ≡ pos a → map pos old ≡ take i zs → new ≡ old ++ a ∷ [] → map pos new ≡ take (i + 1) zs
same_more zs old new i a h is before more =
    ap (map pos) more ∙ map-append pos old (a ∷ []) ∙ ap (λ r. r ++ pos a ∷ []) before ∙ ap (λ (z : ℤ). take i zs ++ z ∷ []) (sym is) ∙ sym (take_more zs i (pos 0) h)

pub within_more : (n : ℕ) (old new : List ℕ) (a : ℕ) → a < n → All (λ b. b < n) old → new ≡ old ++ a ∷ [] → All (λ b. b < n) new
within_more n old new a h before more =
    subst (All (λ b. b < n)) (sym more) (All-append (λ b. b < n) old (a ∷ []) before (All-cons (λ b. b < n) a [] h (All-nil (λ b. b < n))))

kept_first : (b : Bool) (x : ℕ) (xs ys : List ℕ) → cond b (x ∷ (xs ++ ys)) (xs ++ ys) ≡ cond b (x ∷ xs) xs ++ ys
kept_first true x xs ys = refl
kept_first false x xs ys = refl

filter_append : (p : ℕ → Bool) (xs ys : List ℕ) → filter p (xs ++ ys) ≡ filter p xs ++ filter p ys
filter_append p [] ys = refl
filter_append p (x ∷ xs) ys = ap (λ r. cond (p x) (x ∷ r) r) (filter_append p xs ys) ∙ kept_first (p x) x (filter p xs) (filter p ys)

-- one more axis that isn't in the list
pub others_more : (axes old new : List ℕ) (a : ℕ) → old ≡ filter (is_other axes) (range_with_len 0 a) → new ≡ old ++ filter (is_other axes) (a ∷ []) → new ≡ filter (is_other axes) (range_with_len 0 (a + 1))
others_more axes old new a before more =
    let here : 0 + a ≡ a = omega arith in
    more ∙ ap (λ r. r ++ filter (is_other axes) (a ∷ [])) before ∙ sym (filter_append (is_other axes) (range_with_len 0 a) (a ∷ []))
    ∙ sym (ap (filter (is_other axes)) (range_append 0 a 1 ∙ ap (λ k. range_with_len 0 a ++ k ∷ []) here))

-- the order that is made
pub order_made : (n k : ℕ) (axes order : List ℕ) → n ≡ k → order ≡ others n axes ++ axes → All (λ a. a < k) axes → repeats (map pos axes) ≡ false → IsOrder k order
order_made n k axes order same is within once =
    subst (λ (os : List ℕ). IsOrder k os) (sym (is ∙ ap (λ m. others m axes ++ axes) same)) (last_order k axes within once)

-- the axes that were counted, put last
pub counted_made : (y : Array) (zs : List ℤ) (n : ℕ) (axes : List ℕ) (m : Result Array Refusal) → n ≡ length y.shape → repeats zs ≡ false → in_order (map (axis_of n) zs) ≡ Ok axes →
    OrWanting (axes_last (Ok axes) y) m → OrWanting (counted_last (Ok zs) y) m
counted_made y zs n axes m same once is h =
    let all : counted_last (Ok zs) y ≡ axes_last (Ok axes) y =
    ap (λ (b : Bool). let r : Result Array Fault = cond b (Err Domain) (axes_last (in_order (map (axis_of (length y.shape)) zs)) y) in r) once
    ∙ ap (λ k. axes_last (in_order (map (axis_of k) zs)) y) (sym same) ∙ ap (λ (r : Result (List ℕ) Fault). axes_last r y) is in
    subst (λ (r : Result Array Fault). OrWanting r m) (sym all) h

-- a number that counts no axis
pub counted_refused : {B : Type 0} (f : B → List ℕ) (y : Array) (zs : List ℤ) (n : ℕ) (refusal : Refusal) → n ≡ length y.shape → repeats zs ≡ false →
    OrWantingAs f (in_order (map (axis_of n) zs)) (Err refusal) → OrWanting (counted_last (Ok zs) y) (Err refusal)
counted_refused f y zs n (RefusedFault e) same once h =
    ap (λ (b : Bool). let r : Result Array Fault = cond b (Err Domain) (axes_last (in_order (map (axis_of (length y.shape)) zs)) y) in r) once
    ∙ ap (λ k. axes_last (in_order (map (axis_of k) zs)) y) (sym same) ∙ ap (λ (r : Result (List ℕ) Fault). axes_last r y) h
counted_refused f y zs n NoMemory same once h = tt

pub by_made : (x y : Array) (zs : List ℤ) (n : ℕ) (m : Result Array Refusal) → n ≡ length y.shape → in_order (map (counted n) x.atoms) ≡ Ok zs → OrWanting (counted_last (Ok zs) y) m → OrWanting (transpose_by x y) m
by_made x y zs n m same is h =
    let all : transpose_by x y ≡ counted_last (Ok zs) y =
    ap (λ k. counted_last (in_order (map (counted k) x.atoms)) y) (sym same) ∙ ap (λ (r : Result (List ℤ) Fault). counted_last r y) is in
    subst (λ (r : Result Array Fault). OrWanting r m) (sym all) h

pub by_refused : {B : Type 0} (f : B → List ℤ) (x y : Array) (n : ℕ) (refusal : Refusal) → n ≡ length y.shape → OrWantingAs f (in_order (map (counted n) x.atoms)) (Err refusal) → OrWanting (transpose_by x y) (Err refusal)
by_refused f x y n (RefusedFault e) same h =
    ap (λ k. counted_last (in_order (map (counted k) x.atoms)) y) (sym same) ∙ ap (λ (r : Result (List ℤ) Fault). counted_last r y) h
by_refused f x y n NoMemory same h = tt
