-- Names are read as they are put together.
use Rattle.std.proofs.Common.{◌≡◌, ℕ, suc, ◌+◌, ◌-◌, ◌<◌, ◌==◌, ◌||◌, ◌&&◌, not, Bool, true, false, cond, nat_lt, List, [], ◌∷◌, ◌++◌, length, take, drop, Some, None, refl, sym, ap, ◌∙◌, length-append, arith}
use Rattle.std.specs.List.{list_any}
use Rattle.std.proofs.lemmas.Bool.{and_parts, and_from, eqb-true, lt-ltb}
use Rattle.std.proofs.Math.Seq.{take-append_seam, drop-append-add}
use Rattle.j_words.specs.Names.{begins_letter, double_at, low_here, last_low, ends_low, is_simple, has_locale, is_direct, is_object}

cond_suc : (t : Bool) (n m : ℕ) → cond t 0 (suc n) ≡ suc m → (t ≡ false) × (n ≡ m)
cond_suc true n m h = absurd (omega arith)
cond_suc false n m h = (refl, omega arith)

not_parts : (b : Bool) → not b ≡ true → b ≡ false
not_parts true h = sym h
not_parts false h = refl

or_parts : (a b : Bool) → (a || b) ≡ false → (a ≡ false) × (b ≡ false)
or_parts true b h = absurd (cc)
or_parts false b h = (refl, h)

-- an object locative
double_then : (base rest : List ℕ) → double_at base ≡ length base → ends_low base ≡ false → double_at (base ++ 95 ∷ 95 ∷ rest) ≡ length base
double_then [] rest d e = refl
double_then (b ∷ []) rest d e = ap (λ t. cond (t && true) 0 1) e
double_then (b ∷ c ∷ bs) rest d e =
    let p = cond_suc ((b == 95) && (c == 95)) (double_at (c ∷ bs)) (length (c ∷ bs)) d in
    ap (λ t. cond t 0 (suc (double_at (c ∷ bs ++ 95 ∷ 95 ∷ rest)))) p.0 ∙ ap suc (double_then (c ∷ bs) rest p.1 e)

pub object_read : (base object : List ℕ) → is_simple base ≡ true → begins_letter object ≡ true → is_simple object ≡ true → is_object (base ++ 95 ∷ 95 ∷ object) ≡ true
object_read base object s l o =
    let name = base ++ 95 ∷ 95 ∷ object in
    let p = and_parts (double_at base == length base) (not (ends_low base)) s in
    let at : double_at name ≡ length base = double_then base object (eqb-true (double_at base) (length base) p.0) (not_parts (ends_low base) p.1) in
    let long : length base < length name = omega (arith, length-append base (95 ∷ 95 ∷ object)) in
    let back : drop (length base + 2) name ≡ object = drop-append-add base (95 ∷ 95 ∷ object) 2 in
    ap (λ n. nat_lt n (length name) && (is_simple (take n name) && (begins_letter (drop (n + 2) name) && is_simple (drop (n + 2) name)))) at
    ∙ and_from _ _ (lt-ltb (length base) (length name) long) (and_from _ _ (ap is_simple (take-append_seam base (95 ∷ 95 ∷ object)) ∙ s) (and_from _ _ (ap begins_letter back ∙ l) (ap is_simple back ∙ o)))

-- a direct locative
ends_then : (bs : List ℕ) → ends_low (bs ++ 95 ∷ []) ≡ true
ends_then [] = refl
ends_then (b ∷ []) = refl
ends_then (b ∷ c ∷ bs) = ends_then (c ∷ bs)

low_free : (place : List ℕ) → list_any (λ b. b == 95) place ≡ false → last_low place ≡ None
low_free [] h = refl
low_free (b ∷ bs) h =
    let p = or_parts (b == 95) (list_any (λ b. b == 95) bs) h in
    ap (low_here (b == 95)) (low_free bs p.1) ∙ ap (λ t. low_here t None) p.0

last_then : (base place : List ℕ) → last_low place ≡ None → last_low (base ++ 95 ∷ place) ≡ Some (length base)
last_then [] place h = ap (low_here true) h
last_then (b ∷ bs) place h = ap (low_here (b == 95)) (last_then bs place h) ∙ ap Some (omega arith)

pub direct_read : (base place : List ℕ) → is_simple base ≡ true → 0 < length place → list_any (λ b. b == 95) place ≡ false → is_direct ((base ++ 95 ∷ place) ++ 95 ∷ []) ≡ true
direct_read base place s l none =
    let front = base ++ 95 ∷ place in
    let short : length (front ++ 95 ∷ []) - 1 ≡ length front = omega (arith, length-append front (95 ∷ [])) in
    let first : take (length (front ++ 95 ∷ []) - 1) (front ++ 95 ∷ []) ≡ front = ap (λ n. take n (front ++ 95 ∷ [])) short ∙ take-append_seam front (95 ∷ []) in
    let long : length base + 1 < length front = omega (arith, length-append base (95 ∷ place)) in
    and_from _ _ (ends_then front) (ap (λ f. has_locale f (last_low f)) first ∙ ap (has_locale front) (last_then base place (low_free place none)) ∙ and_from _ _ (ap is_simple (take-append_seam base (95 ∷ place)) ∙ s) (lt-ltb (length base + 1) (length front) long))
