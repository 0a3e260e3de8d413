-- Lists of whole numbers, block by block.
use Rattle.std.proofs.Common.{◌≡◌, refl, sym, ◌∙◌, ap, ℕ, ℤ, ◌+◌, ◌-◌, ◌≤◌, ◌&&◌, ◌||◌, not, Bool, true, List, [], ◌∷◌, length, take, drop, length-drop, arith}
use Prim.Native.Nat.{zero, suc}
use Rattle.std.specs.Ordering.{int_eq}
use Rattle.std.specs.Cmp.Lexicographic.{pointwise}
use Rattle.std.specs.Cmp.{first_so, second_so}
use Rattle.std.proofs.lemmas.List.{drop-drop}

-- a first part that is equal may be left out
part_passed : {X : Type 0} (E : X → X → Bool) (n : ℕ) (xs ys : List X) → n ≤ length xs → n ≤ length ys →
    pointwise E (take n xs) (take n ys) ≡ true → pointwise E xs ys ≡ pointwise E (drop n xs) (drop n ys)
part_passed E zero xs ys h g e = refl
part_passed E (suc n) [] ys h g e = absurd (omega arith)
part_passed E (suc n) (x ∷ xs) [] h g e = absurd (omega arith)
part_passed E (suc n) (x ∷ xs) (y ∷ ys) h g e =
    let rest = part_passed E n xs ys (omega arith) (omega arith) (second_so (E x y) (pointwise E (take n xs) (take n ys)) e) in
    ap (λ b. b && pointwise E xs ys) (first_so (E x y) (pointwise E (take n xs) (take n ys)) e) ∙ rest

pub block_passed : (from to : ℕ) (xs ys : List ℤ) → from ≤ to → to ≤ length xs → to ≤ length ys →
    pointwise int_eq (take (to - from) (drop from xs)) (take (to - from) (drop from ys)) ≡ true →
    pointwise int_eq (drop from xs) (drop from ys) ≡ pointwise int_eq (drop to xs) (drop to ys)
block_passed from to xs ys b h g e =
    let passed = part_passed int_eq (to - from) (drop from xs) (drop from ys) (rw length-drop (omega arith)) (rw length-drop (omega arith)) e in
    let reached : from + (to - from) ≡ to = omega arith in
    passed ∙ rw (drop-drop (to - from) from xs, drop-drop (to - from) from ys, reached) refl

-- one pair more of four runs
passed_by : (found e f g h p q r s : Bool) →
    (not found && ((not e && p) && ((not f && q) && ((not g && r) && (not h && s))))) ≡ (not ((((found || e) || f) || g) || h) && (p && (q && (r && s))))
passed_by found e f g h p q r s = grind arith

pub pairs_passed : (found a b c d p q r s e f g h : Bool) → a ≡ (not e && p) → b ≡ (not f && q) → c ≡ (not g && r) → d ≡ (not h && s) →
    (not found && (a && (b && (c && d)))) ≡ (not ((((found || e) || f) || g) || h) && (p && (q && (r && s))))
pairs_passed found a b c d p q r s e f g h i j k l = rw (i, j, k, l) (passed_by found e f g h p q r s)

-- four that hold together
pub each_holds : (a b c d : Bool) → true ≡ (a && (b && (c && d))) → (a ≡ true) × (b ≡ true) × (c ≡ true) × (d ≡ true)
each_holds a b c d e =
    let rest = second_so a (b && (c && d)) (sym e) in
    let last = second_so b (c && d) rest in
    (first_so a (b && (c && d)) (sym e), first_so b (c && d) rest, first_so c d last, second_so c d last)
