-- Nouns of items that are made.
use Rattle.std.proofs.Common.{◌≡◌, ◌<◌, ◌≤◌, ◌+◌, ◌-◌, ◌*◌, ℕ, Bool, true, false, nat_eq, cond, List, [], ◌∷◌, length, take, drop, reverse, replicate, arith, refl, sym, ap, ◌∙◌, subst, Result, Err}
use Prim.Native.Nat.{zero, suc}
use Rattle.std.specs.List.{All, flat_map, range_with_len}
use Rattle.std.proofs.lemmas.List.{get_or-reverse, length-take, length-drop, length-reverse, length-append, length-replicate}
use Rattle.std.proofs.lemmas.List.FromFn.{length-range_with_len, get_or-range_with_len}
use Rattle.std.proofs.lemmas.List.Elements.{All-head, All-tail}
use Rattle.std.proofs.Math.Nat.{mul-le-mul_left, mul_comm}
use Rattle.j_definitions.specs.Array.{Array, Atom, tally, product, fill_atom, IsNoun}
use Rattle.j_definitions.specs.Items.{item, item_size}
use Rattle.j_definitions.specs.Limits.{limited}
use Rattle.j_definitions.specs.declared.Kind.{Kind}
use Rattle.j_definitions.specs.declared.Fault.TheVariants.{Limit}
use Rattle.j_definitions.proofs.Limits.{many_beyond}
use Rattle.j_noun.specs.declared.noun.Atoms.{Atoms}
use Rattle.j_noun.specs.declared.refusal.Refusal.{Refusal}
use Rattle.j_noun.specs.Held.{AreAtoms, array_kept, atoms_kept, kind_kept}
use Rattle.j_noun.specs.Refused.{OrWanting}
use Rattle.j_places.specs.ItemPlaces.{parts_at, items_at, item_or_fills, places, beheaded, curtailed, reversed}
use Rattle.j_places.proofs.ItemLaws.{items_many}
use Rattle.j_places.proofs.PartLaws.{parts_within, run_of_items}

-- a noun that was made of these atoms is the one that is said
pub made_is : (t : Atoms) (shape : List ℕ) (k : Kind) (xs : List Atom) (a : Array) (r : Result Array Refusal) → AreAtoms t k xs → k ≡ a.kind → shape ≡ a.shape → xs ≡ a.atoms →
    OrWanting (limited (array_kept shape t)) r → OrWanting (limited a) r
made_is t shape k xs a r are kind axes atoms h =
    let kinds : kind_kept t ≡ a.kind = are.kind ∙ kind in
    let all : atoms_kept t ≡ a.atoms = are.atoms ∙ atoms in
    let same : array_kept shape t ≡ a =
    ap (λ j. let it : Array = record { kind = j; shape = shape; atoms = atoms_kept t } in it) kinds
    ∙ ap (λ s. let it : Array = record { kind = a.kind; shape = s; atoms = atoms_kept t } in it) axes
    ∙ ap (λ ys. let it : Array = record { kind = a.kind; shape = a.shape; atoms = ys } in it) all in
    subst (λ (w : Array). OrWanting (limited w) r) same h

-- an item, or an item of fills, has as many atoms as an item
either_many : {X : Type 0} (b : Bool) (xs ys : List X) (n : ℕ) → (b ≡ true → length xs ≡ n) → (b ≡ false → length ys ≡ n) → length (cond b xs ys) ≡ n
either_many true xs ys n f g = f refl
either_many false xs ys n f g = g refl

none_or_some : (n : ℕ) → nat_eq n 0 ≡ false → 0 < n
none_or_some zero h = cc
none_or_some (suc n) h = omega arith

pub item_fits : (y : Array) (k size len : ℕ) → IsNoun y → k < tally y.shape → size ≡ item_size y.shape → len ≡ length y.atoms → (k + 1) * size ≤ len
item_fits y k size len noun h e is =
    let more : k + 1 ≤ tally y.shape = omega arith in
    omega (arith, is, noun.as_many, items_many y.shape, ap (λ n. (k + 1) * n) e, mul_comm (k + 1) (item_size y.shape), mul_comm (tally y.shape) (item_size y.shape), mul-le-mul_left (item_size y.shape) more)

pub item_many : (y : Array) (k : ℕ) → IsNoun y → (0 < tally y.shape → k < tally y.shape) → length (item_or_fills k y).atoms ≡ item_size y.shape
item_many y k noun h =
    either_many (nat_eq (tally y.shape) 0) (replicate (item_size y.shape) (fill_atom y.kind)) (item y k) (item_size y.shape) (λ _. length-replicate (item_size y.shape) (fill_atom y.kind))
    (λ e. let fits : (k + 1) * item_size y.shape ≤ length y.atoms = item_fits y k (item_size y.shape) (length y.atoms) noun (h (none_or_some (tally y.shape) e)) refl refl in
    omega (arith, length-take (item_size y.shape) (drop (k * item_size y.shape) y.atoms), length-drop (k * item_size y.shape) y.atoms))

pub item_beyond : (y : Array) (k : ℕ) (own : List ℕ) → IsNoun y → (0 < tally y.shape → k < tally y.shape) → own ≡ drop 1 y.shape → 4194304 < product own → limited (item_or_fills k y) ≡ Err Limit
item_beyond y k own noun h e many = many_beyond (item_or_fills k y) (omega (arith, item_many y k noun h, ap product e))

-- a run of items
times_same : (count t size own : ℕ) → count ≤ t → (0 < t → size ≡ own) → count * size ≡ count * own
times_same zero t size own h e = omega arith
times_same (suc n) t size own h e = ap (λ k. suc n * k) (e (omega arith))

pub run_many : (y : Array) (xs : List Atom) (shape own : List ℕ) (first count size : ℕ) → first + count ≤ tally y.shape → (0 < tally y.shape → size ≡ item_size y.shape) → tally y.shape * size ≡ length y.atoms →
    xs ≡ y.atoms → shape ≡ count ∷ own → own ≡ drop 1 y.shape → length (take (count * size) (drop (first * size) xs)) ≡ product shape
run_many y xs shape own first count size h e all is s o =
    omega (
      arith,
      length-take (count * size) (drop (first * size) xs),
      length-drop (first * size) xs,
      ap length is,
      parts_within first count (tally y.shape) size (length y.atoms) h all,
      times_same count (tally y.shape) size (item_size y.shape) (omega arith) e,
      ap product s,
      ap (λ t. count * product t) o,
    )

pub items_made : (t : Atoms) (shape own : List ℕ) (k : Kind) (y : Array) (xs : List Atom) (first count size : ℕ) (r : Result Array Refusal) → AreAtoms t k (take (count * size) (drop (first * size) xs)) → k ≡ y.kind → xs ≡ y.atoms →
    first + count ≤ tally y.shape → (0 < tally y.shape → size ≡ item_size y.shape) → shape ≡ count ∷ own → own ≡ drop 1 y.shape →
    OrWanting (limited (array_kept shape t)) r → OrWanting (limited (items_at (range_with_len first count) y)) r
items_made t shape own k y xs first count size r are kind is h e s o =
    made_is t shape k (take (count * size) (drop (first * size) xs)) (items_at (range_with_len first count) y) r are kind
    (s ∙ ap (λ ns. count ∷ ns) o ∙ ap (λ n. n ∷ drop 1 y.shape) (sym (length-range_with_len first count)))
    (ap (λ ys. take (count * size) (drop (first * size) ys)) is ∙ run_of_items y first count size h e)

-- the places of all items but the first, and but the last
first_out : (n : ℕ) → range_with_len (n - (n - 1)) (n - 1) ≡ drop 1 (range_with_len 0 n)
first_out zero = refl
first_out (suc n) =
    let less : suc n - 1 ≡ n = omega arith in
    let one : suc n - (suc n - 1) ≡ 1 = omega arith in
    ap (λ k. range_with_len k (suc n - 1)) one ∙ ap (range_with_len 1) less

run_start : (a k n : ℕ) → k ≤ n → range_with_len a k ≡ take k (range_with_len a n)
run_start a zero n h = refl
run_start a (suc k) zero h = absurd (omega arith)
run_start a (suc k) (suc n) h = ap (λ r. a ∷ r) (run_start (a + 1) k n (omega arith))

pub beheaded_is : (y : Array) (first left : ℕ) (r : Result Array Refusal) → left ≡ tally y.shape - 1 → first ≡ tally y.shape - left → OrWanting (limited (items_at (range_with_len first left) y)) r → OrWanting (beheaded y) r
beheaded_is y first left r e f h =
    let same : range_with_len first left ≡ drop 1 (places y) = ap (λ k. range_with_len k left) f ∙ ap (λ k. range_with_len (tally y.shape - k) k) e ∙ first_out (tally y.shape) in
    subst (λ (ks : List ℕ). OrWanting (limited (items_at ks y)) r) same h

pub curtailed_is : (y : Array) (left : ℕ) (r : Result Array Refusal) → left ≡ tally y.shape - 1 → OrWanting (limited (items_at (range_with_len 0 left) y)) r → OrWanting (curtailed y) r
curtailed_is y left r e h =
    let same : range_with_len 0 left ≡ take (tally y.shape - 1) (places y) = ap (range_with_len 0) e ∙ run_start 0 (tally y.shape - 1) (tally y.shape) (omega arith) in
    subst (λ (ks : List ℕ). OrWanting (limited (items_at ks y)) r) same h

-- items in reverse
below : (n : ℕ) → All (λ k. k < n) (reverse (range_with_len 0 n))
below n k d h =
    let many : length (range_with_len 0 n) ≡ n = length-range_with_len 0 n in
    let inside : k < length (range_with_len 0 n) = omega (arith, length-reverse (range_with_len 0 n)) in
    omega (arith, get_or-reverse (range_with_len 0 n) k d inside, get_or-range_with_len 0 n (length (range_with_len 0 n) - 1 - k) d (omega arith))

parts_many : {X : Type 0} (size n : ℕ) (xs : List X) (ks : List ℕ) → n * size ≡ length xs → All (λ k. k < n) ks → length (parts_at size xs ks) ≡ length ks * size
parts_many size n xs [] e h = omega arith
parts_many size n xs (k ∷ ks) e h =
    let inside : k < n = All-head (λ j. j < n) k ks h in
    let more : k + 1 ≤ n = omega arith in
    omega (
      arith,
      length-append (take size (drop (k * size) xs)) (parts_at size xs ks),
      length-take size (drop (k * size) xs),
      length-drop (k * size) xs,
      e,
      mul_comm size (k + 1),
      mul_comm size n,
      mul-le-mul_left size more,
      parts_many size n xs ks e (All-tail (λ j. j < n) k ks h),
    )

pub back_many : (n : ℕ) → length (reverse (range_with_len 0 n)) ≡ n
back_many n = length-reverse (range_with_len 0 n) ∙ length-range_with_len 0 n

pub reversed_many : (y : Array) (xs : List Atom) (shape own : List ℕ) (count size : ℕ) → count ≡ tally y.shape → (0 < tally y.shape → size ≡ item_size y.shape) → tally y.shape * size ≡ length y.atoms →
    xs ≡ y.atoms → shape ≡ count ∷ own → own ≡ drop 1 y.shape → length (parts_at size xs (reverse (range_with_len 0 count))) ≡ product shape
reversed_many y xs shape own count size c e all is s o =
    omega (
      arith,
      parts_many size count xs (reverse (range_with_len 0 count)) (ap (λ n. n * size) c ∙ all ∙ sym (ap length is)) (below count),
      ap (λ n. n * size) (back_many count),
      times_same count (tally y.shape) size (item_size y.shape) (omega arith) e,
      ap product s,
      ap (λ t. count * product t) o,
    )

same_parts : (y : Array) (count size : ℕ) → count ≤ tally y.shape → (0 < tally y.shape → size ≡ item_size y.shape) → parts_at size y.atoms (reverse (range_with_len 0 count)) ≡ flat_map (item y) (reverse (range_with_len 0 count))
same_parts y zero size h e = refl
same_parts y (suc n) size h e = ap (λ k. parts_at k y.atoms (reverse (range_with_len 0 (suc n)))) (e (omega arith))

pub reversed_made : (t : Atoms) (shape own : List ℕ) (k : Kind) (y : Array) (xs : List Atom) (count size : ℕ) (r : Result Array Refusal) → AreAtoms t k (parts_at size xs (reverse (range_with_len 0 count))) → k ≡ y.kind → xs ≡ y.atoms →
    count ≡ tally y.shape → (0 < tally y.shape → size ≡ item_size y.shape) → shape ≡ count ∷ own → own ≡ drop 1 y.shape →
    OrWanting (limited (array_kept shape t)) r → OrWanting (reversed y) r
reversed_made t shape own k y xs count size r are kind is c e s o =
    made_is t shape k (parts_at size xs (reverse (range_with_len 0 count))) (items_at (reverse (places y)) y) r are kind
    (s ∙ ap (λ ns. count ∷ ns) o ∙ ap (λ n. n ∷ drop 1 y.shape) (sym (ap (λ n. length (reverse (range_with_len 0 n))) (sym c) ∙ back_many count)))
    (ap (λ ys. parts_at size ys (reverse (range_with_len 0 count))) is ∙ same_parts y count size (omega arith) e ∙ ap (λ n. flat_map (item y) (reverse (range_with_len 0 n))) c)
