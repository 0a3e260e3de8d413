-- What a number takes along the first axis, and what it leaves.
use Rattle.std.proofs.Common.{◌≡◌, ◌≤◌, ◌+◌, ◌-◌, ◌*◌, ℕ, ℤ, pos, max, min, Bool, true, nat_le, cond, List, [], ◌∷◌, ◌++◌, length, map, take, drop, replicate, arith, refl, ap, ◌∙◌, Option, Some, None, Result, Ok, Err}
use Prim.Native.Nat.{suc}
use Rattle.std.specs.List.{flat_map, range_with_len}
use Rattle.std.proofs.lemmas.Bool.{le-leb}
use Rattle.std.proofs.lemmas.List.{append-nil, length-drop, take_all}
use Rattle.std.proofs.lemmas.List.FromFn.{length-map-range_with_len}
use Rattle.j_definitions.specs.Array.{Array, Atom, product, fill_atom}
use Rattle.j_definitions.specs.Limits.{limited}
use Rattle.j_definitions.specs.declared.Kind.{Kind}
use Rattle.j_definitions.specs.declared.Fault.{Fault}
use Rattle.j_definitions.specs.declared.Fault.TheVariants.{Length}
use Rattle.j_places.specs.declared.axis.Keeping.{Keeping}
use Rattle.j_places.specs.declared.axis.Keeping.TheVariants.{Taken, Dropped}
use Rattle.j_places.specs.AxisPlaces.{kept, at_place, kept_by, numbers, take_axes, drop_axes}
use Rattle.j_places.proofs.AxisLaws.{taken_first, dropped_first}
use Rattle.j_places.proofs.PartLaws.{parts_joined}

abbrev noun : Kind → ℕ → List ℕ → List Atom → Array
noun j n s xs = record { kind = j; shape = n ∷ s; atoms = xs }

-- a run of items that are there
items_there : {X : Type 0} (item : ℕ → List X) (fills : List X) (ks : List ℕ) → flat_map (at_place item fills) (map Some ks) ≡ flat_map item ks
items_there item fills [] = refl
items_there item fills (k ∷ ks) = ap (λ r. item k ++ r) (items_there item fills ks)

taken_within : (k n : ℕ) → k ≤ n → kept Taken (pos k) n ≡ map Some (range_with_len 0 k)
taken_within k n h =
    let all : min k n ≡ k = omega arith in
    let none : k - n ≡ 0 = omega arith in
    let it : List (Option ℕ) = map Some (range_with_len 0 k) in
    taken_first k n ∙ ap (λ m. map Some (range_with_len 0 m) ++ replicate (k - n) None) all ∙ ap (λ m. it ++ replicate m None) none ∙ append-nil it

dropped_within : (k n : ℕ) → k ≤ n → kept Dropped (pos k) n ≡ map Some (range_with_len k (n - k))
dropped_within k n h = let from : n - (n - k) ≡ k = omega arith in dropped_first k n ∙ ap (λ a. map Some (range_with_len a (n - k))) from

many_run : (a m : ℕ) → length (map Some (range_with_len a m)) ≡ m
many_run a m = length-map-range_with_len Some a m

abbrev kept_items : Keeping → Kind → ℕ → List ℕ → List Atom → ℕ → Array
kept_items way j n s xs k =
    noun j (length (kept way (pos k) n)) s (flat_map (at_place (λ i. take (product s) (drop (i * product s) xs)) (replicate (product s) (fill_atom j))) (kept way (pos k) n))

-- the items of a run, where places of the first axis are kept
kept_run : (way : Keeping) (j : Kind) (n : ℕ) (s : List ℕ) (xs : List Atom) (k a m : ℕ) → kept way (pos k) n ≡ map Some (range_with_len a m) →
    kept_items way j n s xs k ≡ noun j m s (take (m * product s) (drop (a * product s) xs))
kept_run way j n s xs k a m e =
    let fills : List Atom = replicate (product s) (fill_atom j) in
    let part : ℕ → List Atom = λ i. take (product s) (drop (i * product s) xs) in
    ap (λ ps. noun j (length ps) s (flat_map (at_place part fills) ps)) e ∙ ap (λ c. noun j c s (flat_map (at_place part fills) (map Some (range_with_len a m)))) (many_run a m)
    ∙ ap (noun j m s) (items_there part fills (range_with_len a m) ∙ parts_joined (product s) xs a m)

distribute : (k m p : ℕ) → (k + m) * p ≡ k * p + m * p
distribute k m p = omega arith

pub split_product : (n k p : ℕ) → k ≤ n → n * p ≡ k * p + (n - k) * p
split_product n k p h = let e : n ≡ k + (n - k) = omega arith in ap (λ m. m * p) e ∙ distribute k (n - k) p

one_axis : (s : List ℕ) → nat_le 1 (max (suc (length s)) 1) ≡ true
one_axis s = le-leb 1 (max (suc (length s)) 1) (omega arith)

abbrev by_test : Bool → Array → Result Array Fault
by_test b a = cond b (limited a) (Err Length)

taken_is : (j : Kind) (n : ℕ) (s : List ℕ) (xs : List Atom) (k : ℕ) → k ≤ n → kept_by Taken (Ok (pos k ∷ [])) (noun j n s xs) ≡ limited (noun j k s (take (k * product s) xs))
taken_is j n s xs k h =
    let none : 0 * product s ≡ 0 = omega arith in
    ap (λ b. by_test b (kept_items Taken j n s xs k)) (one_axis s) ∙ ap limited (kept_run Taken j n s xs k 0 k (taken_within k n h) ∙ ap (λ i. noun j k s (take (k * product s) (drop i xs))) none)

dropped_is : (j : Kind) (n : ℕ) (s : List ℕ) (xs : List Atom) (k : ℕ) → k ≤ n → length xs ≡ n * product s → kept_by Dropped (Ok (pos k ∷ [])) (noun j n s xs) ≡ limited (noun j (n - k) s (drop (k * product s) xs))
dropped_is j n s xs k h e =
    let parts : n * product s ≡ k * product s + (n - k) * product s = split_product n k (product s) h in
    let rest : List Atom = drop (k * product s) xs in
    ap (λ b. by_test b (kept_items Dropped j n s xs k)) (one_axis s)
    ∙ ap limited (kept_run Dropped j n s xs k k (n - k) (dropped_within k n h) ∙ ap (noun j (n - k) s) (take_all ((n - k) * product s) rest (omega (arith, e, parts, length-drop (k * product s) xs))))

-- the same of the verbs, where the left argument is that number
pub take_is : (x : Array) (j : Kind) (n : ℕ) (s : List ℕ) (xs : List Atom) (k : ℕ) → numbers x ≡ Ok (pos k ∷ []) → k ≤ n →
    take_axes x (record { kind = j; shape = n ∷ s; atoms = xs }) ≡ limited (record { kind = j; shape = k ∷ s; atoms = take (k * product s) xs })
take_is x j n s xs k e h = ap (λ (q : Result (List ℤ) Fault). kept_by Taken q (noun j n s xs)) e ∙ taken_is j n s xs k h

pub drop_is : (x : Array) (j : Kind) (n : ℕ) (s : List ℕ) (xs : List Atom) (k : ℕ) → numbers x ≡ Ok (pos k ∷ []) → k ≤ n → length xs ≡ n * product s →
    drop_axes x (record { kind = j; shape = n ∷ s; atoms = xs }) ≡ limited (record { kind = j; shape = (n - k) ∷ s; atoms = drop (k * product s) xs })
drop_is x j n s xs k e h many = ap (λ (q : Result (List ℤ) Fault). kept_by Dropped q (noun j n s xs)) e ∙ dropped_is j n s xs k h many
