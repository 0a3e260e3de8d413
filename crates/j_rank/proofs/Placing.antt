-- Where padding puts each atom.
use Rattle.std.proofs.Common.{◌≡◌, ◌<◌, ◌≤◌, ◌+◌, ◌-◌, ◌*◌, ℕ, Bool, true, false, ◌&&◌, nat_lt, cond, List, [], ◌∷◌, ◌++◌, length, drop, replicate, get_or, arith, refl, sym, ap, ◌∙◌, inl, inr}
use Prim.Native.Nat.{zero, suc}
use Rattle.std.specs.List.{flat_map, range_with_len}
use Rattle.std.proofs.lemmas.Bool.{ltb-true, lt-ltb, le-ltb, cases_lt}
use Rattle.std.proofs.lemmas.List.{get_or_append_left, get_or-append_right, get_or-append-add, get_or-take, get_or-drop}
use Rattle.std.proofs.Math.Nat.{mul-le-mul_left, mul_comm}
use Rattle.j_definitions.specs.Array.{Atom, product}
use Rattle.j_definitions.specs.Items.{part}
use Rattle.j_rank.specs.Assembly.{padded}
use Rattle.j_rank.specs.Places.{IsUnder, is_inside, place, atom_in}
use Rattle.j_definitions.proofs.Limits.{true_left, true_right}
use Rattle.j_rank.proofs.Paddings.{part_many, pieces_many, length-padded}

-- row i of rows of one length
row_within : (i m size q : ℕ) → i < m → q < size → i * size + q < m * size
row_within i m size q h g =
    let more : i + 1 ≤ m = omega arith in
    omega (arith, mul-le-mul_left size more, mul_comm size (i + 1), mul_comm size m)

place_within : (s is : List ℕ) → is_inside s is ≡ true → place s is < product s
place_within [] [] h = omega arith
place_within [] (i ∷ is) h = cc
place_within (n ∷ s) [] h = cc
place_within (n ∷ s) (i ∷ is) h =
    row_within i n (product s) (place s is) (ltb-true i n (true_left (nat_lt i n) (is_inside s is) h)) (place_within s is (true_right (nat_lt i n) (is_inside s is) h))

-- an element of a piece, where all have one length
piece_at : {X : Type 0} (f : ℕ → List X) (size a n i q : ℕ) (d : X) → ((k : ℕ) → k < a + n → length (f k) ≡ size) → i < n → q < size →
    get_or (flat_map f (range_with_len a n)) (i * size + q) d ≡ get_or (f (a + i)) q d
piece_at f size a zero i q d h g l = absurd (omega arith)
piece_at f size a (suc n) zero q d h g l =
    let first : 0 * size + q ≡ q = omega arith in
    let here : a ≡ a + 0 = omega arith in
    ap (λ j. get_or (f a ++ flat_map f (range_with_len (a + 1) n)) j d) first
    ∙ get_or_append_left (f a) (flat_map f (range_with_len (a + 1) n)) d q (omega (arith, h a (omega arith))) ∙ ap (λ k. get_or (f k) q d) here
piece_at f size a (suc n) (suc i) q d h g l =
    let past : suc i * size + q ≡ length (f a) + (i * size + q) = omega (arith, h a (omega arith)) in
    let next : (a + 1) + i ≡ a + suc i = omega arith in
    ap (λ j. get_or (f a ++ flat_map f (range_with_len (a + 1) n)) j d) past
    ∙ get_or-append-add (f a) (flat_map f (range_with_len (a + 1) n)) (i * size + q) d
    ∙ piece_at f size (a + 1) n i q d (λ k p. h k (omega arith)) (omega arith) l ∙ ap (λ k. get_or (f k) q d) next

fill_at : (n j : ℕ) (z : Atom) → get_or (replicate n z) j z ≡ z
fill_at zero j z = refl
fill_at (suc n) zero z = refl
fill_at (suc n) (suc j) z = fill_at n j z

abbrev chosen : Bool → Atom → Atom → Atom
chosen b x z = cond b x z

-- an atom of a part
part_at : (z : Atom) (t is : List ℕ) (xs : List Atom) (i : ℕ) (b : Bool) → is_inside t is ≡ b →
    chosen b (get_or (part (product t) xs i) (place t is) z) z ≡ chosen b (get_or xs (i * product t + place t is) z) z
part_at z t is xs i true e =
    get_or-take (product t) (drop (i * product t) xs) (place t is) z (place_within t is e) ∙ get_or-drop (i * product t) xs (place t is) z
part_at z t is xs i false e = refl

both_tests : (a b : Bool) (x z : Atom) → a ≡ true → chosen (a && b) x z ≡ chosen b x z
both_tests a b x z e = ap (λ c. chosen (c && b) x z) e

-- each atom stands at its indices, and fills stand at all others
pub padded_at : (z : Atom) (t s is : List ℕ) (xs : List Atom) → IsUnder t s → length xs ≡ product t → is_inside s is ≡ true → atom_in z s (padded z t s xs) is ≡ atom_in z t xs is
padded_at z [] [] is xs u e h = refl
padded_at z [] (n ∷ s) is xs u e h = absurd u
padded_at z (m ∷ t) [] is xs u e h = absurd u
padded_at z (m ∷ t) (n ∷ s) [] xs u e h = cc
padded_at z (m ∷ t) (n ∷ s) (i ∷ is) xs u e h =
    let piece : ℕ → List Atom = λ k. padded z t s (part (product t) xs k) in
    let items : List Atom = flat_map piece (range_with_len 0 m) in
    let fills : List Atom = replicate ((n - m) * product s) z in
    let inner : is_inside s is ≡ true = true_right (nat_lt i n) (is_inside s is) h in
    let below = place_within s is inner in
    let sizes : (k : ℕ) → k < 0 + m → length (piece k) ≡ product s = λ k g. length-padded z t s (part (product t) xs k) u.1 (part_many xs m (product t) k e (omega arith)) in
    let many = pieces_many piece (product s) 0 m sizes in
    ap (λ b. chosen b (get_or (items ++ fills) (i * product s + place s is) z) z) h ∙ elim (cases_lt i m) [
      | inl less ↦
          let within = row_within i m (product s) (place s is) less below in
          let here : get_or (piece i) (place s is) z ≡ chosen (is_inside t is) (get_or (part (product t) xs i) (place t is) z) z =
          sym (ap (λ b. chosen b (get_or (piece i) (place s is) z) z) inner) ∙ padded_at z t s is (part (product t) xs i) u.1 (part_many xs m (product t) i e less) inner in
          let at : 0 + i ≡ i = omega arith in
          get_or_append_left items fills z (i * product s + place s is) (omega arith) ∙ piece_at piece (product s) 0 m i (place s is) z sizes less below
          ∙ ap (λ k. get_or (piece k) (place s is) z) at ∙ here ∙ part_at z t is xs i (is_inside t is) refl
          ∙ sym (both_tests (nat_lt i m) (is_inside t is) (get_or xs (i * product t + place t is) z) z (lt-ltb i m less))
      | inr more ↦
          let past : m * product s ≤ i * product s + place s is = omega (arith, mul-le-mul_left (product s) more, mul_comm (product s) m, mul_comm (product s) i) in
          get_or-append_right items fills (m * product s) (i * product s + place s is) z many past ∙ fill_at ((n - m) * product s) (i * product s + place s is - m * product s) z
          ∙ sym (ap (λ b. chosen (b && is_inside t is) (get_or xs (i * product t + place t is) z) z) (le-ltb i m more))
    ]
