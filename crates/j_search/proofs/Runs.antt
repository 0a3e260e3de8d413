-- Runs of buffers, and the parts of atoms that they make.
use Rattle.std.proofs.Common.{◌≡◌, ◌<◌, ◌≤◌, ◌+◌, ◌*◌, ℕ, ℤ, pos, Bool, false, ◌&&◌, ◌==◌, List, [], ◌∷◌, ◌++◌, length, map, drop, replicate, arith, refl, sym, ap, ◌∙◌, Result, Ok, Err, IfOk}
use Prim.Native.Nat.{zero, suc}
use Rattle.std.specs.List.{range_with_len}
use Rattle.std.specs.declared.alloc.Global.{Global}
use Rattle.std.specs.declared.vec.Vec.{Vec}
use Rattle.std.specs.Cmp.Lexicographic.{pointwise}
use Rattle.std.specs.Ordering.{int_eq}
use Rattle.std.proofs.lemmas.List.{length-take, length-drop, length-map}
use Rattle.std.proofs.lemmas.List.FromFn.{map-range_with_len_more}
use Rattle.std.proofs.lemmas.Bool.{ne_eqb}
use Rattle.std.proofs.Math.Nat.{mul-le-mul_left, mul_comm}
use Rattle.j_definitions.specs.Array.{Array, Atom, number, byte, boxed, atom_match, arrays_match}
use Rattle.j_definitions.specs.Items.{part}
use Rattle.j_definitions.proofs.Laws.{unlike_match}
use Rattle.j_noun.proofs.Matching.{wholes_wholes, bits_bits, bytes_bytes, boxes_boxes}
use Rattle.j_rank.proofs.Parts.{part_map}
use Rattle.j_search.specs.declared.seeking.Side.{Side}
use Rattle.j_search.specs.Matching.{places}
use Rattle.j_search.specs.Sought.{run, place_of, run_places, atom_places}
use Rattle.j_search.proofs.Picks.{none_place, place_same, map_places}

-- run j lies within the buffer
pub run_within : (j count size len : ℕ) → j < count → len ≡ count * size → (j + 1) * size ≤ len
run_within j count size len h e =
    let more : j + 1 ≤ count = omega arith in
    omega (arith, e, mul_comm size (j + 1), mul_comm size count, mul-le-mul_left size more)

pub length-run : {X : Type 0} (size : ℕ) (xs : List X) (j : ℕ) → (j + 1) * size ≤ length xs → length (run size xs j) ≡ size
length-run size xs j h = omega (arith, length-take size (drop (j * size) xs), length-drop (j * size) xs)

-- parts of atoms that are made alike match ds the runs do
lifted : {X : Type 0} (f : X → Atom) (E : X → X → Bool) → ((xs ys : List X) → pointwise atom_match (map f xs) (map f ys) ≡ pointwise E xs ys) →
    (size : ℕ) (xs ys : List X) (j k : ℕ) → pointwise E (run size xs j) (run size ys k) ≡ pointwise atom_match (part size (map f xs) j) (part size (map f ys) k)
lifted f E h size xs ys j k =
    let left : map f (run size xs j) ≡ part size (map f xs) j = part_map f xs (run size xs j) j size refl in
    let right : map f (run size ys k) ≡ part size (map f ys) k = part_map f ys (run size ys k) k size refl in
    sym (h (run size xs j) (run size ys k)) ∙ ap (λ cs. pointwise atom_match cs (map f (run size ys k))) left
    ∙ ap (λ bs. pointwise atom_match (part size (map f xs) j) bs) right

pub lifted_places : {X : Type 0} (f : X → Atom) (E : X → X → Bool) → ((xs ys : List X) → pointwise atom_match (map f xs) (map f ys) ≡ pointwise E xs ys) →
    (side : Side) (size items cells : ℕ) (xs ys : List X) (ds bs : List Atom) → map f xs ≡ ds → map f ys ≡ bs → run_places E side size items cells xs ys ≡ atom_places side size items cells ds bs
lifted_places f E h side size items cells xs ys ds bs ex ey =
    map_places (λ k. pos (place_of side (λ j. pointwise E (run size xs j) (run size ys k)) items)) (λ k. pos (place_of side (λ j. pointwise atom_match (part size (map f xs) j) (part size (map f ys) k)) items)) cells
    (λ k l. ap pos (place_same side (λ j. pointwise E (run size xs j) (run size ys k)) (λ j. pointwise atom_match (part size (map f xs) j) (part size (map f ys) k)) items (λ j m. lifted f E h size xs ys j k)))
    ∙ ap (λ cs. atom_places side size items cells cs (map f ys)) ex ∙ ap (λ cs. atom_places side size items cells ds cs) ey

-- what one function of runs gives, ds it is said of atoms
pub ok_places : {E : Type 0} (r : Result (Vec ℤ Global) E) {zs ws : List ℤ} → zs ≡ ws → IfOk r (λ v. v.items ≡ zs) → IfOk r (λ v. v.items ≡ ws)
ok_places (Ok v) e h = h ∙ e
ok_places (Err x) e h = tt

pub whole_places : {E : Type 0} (r : Result (Vec ℤ Global) E) (side : Side) (size items cells : ℕ) (xs ys : List ℤ) (ds bs : List Atom) → map number xs ≡ ds → map number ys ≡ bs →
    IfOk r (λ v. v.items ≡ run_places int_eq side size items cells xs ys) → IfOk r (λ v. v.items ≡ atom_places side size items cells ds bs)
whole_places r side size items cells xs ys ds bs ex ey h = ok_places r (lifted_places number int_eq wholes_wholes side size items cells xs ys ds bs ex ey) h

pub bit_places : {E : Type 0} (r : Result (Vec ℤ Global) E) (side : Side) (size items cells : ℕ) (xs ys : List ℕ) (ds bs : List Atom) → map (λ b. number (pos b)) xs ≡ ds → map (λ b. number (pos b)) ys ≡ bs →
    IfOk r (λ v. v.items ≡ run_places ◌==◌ side size items cells xs ys) → IfOk r (λ v. v.items ≡ atom_places side size items cells ds bs)
bit_places r side size items cells xs ys ds bs ex ey h = ok_places r (lifted_places (λ b. number (pos b)) ◌==◌ bits_bits side size items cells xs ys ds bs ex ey) h

pub byte_places : {E : Type 0} (r : Result (Vec ℤ Global) E) (side : Side) (size items cells : ℕ) (xs ys : List ℕ) (ds bs : List Atom) → map byte xs ≡ ds → map byte ys ≡ bs →
    IfOk r (λ v. v.items ≡ run_places ◌==◌ side size items cells xs ys) → IfOk r (λ v. v.items ≡ atom_places side size items cells ds bs)
byte_places r side size items cells xs ys ds bs ex ey h = ok_places r (lifted_places byte ◌==◌ bytes_bytes side size items cells xs ys ds bs ex ey) h

pub box_places : {E : Type 0} (r : Result (Vec ℤ Global) E) (side : Side) (size items cells : ℕ) (xs ys : List Array) (ds bs : List Atom) → map boxed xs ≡ ds → map boxed ys ≡ bs →
    IfOk r (λ v. v.items ≡ run_places arrays_match side size items cells xs ys) → IfOk r (λ v. v.items ≡ atom_places side size items cells ds bs)
box_places r side size items cells xs ys ds bs ex ey h = ok_places r (lifted_places boxed arrays_match boxes_boxes side size items cells xs ys ds bs ex ey) h

-- the same number for each cell
pub each_same : {X : Type 0} (z : X) (a n : ℕ) → replicate n z ≡ map (λ k. z) (range_with_len a n)
each_same z a zero = refl
each_same z a (suc n) = ap (λ zs. z ∷ zs) (each_same z (a + 1) n)

pub all_same : {X : Type 0} (z : X) (f : ℕ → X) (n : ℕ) → ((k : ℕ) → k < n → z ≡ f k) → replicate n z ≡ map f (places n)
all_same z f n h = each_same z 0 n ∙ map_places (λ k. z) f n h

-- atoms of kinds that never match
no_zero : (n : ℕ) → 0 < n → (n == 0) ≡ false
no_zero n h = ne_eqb n 0 (λ e. omega arith)

pub unlike_places : {X Y : Type 0} (f : X → Atom) (g : Y → Atom) → ((x : X) (y : Y) → atom_match (f x) (g y) ≡ false) →
    (side : Side) (size items cells : ℕ) (xs : List X) (ys : List Y) (ds bs : List Atom) → map f xs ≡ ds → map g ys ≡ bs → 0 < size → length ds ≡ items * size →
    replicate cells (pos items) ≡ atom_places side size items cells ds bs
unlike_places f g h side size items cells xs ys ds bs ex ey some many =
    let count : length xs ≡ items * size = sym (length-map xs f) ∙ ap length ex ∙ many in
    all_same (pos items) (λ k. pos (place_of side (λ j. pointwise atom_match (part size (map f xs) j) (part size (map g ys) k)) items)) cells
    (λ k l. ap pos (none_place side (λ j. pointwise atom_match (part size (map f xs) j) (part size (map g ys) k)) items
    (λ j m.
    let left : map f (run size xs j) ≡ part size (map f xs) j = part_map f xs (run size xs j) j size refl in
    let right : map g (run size ys k) ≡ part size (map g ys) k = part_map g ys (run size ys k) k size refl in
    let long : length (run size xs j) ≡ size = length-run size xs j (run_within j items size (length xs) m count) in
    ap (λ cs. pointwise atom_match cs (part size (map g ys) k)) (sym left) ∙ ap (λ cs. pointwise atom_match (map f (run size xs j)) cs) (sym right)
    ∙ unlike_match f g h (run size xs j) (run size ys k) ∙ ap (λ b. b && (length (run size ys k) == 0)) (ap (λ n. n == 0) long ∙ no_zero size some))))
    ∙ ap (λ cs. atom_places side size items cells cs (map g ys)) ex ∙ ap (λ cs. atom_places side size items cells ds cs) ey

-- the place of one cell more
pub place_more : {X : Type 0} (same : X → X → Bool) (side : Side) (size items k : ℕ) (xs ys cell : List X) (place : ℕ) (old new : List ℤ) → old ≡ run_places same side size items k xs ys →
    cell ≡ run size ys k → place ≡ place_of side (λ j. pointwise same (run size xs j) cell) items → new ≡ old ++ pos place ∷ [] → new ≡ run_places same side size items (k + 1) xs ys
place_more same side size items k xs ys cell place old new so_far is found pushed =
    let F : ℕ → ℤ = λ m. pos (place_of side (λ j. pointwise same (run size xs j) (run size ys m)) items) in
    pushed ∙ ap (λ zs. zs ++ pos place ∷ []) so_far
    ∙ ap (λ n. map F (places k) ++ pos n ∷ []) (found ∙ ap (λ r. place_of side (λ j. pointwise same (run size xs j) r) items) is)
    ∙ sym (map-range_with_len_more F 0 k k (omega arith))

pub mapped_many : {X : Type 0} (f : X → Atom) (xs : List X) (n : ℕ) → length xs ≡ n → length (map f xs) ≡ n
mapped_many f xs n e = length-map xs f ∙ e
