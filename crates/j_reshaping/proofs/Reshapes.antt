-- Items that are repeated.
use Rattle.std.proofs.Common.{◌≡◌, ◌<◌, ◌≤◌, ◌+◌, ◌*◌, ◌/◌, ◌%◌, ℕ, Bool, true, false, nat_eq, Result, Ok, Err, IfOk, List, [], ◌∷◌, ◌++◌, length, map, take, drop, arith, refl, sym, ap, ◌∙◌, subst, zero-mul}
use Prim.Native.Nat.{zero, suc}
use Rattle.std.specs.List.{All, flat_map, range_with_len}
use Rattle.std.proofs.lemmas.List.{take_all, take-append-drop, drop-drop, take-take, drop-take, take-map, map-append, length-map, nil_from_length}
use Rattle.std.proofs.lemmas.Bool.{eqb-true}
use Rattle.std.proofs.lemmas.List.Concat.{flat_map-append}
use Rattle.std.proofs.lemmas.List.Elements.{All-nil, All-append, All-take}
use Rattle.std.proofs.lemmas.Nat.{div-mul-add, mod-mul-add, mod_below, div-add-mod'}
use Rattle.std.proofs.Math.Nat.{mul-le-mul_left, mul_comm}
use Rattle.j_definitions.specs.Array.{Array, Atom, product, tally, IsNoun}
use Rattle.j_definitions.specs.Items.{item, item_size}
use Rattle.j_definitions.specs.declared.Kind.{Kind}
use Rattle.j_noun.specs.declared.noun.Atoms.{Atoms}
use Rattle.j_noun.specs.Held.{AreAtoms}
use Rattle.j_rank.proofs.Paddings.{part, pieces_more, pieces_many, part_many}
use Rattle.j_reshaping.specs.Reshaping.{items_repeated}

pub range_append : (a m n : ℕ) → range_with_len a (m + n) ≡ range_with_len a m ++ range_with_len (a + m) n
range_append a zero n =
    let none : 0 + n ≡ n = omega arith in
    let here : a ≡ a + 0 = omega arith in
    ap (range_with_len a) none ∙ ap (λ b. range_with_len b n) here
range_append a (suc m) n =
    let more : suc m + n ≡ suc (m + n) = omega arith in
    let next : (a + 1) + m ≡ a + suc m = omega arith in
    ap (range_with_len a) more ∙ ap (λ r. a ∷ r) (range_append (a + 1) m n) ∙ ap (λ b. a ∷ (range_with_len (a + 1) m ++ range_with_len b n)) next

-- pieces by another number
shifted : {X : Type 0} (f g : ℕ → List X) (a b n : ℕ) → ((i : ℕ) → i < n → f (a + i) ≡ g (b + i)) → flat_map f (range_with_len a n) ≡ flat_map g (range_with_len b n)
shifted f g a b zero h = refl
shifted f g a b (suc n) h =
    let left : a ≡ a + 0 = omega arith in
    let right : b + 0 ≡ b = omega arith in
    let first : f a ≡ g b = ap f left ∙ h 0 (omega arith) ∙ ap g right in
    let rest : (i : ℕ) → i < n → f ((a + 1) + i) ≡ g ((b + 1) + i) =
    λ i l. let p : (a + 1) + i ≡ a + (i + 1) = omega arith in let q : b + (i + 1) ≡ (b + 1) + i = omega arith in ap f p ∙ h (i + 1) (omega arith) ∙ ap g q in
    ap (λ p. p ++ flat_map f (range_with_len (a + 1) n)) first ∙ ap (λ r. g b ++ r) (shifted f g (a + 1) (b + 1) n rest)

pub split_at : {X : Type 0} (xs : List X) (m n : ℕ) → take m xs ++ take n (drop m xs) ≡ take (m + n) xs
split_at xs m n =
    ap (λ r. take m xs ++ r) (sym (drop-take m n xs)) ∙ ap (λ r. r ++ drop m (take (m + n) xs)) (sym (take-take m (m + n) xs (omega arith)))
    ∙ take-append-drop m (take (m + n) xs)

-- the parts of a list make it
parts_joined : {X : Type 0} (size : ℕ) (xs : List X) (a n : ℕ) → flat_map (part size xs) (range_with_len a n) ≡ take (n * size) (drop (a * size) xs)
parts_joined size xs a zero = let none : 0 ≡ 0 * size = omega arith in ap (λ k. take k (drop (a * size) xs)) none
parts_joined size xs a (suc n) =
    let next : (a + 1) * size ≡ a * size + size = omega arith in
    let more : size + n * size ≡ suc n * size = omega arith in
    ap (λ r. take size (drop (a * size) xs) ++ r) (parts_joined size xs (a + 1) n ∙ ap (λ j. take (n * size) (drop j xs)) next ∙ ap (take (n * size)) (sym (drop-drop size (a * size) xs)))
    ∙ split_at (drop (a * size) xs) size (n * size) ∙ ap (λ k. take k (drop (a * size) xs)) more

first_parts : {X : Type 0} (size : ℕ) (xs : List X) (n : ℕ) → flat_map (part size xs) (range_with_len 0 n) ≡ take (n * size) xs
first_parts size xs n = parts_joined size xs 0 n ∙ ap (λ j. take (n * size) (drop j xs)) (zero-mul size)

-- the elements over and over
abbrev pub over_and_over : {X : Type 0} → List X → ℕ → ℕ → List X
over_and_over xs times rest = flat_map (λ k. xs) (range_with_len 0 times) ++ take rest xs

abbrev turn : {X : Type 0} → ℕ → ℕ → List X → ℕ → List X
turn m q xs k = part q xs (k % m)

-- part of one round
in_round : {X : Type 0} (xs : List X) (m q times r : ℕ) → r ≤ m → flat_map (turn m q xs) (range_with_len (times * m) r) ≡ take (r * q) xs
in_round xs m q times r h =
    let same : (i : ℕ) → i < r → turn m q xs (times * m + i) ≡ part q xs (0 + i) = λ i l. let here : i ≡ 0 + i = omega arith in ap (part q xs) (mod-mul-add times m i (omega arith) ∙ here) in
    shifted (turn m q xs) (part q xs) (times * m) 0 r same ∙ first_parts q xs r

rounds : {X : Type 0} (xs : List X) (m q times : ℕ) → length xs ≡ m * q → flat_map (turn m q xs) (range_with_len 0 (times * m)) ≡ flat_map (λ k. xs) (range_with_len 0 times)
rounds xs m q zero e = ap (λ n. flat_map (turn m q xs) (range_with_len 0 n)) (zero-mul m)
rounds xs m q (suc times) e =
    let more : suc times * m ≡ times * m + m = omega arith in
    let start : 0 + times * m ≡ times * m = omega arith in
    let last : times + 1 ≡ suc times = omega arith in
    ap (λ n. flat_map (turn m q xs) (range_with_len 0 n)) more ∙ ap (flat_map (turn m q xs)) (range_append 0 (times * m) m)
    ∙ flat_map-append (turn m q xs) (range_with_len 0 (times * m)) (range_with_len (0 + times * m) m)
    ∙ ap (λ r. r ++ flat_map (turn m q xs) (range_with_len (0 + times * m) m)) (rounds xs m q times e)
    ∙ ap (λ a. flat_map (λ k. xs) (range_with_len 0 times) ++ flat_map (turn m q xs) (range_with_len a m)) start
    ∙ ap (λ r. flat_map (λ k. xs) (range_with_len 0 times) ++ r) (in_round xs m q times m (omega arith) ∙ take_all (m * q) xs (omega arith))
    ∙ sym (pieces_more (λ k. xs) times) ∙ ap (λ n. flat_map (λ k. xs) (range_with_len 0 n)) last

-- parts over and over
turns : {X : Type 0} (xs : List X) (m q times r : ℕ) → length xs ≡ m * q → r < m → flat_map (turn m q xs) (range_with_len 0 (times * m + r)) ≡ over_and_over xs times (r * q)
turns xs m q times r e h =
    let start : 0 + times * m ≡ times * m = omega arith in
    ap (flat_map (turn m q xs)) (range_append 0 (times * m) r)
    ∙ flat_map-append (turn m q xs) (range_with_len 0 (times * m)) (range_with_len (0 + times * m) r)
    ∙ ap (λ s. s ++ flat_map (turn m q xs) (range_with_len (0 + times * m) r)) (rounds xs m q times e)
    ∙ ap (λ a. flat_map (λ k. xs) (range_with_len 0 times) ++ flat_map (turn m q xs) (range_with_len a r)) start
    ∙ ap (λ s. flat_map (λ k. xs) (range_with_len 0 times) ++ s) (in_round xs m q times r (omega arith))

below_round : (r m q : ℕ) → r < m → 0 < q → r * q < m * q
below_round r m q h g =
    let more : r + 1 ≤ m = omega arith in
    omega (arith, mul_comm q (r + 1), mul_comm q m, mul-le-mul_left q more)

sizes : (n m q times r : ℕ) → n ≡ times * m + r → n * q ≡ times * (m * q) + r * q
sizes n m q times r e = omega (arith, ap (λ k. k * q) e)

-- items over and over, by the number of atoms
by_size : {X : Type 0} (xs : List X) (m q n size : ℕ) → length xs ≡ m * q → size ≡ n * q → 0 < m → 0 < q →
    flat_map (turn m q xs) (range_with_len 0 n) ≡ over_and_over xs (size / length xs) (size % length xs)
by_size xs m q n size e s h g =
    let less : n % m < m = mod_below n m h in
    let split : n ≡ (n / m) * m + n % m = sym (div-add-mod' n m) in
    let within = below_round (n % m) m q less g in
    let all : size ≡ (n / m) * (m * q) + (n % m) * q = s ∙ sizes n m q (n / m) (n % m) split in
    let times : size / length xs ≡ n / m = ap (λ l. size / l) e ∙ ap (λ k. k / (m * q)) all ∙ div-mul-add (n / m) (m * q) ((n % m) * q) within in
    let rest : size % length xs ≡ (n % m) * q = ap (λ l. size % l) e ∙ ap (λ k. k % (m * q)) all ∙ mod-mul-add (n / m) (m * q) ((n % m) * q) within in
    ap (λ k. flat_map (turn m q xs) (range_with_len 0 k)) split ∙ turns xs m q (n / m) (n % m) e less
    ∙ ap (λ k. over_and_over xs k ((n % m) * q)) (sym times) ∙ ap (over_and_over xs (size / length xs)) (sym rest)

pub items_many : (s : List ℕ) → product s ≡ tally s * item_size s
items_many [] = refl
items_many (n ∷ s) = refl

factors : (m q : ℕ) → 0 < m * q → (0 < m) × (0 < q)
factors zero q h = absurd (omega arith)
factors (suc m) zero h = absurd (omega arith)
factors (suc m) (suc q) h = (omega arith, omega arith)

map_over : {X Y : Type 0} (f : X → Y) (xs : List X) (ks : List ℕ) → map f (flat_map (λ k. xs) ks) ≡ flat_map (λ k. map f xs) ks
map_over f xs [] = refl
map_over f xs (k ∷ ks) = map-append f xs (flat_map (λ j. xs) ks) ∙ ap (λ r. map f xs ++ r) (map_over f xs ks)

-- the atoms of items that are repeated
pub repeated_atoms : {X : Type 0} (f : X → Atom) (y : Array) (xs out : List X) (n size : ℕ) → IsNoun y → map f xs ≡ y.atoms → 0 < length xs → size ≡ n * item_size y.shape →
    out ≡ over_and_over xs (size / length xs) (size % length xs) → map f out ≡ items_repeated n y
repeated_atoms f y xs out n size noun atoms some e is =
    let many : length xs ≡ length y.atoms = sym (length-map xs f) ∙ ap length atoms in
    let count : length y.atoms ≡ tally y.shape * item_size y.shape = noun.as_many ∙ items_many y.shape in
    let both = factors (tally y.shape) (item_size y.shape) (omega arith) in
    let ks : List ℕ = range_with_len 0 (size / length xs) in
    ap (map f) is ∙ map-append f (flat_map (λ k. xs) ks) (take (size % length xs) xs)
    ∙ ap (λ r. r ++ map f (take (size % length xs) xs)) (map_over f xs ks) ∙ ap (λ r. flat_map (λ k. map f xs) ks ++ r) (sym (take-map f (size % length xs) xs))
    ∙ ap (λ ys. over_and_over ys (size / length xs) (size % length xs)) atoms
    ∙ ap (λ l. over_and_over y.atoms (size / l) (size % l)) many
    ∙ sym (by_size y.atoms (tally y.shape) (item_size y.shape) n size count e both.0 both.1)

bits_over : (bits ks : List ℕ) → All (λ b. b < 2) bits → All (λ b. b < 2) (flat_map (λ k. bits) ks)
bits_over bits [] h = All-nil (λ b. b < 2)
bits_over bits (k ∷ ks) h = All-append (λ b. b < 2) bits (flat_map (λ j. bits) ks) h (bits_over bits ks h)

-- bits that are repeated
pub repeated_bits : (bits out : List ℕ) (times rest : ℕ) → out ≡ over_and_over bits times rest → All (λ b. b < 2) bits → All (λ b. b < 2) out
repeated_bits bits out times rest is h =
    subst (All (λ b. b < 2)) (sym is)
    (All-append (λ b. b < 2) (flat_map (λ k. bits) (range_with_len 0 times)) (take rest bits) (bits_over bits (range_with_len 0 times) h) (All-take (λ b. b < 2) rest bits h))

none_of : {X : Type 0} (f : ℕ → List X) (ks : List ℕ) → ((k : ℕ) → f k ≡ []) → flat_map f ks ≡ []
none_of f [] h = refl
none_of f (k ∷ ks) h = ap (λ p. p ++ flat_map f ks) (h k) ∙ none_of f ks h

take_none : {X : Type 0} (n k : ℕ) (xs : List X) → xs ≡ [] → take n (drop k xs) ≡ []
take_none zero k xs e = refl
take_none (suc n) zero xs e = ap (take (suc n)) e
take_none (suc n) (suc k) xs e = ap (λ ys. take (suc n) (drop (suc k) ys)) e

-- no atoms are repeated
pub none_repeated : (y : Array) (n : ℕ) → y.atoms ≡ [] → items_repeated n y ≡ []
none_repeated y n e = none_of (λ k. item y (k % tally y.shape)) (range_with_len 0 n) (λ k. take_none (item_size y.shape) ((k % tally y.shape) * item_size y.shape) y.atoms e)

pub nothing_repeated : (y : Array) (n : ℕ) → n * item_size y.shape ≡ 0 → items_repeated n y ≡ []
nothing_repeated y zero e = refl
nothing_repeated y (suc n) e =
    let none : item_size y.shape ≡ 0 = omega arith in
    none_of (λ k. item y (k % tally y.shape)) (range_with_len 0 (suc n)) (λ k. ap (λ q. take q (drop ((k % tally y.shape) * item_size y.shape) y.atoms)) none)

-- as many atoms as the items have
pub repeated_many : (y : Array) (n : ℕ) → IsNoun y → (0 < n → 0 < tally y.shape) → length (items_repeated n y) ≡ n * item_size y.shape
repeated_many y zero noun h = omega arith
repeated_many y (suc n) noun h =
    pieces_many (λ k. item y (k % tally y.shape)) (item_size y.shape) 0 (suc n)
    (λ k l. part_many y.atoms (tally y.shape) (item_size y.shape) (k % tally y.shape) (noun.as_many ∙ items_many y.shape) (mod_below k (tally y.shape) (h (omega arith))))

-- no atoms, as a noun is made of them
pub fills_are : {E : Type 0} (r : Result Atoms E) (j k : Kind) (xs : List Atom) → j ≡ k → xs ≡ [] → IfOk r (λ a. AreAtoms a j []) → IfOk r (λ a. AreAtoms a k xs)
fills_are (Ok a) j k xs same none h =
    let here : AreAtoms a k [] = subst (λ (i : Kind). AreAtoms a i []) same h in
    subst (λ (ys : List Atom). AreAtoms a k ys) (sym none) here
fills_are (Err e) j k xs same none h = tt

pub no_atoms : (xs : List Atom) (b : Bool) → b ≡ nat_eq (length xs) 0 → b ≡ true → xs ≡ []
no_atoms xs b e h = nil_from_length xs (eqb-true (length xs) 0 (sym e ∙ h))

some : (n : ℕ) (b : Bool) → b ≡ nat_eq n 0 → b ≡ false → 0 < n
some zero b e h = cc
some (suc n) b e h = omega arith

pub some_there : (xs : List Atom) (b : Bool) → b ≡ nat_eq (length xs) 0 → b ≡ false → 0 < length xs
some_there xs b e h = some (length xs) b e h

pub some_atoms : {X : Type 0} (f : X → Atom) (xs : List X) (atoms : List Atom) (b : Bool) → map f xs ≡ atoms → b ≡ nat_eq (length atoms) 0 → b ≡ false → 0 < length xs
some_atoms f xs atoms b is e h = omega (arith, some (length atoms) b e h, ap length is, length-map xs f)
