-- Atoms that are padded.
use Rattle.std.proofs.Common.{◌≡◌, ◌<◌, ◌≤◌, ◌+◌, ◌-◌, ◌*◌, ◌/◌, ℕ, map, List, [], ◌∷◌, ◌++◌, length, take, drop, replicate, get_or, arith, refl, sym, ap, ◌∙◌, zero-mul, Result, Ok, Err, OnOk}
use Prim.Native.Nat.{zero, suc}
use Rattle.std.specs.List.{All, flat_map, range_with_len}
use Rattle.std.proofs.lemmas.List.{take_all, take-append-drop, drop-drop, length-take, length-drop, length-append, length-replicate, append-nil, drop-take, take-take, take-map, drop-map, map-append, append_assoc, drop_more, take_rest}
use Rattle.std.proofs.lemmas.List.Concat.{flat_map-append}
use Rattle.std.proofs.lemmas.List.Elements.{All-head, All-tail}
use Rattle.std.proofs.Math.Nat.{mul-le-mul_left, mul_comm, mul-div_cancel_left}
use Rattle.j_definitions.specs.Array.{Array, Atom, product, fill_atom, IsNoun}
use Rattle.j_definitions.specs.declared.Kind.{Kind}
use Rattle.j_rank.specs.Assembly.{with_rank, padded, atoms_of_all}
use Rattle.j_rank.specs.Places.{IsUnder}
use Rattle.j_rank.proofs.Widest.{product-with_rank}
use Rattle.j_rank.proofs.Made.{fills_map}

-- part k of a list
abbrev pub part : {X : Type 0} → ℕ → List X → ℕ → List X
part size xs k = take size (drop (k * size) xs)

range_more : (a n : ℕ) → range_with_len a (n + 1) ≡ range_with_len a n ++ (a + n) ∷ []
range_more a zero = let e : a ≡ a + 0 = omega arith in ap (λ k. k ∷ []) e
range_more a (suc n) =
    let one_more : suc n + 1 ≡ suc (n + 1) = omega arith in
    let last : (a + 1) + n ≡ a + suc n = omega arith in
    ap (range_with_len a) one_more ∙ ap (λ r. a ∷ r) (range_more (a + 1) n) ∙ ap (λ k. a ∷ (range_with_len (a + 1) n ++ k ∷ [])) last

-- one more piece
pub pieces_more : {X : Type 0} (f : ℕ → List X) (n : ℕ) → flat_map f (range_with_len 0 (n + 1)) ≡ flat_map f (range_with_len 0 n) ++ f n
pieces_more f n =
    let last : 0 + n ≡ n = omega arith in
    ap (flat_map f) (range_more 0 n) ∙ flat_map-append f (range_with_len 0 n) ((0 + n) ∷ []) ∙ ap (λ r. flat_map f (range_with_len 0 n) ++ r) (append-nil (f (0 + n)) ∙ ap f last)

-- pieces of one length
pub pieces_many : {X : Type 0} (f : ℕ → List X) (size a n : ℕ) → ((k : ℕ) → k < a + n → length (f k) ≡ size) → length (flat_map f (range_with_len a n)) ≡ n * size
pieces_many f size a zero h = omega arith
pieces_many f size a (suc n) h =
    omega (arith, length-append (f a) (flat_map f (range_with_len (a + 1) n)), h a (omega arith), pieces_many f size (a + 1) n (λ k g. h k (omega arith)))

same_pieces : {X : Type 0} (f g : ℕ → List X) (a n : ℕ) → ((k : ℕ) → k < a + n → f k ≡ g k) → flat_map f (range_with_len a n) ≡ flat_map g (range_with_len a n)
same_pieces f g a zero h = refl
same_pieces f g a (suc n) h = ap (λ p. p ++ flat_map f (range_with_len (a + 1) n)) (h a (omega arith)) ∙ ap (λ r. g a ++ r) (same_pieces f g (a + 1) n (λ k q. h k (omega arith)))

split_at : {X : Type 0} (xs : List X) (m n : ℕ) → take m xs ++ take n (drop m xs) ≡ take (m + n) xs
split_at xs m n =
    ap (λ r. take m xs ++ r) (sym (drop-take m n xs)) ∙ ap (λ r. r ++ drop m (take (m + n) xs)) (sym (take-take m (m + n) xs (omega arith)))
    ∙ take-append-drop m (take (m + n) xs)

-- the parts of a list make it
parts_joined : {X : Type 0} (size : ℕ) (xs : List X) (a n : ℕ) → flat_map (part size xs) (range_with_len a n) ≡ take (n * size) (drop (a * size) xs)
parts_joined size xs a zero = let none : 0 ≡ 0 * size = omega arith in ap (λ k. take k (drop (a * size) xs)) none
parts_joined size xs a (suc n) =
    let next : (a + 1) * size ≡ a * size + size = omega arith in
    let more : size + n * size ≡ suc n * size = omega arith in
    ap (λ r. take size (drop (a * size) xs) ++ r) (parts_joined size xs (a + 1) n ∙ ap (λ j. take (n * size) (drop j xs)) next ∙ ap (take (n * size)) (sym (drop-drop size (a * size) xs)))
    ∙ split_at (drop (a * size) xs) size (n * size) ∙ ap (λ k. take k (drop (a * size) xs)) more

-- a part has its size
pub part_many : {X : Type 0} (xs : List X) (m size k : ℕ) → length xs ≡ m * size → k < m → length (take size (drop (k * size) xs)) ≡ size
part_many xs m size k e h =
    let more : k + 1 ≤ m = omega arith in
    omega (arith, length-take size (drop (k * size) xs), length-drop (k * size) xs, mul_comm size (k + 1), mul_comm size m, mul-le-mul_left size more)

filled_up : (m n p a b c : ℕ) → m ≤ n → a ≡ m * p → b ≡ (n - m) * p → c ≡ a + b → c ≡ n * p
filled_up m n p a b c h ea eb ec = let all : m + (n - m) ≡ n = omega arith in omega (arith, ap (λ k. k * p) all)

pub length-padded : {X : Type 0} (z : X) (t s : List ℕ) (xs : List X) → IsUnder t s → length xs ≡ product t → length (padded z t s xs) ≡ product s
length-padded z [] [] xs u e = e
length-padded z [] (n ∷ s) xs u e = absurd u
length-padded z (m ∷ t) [] xs u e = absurd u
length-padded z (m ∷ t) (n ∷ s) xs u e =
    let piece : ℕ → List _ = λ k. padded z t s (part (product t) xs k) in
    let fills = replicate ((n - m) * product s) z in
    let pieces = pieces_many piece (product s) 0 m (λ k h. length-padded z t s (part (product t) xs k) u.1 (part_many xs m (product t) k e (omega arith))) in
    filled_up m n (product s) (length (flat_map piece (range_with_len 0 m))) (length fills) (length (flat_map piece (range_with_len 0 m) ++ fills)) u.0 pieces
    (length-replicate ((n - m) * product s) z) (length-append (flat_map piece (range_with_len 0 m)) fills)

-- nothing is padded where the shapes are equal
pub padded_same : {X : Type 0} (z : X) (s : List ℕ) (xs : List X) → length xs ≡ product s → padded z s s xs ≡ xs
padded_same z [] xs e = refl
padded_same z (n ∷ s) xs e =
    let items = same_pieces (λ k. padded z s s (part (product s) xs k)) (part (product s) xs) 0 n (λ k h. padded_same z s (part (product s) xs k) (part_many xs n (product s) k e (omega arith))) in
    let less : n - n ≡ 0 = omega arith in
    let none : (n - n) * product s ≡ 0 = ap (λ k. k * product s) less ∙ zero-mul (product s) in
    ap (λ r. r ++ replicate ((n - n) * product s) z) (items ∙ parts_joined (product s) xs 0 n) ∙ ap (λ j. take (n * product s) (drop (0 * product s) xs) ++ replicate j z) none
    ∙ append-nil (take (n * product s) (drop (0 * product s) xs)) ∙ ap (λ j. take (n * product s) (drop j xs)) (zero-mul (product s)) ∙ take_all (n * product s) xs (omega arith)

-- the atoms of results within a shape
pub length-atoms_of_all : (k : Kind) (s : List ℕ) (xs : List Array) → All IsNoun xs → All (λ a. IsUnder (with_rank (length s) a.shape) s) xs → length (atoms_of_all k s xs) ≡ length xs * product s
length-atoms_of_all k s [] nouns under = omega arith
length-atoms_of_all k s (a ∷ xs) nouns under =
    let noun = All-head IsNoun a xs nouns in
    let first = length-padded (fill_atom k) (with_rank (length s) a.shape) s a.atoms (All-head (λ b. IsUnder (with_rank (length s) b.shape) s) a xs under) (noun.as_many ∙ sym (product-with_rank (length s) a.shape)) in
    omega (
      arith,
      first,
      length-append (padded (fill_atom k) (with_rank (length s) a.shape) s a.atoms) (atoms_of_all k s xs),
      length-atoms_of_all k s xs (All-tail IsNoun a xs nouns) (All-tail (λ b. IsUnder (with_rank (length s) b.shape) s) a xs under),
    )

-- a list by its first element and the rest
abbrev pub head : List ℕ → ℕ
head s = get_or s 0 0

abbrev pub rest : List ℕ → List ℕ
rest s = take (length s - 1) (drop 1 s)

head_rest : (s : List ℕ) → 1 ≤ length s → s ≡ head s ∷ rest s
head_rest s h = drop_more s 0 0 (omega arith) ∙ ap (λ r. head s ∷ r) (sym (take_rest s 1))

product_head : (s : List ℕ) → 1 ≤ length s → product s ≡ head s * product (rest s)
product_head s h = ap product (head_rest s h)

pub rest_many : (s t : List ℕ) → length s ≡ length t → length (rest s) ≡ length (rest t)
rest_many s t h = omega (arith, length-take (length s - 1) (drop 1 s), length-take (length t - 1) (drop 1 t), length-drop 1 s, length-drop 1 t)

factor_left : (m n p : ℕ) → p ≡ m * n → 0 < p → 0 < m
factor_left zero n p e h = absurd (omega arith)
factor_left (suc m) n p e h = omega arith

-- the size of an item
pub item_size_is : (s : List ℕ) (size : ℕ) → 1 ≤ length s → size ≡ product s → 0 < head s → size / head s ≡ product (rest s)
item_size_is s size h e some = ap (λ n. n / head s) (e ∙ product_head s h) ∙ mul-div_cancel_left (product (rest s)) some

pub head_some : (s : List ℕ) (size : ℕ) → 1 ≤ length s → size ≡ product s → 0 < size → 0 < head s
head_some s size h e some = factor_left (head s) (product (rest s)) size (e ∙ product_head s h) some

pub rest_positive : (s : List ℕ) (size : ℕ) → 1 ≤ length s → size ≡ product s → 0 < size → 0 < product (rest s)
rest_positive s size h e some = factor_left (product (rest s)) (head s) size (e ∙ product_head s h ∙ mul_comm (head s) (product (rest s))) some

-- the elements of item k
pub item_many : {X : Type 0} (s : List ℕ) (xs run : List X) (k : ℕ) → 1 ≤ length s → length xs ≡ product s → k < head s → run ≡ take (length xs / head s) (drop (k * (length xs / head s)) xs) →
    length run ≡ product (rest s)
item_many s xs run k h e g is =
    let size = item_size_is s (length xs) h e (omega arith) in
    ap length (is ∙ ap (λ q. take q (drop (k * q) xs)) size) ∙ part_many xs (head s) (product (rest s)) k (e ∙ product_head s h) g

-- items that are padded so far
abbrev pub items_padded : {X : Type 0} → X → List ℕ → List ℕ → List X → ℕ → List X
items_padded z t s xs k = flat_map (λ j. padded z t s (part (product t) xs j)) (range_with_len 0 k)

pub items_more : {X : Type 0} (z : X) (t s : List ℕ) (xs run out mid new : List X) (k q : ℕ) → q ≡ product t → run ≡ take q (drop (k * q) xs) → mid ≡ out ++ items_padded z t s xs k →
    new ≡ mid ++ padded z t s run → new ≡ out ++ items_padded z t s xs (k + 1)
items_more z t s xs run out mid new k q e is before more =
    more ∙ ap (λ r. r ++ padded z t s run) before
    ∙ ap (λ r. (out ++ items_padded z t s xs k) ++ padded z t s r) (is ∙ ap (λ n. take n (drop (k * n) xs)) e)
    ∙ append_assoc out (items_padded z t s xs k) (padded z t s (part (product t) xs k))
    ∙ ap (λ r. out ++ r) (sym (pieces_more (λ j. padded z t s (part (product t) xs j)) k))

-- all items, and the fills behind them
pub all_padded : {X : Type 0} (z : X) (from to : List ℕ) (xs out mid new : List X) (k count : ℕ) → 1 ≤ length from → 1 ≤ length to → k ≡ head from → count ≡ (head to - head from) * product (rest to) →
    mid ≡ out ++ items_padded z (rest from) (rest to) xs k → new ≡ mid ++ replicate count z → new ≡ out ++ padded z from to xs
all_padded z from to xs out mid new k count f g ek ec before more =
    let fills = replicate ((head to - head from) * product (rest to)) z in
    let all : items_padded z (rest from) (rest to) xs k ++ fills ≡ padded z from to xs =
    ap (λ j. items_padded z (rest from) (rest to) xs j ++ fills) ek
    ∙ sym (ap (λ s. padded z s to xs) (head_rest from f) ∙ ap (λ s. padded z (head from ∷ rest from) s xs) (head_rest to g)) in
    more ∙ ap (λ r. r ++ replicate count z) before ∙ ap (λ j. (out ++ items_padded z (rest from) (rest to) xs k) ++ replicate j z) ec
    ∙ append_assoc out (items_padded z (rest from) (rest to) xs k) fills ∙ ap (λ r. out ++ r) all

-- nothing to be padded
pub none_padded : {X : Type 0} (z : X) (from to : List ℕ) (xs out new : List X) → from ≡ to → length xs ≡ product from → new ≡ out ++ xs → new ≡ out ++ padded z from to xs
none_padded z from to xs out new e many more =
    more ∙ ap (λ r. out ++ r) (sym (ap (λ s. padded z s to xs) e ∙ padded_same z to xs (many ∙ ap product e)))

-- padding what atoms are made of
map-flat_map : {X Y : Type 0} (f : X → Y) (g : ℕ → List X) (ks : List ℕ) → map f (flat_map g ks) ≡ flat_map (λ k. map f (g k)) ks
map-flat_map f g [] = refl
map-flat_map f g (k ∷ ks) = map-append f (g k) (flat_map g ks) ∙ ap (λ r. map f (g k) ++ r) (map-flat_map f g ks)

pub map-padded : {X Y : Type 0} (f : X → Y) (z : X) (t s : List ℕ) (xs : List X) → map f (padded z t s xs) ≡ padded (f z) t s (map f xs)
map-padded f z [] s xs = refl
map-padded f z (m ∷ t) [] xs = refl
map-padded f z (m ∷ t) (n ∷ s) xs =
    let piece : ℕ → List _ = λ k. padded z t s (part (product t) xs k) in
    let each : (k : ℕ) → k < 0 + m → map f (piece k) ≡ padded (f z) t s (part (product t) (map f xs) k) =
    λ k h. map-padded f z t s (part (product t) xs k) ∙ ap (padded (f z) t s) (sym (ap (take (product t)) (drop-map f (k * product t) xs) ∙ take-map f (product t) (drop (k * product t) xs))) in
    map-append f (flat_map piece (range_with_len 0 m)) (replicate ((n - m) * product s) z)
    ∙ ap (λ r. r ++ map f (replicate ((n - m) * product s) z)) (map-flat_map f piece (range_with_len 0 m) ∙ same_pieces (λ k. map f (piece k)) (λ k. padded (f z) t s (part (product t) (map f xs) k)) 0 m each)
    ∙ ap (λ r. flat_map (λ k. padded (f z) t s (part (product t) (map f xs) k)) (range_with_len 0 m) ++ r) (fills_map f z ((n - m) * product s))

-- the atoms of what was appended
pub appended : {X : Type 0} (f : X → Atom) (z : X) (n : ℕ) (axes shape to : List ℕ) (run out new : List X) (xs : List Atom) → axes ≡ shape → map f run ≡ xs →
    new ≡ out ++ padded z (with_rank n axes) to run → map f new ≡ map f out ++ padded (f z) (with_rank n shape) to xs
appended f z n axes shape to run out new xs same e more =
    ap (map f) more ∙ map-append f out (padded z (with_rank n axes) to run)
    ∙ ap (λ r. map f out ++ r) (map-padded f z (with_rank n axes) to run ∙ ap (padded (f z) (with_rank n axes) to) e ∙ ap (λ s. padded (f z) (with_rank n s) to xs) same)

pub on_ok : {T E : Type 0} (r : Result T E) (P Q : Type 0) → (P → Q) → OnOk r P → OnOk r Q
on_ok (Ok x) P Q f h = f h
on_ok (Err e) P Q f h = tt
