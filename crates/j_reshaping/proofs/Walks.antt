-- Elements along axes, in steps.
use Rattle.std.proofs.Common.{◌≡◌, ◌<◌, ◌≤◌, ◌+◌, ◌-◌, ◌*◌, ℕ, List, [], ◌∷◌, ◌++◌, length, map, take, drop, get_or, arith, refl, sym, ap, ◌∙◌, subst}
use Prim.Native.Nat.{zero, suc}
use Rattle.std.specs.List.{All, flat_map, range_with_len}
use Rattle.std.proofs.lemmas.List.{drop_more, drop-drop, take_rest, append_assoc, map-append, length-map, nil_from_length}
use Rattle.std.proofs.lemmas.List.Concat.{flat_map-append}
use Rattle.std.proofs.lemmas.List.Elements.{All-nil, All-cons, All-append, All-head, All-tail, All-take, All-drop}
use Rattle.std.proofs.Math.Nat.{mul-le-mul_left, mul_comm}
use Rattle.j_definitions.specs.Array.{Atom, product}
use Rattle.j_definitions.specs.Cells.{atom_at}
use Rattle.j_rank.proofs.Paddings.{head, rest, pieces_more, pieces_many}
use Rattle.j_reshaping.specs.Axes.{places}
use Rattle.j_reshaping.proofs.Reshapes.{split_at}
use Rattle.j_reshaping.specs.Steps.{reach, elements_at, atoms_at}

pub head_rest : (s : List ℕ) → 1 ≤ length s → s ≡ head s ∷ rest s
head_rest s h = drop_more s 0 0 (omega arith) ∙ ap (λ r. head s ∷ r) (sym (take_rest s 1))

-- an index along an axis stays within reach
pub in_reach : (start n d i q len : ℕ) → start + ((n - 1) * d + q) ≤ len → i < n → (start + i * d) + q ≤ len
in_reach start n d i q len h g =
    let last : i ≤ n - 1 = omega arith in
    omega (arith, mul-le-mul_left d last, mul_comm d i, mul_comm d (n - 1))

-- an element at a place
pub one_element : {X : Type 0} (run : List X) (p : ℕ) (x : X) → p < length run → x ≡ get_or run p x → x ∷ [] ≡ elements_at run (p ∷ [])
one_element run p x h is = ap (λ y. y ∷ []) is ∙ sym (ap (λ ys. take 1 ys ++ []) (drop_more run p x h))

-- the elements at one more index
pub walk_more : {X : Type 0} (run out mid new : List X) (start i d : ℕ) (lengths steps : List ℕ) → mid ≡ out ++ elements_at run (places start (i ∷ lengths) (d ∷ steps)) →
    new ≡ mid ++ elements_at run (places (start + i * d) lengths steps) → new ≡ out ++ elements_at run (places start ((i + 1) ∷ lengths) (d ∷ steps))
walk_more run out mid new start i d lengths steps before more =
    let piece : ℕ → List ℕ = λ k. places (start + k * d) lengths steps in
    more ∙ ap (λ r. r ++ elements_at run (piece i)) before
    ∙ append_assoc out (elements_at run (flat_map piece (range_with_len 0 i))) (elements_at run (piece i))
    ∙ ap (λ r. out ++ r)
    (sym (ap (elements_at run) (pieces_more piece i) ∙ flat_map-append (λ k. take 1 (drop k run)) (flat_map piece (range_with_len 0 i)) (piece i)))

-- the element at the start, where there are no axes
pub walk_one : {X : Type 0} (run out new : List X) (start : ℕ) (x : X) (lengths steps : List ℕ) → length lengths ≡ 0 → start < length run → x ≡ get_or run start x → new ≡ out ++ x ∷ [] →
    new ≡ out ++ elements_at run (places start lengths steps)
walk_one run out new start x lengths steps none h is more =
    more ∙ ap (λ r. out ++ r) (one_element run start x h is) ∙ sym (ap (λ s. out ++ elements_at run (places start s steps)) (nil_from_length lengths none))

pub reach_one : (lengths steps : List ℕ) → length lengths ≡ 0 → reach lengths steps ≡ 1
reach_one lengths steps none = ap (λ s. reach s steps) (nil_from_length lengths none)

-- lists by their first elements
pub reach_parts : (lengths steps : List ℕ) → 1 ≤ length lengths → 1 ≤ length steps → reach lengths steps ≡ (head lengths - 1) * head steps + reach (rest lengths) (rest steps)
reach_parts lengths steps h g = ap (λ s. reach s steps) (head_rest lengths h) ∙ ap (reach (head lengths ∷ rest lengths)) (head_rest steps g)

pub places_parts : (start : ℕ) (lengths steps : List ℕ) → 1 ≤ length lengths → 1 ≤ length steps → places start lengths steps ≡ places start (head lengths ∷ rest lengths) (head steps ∷ rest steps)
places_parts start lengths steps h g = ap (λ s. places start s steps) (head_rest lengths h) ∙ ap (places start (head lengths ∷ rest lengths)) (head_rest steps g)

-- all elements
pub walk_all : {X : Type 0} (run out new : List X) (start k : ℕ) (lengths steps : List ℕ) → 1 ≤ length lengths → 1 ≤ length steps → k ≡ head lengths →
    new ≡ out ++ elements_at run (places start (k ∷ rest lengths) (head steps ∷ rest steps)) → new ≡ out ++ elements_at run (places start lengths steps)
walk_all run out new start k lengths steps h g e is =
    is ∙ ap (λ n. out ++ elements_at run (places start (n ∷ rest lengths) (head steps ∷ rest steps))) e ∙ ap (λ ps. out ++ elements_at run ps) (sym (places_parts start lengths steps h g))

-- one axis alone
pub walk_last : {X : Type 0} (run out new : List X) (start : ℕ) (lengths steps : List ℕ) → 1 ≤ length lengths → 1 ≤ length steps → length (rest lengths) ≡ 0 → length lengths ≡ length steps →
    new ≡ out ++ elements_at run (places start (head lengths ∷ []) (head steps ∷ [])) → new ≡ out ++ elements_at run (places start lengths steps)
walk_last run out new start lengths steps h g none rank is =
    let one : rest lengths ≡ [] = nil_from_length (rest lengths) none in
    is ∙ ap (λ s. out ++ elements_at run (flat_map (λ i. places (start + i * head steps) s (rest steps)) (range_with_len 0 (head lengths)))) (sym one)
    ∙ ap (λ ps. out ++ elements_at run ps) (sym (places_parts start lengths steps h g))

pub reach_last : (lengths steps : List ℕ) → 1 ≤ length lengths → 1 ≤ length steps → length (rest lengths) ≡ 0 → reach lengths steps ≡ reach (head lengths ∷ []) (head steps ∷ [])
reach_last lengths steps h g none =
    reach_parts lengths steps h g ∙ ap (λ s. (head lengths - 1) * head steps + reach s (rest steps)) (nil_from_length (rest lengths) none)

all_pieces : (P : ℕ → Type 0) (f : ℕ → List ℕ) (a n : ℕ) → ((k : ℕ) → k < a + n → All P (f k)) → All P (flat_map f (range_with_len a n))
all_pieces P f a zero h = All-nil P
all_pieces P f a (suc n) h =
    All-append P (f a) (flat_map f (range_with_len (a + 1) n)) (h a (omega arith)) (all_pieces P f (a + 1) n (λ k g. h k (omega arith)))

-- each place is within reach
pub places_within : (start : ℕ) (lengths steps : List ℕ) (len : ℕ) → start + reach lengths steps ≤ len → All (λ p. p < len) (places start lengths steps)
places_within start [] steps len h = All-cons (λ p. p < len) start [] (omega arith) (All-nil (λ p. p < len))
places_within start (n ∷ lengths) [] len h = All-cons (λ p. p < len) start [] (omega arith) (All-nil (λ p. p < len))
places_within start (n ∷ lengths) (d ∷ steps) len h =
    all_pieces (λ p. p < len) (λ i. places (start + i * d) lengths steps) 0 n
    (λ i g. places_within (start + i * d) lengths steps len (in_reach start n d i (reach lengths steps) len h (omega arith)))

-- as many places as the axes have
pub places_many : (start : ℕ) (lengths steps : List ℕ) → length lengths ≡ length steps → length (places start lengths steps) ≡ product lengths
places_many start [] steps e = refl
places_many start (n ∷ lengths) [] e = absurd (omega arith)
places_many start (n ∷ lengths) (d ∷ steps) e =
    pieces_many (λ i. places (start + i * d) lengths steps) (product lengths) 0 n (λ i g. places_many (start + i * d) lengths steps (omega arith))

one_at : {X : Type 0} (f : X → Atom) (xs : List X) (p : ℕ) → p < length xs → map f (take 1 (drop p xs)) ≡ atom_at (map f xs) p ∷ []
one_at f [] p h = absurd (omega arith)
one_at f (x ∷ xs) zero h = refl
one_at f (x ∷ xs) (suc p) h = one_at f xs p (omega arith)

map_elements : {X : Type 0} (f : X → Atom) (xs : List X) (ps : List ℕ) → All (λ p. p < length xs) ps → map f (elements_at xs ps) ≡ atoms_at (map f xs) ps
map_elements f xs [] h = refl
map_elements f xs (p ∷ ps) h =
    map-append f (take 1 (drop p xs)) (elements_at xs ps) ∙ ap (λ r. r ++ map f (elements_at xs ps)) (one_at f xs p (All-head (λ q. q < length xs) p ps h))
    ∙ ap (λ r. atom_at (map f xs) p ∷ r) (map_elements f xs ps (All-tail (λ q. q < length xs) p ps h))

-- the atoms of elements at places
pub picked_atoms : {X : Type 0} (f : X → Atom) (xs out : List X) (atoms : List Atom) (lengths steps : List ℕ) → map f xs ≡ atoms → reach lengths steps ≤ length atoms →
    out ≡ elements_at xs (places 0 lengths steps) → map f out ≡ atoms_at atoms (places 0 lengths steps)
picked_atoms f xs out atoms lengths steps same h is =
    let many : length xs ≡ length atoms = sym (length-map xs f) ∙ ap length same in
    ap (map f) is ∙ map_elements f xs (places 0 lengths steps) (places_within 0 lengths steps (length xs) (omega arith)) ∙ ap (λ ys. atoms_at ys (places 0 lengths steps)) same

bits_at : (bits ps : List ℕ) → All (λ b. b < 2) bits → All (λ b. b < 2) (elements_at bits ps)
bits_at bits [] h = All-nil (λ b. b < 2)
bits_at bits (p ∷ ps) h =
    All-append (λ b. b < 2) (take 1 (drop p bits)) (elements_at bits ps) (All-take (λ b. b < 2) 1 (drop p bits) (All-drop (λ b. b < 2) p bits h)) (bits_at bits ps h)

pub picked_bits : (bits out ps : List ℕ) → out ≡ elements_at bits ps → All (λ b. b < 2) bits → All (λ b. b < 2) out
picked_bits bits out ps is h = subst (All (λ b. b < 2)) (sym is) (bits_at bits ps h)

single_steps : {X : Type 0} (run : List X) (start a n : ℕ) → elements_at run (flat_map (λ i. (start + i * 1) ∷ []) (range_with_len a n)) ≡ take n (drop (start + a) run)
single_steps run start a zero = refl
single_steps run start a (suc n) =
    let here : start + a * 1 ≡ start + a = omega arith in
    let next : start + (a + 1) ≡ (start + a) + 1 = omega arith in
    let more : 1 + n ≡ suc n = omega arith in
    ap (λ k. take 1 (drop k run) ++ elements_at run (flat_map (λ i. (start + i * 1) ∷ []) (range_with_len (a + 1) n))) here
    ∙ ap (λ r. take 1 (drop (start + a) run) ++ r) (single_steps run start (a + 1) n ∙ ap (λ k. take n (drop k run)) next ∙ ap (take n) (sym (drop-drop 1 (start + a) run)))
    ∙ split_at (drop (start + a) run) 1 n ∙ ap (λ k. take k (drop (start + a) run)) more

-- elements one after the other are a run
pub walk_run : {X : Type 0} (run out new : List X) (start count step k : ℕ) → step ≡ 1 → k ≡ count → new ≡ out ++ take k (drop start run) → new ≡ out ++ elements_at run (places start (count ∷ []) (step ∷ []))
walk_run run out new start count step k one all more =
    let first : start + 0 ≡ start = omega arith in
    more
    ∙ ap (λ r. out ++ r)
    (sym
    (ap (λ d. elements_at run (places start (count ∷ []) (d ∷ []))) one ∙ single_steps run start 0 count ∙ ap (λ j. take count (drop j run)) first
    ∙ ap (λ n. take n (drop start run)) (sym all)))
