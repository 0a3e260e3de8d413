-- Runs of atoms, and nouns with the same atoms.
use Rattle.std.proofs.Common.{◌≡◌, ◌<◌, ◌≤◌, ◌+◌, ◌*◌, ℕ, ℤ, List, [], ◌∷◌, length, map, take, drop, get_or, arith, refl, sym, ap, ◌∙◌, subst, pos, Result, Ok, Err}
use Rattle.std.specs.List.{All}
use Rattle.std.proofs.lemmas.List.{take-map, drop-map, length-map}
use Rattle.std.proofs.lemmas.List.Elements.{All-nil, All-cons, All-take, All-drop, All-head}
use Rattle.j_definitions.specs.Array.{Array, Atom, number, product, tally, IsNoun, IsWithin}
use Rattle.j_definitions.specs.Items.{item_size}
use Rattle.j_definitions.specs.Limits.{limited}
use Rattle.j_definitions.proofs.Limits.{limited-Err, limited-Ok}
use Rattle.j_definitions.proofs.Laws.{unit_weights, no_level}
use Rattle.j_definitions.specs.declared.Fault.{Fault}
use Rattle.j_definitions.specs.declared.Fault.TheVariants.{Limit}
use Rattle.j_definitions.specs.declared.Kind.TheVariants.{Number}
use Rattle.j_noun.specs.declared.refusal.Refusal.{Refusal}
use Rattle.j_noun.specs.Refused.{OrWanting}
use Rattle.j_places.specs.ItemPlaces.{reshaped, shape_of}

-- a run of what atoms are made of is a run of the atoms
pub run_map : {X : Type 0} (f : X → Atom) (xs run : List X) (start count : ℕ) → run ≡ take count (drop start xs) → map f run ≡ take count (drop start (map f xs))
run_map f xs run start count is = ap (map f) is ∙ sym (ap (take count) (drop-map f start xs) ∙ take-map f count (drop start xs))

pub bits_run : (xs run : List ℕ) (start count : ℕ) → run ≡ take count (drop start xs) → All (λ b. b < 2) xs → All (λ b. b < 2) run
bits_run xs run start count is h =
    subst (All (λ b. b < 2)) (sym is) (All-take (λ b. b < 2) count (drop start xs) (All-drop (λ b. b < 2) start xs h))

-- no axis of a noun is long
pub axis_few : (a : Array) (i d : ℕ) → IsNoun a → i < length a.shape → get_or a.shape i d ≤ 4194304
axis_few a i d noun h = noun.within.axes i d h

tally_of_axes : (s : List ℕ) → All (λ n. n ≤ 4194304) s → tally s ≤ 4194304
tally_of_axes [] h = omega arith
tally_of_axes (n ∷ s) h = All-head (λ n. n ≤ 4194304) n s h

pub tally_few : (a : Array) → IsNoun a → tally a.shape ≤ 4194304
tally_few a noun = tally_of_axes a.shape noun.within.axes

-- items of one size
pub items_many : (s : List ℕ) → tally s * item_size s ≡ product s
items_many [] = refl
items_many (n ∷ s) = refl

-- too long an axis, and too many axes
pub second_axis_beyond : (y : Array) (m n : ℕ) → 4194304 < n → limited (reshaped (m ∷ n ∷ []) y) ≡ Err Limit
second_axis_beyond y m n many = limited-Err (reshaped (m ∷ n ∷ []) y) (λ w. omega (arith, w.axes 1 0 (omega arith)))

pub rank_beyond : (y : Array) → 32 < 1 + length y.shape → limited (reshaped (1 ∷ y.shape) y) ≡ Err Limit
rank_beyond y many = limited-Err (reshaped (1 ∷ y.shape) y) (λ w. omega (arith, w.rank))

-- the shape is within the limits
map_twice : (s : List ℕ) → map number (map (λ n. pos n) s) ≡ map (λ n. number (pos n)) s
map_twice [] = refl
map_twice (n ∷ s) = ap (λ xs. number (pos n) ∷ xs) (map_twice s)

shape_within : (y : Array) → IsNoun y → IsWithin (length y.shape ∷ []) (map number (map (λ n. pos n) y.shape))
shape_within y noun =
    let ns = map (λ n. pos n) y.shape in
    let short : length y.shape ≤ 32 = noun.within.rank in
    record {
      rank = omega arith;
      axes = All-cons (λ n. n ≤ 4194304) (length y.shape) [] (omega arith) (All-nil (λ n. n ≤ 4194304));
      light = omega (arith, unit_weights number (λ z. refl) ns, length-map y.shape (λ n. pos n));
      shallow = omega (arith, no_level number (λ z. refl) ns);
    }

pub shape_is : (y : Array) (ns : List ℤ) (axes shape : List ℕ) (r : Result Array Refusal) → IsNoun y → axes ≡ y.shape → shape ≡ length axes ∷ [] → ns ≡ map (λ n. pos n) axes →
    OrWanting (limited (record { kind = Number; shape = shape; atoms = map number ns })) r → OrWanting (shape_of y) r
shape_is y ns axes shape r noun same one is h =
    let all : ns ≡ map (λ n. pos n) y.shape = is ∙ ap (map (λ n. pos n)) same in
    let axis : shape ≡ length y.shape ∷ [] = one ∙ ap (λ s. length s ∷ []) same in
    let made : limited (record { kind = Number; shape = shape; atoms = map number ns }) ≡ shape_of y =
    ap (λ s. limited (record { kind = Number; shape = s; atoms = map number ns })) axis
    ∙ ap (λ zs. limited (record { kind = Number; shape = length y.shape ∷ []; atoms = map number zs })) all
    ∙ limited-Ok (record { kind = Number; shape = length y.shape ∷ []; atoms = map number (map (λ n. pos n) y.shape) }) (shape_within y noun)
    ∙ ap (λ xs. let r : Result Array Fault = Ok (record { kind = Number; shape = length y.shape ∷ []; atoms = xs }) in r) (map_twice y.shape) in
    subst (λ (s : Result Array Fault). OrWanting s r) made h
