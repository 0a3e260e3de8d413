-- Items in ascending and in descending order.
use Rattle.std.specs.Prelude.{ℕ, pos, Bool, true, false, ◌&&◌, nat_eq, nat_lt, not, cond, List, [], ◌∷◌, length, map, Result, Ok, Err}
use Rattle.std.specs.List.{count_by}
use Rattle.std.specs.declared.cmp.Ordering.{Ordering}
use Rattle.std.specs.declared.cmp.Ordering.TheVariants.{Less, Equal, Greater}
use Rattle.j_definitions.specs.Array.{Array, number, tally}
use Rattle.j_definitions.specs.Items.{items_cmp}
use Rattle.j_definitions.specs.Limits.{limited}
use Rattle.j_definitions.specs.declared.Kind.{Kind}
use Rattle.j_definitions.specs.declared.Kind.TheVariants.{Number, Character, Boxed}
use Rattle.j_definitions.specs.declared.Fault.{Fault}
use Rattle.j_definitions.specs.declared.Fault.TheVariants.{Nonce, Index}
use Rattle.j_search.specs.declared.order.Direction.{Direction}
use Rattle.j_search.specs.declared.order.Direction.TheVariants.{Up, Down}
use Rattle.j_search.specs.Matching.{places, first_of, items_at}

-- item i is less, or equal and earlier
abbrev pub less_or_earlier : Ordering → ℕ → ℕ → Bool
less_or_earlier Less i j = true
less_or_earlier Equal i j = nat_lt i j
less_or_earlier Greater i j = false

-- item i comes before item j
abbrev pub comes_before : Direction → Array → ℕ → ℕ → Bool
comes_before Up a i j = less_or_earlier (items_cmp a i j) i j
comes_before Down a i j = less_or_earlier (items_cmp a j i) i j

-- the places below n in the order of a test: place r of them is that before which r others come
abbrev pub ranked : (ℕ → ℕ → Bool) → ℕ → List ℕ
ranked comes n = map (λ r. first_of (λ j. nat_eq (count_by (λ i. comes i j) (places n)) r) n) (places n)

-- the places of the items in order, equal ones in theirs
abbrev pub ordered : Direction → Array → List ℕ
ordered d a = ranked (comes_before d a) (tally a.shape)

abbrev pub is_boxed : Kind → Bool
is_boxed Number = false
is_boxed Character = false
is_boxed Boxed = true

-- boxes are not ordered, unless there are none
abbrev pub has_boxes : Array → Bool
has_boxes a = is_boxed a.kind && not (nat_eq (length a.atoms) 0)

abbrev pub grade : Direction → Array → Result Array Fault
grade d a =
    cond (has_boxes a) (Err Nonce)
    (limited (record { kind = Number; shape = tally a.shape ∷ []; atoms = map (λ k. number (pos k)) (ordered d a) }))

-- no places select an item of fills, and where x has no items the number 0 stands for it
abbrev pub selected : Array → List ℕ → Result Array Fault
selected x ks = cond (nat_eq (tally x.shape) 0) (Ok (record { kind = Number; shape = 0 ∷ []; atoms = [] })) (limited (items_at x ks))

-- the items of x in the order of the items of y
abbrev pub sort : Direction → Array → Array → Result Array Fault
sort d x y =
    cond (has_boxes y) (Err Nonce)
    (cond (nat_lt (tally x.shape) (tally y.shape)) (Err Index)
    (selected x (ordered d y)))
