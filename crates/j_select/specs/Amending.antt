-- `x (m}) y`: y with the atoms of x, over and over, at the places that `m { y` takes.
use Rattle.std.specs.Prelude.{ℕ, suc, pos, ◌%◌, Bool, ◌==◌, nat_lt, nat_eq, cond, List, [], ◌∷◌, ◌++◌, length, drop, map, get_or, Option, Some, None, Result, Ok, Err}
use Rattle.std.specs.List.{flat_map, range_with_len, ends_with}
use Rattle.j_definitions.specs.Array.{Array, Atom, number, byte, nested, opened, atoms_in, product, tally}
use Rattle.j_definitions.specs.Cells.{in_order}
use Rattle.j_definitions.specs.Limits.{limited}
use Rattle.j_definitions.specs.declared.Kind.{Kind}
use Rattle.j_definitions.specs.declared.Kind.TheVariants.{Number, Character, Boxed}
use Rattle.j_definitions.specs.declared.Fault.{Fault}
use Rattle.j_definitions.specs.declared.Fault.TheVariants.{Domain, Length, Nonce}
use Rattle.j_rank.specs.Assembly.{common_shape, assemble, joined_kind}
use Rattle.j_indices.specs.Indexing.{index_fault, from_at, from_list}
use Rattle.j_indices.specs.Numbers.{whole_numbers, magnitudes, and_then}

-- the places of a shape as a noun: 1, 2, ..
abbrev pub all_places : List ℕ → Array
all_places s = record { kind = Number; shape = s; atoms = map (λ k. number (pos (suc k))) (range_with_len 0 (product s)) }

-- a shape alone
abbrev pub outline : List ℕ → Array
outline s = record { kind = Number; shape = s; atoms = [] }

-- the axes of what index nouns take, whatever their numbers, or what is wrong with them
abbrev pub outlined : Option Fault → List ℕ → Result Array Fault
outlined (Some e) s = Err e
outlined None s = limited (outline s)

abbrev pub outline_along : ℕ → List Array → List ℕ → Result Array Fault
outline_along rank nouns s = outlined (index_fault rank nouns s) (flat_map (λ a. a.shape) nouns ++ drop (length nouns) s)

-- the axes of what one index takes of a noun of shape s
abbrev pub outline_at : List ℕ → Atom → Result Array Fault
outline_at s (number z) = Ok (outline (drop 1 s))
outline_at s (byte b) = Err Domain
outline_at s (nested k t r) = outline_along (length t) (map opened (atoms_in r)) s

-- what an index of fills takes: item 0 or else the number 0, for a character the number 0, for a box the whole
abbrev pub axes_of_fill : Kind → List ℕ → List ℕ
axes_of_fill Number s = cond (nat_lt 0 (tally s)) (drop 1 s) []
axes_of_fill Character s = []
axes_of_fill Boxed s = s

-- the axes of `m { y` behind those of m, whether the indices are within or not
abbrev pub axes_taken : Kind → List Atom → List ℕ → Result (List ℕ) Fault
axes_taken k [] s = Ok (axes_of_fill k s)
axes_taken Number (a ∷ atoms) s = Ok (drop 1 s)
axes_taken Character (a ∷ atoms) s = Err Domain
axes_taken Boxed (a ∷ atoms) s = and_then (in_order (map (outline_at s) (a ∷ atoms))) (λ cells. Ok (common_shape cells))

-- `m { y`: numbers take items; boxes take what each does, assembled
abbrev pub taken : Kind → List Atom → List ℕ → Array → Result Array Fault
taken k [] t y = limited (outline (t ++ axes_of_fill k y.shape))
taken Number (a ∷ atoms) t y = from_list (record { kind = Number; shape = t; atoms = a ∷ atoms }) y
taken Character (a ∷ atoms) t y = Err Domain
taken Boxed (a ∷ atoms) t y = and_then (in_order (map (λ b. from_at b y) (a ∷ atoms))) (assemble t)

-- the places that `m { y` takes of a noun of shape s, in order; a 0 fills and is no place
abbrev pub places_taken : Array → List ℕ → Result (List ℕ) Fault
places_taken m s = and_then (taken m.kind m.atoms m.shape (all_places s)) (λ (p : Array). and_then (whole_numbers p.atoms) (λ zs. Ok (magnitudes zs)))

abbrev pub later : Option ℕ → Bool → Option ℕ
later (Some k) b = Some (suc k)
later None b = cond b (Some 0) None

-- where a place stands last
abbrev pub last_at : ℕ → List ℕ → Option ℕ
last_at p [] = None
last_at p (q ∷ places) = later (last_at p places) (nat_eq p q)

-- y, or x's element for place k of those taken, where x is repeated over them
abbrev pub placed : {X : Type 0} → List X → X → Option ℕ → X
placed xs y None = y
placed xs y (Some k) = get_or xs (k % length xs) y

-- the elements from place p on, later places win
abbrev pub amended_from : {X : Type 0} → ℕ → List X → List ℕ → List X → List X
amended_from p xs places [] = []
amended_from p xs places (y ∷ ys) = placed xs y (last_at p places) ∷ amended_from (suc p) xs places ys

abbrev pub amended : Kind → Array → Array → List ℕ → Array
amended k x y places = record { kind = k; shape = y.shape; atoms = amended_from 1 x.atoms places y.atoms }

-- `nonce error` comes before kinds that don't join, which come before the other faults of m
abbrev pub kinds_among : Option Kind → Fault → Fault
kinds_among (Some k) e = e
kinds_among None Nonce = Nonce
kinds_among None e = Domain

-- x's shape ends the shape of `m { y`, or it is `length error`, which comes before `index error`
abbrev pub amend_along : Kind → List ℕ → Array → Array → Array → Result Array Fault
amend_along k axes m x y = cond (ends_with ◌==◌ (m.shape ++ axes) x.shape) (and_then (places_taken m y.shape) (λ places. limited (amended k x y places))) (Err Length)

abbrev pub amend_as : Option Kind → Result (List ℕ) Fault → Array → Array → Array → Result Array Fault
amend_as j (Err e) m x y = Err (kinds_among j e)
amend_as (Some k) (Ok axes) m x y = amend_along k axes m x y
amend_as None (Ok axes) m x y = Err Domain

-- `x (m}) y`
abbrev pub amend : Array → Array → Array → Result Array Fault
amend m x y = amend_as (joined_kind (y ∷ x ∷ [])) (axes_taken m.kind m.atoms y.shape) m x y
