-- The places of an axis as the code keeps them, for the crate's own functions.
use Rattle.std.specs.Prelude.{ℕ, ℤ, ◌+◌, ◌*◌, ◌≤◌, nat_eq, cond, Result, Ok, Err, List, [], ◌∷◌, ◌++◌, map, take, drop, replicate, Option, Some, None}
use Rattle.std.specs.List.{range_with_len}
use Rattle.j_definitions.specs.Array.{product}
use Rattle.j_definitions.specs.declared.Fault.{Fault}
use Rattle.j_definitions.specs.declared.Fault.TheVariants.{Domain}
use Rattle.j_places.specs.AxisPlaces.{kept_shape, kept_atoms, at_place}
use Rattle.j_places.specs.declared.axis.Axis.{Axis}

-- fills, a run of items, a run of items from the first on, and fills
abbrev pub places_of : Axis → List (Option ℕ)
places_of a = replicate a.before None ++ (map Some (range_with_len a.start a.count) ++ (map Some (range_with_len 0 a.wrapped) ++ replicate a.after None))

-- the runs are within the axis, and not too many places are kept
pub record IsAxis (a : Axis) : Type 0 where
  pub run : a.start + a.count ≤ a.extent
  pub wrap : a.wrapped ≤ a.extent
  pub few : a.before + a.count + a.wrapped + a.after ≤ 9223372036854775808

-- the lengths of axes, and how many elements stand at one place of them all
abbrev pub extents : List Axis → ℕ → List ℕ
extents axes unit = map (λ a. a.extent) axes ++ unit ∷ []

-- what is kept of the item at a place, or fills
abbrev pub item_kept : {X : Type 0} → X → List Axis → ℕ → List X → Option ℕ → List X
item_kept z inner unit xs p =
    at_place (λ k. kept_atoms z (map places_of inner) (extents inner unit) (take (product (extents inner unit)) (drop (k * product (extents inner unit)) xs)))
    (replicate (product (kept_shape (map places_of inner) (extents inner unit))) z) p

-- no numbers, or `domain error` where there are so many atoms of another kind
abbrev pub none_of : ℕ → Result (List ℤ) Fault
none_of count = cond (nat_eq count 0) (Ok []) (Err Domain)
