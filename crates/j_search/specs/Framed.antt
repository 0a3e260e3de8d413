-- Frames that are looked up.
use Rattle.std.specs.Prelude.{◌≡◌, ◌≤◌, ℕ, ℤ, pos, List, length, map, take}
use Rattle.j_definitions.specs.Array.{Array, product, arrays_match}
use Rattle.j_rank.specs.Cells.{cell}
use Rattle.j_search.specs.declared.frames.Frame.{Frame}
use Rattle.j_search.specs.declared.seeking.Side.{Side}
use Rattle.j_search.specs.Matching.{places}
use Rattle.j_search.specs.Sought.{place_of}

-- a frame of a noun of that shape
pub record IsFrame (shape : List ℕ) (f : Frame) : Type 0 where
  pub axes : f.axes ≤ length shape
  pub count : f.count ≡ product (take f.axes shape)
  pub few : f.count ≤ 4194304

-- the place of each cell of y among the cells of x
abbrev pub cell_places : Side → Array → Frame → Array → Frame → List ℤ
cell_places side x f y g = map (λ k. pos (place_of side (λ j. arrays_match (cell f.axes x j) (cell g.axes y k)) f.count)) (places g.count)
