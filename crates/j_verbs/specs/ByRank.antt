-- A verb applied to the cells of its arguments, by its ranks.
use Rattle.std.specs.Prelude.{◌≡◌, ℕ, ◌/◌, List, [], ◌∷◌, map, Option, Some, None, Result, Ok, Err, pos}
use Rattle.std.specs.List.{range_with_len}
use Rattle.j_definitions.specs.Array.{Array, number, atom_array, product}
use Rattle.j_definitions.specs.declared.Fault.{Fault}
use Rattle.j_definitions.specs.declared.Kind.TheVariants.{Number}
use Rattle.j_leaves.specs.declared.ranks.Ranks.{Ranks}
use Rattle.j_definitions.specs.Limits.{limited}
use Rattle.j_rank.specs.Assembly.{assemble}
use Rattle.j_rank.specs.Cells.{cell, cell_of_fills}
use Rattle.j_rank.specs.Plans.{Planned, HasCells, monad_plan, dyad_plan, planned}
use Rattle.j_verbs.specs.State.{Run, ◌>>=◌, pure, fail, or_fault, or_else}

-- what is done with the left argument, if there is one, and the right one
abbrev pub Doing : Type 0
Doing = Option Array → Array → Run Array

-- a pair of cells, or a cell alone
abbrev pub Cells : Type 0
Cells = Option Array × Array

-- Where cells come from: a frame, its pairs of cells in order, and the cells of fills, which stand for a pair where there is none, or their fault.
pub record Source : Type 0 where
  pub frame : List ℕ
  pub pairs : List Cells
  pub fills : Result Cells Fault

abbrev pub on_pair : Doing → Cells → Run Array
on_pair f c = f c.0 c.1

-- the results in order, up to the first fault
abbrev pub over_pairs : Doing → List Cells → Run (List Array)
over_pairs f [] = pure []
over_pairs f (c ∷ cs) = do
  r ← on_pair f c
  rs ← over_pairs f cs
  pure (r ∷ rs)

-- the noun of the results
abbrev pub on_pairs : Doing → Source → Run Array
on_pairs f c = do
  rs ← over_pairs f c.pairs
  or_fault (assemble c.frame rs)

-- what the cells of fills give
abbrev pub fill_result : Doing → Source → Run Array
fill_result f c = or_fault c.fills >>= on_pair f

abbrev pub zero_atom : Array
zero_atom = atom_array Number (number (pos 0))

-- the noun of no results: where the cells of fills err, the number 0 is their result
abbrev pub on_fills : Doing → Source → Run Array
on_fills f c = do
  r ← or_else (fill_result f c) (pure zero_atom)
  or_fault (assemble c.frame (r ∷ []))

abbrev pub by_pairs : List Cells → Doing → Source → Run Array
by_pairs [] f c = on_fills f c
by_pairs (p ∷ ps) f c = on_pairs f c

-- what is done on each pair, as one noun
abbrev pub by_source : Doing → Source → Run Array
by_source f c = by_pairs c.pairs f c

-- which cells meet, by the ranks
abbrev pub planned_for : Ranks → Option Array → Array → Result Planned Fault
planned_for r None y = monad_plan r.monad y.shape
planned_for r (Some x) y = dyad_plan r.left r.right x.shape y.shape

-- the cells that meet at place k of the frame
abbrev pub pair : Planned → Option Array → Array → ℕ → Cells
pair p None y k = (None, cell p.right y (k / p.agreed.right))
pair p (Some x) y k = (Some (cell p.left x (k / p.agreed.left)), cell p.right y (k / p.agreed.right))

abbrev pub with_right : Option Array → Result Array Fault → Result Cells Fault
with_right a (Ok b) = Ok (a, b)
with_right a (Err e) = Err e

abbrev pub with_left : Result Array Fault → Result Array Fault → Result Cells Fault
with_left (Ok a) b = with_right (Some a) b
with_left (Err e) b = Err e

-- the cells of fills, or `limit error`
abbrev pub fills : Planned → Option Array → Array → Result Cells Fault
fills p None y = with_right None (limited (cell_of_fills p.right y))
fills p (Some x) y = with_left (limited (cell_of_fills p.left x)) (limited (cell_of_fills p.right y))

-- the cells that a plan takes of the arguments
abbrev pub source : Planned → Option Array → Array → Source
source p x y = record { frame = p.agreed.frame; pairs = map (pair p x y) (range_with_len 0 (product p.agreed.frame)); fills = fills p x y }

abbrev pub by_plan : Result Planned Fault → Doing → Doing
by_plan (Err e) f x y = fail e
by_plan (Ok p) f x y = by_source f (source p x y)

-- the verb of these ranks whose meaning on cells is f
unfoldable pub by_ranks : Ranks → Doing → Doing
by_ranks r f x y = by_plan (planned_for r x y) f x y

-- the arguments have the cells of a plan
abbrev pub HasPairs : Planned → Option Array → Array → Type 0
HasPairs p None y = HasCells p.right p.agreed.frame y.shape
HasPairs p (Some x) y = HasCells p.left p.agreed.frame x.shape × HasCells p.right p.agreed.frame y.shape

-- The frame has no axes, so the arguments themselves are its one cell.
pub record IsWhole (r : Ranks) (x : Option Array) (y : Array) : Type 0 where
  pub plan : planned_for r x y ≡ Ok (planned [] 0 0)
  pub one : pair (planned [] 0 0) x y 0 ≡ (x, y)
