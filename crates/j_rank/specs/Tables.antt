-- The shapes that frames and cells are tabled for, and names of what the tables hold.
use Rattle.std.specs.Prelude.{ℕ, List, [], ◌∷◌, length, map, Result, Ok, Err}
use Rattle.j_definitions.specs.declared.Fault.{Fault}
use Rattle.j_definitions.specs.declared.Fault.TheVariants.{Length}
use Rattle.j_noun.specs.declared.ranks.Rank.{Rank}
use Rattle.j_rank.specs.Cells.{frame_axes, cell, cell_of_fills}
use Rattle.j_rank.specs.Plans.{Planned, monad_plan, dyad_plan}
use Rattle.j_rank.specs.Rows.{numbers_in}

-- seven entries, and seven rows of them
abbrev pub row : {X : Type 0} → X → X → X → X → X → X → X → List X
row a b c d e f g = a ∷ b ∷ c ∷ d ∷ e ∷ f ∷ g ∷ []

-- shapes, by the lengths of their axes
abbrev pub s : List ℕ
s = []

abbrev pub s0 : List ℕ
s0 = 0 ∷ []

abbrev pub s2 : List ℕ
s2 = 2 ∷ []

abbrev pub s3 : List ℕ
s3 = 3 ∷ []

abbrev pub s4 : List ℕ
s4 = 4 ∷ []

abbrev pub s03 : List ℕ
s03 = 0 ∷ 3 ∷ []

abbrev pub s23 : List ℕ
s23 = 2 ∷ 3 ∷ []

abbrev pub s30 : List ℕ
s30 = 3 ∷ 0 ∷ []

abbrev pub s34 : List ℕ
s34 = 3 ∷ 4 ∷ []

abbrev pub s234 : List ℕ
s234 = 2 ∷ 3 ∷ 4 ∷ []

-- frames that are planned, and `length error`
abbrev pub f : Result (List ℕ) Fault
f = Ok s

abbrev pub f0 : Result (List ℕ) Fault
f0 = Ok s0

abbrev pub f2 : Result (List ℕ) Fault
f2 = Ok s2

abbrev pub f3 : Result (List ℕ) Fault
f3 = Ok s3

abbrev pub f03 : Result (List ℕ) Fault
f03 = Ok s03

abbrev pub f23 : Result (List ℕ) Fault
f23 = Ok s23

abbrev pub f30 : Result (List ℕ) Fault
f30 = Ok s30

abbrev pub f234 : Result (List ℕ) Fault
f234 = Ok s234

abbrev pub no : Result (List ℕ) Fault
no = Err Length

-- the shapes of the arguments
abbrev pub shapes : List (List ℕ)
shapes = row s s3 s23 s234 s0 s03 s30

abbrev pub planned_frame : Result Planned Fault → Result (List ℕ) Fault
planned_frame (Ok p) = Ok p.agreed.frame
planned_frame (Err e) = Err e

-- the frame of an argument of each shape
abbrev pub frames : Rank → List (Result (List ℕ) Fault)
frames r = map (λ t. planned_frame (monad_plan r t)) shapes

-- the shape of its cells, and of the cell of fills
abbrev pub cells : Rank → List (List ℕ)
cells r = map (λ t. (cell (frame_axes r (length t)) (numbers_in t []) 0).shape) shapes

abbrev pub cells_of_fills : Rank → List (List ℕ)
cells_of_fills r = map (λ t. (cell_of_fills (frame_axes r (length t)) (numbers_in t [])).shape) shapes

-- the agreed frame of a left argument of each shape, a row each, and a right one of each
abbrev pub agreed : Rank → Rank → List (List (Result (List ℕ) Fault))
agreed l r = map (λ t. map (λ u. planned_frame (dyad_plan l r t u)) shapes) shapes
