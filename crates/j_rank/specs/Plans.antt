-- Plans: which cells of a verb's arguments meet.
use Rattle.std.specs.Prelude.{◌≡◌, ℕ, ◌≤◌, ◌<◌, nat_le, cond, List, length, take, drop, Option, Some, None, Result, Ok, Err}
use Rattle.j_definitions.specs.Array.{product}
use Rattle.j_definitions.specs.Cells.{Agreed, agree}
use Rattle.j_definitions.specs.declared.Fault.{Fault}
use Rattle.j_definitions.specs.declared.Fault.TheVariants.{Length, Limit}
use Rattle.j_noun.specs.declared.ranks.Rank.{Rank}
use Rattle.j_rank.specs.Cells.{frame_axes, frame_of}

-- how many axes of the left and of the right argument are its frame, and how the two frames agree
pub record Planned : Type 0 where
  pub left : ℕ
  pub right : ℕ
  pub agreed : Agreed

-- `length error` where the frames don't agree, and `limit error` where there are too many cells
abbrev pub plan_of : ℕ → ℕ → Option Agreed → Result Planned Fault
plan_of m n None = Err Length
plan_of m n (Some a) = cond (nat_le (product a.frame) 4194304) (Ok (record { left = m; right = n; agreed = a })) (Err Limit)

abbrev pub dyad_plan : Rank → Rank → List ℕ → List ℕ → Result Planned Fault
dyad_plan l r s t = plan_of (frame_axes l (length s)) (frame_axes r (length t)) (agree (frame_of l s) (frame_of r t))

-- a monad is planned as a dyad whose left argument is one cell
abbrev pub monad_plan : Rank → List ℕ → Result Planned Fault
monad_plan r t = plan_of 0 (frame_axes r (length t)) (Some (record { frame = frame_of r t; left = product (frame_of r t); right = 1 }))

-- a noun of that shape has the cells of a side of a plan, where n axes are its frame
pub record HasCells (n : ℕ) (frame shape : List ℕ) : Type 0 where
  pub enough : n ≤ length shape
  pub same : take n shape ≡ take n frame

-- the plan that the code keeps: a frame, and how many of its axes are the left and the right frame
abbrev pub planned : List ℕ → ℕ → ℕ → Planned
planned f m n = record { left = m; right = n; agreed = record { frame = f; left = product (drop m f); right = product (drop n f) } }

-- so many pairs in a row share a cell whose frame has n axes
pub record Repeats (f : List ℕ) (n times : ℕ) : Type 0 where
  pub own : n ≤ length f
  pub run : 0 < product f → times ≡ product (drop n f)

pub record IsPlan (f : List ℕ) (count m left n right : ℕ) : Type 0 where
  pub all : count ≡ product f
  pub few : count ≤ 4194304
  pub of_left : Repeats f m left
  pub of_right : Repeats f n right
