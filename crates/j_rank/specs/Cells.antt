-- The cells of a noun: which axes are their frame, and what each cell is.
use Rattle.std.specs.Prelude.{ℕ, ◌+◌, ◌-◌, pos, negsuc, min, List, length, take, drop, replicate}
use Rattle.j_definitions.specs.Array.{Array, product, fill_atom}
use Rattle.j_definitions.specs.Items.{part}
use Rattle.j_noun.specs.declared.ranks.Rank.{Rank}
use Rattle.j_noun.specs.declared.ranks.Rank.TheVariants.{Number, Infinite}

-- how many of n axes a verb's rank leaves to the frame: all but the last r, the first k where the rank is _k, and none where it is infinite
abbrev pub frame_axes : Rank → ℕ → ℕ
frame_axes (Number (pos r)) n = n - r
frame_axes (Number (negsuc k)) n = min (k + 1) n
frame_axes Infinite n = 0

abbrev pub frame_of : Rank → List ℕ → List ℕ
frame_of r s = take (frame_axes r (length s)) s

-- how many atoms a cell has, where n axes are the frame
abbrev pub cell_size : ℕ → List ℕ → ℕ
cell_size n s = product (drop n s)

-- cell k, where n axes are the frame: the kind, the last axes, and the atoms of its place in order
abbrev pub cell : ℕ → Array → ℕ → Array
cell n a k = record { kind = a.kind; shape = drop n a.shape; atoms = part (cell_size n a.shape) a.atoms k }

-- the cell of fills
abbrev pub cell_of_fills : ℕ → Array → Array
cell_of_fills n a = record { kind = a.kind; shape = drop n a.shape; atoms = replicate (cell_size n a.shape) (fill_atom a.kind) }
