-- What boxes take, and its axes.
use Rattle.std.proofs.Common.{◌≡◌, ◌<◌, ◌≤◌, ℕ, max, List, [], ◌∷◌, length, map, get_or, replicate, arith, refl, sym, ap, ◌∙◌, Result, Ok, Err}
use Rattle.std.specs.List.{All, fold}
use Rattle.j_definitions.specs.Array.{Array, Atom, boxed, opened}
use Rattle.j_definitions.specs.Cells.{in_order}
use Rattle.j_definitions.specs.Limits.{limited}
use Rattle.j_definitions.proofs.Limits.{limited-Ok}
use Rattle.j_definitions.proofs.Laws.{opened-boxed}
use Rattle.j_definitions.specs.declared.Kind.{Kind}
use Rattle.j_definitions.specs.declared.Kind.TheVariants.{Boxed}
use Rattle.j_definitions.specs.declared.Fault.{Fault}
use Rattle.j_noun.specs.declared.refusal.Refusal.{Refusal}
use Rattle.j_noun.specs.declared.refusal.Refusal.TheVariants.{Fault as RefusedFault, NoMemory}
use Rattle.j_noun.specs.Refused.{OrWantingAs}
use Rattle.j_rank.specs.Assembly.{with_rank, greater_axes, greatest_axes, greatest_rank, common_shape, assemble}
use Rattle.j_indices.specs.Numbers.{and_then}
use Rattle.j_indices.specs.Indexing.{along_axes, from_at}
use Rattle.j_select.specs.Amending.{outline, outline_along, outline_at, axes_taken, taken}
use Rattle.j_indices.proofs.Indices.{GivesFirst, gives_fault}

abbrev pub shape_of_cells : List Array → Result (List ℕ) Fault
shape_of_cells cells = Ok (common_shape cells)

-- what the noun in a box takes, and its axes
pub box_again : (b : Array) (s : List ℕ) → outline_at s (boxed b) ≡ outline_along (length b.shape) (map opened b.atoms) s
box_again b s = ap (λ (w : Array). outline_along (length b.shape) (map opened w.atoms) s) (opened-boxed b)

pub cell_again : (b y : Array) → from_at (boxed b) y ≡ along_axes (length b.shape) (map opened b.atoms) y
cell_again b y = ap (λ (w : Array). along_axes (length b.shape) (map opened w.atoms) y) (opened-boxed b)

-- a call that was refused for one of a list
pub gives_refused : {X C V W : Type 0} (g : V → List C) (h : W → C) (f : X → Result C Fault) (xs : List X) (i : ℕ) (x : X) (vs : List C) (said : Result C Fault) (e : Refusal) → i < length xs → x ≡ get_or xs i x → f x ≡ said →
    GivesFirst f xs i vs → OrWantingAs {B = W} h said (Err e) → OrWantingAs {B = V} g (in_order (map f xs)) (Err e)
gives_refused g h f xs i x vs said NoMemory less is at before wanting = tt
gives_refused g h f xs i x vs said (RefusedFault e) less is at before fault = gives_fault f xs i x e vs less is (at ∙ fault) before

pub axes_of_boxes : (k : Kind) (atoms : List Atom) (s : List ℕ) (v : List Array) → Boxed ≡ k → map boxed v ≡ atoms → 0 < length v → axes_taken k atoms s ≡ and_then (in_order (map (outline_at s) (map boxed v))) shape_of_cells
axes_of_boxes k atoms s [] ek ea some = absurd (omega arith)
axes_of_boxes k atoms s (b ∷ v) ek ea some = ap (λ (j : Kind). axes_taken j atoms s) (sym ek) ∙ ap (λ (xs : List Atom). axes_taken Boxed xs s) (sym ea)

pub taken_of_boxes : (k : Kind) (atoms : List Atom) (t : List ℕ) (y : Array) (v : List Array) → Boxed ≡ k → map boxed v ≡ atoms → 0 < length v → taken k atoms t y ≡ and_then (in_order (map (λ b. from_at b y) (map boxed v))) (assemble t)
taken_of_boxes k atoms t y [] ek ea some = absurd (omega arith)
taken_of_boxes k atoms t y (b ∷ v) ek ea some = ap (λ (j : Kind). taken j atoms t y) (sym ek) ∙ ap (λ (xs : List Atom). taken Boxed xs t y) (sym ea)

-- the common shape goes by shapes alone
fold_map : {X Y Z : Type 0} (f : Z → Y → Z) (g : X → Y) (z : Z) (xs : List X) → fold f z (map g xs) ≡ fold (λ w x. f w (g x)) z xs
fold_map f g z [] = refl
fold_map f g z (x ∷ xs) = fold_map f g (f z (g x)) xs

abbrev pub alone : Array → Array
alone b = outline b.shape

pub common_alone : (xs : List Array) → common_shape (map alone xs) ≡ common_shape xs
common_alone xs =
    ap (λ n. greatest_axes n (map alone xs)) (fold_map (λ (n : ℕ) (a : Array). max n (length a.shape)) alone 0 xs)
    ∙ fold_map (λ (s : List ℕ) (a : Array). greater_axes s (with_rank (greatest_rank xs) a.shape)) alone (replicate (greatest_rank xs) 0) xs

pub outline_within : (s shape : List ℕ) → shape ≡ s → length shape ≤ 32 → All (λ n. n ≤ 4194304) shape → limited (outline s) ≡ Ok (outline shape)
outline_within s shape e rank axes =
    ap (λ (t : List ℕ). limited (outline t)) (sym e) ∙ limited-Ok (outline shape) (record { rank = rank; axes = axes; light = omega arith; shallow = omega arith })
