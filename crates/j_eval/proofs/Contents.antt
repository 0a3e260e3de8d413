-- Cells that are alone, gathered one after another.
use Rattle.std.proofs.Common.{◌≡◌, ◌+◌, ◌<◌, ◌≤◌, ◌++◌, ℕ, List, [], ◌∷◌, drop, take, length, map, Option, None, Result, refl, sym, ap, subst, ◌∙◌, arith}
use Prim.Native.Nat.{zero, suc}
use Rattle.std.specs.Option.{option_copied}
use Rattle.std.proofs.lemmas.List.{map-append, length-map, take_all}
use Rattle.std.specs.List.{All}
use Rattle.j_definitions.specs.Array.{Array, boxed, product, IsNoun}
use Rattle.j_definitions.specs.Limits.{limited}
use Rattle.j_entity.specs.Tree.{primitive, verb}
use Rattle.j_entity.specs.View.{operand_of}
use Rattle.j_leaves.specs.declared.primitive.Primitive.TheVariants.{Less}
use Rattle.j_verbs.specs.ByRank.{Cells, Source, on_pairs, pair, source}
use Rattle.j_noun.specs.declared.refusal.Refusal.{Refusal}
use Rattle.j_noun.specs.Refused.{OrWanting}
use Rattle.j_verbs.specs.State.{State, or_fault}
use Rattle.j_eval.specs.Applying.{Calls, does}
use Rattle.j_eval.specs.Boxing.{AreAlone, IsBoxing, alone_each}
use Rattle.j_eval.specs.EachCell.{on_each}
use Rattle.j_eval.specs.Halting.{halted}
use Rattle.j_eval.specs.Meets.{Running, Meets}
use Rattle.j_eval.specs.Pieces.{source_of_pieces}
use Rattle.j_eval.specs.Sources.{cells_at, source_of}
use Rattle.j_eval.specs.declared.by_rank.EachCell.{EachCell}
use Rattle.j_eval.specs.declared.by_rank.EachCell.TheVariants.{Cell, Does}
use Rattle.j_eval.specs.declared.sources.CellsFrom.{CellsFrom}
use Rattle.j_eval.specs.declared.sources.CellsFrom.TheVariants.{Arguments, Runs, Groups}
use Rattle.j_eval.proofs.Boxes.{boxes_each, boxes_in}
use Rattle.j_eval.proofs.Parts.{meets_answer}
use Rattle.j_eval.proofs.Taken.{cells_from, planned_many, pieces_many}

-- one cell more, in front of what is left
take_one : {X : Type 0} (xs rest : List X) (x : X) (k : ℕ) → drop k xs ≡ x ∷ rest → take (suc k) xs ≡ take k xs ++ x ∷ []
take_one [] rest x zero e = absurd (omega (arith, ap length e))
take_one [] rest x (suc k) e = absurd (omega (arith, ap length e))
take_one (y ∷ ys) rest x zero e = ap (take 1) e
take_one (y ∷ ys) rest x (suc k) e = ap (λ zs. y ∷ zs) (take_one ys rest x k e)

-- a cell that is alone has no left part
left_none : (x : Option Array) (y : Array) (p : _) (k : ℕ) → x ≡ None → (pair p x y k).0 ≡ None
left_none x y p k e = ap (λ (x : Option Array). (pair p x y k).0) e

alone_at : (cells : CellsFrom) (k : ℕ) → AreAlone cells → (cells_at cells k).0 ≡ None
alone_at (Arguments p x y) k alone = left_none (option_copied x) y.now p.now k alone
alone_at (Runs p) k alone = refl
alone_at (Groups p) k alone = refl

-- the cells so far, and one more
pub contents_more : (cells : CellsFrom) (k : ℕ) (ns bs : List Array) (c : Cells) → k < length (source_of cells).pairs → AreAlone cells → c ≡ cells_at cells k → bs ≡ ns ++ c.1 ∷ [] →
    take k (source_of cells).pairs ≡ alone_each ns → take (k + 1) (source_of cells).pairs ≡ alone_each bs
contents_more cells k ns bs c l alone is more before =
    let next : k + 1 ≡ suc k = omega arith in
    let left : c.0 ≡ None = ap (λ (c : Cells). c.0) is ∙ alone_at cells k alone in
    ap (λ n. take n (source_of cells).pairs) next
    ∙ take_one (source_of cells).pairs (drop (k + 1) (source_of cells).pairs) (cells_at cells k) k (cells_from cells k l)
    ∙ ap (λ (ps : List Cells). ps ++ cells_at cells k ∷ []) before
    ∙ ap (λ (c : Cells). alone_each ns ++ c ∷ []) (sym is)
    ∙ ap (λ (x : Option Array). let ps : List Cells = alone_each ns ++ (x, c.1) ∷ [] in ps) left
    ∙ sym (map-append {A = Array} {B = Cells} (λ a. (None, a)) ns (c.1 ∷ []))
    ∙ ap alone_each (sym more)

-- all of them
pub contents_all : (ps : List Cells) (ns : List Array) (k : ℕ) → length ps ≤ k → take k ps ≡ alone_each ns → ps ≡ alone_each ns
contents_all ps ns k l e = sym (take_all k ps l) ∙ e

-- there are as many cells as places in the frame
pub pairs_many : (cells : CellsFrom) → length (source_of cells).pairs ≡ product (source_of cells).frame
pairs_many (Arguments p x y) = planned_many p.now (option_copied x) y.now
pairs_many (Runs p) = omega (arith, pieces_many p.now)
pairs_many (Groups p) = omega (arith, pieces_many p.now)

pub alone_many : (ns : List Array) → length (alone_each ns) ≡ length ns
alone_many ns = length-map {A = Array} {B = Cells} ns (λ a. (None, a))

pub contents_many : (cells : CellsFrom) (ns : List Array) → (source_of cells).pairs ≡ alone_each ns → length ns ≡ product (source_of cells).frame
contents_many cells ns e = sym (alone_many ns) ∙ ap length (sym e) ∙ pairs_many cells

-- their boxes are as many
pub boxes_many : (cells : CellsFrom) (ns : List Array) → (source_of cells).pairs ≡ alone_each ns → length (map boxed ns) ≡ product (source_of cells).frame
boxes_many cells ns e = length-map ns boxed ∙ contents_many cells ns e

-- where `<` is what is done on each cell
pub boxing : (calls : Calls) (each : EachCell) (c : Source) (s : State) → IsBoxing each → on_pairs (does calls (verb (primitive Less))) c s ≡ on_pairs (on_each calls each) c s
boxing calls (Cell v) c s h = absurd h
boxing calls (Does u) c s h = ap (λ u. on_pairs (does calls u) c s) (sym h)

-- what a call that makes the noun of their boxes answers
pub boxes_meet : (calls : Calls) (each : EachCell) (cells : CellsFrom) (ns : List Array) (frame : List ℕ) (a : Result Array Refusal) (m : Running) (s : State) → IsBoxing each → (source_of cells).pairs ≡ alone_each ns → All IsNoun ns →
    0 < length (source_of cells).pairs → frame ≡ (source_of cells).frame → m.state ≡ s → OrWanting (limited (boxes_in frame (map boxed ns))) a → Meets (halted a) m (on_pairs (on_each calls each) (source_of cells) s)
boxes_meet calls each cells ns frame a m s h e nouns some same state made =
    let many : length (alone_each ns) ≡ length ns = alone_many ns in
    let as_many : length (source_of cells).pairs ≡ length ns = ap length e ∙ many in
    let given = boxes_each calls (source_of cells) ns s e nouns (omega (arith, some, as_many)) (contents_many cells ns e) in
    let whole : Array = boxes_in frame (map boxed ns) in
    subst (Meets (halted a) m)
    (ap (λ (f : List ℕ). or_fault (limited (boxes_in f (map boxed ns))) m.state) same ∙ ap (λ (t : State). or_fault (limited (boxes_in (source_of cells).frame (map boxed ns))) t) state ∙ sym given ∙ boxing calls each (source_of cells) s h)
    (meets_answer (limited whole) a m made)
