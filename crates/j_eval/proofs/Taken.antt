-- Cells that come from a plan or from pieces: how many there are, and each of them.
use Rattle.std.proofs.Common.{◌≡◌, ◌+◌, ◌<◌, ℕ, zero, suc, List, [], ◌∷◌, drop, get_or, length, map, Option, None, Result, Ok, Err, refl, sym, ap, subst, ◌∙◌, arith, add-one}
use Rattle.std.specs.Option.{option_copied}
use Rattle.std.specs.List.{range_with_len}
use Rattle.std.proofs.lemmas.List.{length-map}
use Rattle.std.proofs.lemmas.List.FromFn.{length-map-range_with_len}
use Rattle.j_definitions.specs.Array.{Array, product}
use Rattle.j_definitions.specs.declared.Fault.{Fault}
use Rattle.j_eval.specs.declared.outcome.Halt.{Halt}
use Rattle.j_eval.specs.Meets.{Running, Meets}
use Rattle.j_eval.specs.Pieces.{on_pieces, source_of_pieces}
use Rattle.j_eval.specs.Sources.{cells_at, source_of}
use Rattle.j_eval.specs.declared.sources.CellsFrom.{CellsFrom}
use Rattle.j_eval.specs.declared.sources.CellsFrom.TheVariants.{Arguments, Runs, Groups}
use Rattle.j_rank.specs.Plans.{Planned}
use Rattle.j_scans.specs.Pieced.{Pieced}
use Rattle.j_verbs.specs.ByRank.{Doing, Cells, pair, source}
use Rattle.j_verbs.specs.State.{State, Erred, then_do, or_fault}

-- the numbers from place k on begin with number k
range_from : {X : Type 0} (f : ℕ → X) (a n k : ℕ) → k < n → drop k (map f (range_with_len a n)) ≡ f (a + k) ∷ drop (suc k) (map f (range_with_len a n))
range_from f a zero k l = absurd (omega arith)
range_from f a (suc n) zero l = let e : a ≡ a + 0 = omega arith in ap (λ j. f j ∷ map f (range_with_len (a + 1) n)) e
range_from f a (suc n) (suc k) l = let e : a + 1 + k ≡ a + suc k = omega arith in range_from f (a + 1) n k (omega arith) ∙ ap (λ j. f j ∷ drop (suc k) (map f (range_with_len (a + 1) n))) e

-- the pieces from place k on begin with piece k
pieces_from : (ps : List Array) (d : Array) (k : ℕ) → k < length ps → drop k (map {A = Array} {B = Cells} (λ a. (None, a)) ps) ≡ (None, get_or ps k d) ∷ drop (suc k) (map (λ a. (None, a)) ps)
pieces_from [] d k l = absurd (omega arith)
pieces_from (a ∷ ps) d zero l = refl
pieces_from (a ∷ ps) d (suc k) l = pieces_from ps d k (omega arith)

planned_from : (p : Planned) (x : Option Array) (y : Array) (k : ℕ) → k < product p.agreed.frame → drop k (source p x y).pairs ≡ pair p x y k ∷ drop (suc k) (source p x y).pairs
planned_from p x y k l = let e : 0 + k ≡ k = omega arith in range_from (pair p x y) 0 (product p.agreed.frame) k l ∙ ap (λ j. pair p x y j ∷ drop (suc k) (source p x y).pairs) e

-- how many pairs a plan has, and how many cells pieces are
pub planned_many : (p : Planned) (x : Option Array) (y : Array) → length (source p x y).pairs ≡ product p.agreed.frame
planned_many p x y = length-map-range_with_len (pair p x y) 0 (product p.agreed.frame)

pub pieces_many : (p : Pieced) → length (source_of_pieces p).pairs ≡ length p.pieces
pieces_many p = length-map {A = Array} {B = Cells} p.pieces (λ a. (None, a))

-- the same of a number that is known
pub planned_count : (n : ℕ) (p : Planned) (x : Option Array) (y : Array) → n ≡ product p.agreed.frame → n ≡ length (source p x y).pairs
planned_count n p x y e = e ∙ sym (planned_many p x y)

pub pieces_count : (n : ℕ) (ps : List Array) → n ≡ length ps → n ≡ length (map {A = Array} {B = Cells} (λ a. (None, a)) ps)
pieces_count n ps e = e ∙ sym (length-map {A = Array} {B = Cells} ps (λ a. (None, a)))

pub frame_many : (p : Pieced) → product (source_of_pieces p).frame ≡ length p.pieces
frame_many p = omega arith

pieces_at_once : (p : Pieced) (k : ℕ) → k < length (source_of_pieces p).pairs → drop k (source_of_pieces p).pairs ≡ (None, get_or p.pieces k p.no_items) ∷ drop (k + 1) (source_of_pieces p).pairs
pieces_at_once p k l =
    let many = pieces_many p in
    pieces_from p.pieces p.no_items k (omega (arith, many)) ∙ ap (λ j. (None, get_or p.pieces k p.no_items) ∷ drop j (source_of_pieces p).pairs) (sym (add-one k))

-- the cells from place k on begin with cells k
pub cells_from : (cells : CellsFrom) (k : ℕ) → k < length (source_of cells).pairs → drop k (source_of cells).pairs ≡ cells_at cells k ∷ drop (k + 1) (source_of cells).pairs
cells_from (Arguments p x y) k l =
    let many = planned_many p.now (option_copied x) y.now in
    planned_from p.now (option_copied x) y.now k (omega (arith, many)) ∙ ap (λ j. pair p.now (option_copied x) y.now k ∷ drop j (source p.now (option_copied x) y.now).pairs) (sym (add-one k))
cells_from (Runs p) k l = pieces_at_once p.now k l
cells_from (Groups p) k l = pieces_at_once p.now k l

-- pieces that are made, and pieces that aren't
pub pieces_ok : (f : Doing) (r : Result Pieced Fault) (p : Pieced) (a : Result Array Halt) (m : Running) (s : State) → Ok p ≡ r → Meets a m (on_pieces f p s) → Meets a m (then_do (or_fault r s) (on_pieces f))
pieces_ok f r p a m s e h = subst (λ (r : Result Pieced Fault). Meets a m (then_do (or_fault r s) (on_pieces f))) e h

pub pieces_err : (f : Doing) (r : Result Pieced Fault) (e : Fault) (s : State) → Err e ≡ r → then_do (or_fault r s) (on_pieces f) ≡ Erred e s
pieces_err f r e s h = ap (λ (r : Result Pieced Fault). then_do (or_fault r s) (on_pieces f)) (sym h)
