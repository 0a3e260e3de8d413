use Rattle.std.proofs.Common.{◌≡◌, ◌<◌, ◌∷◌, [], ◌∙◌, ap, sym, subst, arith, length, map, take, ℕ, List, Result, Ok}
use Rattle.std.specs.List.{All}
use Rattle.std.proofs.lemmas.List.{length-map}
use Rattle.j_definitions.specs.Array.{Array, product}
use Rattle.j_definitions.specs.Limits.{limited}
use Rattle.j_definitions.specs.declared.Fault.{Fault}
use Rattle.j_noun.specs.Refused.{OrWanting}
use Rattle.j_indices.specs.Numbers.{magnitudes, and_then}
use Rattle.j_indices.specs.Selecting.{serving, paired, pairs_copied, copied, copied_by, cells_at}
use Rattle.j_indices.proofs.Copies.{copies_within, copied_many, copied_beyond}
use Rattle.j_indices.proofs.copying.copy_by.Goals as goal

abbrev by_counts : List ℕ → Array → Result (List ℕ) Fault → Result Array Fault
by_counts s y r = and_then r (λ ns. copied_by s ns y)

abbrev by_pairs : List ℕ → List ℕ → Array → Result ℕ Fault → Result Array Fault
by_pairs s ns y r = and_then r (λ n. limited (copied s ns y n))

pub returns-then-total-gt-CELL_LIMIT : goal.returns-then-total-gt-CELL_LIMIT
returns-then-total-gt-CELL_LIMIT g c =
    let ns : List ℕ = magnitudes (map g.N.Whole.value c.args.counts.now) in
    let pairs : paired c.args.axes.now c.args.y.now.shape ≡ Ok c.in-Some-paired.pairs = ap (paired c.args.axes.now) (sym c.axes.ensures.value) ∙ c.in-Some-paired.ensures in
    ap (by_counts c.args.axes.now c.args.y.now) c.in-Some.ensures.counted ∙ ap (by_pairs c.args.axes.now ns c.args.y.now) pairs
    ∙ copied_beyond c.args.axes.now ns c.in-Some-paired.pairs c.total_served-total.result c.args.y.now c.total_served-total.ensures c.if-total-gt-CELL_LIMIT.true

pub cells_at-requires-clause-frame : goal.cells_at-requires-clause-frame
cells_at-requires-clause-frame g c =
    let ns : List ℕ = magnitudes (map g.N.Whole.value c.args.counts.now) in
    let ks : List ℕ = pairs_copied c.args.axes.now ns c.in-Some-paired.pairs in
    let total = copied_many c.args.axes.now ns c.in-Some-paired.pairs c.total_served-total.result c.total_served-total.ensures c.if-total-gt-CELL_LIMIT.false in
    omega (arith, ap product c.shape_of.ensures, ap length c.deref.ensures.value, ap length c.in_ok-places.ensures, length-map ks (serving c.axes-2.result.now), total)

pub cells_at-requires-clause-within : goal.cells_at-requires-clause-within
cells_at-requires-clause-within g c =
    let ns : List ℕ = magnitudes (map g.N.Whole.value c.args.counts.now) in
    let ks : List ℕ = pairs_copied c.args.axes.now ns c.in-Some-paired.pairs in
    let pairs : paired c.args.axes.now c.args.y.now.shape ≡ Ok c.in-Some-paired.pairs = ap (paired c.args.axes.now) (sym c.axes.ensures.value) ∙ c.in-Some-paired.ensures in
    let same : c.deref.result.now ≡ map (serving c.args.y.now.shape) ks = c.deref.ensures.value ∙ c.in_ok-places.ensures ∙ ap (λ t. map (serving t) ks) c.axes-2.ensures.value in
    subst (λ (js : List ℕ). All (λ k. k < product (take 1 c.args.y.now.shape)) js) (sym same) (copies_within c.args.axes.now c.args.y.now.shape ns c.in-Some-paired.pairs pairs)

pub returns : goal.returns
returns g c =
    let ns : List ℕ = magnitudes (map g.N.Whole.value c.args.counts.now) in
    let ks : List ℕ = pairs_copied c.args.axes.now ns c.in-Some-paired.pairs in
    let y : Array = c.args.y.now in
    let pairs : paired c.args.axes.now c.args.y.now.shape ≡ Ok c.in-Some-paired.pairs = ap (paired c.args.axes.now) (sym c.axes.ensures.value) ∙ c.in-Some-paired.ensures in
    let total = copied_many c.args.axes.now ns c.in-Some-paired.pairs c.total_served-total.result c.total_served-total.ensures c.if-total-gt-CELL_LIMIT.false in
    let same : c.deref.result.now ≡ map (serving c.args.y.now.shape) ks = c.deref.ensures.value ∙ c.in_ok-places.ensures ∙ ap (λ t. map (serving t) ks) c.axes-2.ensures.value in
    let cells : cells_at c.shape_of.result 1 y c.deref.result.now ≡ copied c.args.axes.now ns y c.in-Some-paired.pairs =
    ap (λ f. cells_at f 1 y c.deref.result.now) (c.shape_of.ensures ∙ ap (λ n. n ∷ []) total) ∙ ap (λ js. cells_at (length ks ∷ []) 1 y js) same in
    subst (λ r. OrWanting r c.cells_at.result) (sym (ap (by_counts c.args.axes.now y) c.in-Some.ensures.counted ∙ ap (by_pairs c.args.axes.now ns y) pairs))
    (subst (λ (a : Array). OrWanting (limited a) c.cells_at.result) cells c.cells_at.ensures)
