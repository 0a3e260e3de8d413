use Rattle.std.proofs.Common.{arith, rules, ◌≡◌, ◌*◌, sym, ap, ◌∙◌}
use Rattle.j_definitions.specs.Array.{product}
use Rattle.j_display.specs.Rows.{line_frame}
use Rattle.j_display.proofs.Bounds.{atoms_split}
use Rattle.j_display.proofs.Wholes.{product_over, columns_few}
use Rattle.j_display.proofs.arranged.arrange.Goals as goal

pub nonzero_div-result : goal.nonzero_div-result
nonzero_div-result c =
    let split = atoms_split c.args.axes.now c.split_at.result.0.now c.split_at.result.1.now c.columns_of-columns.result c.args.atoms c.split_at.ensures.by_index.0 c.columns_of-columns.ensures c.requires.many c.requires.some c.requires.few in
    omega (arith, split.column)

pub returns-clause-lines : goal.returns-clause-lines
returns-clause-lines c =
    let split = atoms_split c.args.axes.now c.split_at.result.0.now c.split_at.result.1.now c.columns_of-columns.result c.args.atoms c.split_at.ensures.by_index.0 c.columns_of-columns.ensures c.requires.many c.requires.some c.requires.few in
    let over = product_over (product c.split_at.result.0.now) c.columns_of-columns.result c.args.atoms split.column split.whole in
    let frame : c.split_at.result.0.now ≡ line_frame c.args.axes.now = search rules in
    over ∙ ap product frame

pub returns-clause-count : goal.returns-clause-count
returns-clause-count c =
    let split = atoms_split c.args.axes.now c.split_at.result.0.now c.split_at.result.1.now c.columns_of-columns.result c.args.atoms c.split_at.ensures.by_index.0 c.columns_of-columns.ensures c.requires.many c.requires.some c.requires.few in
    let over = product_over (product c.split_at.result.0.now) c.columns_of-columns.result c.args.atoms split.column split.whole in
    sym over

pub returns-clause-whole : goal.returns-clause-whole
returns-clause-whole c =
    let split = atoms_split c.args.axes.now c.split_at.result.0.now c.split_at.result.1.now c.columns_of-columns.result c.args.atoms c.split_at.ensures.by_index.0 c.columns_of-columns.ensures c.requires.many c.requires.some c.requires.few in
    let over = product_over (product c.split_at.result.0.now) c.columns_of-columns.result c.args.atoms split.column split.whole in
    ap (λ m. m * c.columns_of-columns.result) over ∙ split.whole

pub returns-clause-some : goal.returns-clause-some
returns-clause-some c =
    let split = atoms_split c.args.axes.now c.split_at.result.0.now c.split_at.result.1.now c.columns_of-columns.result c.args.atoms c.split_at.ensures.by_index.0 c.columns_of-columns.ensures c.requires.many c.requires.some c.requires.few in
    let over = product_over (product c.split_at.result.0.now) c.columns_of-columns.result c.args.atoms split.column split.whole in
    omega (arith, split.some)

pub returns-clause-column : goal.returns-clause-column
returns-clause-column c =
    let split = atoms_split c.args.axes.now c.split_at.result.0.now c.split_at.result.1.now c.columns_of-columns.result c.args.atoms c.split_at.ensures.by_index.0 c.columns_of-columns.ensures c.requires.many c.requires.some c.requires.few in
    split.column

pub returns-clause-few : goal.returns-clause-few
returns-clause-few c =
    let split = atoms_split c.args.axes.now c.split_at.result.0.now c.split_at.result.1.now c.columns_of-columns.result c.args.atoms c.split_at.ensures.by_index.0 c.columns_of-columns.ensures c.requires.many c.requires.some c.requires.few in
    let over = product_over (product c.split_at.result.0.now) c.columns_of-columns.result c.args.atoms split.column split.whole in
    omega (arith, split.few)

pub returns-clause-narrow : goal.returns-clause-narrow
returns-clause-narrow c =
    let split = atoms_split c.args.axes.now c.split_at.result.0.now c.split_at.result.1.now c.columns_of-columns.result c.args.atoms c.split_at.ensures.by_index.0 c.columns_of-columns.ensures c.requires.many c.requires.some c.requires.few in
    columns_few (product c.split_at.result.0.now) c.columns_of-columns.result c.args.atoms split.some split.whole c.requires.few
