use Rattle.std.proofs.Common.{◌≡◌, ◌∙◌, ap, sym, rules, length}
use Rattle.j_definitions.specs.Array.{product}
use Rattle.j_places.specs.AxisPlaces.{numbers}
use Rattle.j_places.proofs.KeepLaws.{rank_beyond, axes_product}
use Rattle.j_places.proofs.axis_places.keep_by.Goals as goal

pub returns-in_default : goal.returns-in_default
returns-in_default c =
    let many : c.len.result ≡ length c.in_ok-numbers.numbers.items = search rules in
    rank_beyond c.args.way (numbers c.args.x.now) c.in_ok-numbers.numbers.items c.args.y.now c.len.result c.in_ok-numbers.ensures many c.in_default.ensures.0 c.in_default.ensures.1

pub keep-requires-clause-many : goal.keep-requires-clause-many
keep-requires-clause-many c =
    c.view.ensures.noun.as_many ∙ sym (axes_product c.args.way c.len.result c.args.y.now.shape) ∙ ap product (sym (c.axes-lengths.ensures.value ∙ c.in-Some.ensures))
