use Rattle.std.proofs.Common.{◌≡◌, ◌<◌, ◌∙◌, ap, arith, sym, length}
use Rattle.std.proofs.lemmas.List.{take_rest}
use Rattle.j_definitions.specs.Array.{product}
use Rattle.j_places.proofs.KeepLaws.{fills_kept, extents_many, extents_kept, kept_of_is}
use Rattle.j_places.proofs.axis_places.atoms_kept.Goals as goal
use Rattle.j_places.proofs.axis_places.atoms_kept.Goals.{then-size-eq0-via-then-size-eq0, then-size-eq0-via-else-size-eq0+then-count-eq0}

pub returns-then-size-eq0 : goal.returns-then-size-eq0
returns-then-size-eq0 c =
    let none : 0 < c.args.size → product c.args.lengths.now ≡ 0 =
    elim c.then-size-eq0.branch [
      | then-size-eq0-via-then-size-eq0 w ↦ λ some. absurd (omega (arith, w.if-size-eq0.true))
      | then-size-eq0-via-else-size-eq0+then-count-eq0 w ↦ λ some. sym c.in-Some.ensures.0 ∙ w.if-count-eq0.true
    ] in
    fills_kept c.fills.result c.args.y.now _ c.args.axes.now c.args.lengths.now c.args.size c.kind.ensures c.requires.are c.requires.extents c.requires.many c.requires.size none c.fills.ensures

pub kept_of-requires-clause-many : goal.kept_of-requires-clause-many
kept_of-requires-clause-many c =
    ap length c.view-atoms.ensures.atoms ∙ c.requires.many
    ∙ extents_many c.args.axes.now c.args.lengths.now _ c.in-Some-size_within.unit c.requires.extents (take_rest c.args.lengths.now (length c.args.axes.now)) c.in-Some-size_within.ensures.0

pub kept_of-requires-clause-size : goal.kept_of-requires-clause-size
kept_of-requires-clause-size c =
    c.requires.size ∙ extents_kept c.args.axes.now c.args.lengths.now _ c.in-Some-size_within.unit c.requires.extents (take_rest c.args.lengths.now (length c.args.axes.now)) c.in-Some-size_within.ensures.0

pub returns : goal.returns
returns c =
    kept_of_is c.kept_of.result c.args.y.now _ _ c.args.axes.now c.args.lengths.now _ c.in-Some-size_within.unit c.view-atoms.ensures.kind c.view-atoms.ensures.atoms c.requires.extents
    (take_rest c.args.lengths.now (length c.args.axes.now)) c.in-Some-size_within.ensures.0 c.kept_of.ensures
