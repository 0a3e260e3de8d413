use Rattle.std.proofs.Common.{◌∙◌, ap, rules, pos, w64, ◌<ℤ◌, ◌≤ℤ◌}
use Rattle.std.specs.Int.RustNames.{unsigned_abs}
use Rattle.std.proofs.lemmas.Int.{to_z-of_z}
use Rattle.j_places.proofs.AxisLaws.{taken_before, taken_behind}
use Rattle.j_places.proofs.axis.taken.Goals as goal

pub returns-then-k-lt0-clause-places : goal.returns-then-k-lt0-clause-places
returns-then-k-lt0-clause-places c =
    let negative : c.args.k <ℤ pos 0 = search rules in
    taken_before c.args.k c.args.extent c.unsigned_abs-wanted.result c.saturating_sub-fills.result negative (c.unsigned_abs-wanted.ensures.value ∙ ap unsigned_abs (to_z-of_z w64 c.args.k c.ranges.k)) c.saturating_sub-fills.ensures

pub returns-else-k-lt0-clause-places : goal.returns-else-k-lt0-clause-places
returns-else-k-lt0-clause-places c =
    let other : pos 0 ≤ℤ c.args.k = search rules in
    taken_behind c.args.k c.args.extent c.unsigned_abs-wanted.result c.saturating_sub-fills.result other (c.unsigned_abs-wanted.ensures.value ∙ ap unsigned_abs (to_z-of_z w64 c.args.k c.ranges.k)) c.saturating_sub-fills.ensures
