use Rattle.std.proofs.Common.{◌∙◌, ap, rules, pos, w64, refl, ◌<ℤ◌, ◌≤ℤ◌}
use Rattle.std.specs.Int.RustNames.{unsigned_abs}
use Rattle.std.proofs.lemmas.Int.{to_z-of_z}
use Rattle.j_places.proofs.AxisLaws.{dropped_before, dropped_behind}
use Rattle.j_places.proofs.axis.dropped.Goals as goal

pub returns-then-k-lt0-clause-places : goal.returns-then-k-lt0-clause-places
returns-then-k-lt0-clause-places c =
    let negative : c.args.k <ℤ pos 0 = search rules in
    dropped_behind c.args.k c.args.extent c.unsigned_abs-out.result c.saturating_sub-count.result 0 negative (c.unsigned_abs-out.ensures.value ∙ ap unsigned_abs (to_z-of_z w64 c.args.k c.ranges.k)) c.saturating_sub-count.ensures refl

pub returns-else-k-lt0-clause-places : goal.returns-else-k-lt0-clause-places
returns-else-k-lt0-clause-places c =
    let other : pos 0 ≤ℤ c.args.k = search rules in
    dropped_before c.args.k c.args.extent c.unsigned_abs-out.result c.saturating_sub-count.result _ other (c.unsigned_abs-out.ensures.value ∙ ap unsigned_abs (to_z-of_z w64 c.args.k c.ranges.k)) c.saturating_sub-count.ensures refl
