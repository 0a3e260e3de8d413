use Rattle.std.proofs.Common.{◌≡◌, ◌+◌, ◌*◌, ◌++◌, map, take, length}
use Rattle.std.specs.List.{flat_map}
use Rattle.j_definitions.specs.Array.{level, greatest_level, boxed}
use Rattle.j_display.specs.Rows.{width_of, noun_rows}
use Rattle.j_display.specs.Measured.{noun_sizes}
use Rattle.j_display.proofs.measure.+measure.Given as goal

abbrev pub decreases-measure : goal.decreases-measure
decreases-measure l = 2 * level l.y.now + 1

abbrev pub decreases-measure_contents : goal.decreases-measure_contents
decreases-measure_contents l = 2 * greatest_level (map boxed l.contents.now)

abbrev pub invariant-measure_contents-loop-content : goal.invariant-measure_contents-loop-content
invariant-measure_contents-loop-content l = record {
  widths : l.widths.items ≡ map (λ y. width_of (noun_rows y)) (take l.content-index l.contents);
  heights : l.heights.items ≡ map (λ y. length (noun_rows y)) (take l.content-index l.contents);
  sizes : l.sizes.items ≡ l.fn.sizes.items ++ flat_map noun_sizes (take l.content-index l.contents);
}
