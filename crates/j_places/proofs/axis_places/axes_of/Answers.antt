use Rattle.std.proofs.Common.{◌≡◌, ◌<◌, ◌∙◌, ◌++◌, ◌∷◌, [], ap, arith, rules, length, pos, get_or, w64, FitsSigned}
use Rattle.std.proofs.lemmas.Int.{to_z-of_z}
use Rattle.j_places.specs.AxisPlaces.{kept}
use Rattle.j_places.proofs.KeepLaws.{places_more, extents_more, count_more, axes_more, kept_all}
use Rattle.j_places.proofs.axis_places.axes_of.Goals as goal

pub loop-i-preserved : goal.loop-i-preserved
loop-i-preserved c =
    let more : c.push.new.self.items ≡ c.loop-i.axes.items ++ c.kept_axis.result ∷ [] = search rules in
    let first : c.loop-i.i < length c.args.numbers.now = omega arith in
    let second : c.loop-i.i < length c.args.lengths.now = omega arith in
    let number = get_or c.args.numbers.now c.loop-i.i (pos 0) in
    let fits : FitsSigned w64 number = search rules in
    record {
      places = places_more c.args.way c.args.numbers.now c.args.lengths.now c.loop-i.i (pos 0) 0 c.loop-i.axes.items c.push.new.self.items c.kept_axis.result first second more c.loop-i.invariant.places (c.kept_axis.ensures.places ∙ ap (λ k. kept c.args.way k (get_or c.args.lengths.now c.loop-i.i 0)) (to_z-of_z w64 number fits));
      extents = extents_more c.args.lengths.now c.loop-i.i 0 c.loop-i.axes.items c.push.new.self.items c.kept_axis.result second more c.loop-i.invariant.extents c.kept_axis.ensures.extent;
      many = count_more c.loop-i.axes.items c.push.new.self.items c.kept_axis.result c.loop-i.i more c.loop-i.invariant.many;
      are = axes_more c.loop-i.axes.items c.push.new.self.items c.kept_axis.result more c.loop-i.invariant.are c.kept_axis.ensures.is;
    }

pub returns-clause-places : goal.returns-clause-places
returns-clause-places c = c.loop-i.invariant.places ∙ kept_all c.args.way c.loop-i.i c.args.numbers.now c.args.lengths.now (omega (arith, c.loop-i-test.false, c.saturating_sub.ensures))
