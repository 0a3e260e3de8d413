use Rattle.std.proofs.Common.{◌∙◌, sym, ap, pos, get_or, w64, FitsSigned, rules, map, Ok}
use Rattle.std.proofs.lemmas.Int.{to_z-of_z}
use Rattle.j_reshaping.specs.Axes.{axis_of}
use Rattle.j_reshaping.proofs.Orderly.{orderly_more, orderly_fault, orderly_all}
use Rattle.j_reshaping.proofs.Counting.{same_more, within_more}
use Rattle.j_reshaping.proofs.transposing.axes_counted.Goals as goal

pub returns-in-Err-clause-value : goal.returns-in-Err-clause-value
returns-in-Err-clause-value c =
    let fits : FitsSigned w64 (get_or c.args.numbers.now c.loop-z.z-index (pos 0)) = search rules in
    orderly_fault (axis_of c.args.n) c.args.numbers.now c.loop-z.z-index (pos 0) c.loop-z.axes.items c.in-Err.fault c.loop-z-test.true c.loop-z.invariant.value
    (ap (axis_of c.args.n) (sym (to_z-of_z w64 _ fits)) ∙ sym c.in-Err.ensures.value)

pub loop-z-preserved : goal.loop-z-preserved
loop-z-preserved c =
    let fits : FitsSigned w64 (get_or c.args.numbers.now c.loop-z.z-index (pos 0)) = search rules in
    record {
      value = orderly_more (axis_of c.args.n) c.args.numbers.now c.loop-z.z-index (pos 0) c.loop-z.axes.items c.in-Ok.a c.loop-z-test.true c.loop-z.invariant.value (ap (axis_of c.args.n) (sym (to_z-of_z w64 _ fits)) ∙ sym c.in-Ok.ensures.value) ∙ ap (map Ok) (sym c.in_ok-append_axis-in-Ok.ensures);
      same = same_more c.args.numbers.now c.loop-z.axes.items _ c.loop-z.z-index c.in-Ok.a c.loop-z-test.true (sym (to_z-of_z w64 _ fits) ∙ c.in-Ok.ensures.axis.0) c.loop-z.invariant.same c.in_ok-append_axis-in-Ok.ensures;
      within = within_more c.args.n c.loop-z.axes.items _ c.in-Ok.a c.in-Ok.ensures.axis.1 c.loop-z.invariant.within c.in_ok-append_axis-in-Ok.ensures;
    }

pub returns-clause-value : goal.returns-clause-value
returns-clause-value c = orderly_all (axis_of c.args.n) c.args.numbers.now c.loop-z.z-index c.loop-z.axes.items c.loop-z-test.false c.loop-z.invariant.value
