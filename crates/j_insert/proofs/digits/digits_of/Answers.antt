use Rattle.std.proofs.Common.{◌∙◌, ◌+◌, ℕ, ap, sym, length, FitsSigned, w64, to_z, of_z, rules}
use Rattle.std.specs.Int.{w128}
use Rattle.std.proofs.lemmas.Int.{to_z-of_z}
use Rattle.std.proofs.lemmas.List.{length_push}
use Rattle.j_insert.specs.Listed.{listed}
use Rattle.j_insert.proofs.Digiting.{digit_more, range_more, digit_beyond}
use Rattle.j_insert.proofs.digits.digits_of.Goals as goal

pub returns-in_default-clause-value : goal.returns-in_default-clause-value
returns-in_default-clause-value c =
    let fd : FitsSigned w128 c.last_digit_of-last.result.digit = search rules in
    let fx : FitsSigned w64 c.number_at.result = search rules in
    let said = digit_beyond (listed c.args.bases) c.loop-k.out.items c.loop-k.k c.count-n.result _ _ _ (to_z w64 (of_z w64 c.args.y)) (sym c.count-n.ensures) c.loop-k-test.true
    (to_z-of_z w64 c.number_at.result fx ∙ c.number_at.ensures) (to_z-of_z w128 c.last_digit_of-last.result.digit fd ∙ c.last_digit_of-last.ensures.digit) c.in_default.ensures c.loop-k.invariant.all in
    rw (to_z-of_z w64 c.args.y c.ranges.y) at said

pub loop-k-preserved : goal.loop-k-preserved
loop-k-preserved c =
    let fd : FitsSigned w128 c.last_digit_of-last.result.digit = search rules in
    let fr : FitsSigned w128 c.last_digit_of-last.result.rest = search rules in
    let fx : FitsSigned w64 c.number_at.result = search rules in
    let fo : FitsSigned w64 c.in-Ok.digit = search rules in
    let fz : FitsSigned w64 (to_z w64 (of_z w64 c.in-Ok.digit)) = rw (to_z-of_z w64 c.in-Ok.digit fo) fo in
    let ez = to_z-of_z w64 c.in-Ok.digit fo ∙ c.in-Ok.ensures.1 ∙ to_z-of_z w128 c.last_digit_of-last.result.digit fd ∙ c.last_digit_of-last.ensures.digit in
    let es = to_z-of_z w128 c.last_digit_of-last.result.rest fr ∙ c.last_digit_of-last.ensures.rest in
    let all = digit_more (listed c.args.bases) c.loop-k.out.items _ c.loop-k.k c.count-n.result _ _ (to_z w64 (of_z w64 c.in-Ok.digit)) (to_z w128 (of_z w128 c.last_digit_of-last.result.rest)) (sym c.count-n.ensures) c.loop-k-test.true
    (to_z-of_z w64 c.number_at.result fx ∙ c.number_at.ensures) ez es c.loop-k.invariant.all in
    record {
      all = rw c.in-Ok-push.ensures.items all;
      fit = rw c.in-Ok-push.ensures.items (range_more c.loop-k.out.items (to_z w64 (of_z w64 c.in-Ok.digit)) fz c.loop-k.invariant.fit);
      bound = rw (to_z-of_z w128 c.last_digit_of-last.result.rest fr) c.last_digit_of-last.ensures.bound;
      many = ap length c.in-Ok-push.ensures.items ∙ length_push c.loop-k.out.items (to_z w64 (of_z w64 c.in-Ok.digit)) ∙ ap (λ (m : ℕ). m + 1) c.loop-k.invariant.many;
    }
