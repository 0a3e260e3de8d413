use Rattle.std.proofs.Common.{◌∙◌, ap, arith, map, sum, min, unsigned_abs, sym, ℕ, Result, Ok}
use Rattle.std.proofs.lemmas.List.{take_all}
use Rattle.std.proofs.lemmas.List.Elements.{All-more}
use Rattle.j_definitions.specs.declared.Fault.{Fault}
use Rattle.j_indices.specs.Numbers.{magnitudes, count_of}
use Rattle.j_indices.proofs.Counts.{IsCount, all_counted, one_negative, sum_more}
use Rattle.j_indices.proofs.numbers.total_of.Goals as goal

pub returns-in_default : goal.returns-in_default
returns-in_default g c = one_negative g.N.Whole.value c.args.counts.now c.loop-n.n-index c.n-item.result (omega arith) c.n-item.is c.in_default.ensures

pub loop-n-preserved : goal.loop-n-preserved
loop-n-preserved g c =
    let e = sum_more g.N.Whole.value c.args.counts.now c.loop-n.n-index c.n-item.result (omega arith) c.n-item.is in
    let some = c.in-Some.ensures in
    record {
      counted = All-more (λ x. IsCount (g.N.Whole.value x)) c.args.counts.now c.loop-n.n-index c.n-item.result (omega arith) c.loop-n.invariant.counted (ap (λ y. count_of (g.N.Whole.value y)) (sym c.n-item.is) ∙ some.0 ∙ ap (λ (n : ℕ). let r : Result ℕ Fault = Ok n in r) (some.1 ∙ ap (λ y. unsigned_abs (g.N.Whole.value y)) c.n-item.is));
      total = omega (arith, e, some.1, c.saturating_add-total.ensures);
    }

pub returns : goal.returns
returns g c = record {
  counted = all_counted g.N.Whole.value c.args.counts.now (rw (take_all c.loop-n.n-index c.args.counts.now (omega arith)) at c.loop-n.invariant.counted);
  summed = c.loop-n.invariant.total ∙ ap (λ xs. min (sum (magnitudes (map g.N.Whole.value xs))) 18446744073709551615) (take_all c.loop-n.n-index c.args.counts.now (omega arith));
}
