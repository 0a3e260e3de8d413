use Rattle.std.proofs.Common.{◌≡◌, true, false, inl, inr, length, ap, sym, ◌∙◌, arith}
use Rattle.std.specs.Cmp.Lexicographic.{slice_cmp}
use Rattle.std.proofs.lemmas.Bool.{cases_lt}
use Rattle.j_search.specs.Searched.{comes_before, run_before}
use Rattle.j_search.proofs.Searching.{before_back}
use Rattle.j_search.proofs.sought.boundary.Goals as goal

pub loop-at-preserved : goal.loop-at-preserved
loop-at-preserved g c =
    let here : run_before c.args.side g.T.Ord.cmp c.args.size c.args.items.now c.args.cell.now c.args.order.now c.loop-at.at ≡ true =
    ap (λ r. comes_before c.args.side (slice_cmp g.T.Ord.cmp r c.args.cell.now)) (sym c.part.ensures) ∙ ap (comes_before c.args.side) (sym c.cmp-found.ensures) ∙ sym c.comes_before.ensures ∙ c.if-not-comes_before.false in
    λ s l. elim (cases_lt s c.loop-at.at) [
      | inl less ↦ c.loop-at.invariant s less
      | inr more ↦ let same : c.loop-at.at ≡ s = omega arith in ap (λ i. run_before c.args.side g.T.Ord.cmp c.args.size c.args.items.now c.args.cell.now c.args.order.now i) (sym same) ∙ here
    ]

pub returns-then-not-comes_before : goal.returns-then-not-comes_before
returns-then-not-comes_before g c =
    let here : run_before c.args.side g.T.Ord.cmp c.args.size c.args.items.now c.args.cell.now c.args.order.now c.loop-at.at ≡ false =
    ap (λ r. comes_before c.args.side (slice_cmp g.T.Ord.cmp r c.args.cell.now)) (sym c.part.ensures) ∙ ap (comes_before c.args.side) (sym c.cmp-found.ensures) ∙ sym c.comes_before.ensures ∙ c.if-not-comes_before.true in
    record {
      within = omega (arith, c.loop-at-test.true);
      front = c.loop-at.invariant;
      back = λ s l u. before_back g.T.Ord.cmp g.met.T.Ord.total c.args.size (length c.args.order.now) c.args.items.now c.args.order.now c.requires.order c.args.cell.now c.args.side c.loop-at.at s l u here;
    }

pub returns : goal.returns
returns g c = record {
  within = omega arith;
  front = λ s l. c.loop-at.invariant s (omega (arith, c.loop-at-test.false));
  back = λ s l u. absurd (omega arith);
}
