use Rattle.std.proofs.Common.{ap, sym, ◌∙◌, arith, ◌-◌}
use Rattle.std.specs.Cmp.Lexicographic.{pointwise}
use Rattle.j_search.specs.Sought.{run}
use Rattle.j_search.proofs.Picks.{last_at, none_last}
use Rattle.j_search.proofs.seeking.last_match.Goals as goal

pub returns-then-runs_match-clause-value : goal.returns-then-runs_match-clause-value
returns-then-runs_match-clause-value g c =
    last_at (λ j. pointwise g.T.Key.same (run c.args.size c.args.items.now j) c.args.cell.now) c.args.count (c.args.count - 1 - c.loop-behind.behind) (omega arith)
    (λ k l m. c.loop-behind.invariant k m (omega arith))
    (ap (λ r. pointwise g.T.Key.same r c.args.cell.now) (sym c.part.ensures) ∙ sym c.runs_match.ensures ∙ c.if-runs_match.true)

pub returns-clause-value : goal.returns-clause-value
returns-clause-value g c =
    none_last (λ j. pointwise g.T.Key.same (run c.args.size c.args.items.now j) c.args.cell.now) c.args.count (λ k l. c.loop-behind.invariant k l (omega arith))
