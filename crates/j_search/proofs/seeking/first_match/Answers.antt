use Rattle.std.proofs.Common.{ap, sym, ◌∙◌, arith}
use Rattle.std.specs.Cmp.Lexicographic.{pointwise}
use Rattle.j_search.specs.Sought.{run}
use Rattle.j_search.proofs.Picks.{first_at, none_first}
use Rattle.j_search.proofs.seeking.first_match.Goals as goal

pub returns-then-runs_match-clause-value : goal.returns-then-runs_match-clause-value
returns-then-runs_match-clause-value g c =
    first_at (λ j. pointwise g.T.Key.same (run c.args.size c.args.items.now j) c.args.cell.now) c.args.count c.loop-j.j c.loop-j-test.true c.loop-j.invariant
    (ap (λ r. pointwise g.T.Key.same r c.args.cell.now) (sym c.part.ensures) ∙ sym c.runs_match.ensures ∙ c.if-runs_match.true)

pub returns-clause-value : goal.returns-clause-value
returns-clause-value g c =
    none_first (λ j. pointwise g.T.Key.same (run c.args.size c.args.items.now j) c.args.cell.now) c.args.count (λ k l. c.loop-j.invariant k (omega arith))
