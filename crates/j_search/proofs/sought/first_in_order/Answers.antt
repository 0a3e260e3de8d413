use Rattle.std.proofs.Common.{ap, sym, ◌∙◌, arith, length}
use Rattle.std.specs.Cmp.Lexicographic.{pointwise}
use Rattle.j_search.proofs.Searching.{first_found, first_missed}
use Rattle.j_search.proofs.sought.first_in_order.Goals as goal

pub returns-then-less-order-clause-value : goal.returns-then-less-order-clause-value
returns-then-less-order-clause-value g c =
    c.if-less-order.true
    ∙ first_missed g.T.Ord.cmp g.met.T.Ord.total c.args.size (length c.args.order.now) c.args.items.now c.args.order.now c.requires.order c.args.cell.now g.T.PartialEq.eq g.met.T.Ord.matches_eq c.args.less c.requires.less
    (λ l. absurd (omega (arith, c.if-less-order.true)))

pub returns-then-eq-clause-value : goal.returns-then-eq-clause-value
returns-then-eq-clause-value g c =
    first_found g.T.Ord.cmp g.met.T.Ord.total c.args.size (length c.args.order.now) c.args.items.now c.args.order.now c.requires.order c.args.cell.now g.T.PartialEq.eq g.met.T.Ord.matches_eq c.args.less c.requires.less
    (omega (arith, c.if-less-order.false, c.requires.less.within))
    (ap (λ r. pointwise g.T.PartialEq.eq r c.args.cell.now) (sym c.part.ensures) ∙ sym c.eq.ensures ∙ c.if-eq.true)

pub returns-clause-value : goal.returns-clause-value
returns-clause-value g c =
    first_missed g.T.Ord.cmp g.met.T.Ord.total c.args.size (length c.args.order.now) c.args.items.now c.args.order.now c.requires.order c.args.cell.now g.T.PartialEq.eq g.met.T.Ord.matches_eq c.args.less c.requires.less
    (λ l. ap (λ r. pointwise g.T.PartialEq.eq r c.args.cell.now) (sym c.part.ensures) ∙ sym c.eq.ensures ∙ c.if-eq.false)
