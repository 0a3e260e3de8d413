use Rattle.std.proofs.Common.{◌-◌, ap, sym, ◌∙◌, arith, refl, length}
use Rattle.std.specs.Cmp.Lexicographic.{pointwise}
use Rattle.j_search.proofs.Searching.{last_found, last_missed}
use Rattle.j_search.proofs.sought.last_in_order.Goals as goal

pub returns-then-up_to-eq0-clause-value : goal.returns-then-up_to-eq0-clause-value
returns-then-up_to-eq0-clause-value g c =
    last_missed g.T.Ord.cmp g.met.T.Ord.total c.args.size (length c.args.order.now) c.args.items.now c.args.order.now c.requires.order c.args.cell.now g.T.PartialEq.eq g.met.T.Ord.matches_eq c.args.up_to (c.args.up_to - 1) refl c.requires.up_to.within c.requires.up_to
    (λ l. absurd (omega (arith, c.if-up_to-eq0.true)))

pub returns-then-eq-clause-value : goal.returns-then-eq-clause-value
returns-then-eq-clause-value g c =
    last_found g.T.Ord.cmp g.met.T.Ord.total c.args.size (length c.args.order.now) c.args.items.now c.args.order.now c.requires.order c.args.cell.now g.T.PartialEq.eq g.met.T.Ord.matches_eq c.args.up_to (c.args.up_to - 1) (omega (arith, c.if-up_to-eq0.false)) c.requires.up_to
    (omega (arith, c.if-up_to-eq0.false, c.requires.up_to.within))
    (ap (λ r. pointwise g.T.PartialEq.eq r c.args.cell.now) (sym c.part.ensures) ∙ sym c.eq.ensures ∙ c.if-eq.true)

pub returns-clause-value : goal.returns-clause-value
returns-clause-value g c =
    last_missed g.T.Ord.cmp g.met.T.Ord.total c.args.size (length c.args.order.now) c.args.items.now c.args.order.now c.requires.order c.args.cell.now g.T.PartialEq.eq g.met.T.Ord.matches_eq c.args.up_to (c.args.up_to - 1) refl c.requires.up_to.within c.requires.up_to
    (λ l. ap (λ r. pointwise g.T.PartialEq.eq r c.args.cell.now) (sym c.part.ensures) ∙ sym c.eq.ensures ∙ c.if-eq.false)
