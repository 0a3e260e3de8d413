use Rattle.j_places.proofs.AxisLaws.{place_in_run, place_wrapped, place_after}
use Rattle.j_places.proofs.axis.Axis.place.Goals as goal

pub returns-then-inner-self : goal.returns-then-inner-self
returns-then-inner-self c = place_in_run c.args.self.now c.args.k _ c.if-k-self.false c.if-inner-self.true

pub returns-then-behind-self : goal.returns-then-behind-self
returns-then-behind-self c = place_wrapped c.args.self.now c.args.k _ c.if-k-self.false c.if-inner-self.false c.if-behind-self.true

pub returns : goal.returns
returns c = place_after c.args.self.now c.args.k _ c.requires.within c.if-k-self.false c.if-inner-self.false c.if-behind-self.false
