use Rattle.std.proofs.Common.{◌≡◌, ◌<◌, ◌∙◌, arith, ap, sym, take}
use Rattle.j_definitions.specs.Array.{product}
use Rattle.j_rank.specs.Plans.{Planned}
use Rattle.j_rank.proofs.Products.{rest_some, place_of}
use Rattle.j_rank.proofs.plan.Plan.right.Goals as goal

pub nonzero_div-k : goal.nonzero_div-k
nonzero_div-k c =
    let place : c.args.k < product c.self.inside.frame = omega (arith, ap (λ (p : Planned). product p.agreed.frame) c.self.view_is, c.requires.place) in
    omega (arith, c.self.invariant.of_right.run (omega arith), rest_some c.self.inside.frame c.self.inside.right.axes (omega arith))

pub cell_of-requires-clause-place : goal.cell_of-requires-clause-place
cell_of-requires-clause-place c =
    let place : c.args.k < product c.self.inside.frame = omega (arith, ap (λ (p : Planned). product p.agreed.frame) c.self.view_is, c.requires.place) in
    let same : take c.self.inside.right.axes c.args.y.now.shape ≡ take c.self.inside.right.axes c.self.inside.frame =
    ap (λ (p : Planned). take p.right c.args.y.now.shape) c.self.view_is ∙ c.requires.shape.same ∙ sym (ap (λ (p : Planned). take p.right p.agreed.frame) c.self.view_is) in
    place_of c.self.inside.frame c.args.y.now.shape c.self.inside.right.axes c.args.k c.self.inside.right.times place (c.self.invariant.of_right.run (omega arith)) same
