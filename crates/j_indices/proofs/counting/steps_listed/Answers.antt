use Rattle.std.proofs.Common.{◌∙◌, rules, FitsSigned, w64, to_z, of_z}
use Rattle.std.proofs.lemmas.Int.{to_z-of_z}
use Rattle.j_indices.specs.Counting.{step_of}
use Rattle.j_indices.proofs.Chosen.{placed_more}
use Rattle.j_indices.proofs.counting.steps_listed.Goals as goal

pub loop-k-preserved : goal.loop-k-preserved
loop-k-preserved c =
    let fits : FitsSigned w64 c.step_of-step.result = search rules in
    placed_more (step_of (to_z w64 (of_z w64 c.args.n))) c.loop-k.k c.loop-k.out.items c.push.new.self.items (to_z w64 (of_z w64 c.step_of-step.result)) c.loop-k.invariant
    (to_z-of_z w64 c.step_of-step.result fits ∙ c.step_of-step.ensures) c.in-Ok.ensures.items
