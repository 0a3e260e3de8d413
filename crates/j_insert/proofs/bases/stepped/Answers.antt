use Rattle.std.proofs.Common.{◌∙◌, FitsSigned, w64, rules}
use Rattle.std.proofs.lemmas.Int.{to_z-of_z}
use Rattle.j_definitions.specs.declared.Fault.TheVariants.{Overflow}
use Rattle.j_insert.specs.Listed.{serving}
use Rattle.j_insert.proofs.Stepping.{step_more, step_fails}
use Rattle.j_insert.proofs.bases.stepped.Goals as goal

pub loop-k-preserved : goal.loop-k-preserved
loop-k-preserved c =
    let fs : FitsSigned w64 c.in-Some.next = search rules in
    let fx : FitsSigned w64 c.serving_at.result = search rules in
    let fy : FitsSigned w64 c.serving_at-in-loop-k.result = search rules in
    let said = step_more (serving c.args.x c.args.n) (serving c.args.y c.args.n) c.loop-k.k c.args.n _ c.in-Some.next _ _ _ c.loop-k-test.true c.requires.left c.requires.right
    (to_z-of_z w64 c.serving_at.result fx ∙ c.serving_at.ensures) (to_z-of_z w64 c.serving_at-in-loop-k.result fy ∙ c.serving_at-in-loop-k.ensures) c.in-Some.ensures c.loop-k.invariant in
    rw (to_z-of_z w64 c.in-Some.next fs) said

pub returns-in_default : goal.returns-in_default
returns-in_default c =
    let fx : FitsSigned w64 c.serving_at.result = search rules in
    let fy : FitsSigned w64 c.serving_at-in-loop-k.result = search rules in
    step_fails (serving c.args.x c.args.n) (serving c.args.y c.args.n) c.loop-k.k c.args.n _ _ _ Overflow _ c.loop-k-test.true c.requires.left c.requires.right
    (to_z-of_z w64 c.serving_at.result fx ∙ c.serving_at.ensures) (to_z-of_z w64 c.serving_at-in-loop-k.result fy ∙ c.serving_at-in-loop-k.ensures) c.in_default.ensures c.loop-k.invariant
