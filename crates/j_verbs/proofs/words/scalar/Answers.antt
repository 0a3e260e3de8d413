use Rattle.std.proofs.Common.{subst, Result}
use Rattle.j_definitions.specs.Array.{Array}
use Rattle.j_definitions.specs.declared.Fault.{Fault}
use Rattle.j_noun.specs.Refused.{OrWanting}
use Rattle.j_verbs.proofs.OnCells.{alone_answer, pair_answer}
use Rattle.j_verbs.proofs.words.scalar.Goals as goal

pub returns-in_ok-left-in-Some : goal.returns-in_ok-left-in-Some
returns-in_ok-left-in-Some c =
    rw c.in-Some.is
    (subst (λ (r : Result Array Fault). OrWanting r c.dyad-result.result)
    (pair_answer c.args.v c.in-Some.x.now c.args.y.now c.in_ok-left-in-Some.left c.in_ok-right.right c.in_ok-left-in-Some.ensures.0 c.in_ok-left-in-Some.ensures.1 c.in_ok-right.ensures.0 c.in_ok-right.ensures.1) c.dyad-result.ensures)

pub returns-in-None : goal.returns-in-None
returns-in-None c =
    rw c.in-None.is
    (subst (λ (r : Result Array Fault). OrWanting r c.monad-result.result) (alone_answer c.args.v c.args.y.now c.in_ok-right.right c.in_ok-right.ensures.0 c.in_ok-right.ensures.1) c.monad-result.ensures)
