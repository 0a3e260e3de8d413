use Rattle.std.proofs.Common.{◌≡◌, List, true, arith, rules, subst}
use Rattle.std.specs.List.{All}
use Rattle.std.proofs.lemmas.List.{take_all}
use Rattle.j_rank.specs.Assembly.{same_kind}
use Rattle.j_joining.specs.Brought.{IsListOf}
use Rattle.j_definitions.specs.Array.{Array}
use Rattle.j_joining.proofs.Razed.{are_more}
use Rattle.j_joining.proofs.razing.are_lists.Goals as goal

pub loop-y-preserved : goal.loop-y-preserved
loop-y-preserved c =
    let same : same_kind c.args.kind c.kind.result ≡ true = search rules in
    are_more c.args.kind c.kind.result c.args.nouns.now c.loop-y.y-index c.y-item.result c.axes.result.now c.loop-y-test.true c.y-item.is c.view.ensures.noun c.axes.ensures.value (omega arith) c.kind.ensures same c.loop-y.invariant

pub returns : goal.returns
returns c = λ t. subst (λ (xs : List Array). All (IsListOf c.args.kind) xs) (take_all c.loop-y.y-index c.args.nouns.now (omega arith)) c.loop-y.invariant
