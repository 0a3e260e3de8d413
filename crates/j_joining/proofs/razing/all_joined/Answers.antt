use Rattle.std.proofs.Common.{◌<◌, refl, rules, length}
use Rattle.j_joining.proofs.Razed.{flattened_is}
use Rattle.j_joining.proofs.razing.all_joined.Goals as goal

pub returns-then-are_lists : goal.returns-then-are_lists
returns-then-are_lists c =
    let some : 0 < length c.args.nouns.now = search rules in
    flattened_is c.kind-kind.result c.args.nouns.now c.flattened.result (c.if-are_lists.ensures refl) some c.flattened.ensures
