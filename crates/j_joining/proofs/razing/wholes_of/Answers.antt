use Rattle.std.proofs.Common.{[], ◌∷◌, ap}
use Rattle.j_definitions.specs.Array.{number}
use Rattle.j_definitions.specs.declared.Kind.TheVariants.{Number}
use Rattle.j_joining.proofs.Razed.{list_more}
use Rattle.j_joining.proofs.razing.wholes_of.Goals as goal

pub loop-y-preserved : goal.loop-y-preserved
loop-y-preserved c =
    list_more number Number c.args.lists.now c.loop-y.y-index c.y-item.result (c.tally.result ∷ []) c.loop-y.out.items c.append_numbers.new.out.items c.requires c.loop-y-test.true c.y-item.is (ap (λ n. n ∷ []) c.tally.ensures)
    c.loop-y.invariant c.in_ok-append_numbers.ensures
