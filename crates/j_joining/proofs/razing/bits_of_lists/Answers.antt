use Rattle.std.proofs.Common.{[], ◌∷◌, ap, take}
use Rattle.j_definitions.specs.declared.Kind.TheVariants.{Number}
use Rattle.j_joining.specs.Brought.{all_atoms}
use Rattle.j_joining.proofs.Razed.{list_bits_more}
use Rattle.j_joining.proofs.razing.bits_of_lists.Goals as goal

pub loop-y-preserved : goal.loop-y-preserved
loop-y-preserved c =
    list_bits_more Number c.args.lists.now c.loop-y.y-index c.y-item.result (c.tally.result ∷ []) c.loop-y.out.items c.append_bits.new.out.items c.requires c.loop-y-test.true c.y-item.is (ap (λ n. n ∷ []) c.tally.ensures)
    (c.in_ok-append_bits.ensures (all_atoms (take c.loop-y.y-index c.args.lists.now)) c.loop-y.invariant)
