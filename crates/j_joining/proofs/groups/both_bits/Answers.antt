use Rattle.std.proofs.Common.{[]}
use Rattle.j_definitions.specs.declared.Kind.TheVariants.{Number}
use Rattle.j_joining.specs.Brought.{group_atoms}
use Rattle.j_joining.proofs.Joinings.{no_bits}
use Rattle.j_joining.proofs.groups.both_bits.Goals as goal

pub returns : goal.returns
returns c = c.in_ok-append_bits-2.ensures (group_atoms Number c.args.x.now.noun.now c.args.x.now.shape.now) (c.in_ok-append_bits.ensures [] (no_bits c.in_ok-out.out.items c.in_ok-out.ensures.ok.0))
