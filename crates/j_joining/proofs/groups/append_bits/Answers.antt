use Rattle.std.proofs.Common.{arith}
use Rattle.j_rank.proofs.Paddings.{on_ok}
use Rattle.j_joining.proofs.Joinings.{bits_appended, no_bits_brought}
use Rattle.j_joining.proofs.groups.append_bits.Goals as goal

pub returns-then-g-eq0 : goal.returns-then-g-eq0
returns-then-g-eq0 c = λ xs h. no_bits_brought c.args.g.now.noun.now c.args.g.now.shape.now c.args.out.now.items xs c.requires.group c.view.ensures.noun (omega arith) h

pub returns : goal.returns
returns c =
    on_ok c.append_brought.result _ _
    (λ more xs h. bits_appended c.args.g.now.shape.now c.axes-axes.result.now c.args.g.now.noun.now.shape c.args.bits.now c.args.out.now.items c.append_brought.new.out.items xs c.args.g.now.noun.now.atoms
    c.axes-axes.ensures.value c.requires.bits h more) c.append_brought.ensures
