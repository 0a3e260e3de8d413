use Rattle.std.proofs.Common.{map, arith}
use Rattle.j_definitions.specs.Array.{byte}
use Rattle.j_definitions.specs.declared.Kind.TheVariants.{Character}
use Rattle.j_rank.proofs.Paddings.{on_ok}
use Rattle.j_joining.proofs.Joinings.{group_appended, nothing_brought}
use Rattle.j_joining.proofs.groups.append_bytes.Goals as goal

pub returns-then-g-eq0 : goal.returns-then-g-eq0
returns-then-g-eq0 c = nothing_brought Character c.args.g.now.noun.now c.args.g.now.shape.now (map byte c.args.out.now.items) c.requires.group c.view.ensures.noun (omega arith)

pub returns : goal.returns
returns c =
    on_ok c.append_brought.result _ _
    (group_appended byte 32 c.args.g.now.shape.now c.axes-axes.result.now c.args.g.now.noun.now.shape c.bytes_of.result.now c.args.out.now.items c.append_brought.new.out.items c.args.g.now.noun.now.atoms
    c.axes-axes.ensures.value c.bytes_of.ensures.atoms) c.append_brought.ensures
