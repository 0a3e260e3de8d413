use Rattle.std.proofs.Common.{◌∙◌, ap, map, [], pos, arith}
use Rattle.j_definitions.specs.Array.{number}
use Rattle.j_definitions.specs.declared.Kind.TheVariants.{Number}
use Rattle.j_rank.proofs.Joining.{bytes_none, boxes_none}
use Rattle.j_rank.proofs.Paddings.{on_ok}
use Rattle.j_joining.proofs.Joinings.{group_appended, nothing_brought}
use Rattle.j_joining.proofs.groups.append_numbers.Goals as goal

pub returns-then-g-eq0 : goal.returns-then-g-eq0
returns-then-g-eq0 c = nothing_brought Number c.args.g.now.noun.now c.args.g.now.shape.now (map number c.args.out.now.items) c.requires.group c.view-view.ensures.noun (omega arith)

pub returns-in-Wholes : goal.returns-in-Wholes
returns-in-Wholes c =
    on_ok c.append_brought.result _ _
    (group_appended number (pos 0) c.args.g.now.shape.now c.axes-axes.result.now c.args.g.now.noun.now.shape c.in-Wholes.v.now c.args.out.now.items c.append_brought.new.out.items c.args.g.now.noun.now.atoms
    c.axes-axes.ensures.value c.in-Wholes.ensures.atoms) c.append_brought.ensures

pub returns-in_ok-numbers-in-Bits : goal.returns-in_ok-numbers-in-Bits
returns-in_ok-numbers-in-Bits c =
    on_ok c.append_brought-in-Bits.result _ _
    (group_appended number (pos 0) c.args.g.now.shape.now c.axes-axes.result.now c.args.g.now.noun.now.shape c.deref.result.now c.args.out.now.items c.append_brought-in-Bits.new.out.items c.args.g.now.noun.now.atoms
    c.axes-axes.ensures.value (ap (map number) c.deref.ensures.value ∙ c.in_ok-numbers-in-Bits.ensures ∙ c.in-Bits.ensures.atoms)) c.append_brought-in-Bits.ensures

pub returns-in-Bytes : goal.returns-in-Bytes
returns-in-Bytes c =
    on_ok c.append_brought-in-Bytes.result _ _
    (group_appended number (pos 0) c.args.g.now.shape.now c.axes-axes.result.now c.args.g.now.noun.now.shape [] c.args.out.now.items c.append_brought-in-Bytes.new.out.items c.args.g.now.noun.now.atoms
    c.axes-axes.ensures.value (bytes_none c.args.g.now.noun.now (c.requires.group.joins (omega arith)) c.in-Bytes.ensures.kind)) c.append_brought-in-Bytes.ensures

pub returns-in-Boxes : goal.returns-in-Boxes
returns-in-Boxes c =
    on_ok c.append_brought-in-Boxes.result _ _
    (group_appended number (pos 0) c.args.g.now.shape.now c.axes-axes.result.now c.args.g.now.noun.now.shape [] c.args.out.now.items c.append_brought-in-Boxes.new.out.items c.args.g.now.noun.now.atoms
    c.axes-axes.ensures.value (boxes_none c.args.g.now.noun.now (c.requires.group.joins (omega arith)) c.in-Boxes.ensures.kind)) c.append_brought-in-Boxes.ensures
