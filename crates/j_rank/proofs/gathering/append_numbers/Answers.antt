use Rattle.std.proofs.Common.{◌∙◌, ap, map, [], pos, length}
use Rattle.j_definitions.specs.Array.{number}
use Rattle.j_rank.proofs.Joining.{bytes_none, boxes_none}
use Rattle.j_rank.proofs.Paddings.{appended, on_ok}
use Rattle.j_rank.proofs.gathering.append_numbers.Goals as goal

pub returns-in-Wholes : goal.returns-in-Wholes
returns-in-Wholes c =
    on_ok c.append_result.result _ _
    (appended number (pos 0) (length c.args.common.now) c.axes.result.now c.args.r.now.shape c.args.common.now c.in-Wholes.v.now c.args.out.now.items c.append_result.new.out.items c.args.r.now.atoms c.axes.ensures.value
    c.in-Wholes.ensures.atoms) c.append_result.ensures

pub returns-in_ok-numbers-in-Bits : goal.returns-in_ok-numbers-in-Bits
returns-in_ok-numbers-in-Bits c =
    on_ok c.append_result-in-Bits.result _ _
    (appended number (pos 0) (length c.args.common.now) c.axes-in-Bits.result.now c.args.r.now.shape c.args.common.now c.deref.result.now c.args.out.now.items c.append_result-in-Bits.new.out.items c.args.r.now.atoms c.axes-in-Bits.ensures.value
    (ap (map number) c.deref.ensures.value ∙ c.in_ok-numbers-in-Bits.ensures ∙ c.in-Bits.ensures.atoms)) c.append_result-in-Bits.ensures

pub returns-in-Bytes : goal.returns-in-Bytes
returns-in-Bytes c =
    on_ok c.append_result-in-Bytes.result _ _
    (appended number (pos 0) (length c.args.common.now) c.axes-in-Bytes.result.now c.args.r.now.shape c.args.common.now [] c.args.out.now.items c.append_result-in-Bytes.new.out.items c.args.r.now.atoms c.axes-in-Bytes.ensures.value
    (bytes_none c.args.r.now c.requires.kind c.in-Bytes.ensures.kind)) c.append_result-in-Bytes.ensures

pub returns-in-Boxes : goal.returns-in-Boxes
returns-in-Boxes c =
    on_ok c.append_result-in-Boxes.result _ _
    (appended number (pos 0) (length c.args.common.now) c.axes-in-Boxes.result.now c.args.r.now.shape c.args.common.now [] c.args.out.now.items c.append_result-in-Boxes.new.out.items c.args.r.now.atoms c.axes-in-Boxes.ensures.value
    (boxes_none c.args.r.now c.requires.kind c.in-Boxes.ensures.kind)) c.append_result-in-Boxes.ensures
