use Rattle.std.proofs.Common.{length}
use Rattle.j_definitions.specs.Array.{byte}
use Rattle.j_rank.proofs.Paddings.{appended, on_ok}
use Rattle.j_rank.proofs.gathering.append_bytes.Goals as goal

pub returns : goal.returns
returns c =
    on_ok c.append_result.result _ _
    (appended byte 32 (length c.args.common.now) c.axes.result.now c.args.r.now.shape c.args.common.now c.bytes_of.result.now c.args.out.now.items c.append_result.new.out.items c.args.r.now.atoms
    c.axes.ensures.value c.bytes_of.ensures.atoms) c.append_result.ensures
