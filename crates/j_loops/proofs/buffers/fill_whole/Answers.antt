use Rattle.std.proofs.Common.{arith}
use Rattle.j_loops.proofs.Filling.{all_kept, written, filled}
use Rattle.j_loops.proofs.buffers.fill_whole.Goals as goal

pub keep-requires : goal.keep-requires
keep-requires g c =
    rw (written c.resize.new.self.len c.fill_slice.new.out c.resize.new.self.items (omega (arith, c.in-Ok.ensures.len, c.resize.new.self.ok)) (omega (arith, c.in-Ok.ensures.len, c.resize.new.self.ok)))
    (all_kept _ _ g.Z.Stored.atom _ _ c.args.left c.args.right _ _ _ (omega (arith, c.in-Ok.ensures.len, c.resize.new.self.ok)) (omega (arith, c.in-Ok.ensures.len, c.resize.new.self.ok)) c.in-Ok-fill_slice.ensures)

pub returns-in-Ok-fill_slice : goal.returns-in-Ok-fill_slice
returns-in-Ok-fill_slice g c =
    filled _ _ _ g.Z.Stored.IsKept _ c.args.left c.args.right _ _ c.args.n c.resize.new.self.len c.fill_slice.new.out c.resize.new.self.items c.keep.result
    c.requires.left c.requires.right (omega (arith, c.in-Ok.ensures.len, c.resize.new.self.ok)) (omega (arith, c.in-Ok.ensures.len, c.resize.new.self.ok)) (omega (arith, c.in-Ok.ensures.len, c.resize.new.self.ok)) c.in-Ok-fill_slice.ensures c.keep.ensures
