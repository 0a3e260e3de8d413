use Rattle.std.proofs.Common.{arith}
use Rattle.j_loops.proofs.Filling.{all_kept_of, all_given}
use Rattle.j_loops.proofs.buffers.fill.Goals as goal

pub keep-requires : goal.keep-requires
keep-requires g c =
    all_kept_of _ _ g.Z.Stored.atom _ _ c.args.left c.args.right _ _ c.fill_blocks.new.out.items c.args.n c.requires.left c.requires.right
    (omega (arith, c.fill_blocks.new.out.ok, c.in_ok-fill_blocks.ensures.more (cc))) (c.in_ok-fill_blocks.ensures.results (cc))

pub returns-then-branch : goal.returns-then-branch
returns-then-branch g c =
    all_given _ _ _ g.Z.Stored.IsKept _ c.args.left c.args.right _ _ c.fill_blocks.new.out.items c.args.n c.keep.result c.requires.left c.requires.right
    (omega (arith, c.fill_blocks.new.out.ok, c.in_ok-fill_blocks.ensures.more (cc))) (c.in_ok-fill_blocks.ensures.results (cc)) c.keep.ensures
