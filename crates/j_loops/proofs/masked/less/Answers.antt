use Rattle.std.proofs.Common.{refl, ap, ◌∙◌, w64, of_z}
use Rattle.std.proofs.lemmas.Int.{to_z-of_z}
use Rattle.j_loops.proofs.Masks.{turned_less}
use Rattle.j_loops.proofs.masked.less.Goals as goal

pub returns : goal.returns
returns c =
    turned_less c.args.x c.args.y _ _ _ c.ranges.x c.ranges.y
    (c.cast_unsigned-a.ensures ∙ ap (of_z w64) (to_z-of_z w64 c.args.x c.ranges.x)) (c.cast_unsigned-b.ensures ∙ ap (of_z w64) (to_z-of_z w64 c.args.y c.ranges.y)) refl
