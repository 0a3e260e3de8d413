use Rattle.std.proofs.Common.{◌≡◌, ℕ, List, length, ◌∙◌, subst}
use Rattle.j_names.proofs.Levels.{no_length}
use Rattle.j_names.proofs.Texts.{box_viewed}
use Rattle.j_names.proofs.locales.locale_boxed.Goals as goal

pub returns-in-Boxes : goal.returns-in-Boxes
returns-in-Boxes c =
    c.locale_text.ensures
    ∙ box_viewed c.args.y.now.kind c.args.y.now.shape c.args.y.now.atoms c.in-Boxes.held.now c.index-held-0.result c.in-Boxes.ensures.kind c.in-Boxes.ensures.atoms
    (subst (λ (s : List ℕ). length s ≡ 0) c.axes.ensures.value (no_length (length c.axes.result.now) c.is_empty.result c.is_empty.ensures c.if-not-is_empty.false))
    c.if-held-eq1.true c.index-held-0.is
