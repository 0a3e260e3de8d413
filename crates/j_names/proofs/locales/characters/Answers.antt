use Rattle.std.proofs.Common.{ℕ, ◌≤◌, List, length, subst}
use Rattle.j_names.proofs.Texts.{text_viewed}
use Rattle.j_names.proofs.locales.characters.Goals as goal

pub returns-in-Bytes : goal.returns-in-Bytes
returns-in-Bytes c =
    text_viewed c.args.y.now.kind c.args.y.now.shape c.args.y.now.atoms c.in-Bytes.bytes.now c.in-Bytes.ensures.kind c.in-Bytes.ensures.atoms
    (subst (λ (s : List ℕ). length s ≤ 1) c.axes.ensures.value c.if-axes-gt1.false)
