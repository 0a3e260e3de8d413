-- Where the words of a line end.
use Rattle.std.proofs.Common.{◌≡◌, ◌≤◌, ◌<◌, ◌-◌, ℕ, suc, List, [], ◌∷◌, refl, ap, ◌∙◌, length, get_or, arith}
use Rattle.j_words.specs.Lines.{Lie}
use Rattle.j_words.specs.declared.Word.{Word}
use Rattle.j_cli.specs.Report.{last_end}

pub last_end_none : (ws : List Word) → length ws ≡ 0 → last_end ws ≡ 0
last_end_none [] h = refl
last_end_none (w ∷ ws) h = absurd (omega arith)

pub last_end_last : (ws : List Word) (d : Word) → 0 < length ws → last_end ws ≡ (get_or ws (length ws - 1) d).to
last_end_last [] d h = absurd (omega arith)
last_end_last (w ∷ []) d h = refl
last_end_last (w ∷ x ∷ ws) d h =
    let e : suc (length (x ∷ ws) - 1) ≡ length (w ∷ x ∷ ws) - 1 = omega arith in
    last_end_last (x ∷ ws) d (omega arith) ∙ ap (λ n. (get_or (w ∷ x ∷ ws) n d).to) e

pub last_end_within : (at end : ℕ) (ws : List Word) → Lie at end ws → last_end ws ≤ end
last_end_within at end [] lie = omega arith
last_end_within at end (w ∷ []) lie = lie.1.1
last_end_within at end (w ∷ v ∷ ws) lie = last_end_within w.to end (v ∷ ws) lie.1.1
