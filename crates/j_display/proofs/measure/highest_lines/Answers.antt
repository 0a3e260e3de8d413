use Rattle.std.proofs.Common.{arith, rules, ◌≡◌, ◌+◌, ◌-◌, ◌*◌, ◌∷◌, [], ◌++◌, map, take, drop, ap, ◌∙◌, sym}
use Rattle.j_display.specs.Rows.{pieces, greatest}
use Rattle.j_display.proofs.Maxima.{heights_more}
use Rattle.j_display.proofs.measure.highest_lines.Goals as goal

pub loop-k-preserved : goal.loop-k-preserved
loop-k-preserved c =
    let size : c.loop-k.k * c.args.columns + c.args.columns - c.loop-k.k * c.args.columns ≡ c.args.columns = omega arith in
    let last : c.greatest-height.result ≡ greatest (take c.args.columns (drop (c.loop-k.k * c.args.columns) c.args.heights.now)) = c.greatest-height.ensures ∙ ap (λ m. greatest (take m (drop (c.loop-k.k * c.args.columns) c.args.heights.now))) size in
    let pushed : c.push.new.self.items ≡ c.loop-k.highest.items ++ c.greatest-height.result ∷ [] = search rules in
    pushed ∙ ap (λ r. r ++ c.greatest-height.result ∷ []) c.loop-k.invariant
    ∙ ap (λ h. map greatest (pieces c.loop-k.k c.args.columns c.args.heights.now) ++ h ∷ []) last
    ∙ sym (heights_more c.args.columns c.loop-k.k c.args.heights.now)
