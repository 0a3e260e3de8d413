use Rattle.std.proofs.Common.{arith, rules, ◌≡◌, length, ap, ◌∙◌, FitsSigned, w64}
use Rattle.std.proofs.lemmas.Int.{to_z-of_z}
use Rattle.j_noun.specs.Viewed.{viewed}
use Rattle.j_numbers.specs.Printed.{printed}
use Rattle.j_display.proofs.Widening.{made_wider, widened_whole}
use Rattle.j_display.proofs.columns.widen.Goals as goal

pub loop-j-preserved : goal.loop-j-preserved
loop-j-preserved c =
    let fits : FitsSigned w64 c.number_at.result = search rules in
    let width : c.printed_length-width.result ≡ length (printed c.number_at.result) = c.printed_length-width.ensures ∙ ap (λ z. length (printed z)) (to_z-of_z w64 c.number_at.result fits) in
    made_wider c.loop-j.widths c.args.widths.now (viewed c.args.atoms) c.args.from c.loop-j.j c.printed_length-width.result c.greater-wide.result c.number_at.result c.requires.place c.loop-j-test.true c.number_at.ensures
    width c.loop-j.invariant c.greater-wide.ensures

pub returns : goal.returns
returns c = widened_whole c.loop-j.widths c.args.widths.now (viewed c.args.atoms) c.args.from c.loop-j.j c.requires.place (omega arith) c.loop-j.invariant
