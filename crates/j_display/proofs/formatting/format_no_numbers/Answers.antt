use Rattle.std.proofs.Common.{arith, rules, ◌≡◌, ◌++◌, ◌∷◌, [], ◌*◌, length, map, ap, ◌∙◌, sym, refl}
use Rattle.j_definitions.specs.Array.{product, byte}
use Rattle.j_display.specs.Rows.{line_frame}
use Rattle.j_display.specs.Formatted.{number_rows, row_characters}
use Rattle.j_display.proofs.Formats.{no_characters, characters_of, answers_as, product-last}
use Rattle.j_display.proofs.formatting.format_no_numbers.Goals as goal

pub make-requires-clause-as_many : goal.make-requires-clause-as_many
make-requires-clause-as_many c =
    let none : product c.split_at.result.0.now * 0 ≡ 0 = omega arith in
    ap (λ v. length (map byte v)) c.in_ok-characters.ensures.ok.0 ∙ product-last c.split_at.result.0.now 0 0 none ∙ ap product (sym c.shape_with.ensures)

pub returns : goal.returns
returns c =
    let frame : c.split_at.result.0.now ≡ line_frame c.args.axes.now = search rules in
    answers_as (characters_of c.shape_with.result c.in_ok-characters.characters.items) (row_characters c.args.axes.now (number_rows c.args.axes.now [])) c.make.result
    (ap (λ s. characters_of s c.in_ok-characters.characters.items) c.shape_with.ensures ∙ ap (characters_of (c.split_at.result.0.now ++ 0 ∷ [])) c.in_ok-characters.ensures.ok.0 ∙ no_characters c.args.axes.now c.split_at.result.0.now [] frame refl)
    c.make.ensures.limited
