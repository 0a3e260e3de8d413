use Rattle.std.proofs.Common.{rules, ◌≡◌, [], length, sym, ◌∙◌}
use Rattle.j_definitions.specs.declared.Kind.TheVariants.{Number}
use Rattle.j_noun.specs.Viewed.{viewed, kind_viewed}
use Rattle.j_display.proofs.Formats.{format_done, no_atoms}
use Rattle.j_display.proofs.formatting.format.Goals as goal

pub returns-then-view_len-eq0 : goal.returns-then-view_len-eq0
returns-then-view_len-eq0 c =
    let kind : kind_viewed c.view-atoms.result ≡ Number = search rules in
    let none : length (viewed c.view-atoms.result) ≡ 0 = sym c.view_len.ensures ∙ c.if-view_len-eq0.true in
    format_done c.args.y.now c.axes.result.now [] c.format_no_numbers.result (sym c.view-atoms.ensures.kind ∙ kind) c.axes.ensures.value (no_atoms (viewed c.view-atoms.result) none ∙ c.view-atoms.ensures.atoms) c.format_no_numbers.ensures

pub returns-else-view_len-eq0 : goal.returns-else-view_len-eq0
returns-else-view_len-eq0 c =
    let kind : kind_viewed c.view-atoms.result ≡ Number = search rules in
    format_done c.args.y.now c.axes-in-Wholes.result.now (viewed c.view-atoms.result) c.format_numbers.result (sym c.view-atoms.ensures.kind ∙ kind) c.axes-in-Wholes.ensures.value c.view-atoms.ensures.atoms c.format_numbers.ensures
