use Rattle.std.proofs.Common.{◌∷◌, ◌+◌, ap, sym, ◌∙◌, drop, eqb-true, arith, ◌≤◌, length}
use Rattle.std.specs.Str.Lines.{lines}
use Rattle.std.proofs.lemmas.List.{take_rest}
use Rattle.j_cli.proofs.FirstLine.{lines_at, lines_last, none_before, none_within}
use Rattle.j_cli.proofs.lines.first_line.Goals as goal

pub returns-in-Some-clause-lines : goal.returns-in-Some-clause-lines
returns-in-Some-clause-lines c =
    let text = c.args.text.now in
    let end = c.in-Some.end in
    let found = c.in-Some.ensures in
    let within : end ≤ length text = omega (arith, found.0.high) in
    rw (take_rest text (end + 1)) (lines_at text end found.0.high (eqb-true _ 10 found.1) (none_before text end within found.0.before) ∙ ap (λ l. l ∷ lines (drop (end + 1) text)) (sym c.without_return.ensures))

pub returns-in-None-clause-lines : goal.returns-in-None-clause-lines
returns-in-None-clause-lines c = lines_last c.args.text.now c.requires (none_within c.args.text.now c.in-None.ensures)
