use Rattle.std.proofs.Common.{rules, ◌≡◌, ◌≤◌, length, sym, arith}
use Rattle.std.proofs.lemmas.List.{length-take-le}
use Rattle.j_cli.specs.Report.{last_end}
use Rattle.j_cli.proofs.Words.{last_end_within}
use Rattle.j_cli.proofs.report.worded.Goals as goal

pub slice_bounds-result-end : goal.slice_bounds-result-end
slice_bounds-result-end c =
    let words = c.in-Ok.words.items in
    let same : c.last_end.result ≡ last_end words = search rules in
    let within : c.last_end.result ≤ length c.args.line.now = omega (arith, same, last_end_within 0 (length c.args.line.now) words c.in-Ok.ensures.lie) in
    sym (length-take-le c.last_end.result c.args.line.now within)
