use Rattle.std.proofs.Common.{◌≡◌, length, reverse}
use Rattle.j_cli.specs.Report.{without_leading_blanks}
use Rattle.j_cli.proofs.report.without_trailing_blanks.Given as goal

abbrev pub invariant-blanks : goal.invariant-blanks
invariant-blanks l = reverse (without_leading_blanks (reverse l.text)) ≡ reverse (without_leading_blanks (reverse l.line))

abbrev pub decreases-blanks : goal.decreases-blanks
decreases-blanks l = length l.text
