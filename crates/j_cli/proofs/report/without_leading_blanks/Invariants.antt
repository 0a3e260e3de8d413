use Rattle.std.proofs.Common.{◌≡◌, length}
use Rattle.j_cli.specs.Report.{without_leading_blanks}
use Rattle.j_cli.proofs.report.without_leading_blanks.Given as goal

abbrev pub invariant-blanks : goal.invariant-blanks
invariant-blanks l = without_leading_blanks l.text ≡ without_leading_blanks l.line

abbrev pub decreases-blanks : goal.decreases-blanks
decreases-blanks l = length l.text
