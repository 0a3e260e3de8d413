use Rattle.std.proofs.Common.{◌≡◌, drop, map}
use Rattle.j_words.specs.Vocabulary.{row_of, first_row}
use Rattle.j_words.proofs.vocabulary.first_row.Given as goal

abbrev pub invariant-loop-row : goal.invariant-loop-row
invariant-loop-row l = first_row l.word (map row_of (drop l.row-index l.rows)) ≡ first_row l.word (map row_of l.rows)
