-- What is done on each cell.
use Rattle.j_entity.specs.View.{operand_of}
use Rattle.j_verbs.specs.ByRank.{Doing}
use Rattle.j_eval.specs.Applying.{Calls, cell, does}
use Rattle.j_eval.specs.declared.by_rank.EachCell.{EachCell}
use Rattle.j_eval.specs.declared.by_rank.EachCell.TheVariants.{Cell, Does}

-- what a verb does on a cell of its own ranks, or an operand as a verb
abbrev pub on_each : Calls → EachCell → Doing
on_each calls (Cell v) = cell calls v.now
on_each calls (Does u) = does calls (operand_of u.now)
