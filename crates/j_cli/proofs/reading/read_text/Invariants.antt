use Rattle.std.proofs.Common.{◌≡◌, ◌≤◌, ◌-◌, ◌+◌, length}
use Rattle.j_io.specs.Outside.{Took}
use Rattle.j_cli.specs.Answer.{limit}
use Rattle.j_cli.proofs.reading.read_text.Given as goal

-- the text so far was taken from what was left
abbrev pub invariant-pieces : goal.invariant-pieces
invariant-pieces g l = record {
  took : Took (g.S.Source.left l.fn.source) (g.S.Source.left l.source) l.text.items;
  most : length l.text.items ≤ limit;
  selected : g.S.Source.selected l.source ≡ g.S.Source.selected l.fn.source;
  texts : g.S.Source.texts l.source ≡ g.S.Source.texts l.fn.source;
  later : g.S.Source.faults l.fn.source ≤ g.S.Source.faults l.source;
}

abbrev pub decreases-pieces : goal.decreases-pieces
decreases-pieces g l = limit + 1 - length l.text.items
