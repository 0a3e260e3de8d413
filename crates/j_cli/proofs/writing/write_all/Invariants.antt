use Rattle.std.proofs.Common.{◌≤◌, ◌-◌, length, take}
use Rattle.j_io.specs.Outside.{Grew}
use Rattle.j_cli.proofs.writing.write_all.Given as goal

abbrev pub invariant-loop-at : goal.invariant-loop-at
invariant-loop-at g l = record {
  within : l.at ≤ length l.piece;
  done : Grew (g.K.Sink.bytes l.fn.sink) (g.K.Sink.bytes l.sink) (take l.at l.piece);
  later : g.K.Sink.faults l.fn.sink ≤ g.K.Sink.faults l.sink;
}

abbrev pub decreases-loop-at : goal.decreases-loop-at
decreases-loop-at g l = length l.piece - l.at
