use Rattle.std.proofs.Common.{◌≡◌, ◌≤◌, length}
use Rattle.j_eval.specs.Meets.{ready}
use Rattle.j_cli.specs.Run.{lines_of}
use Rattle.j_cli.specs.Halts.{run_of}
use Rattle.j_cli.proofs.Sofar.{IsSofar}
use Rattle.j_cli.proofs.lines.run_lines.Given as goal

-- the lines before the rest were executed, and what they showed was written
abbrev pub invariant-lines : goal.invariant-lines
invariant-lines g l = record {
  ready : l.machine.readiness ≡ ready;
  within : length l.rest ≤ length l.text;
  sofar : IsSofar (run_of l.fn.machine) (lines_of l.text) (run_of l.machine) (lines_of l.rest) (g.K.Sink.bytes l.fn.sink) (g.K.Sink.bytes l.sink);
  later : g.K.Sink.faults l.fn.sink ≤ g.K.Sink.faults l.sink;
}

abbrev pub decreases-lines : goal.decreases-lines
decreases-lines g l = length l.rest
