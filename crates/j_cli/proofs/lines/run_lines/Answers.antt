use Rattle.std.proofs.Common.{rules, arith}
use Rattle.std.proofs.lemmas.Result.{err_from_is_err_and}
use Rattle.j_cli.specs.Run.{lines_of}
use Rattle.j_cli.specs.Halts.{run_of, run_status}
use Rattle.j_cli.proofs.Executing.{run_halted}
use Rattle.j_cli.proofs.Sofar.{sofar_more, sofar_halts}
use Rattle.j_cli.proofs.lines.run_lines.Goals as goal

pub returns-in_err-execute-clause-answer : goal.returns-in_err-execute-clause-answer
returns-in_err-execute-clause-answer g c =
    let p = err_from_is_err_and c.from_residual.result c.from_residual.ensures.1 in
    let h = c.in_err-execute.field-0.0 in
    rw (p.1, p.2) (sofar_halts (run_of c.args.machine.now) (lines_of c.args.text.now) (run_of c.lines.machine) c.first_line.result.0.now (lines_of c.lines.rest.now) (lines_of c.first_line.result.1.now) (run_status h)
    (g.K.Sink.bytes c.args.sink.now) (g.K.Sink.bytes c.lines.sink) (g.K.Sink.bytes c.execute.new.sink) c.lines.invariant.sofar c.first_line.ensures.lines (run_halted h) c.in_err-execute.ensures.answer)

pub lines-preserved : goal.lines-preserved
lines-preserved g c = record {
  ready = search rules;
  within = omega (arith, c.first_line.ensures.shorter, c.lines.invariant.within);
  sofar = sofar_more (run_of c.args.machine.now) (lines_of c.args.text.now) (run_of c.lines.machine) (run_of c.execute.new.machine) c.first_line.result.0.now (lines_of c.lines.rest.now) (lines_of c.first_line.result.1.now)
      (g.K.Sink.bytes c.args.sink.now) (g.K.Sink.bytes c.lines.sink) (g.K.Sink.bytes c.execute.new.sink) c.lines.invariant.sofar c.first_line.ensures.lines c.in_ok-execute.ensures.run c.in_ok-execute.ensures.answer;
  later = search rules;
}
