use Rattle.std.proofs.Common.{rules, take, drop, subst}
use Rattle.std.proofs.lemmas.List.{take-append-drop, take_rest}
use Rattle.std.proofs.lemmas.Result.{err_from_is_err_and}
use Rattle.j_io.specs.Outside.{Grew, GrewByPrefix}
use Rattle.j_cli.proofs.Known.{grew_prefix, grew_then, take_two}
use Rattle.j_cli.proofs.writing.write_all.Goals as goal

pub returns-in_err-at-clause-err : goal.returns-in_err-at-clause-err
returns-in_err-at-clause-err g c =
    let p = err_from_is_err_and c.from_residual.result c.from_residual.ensures.1 in
    rw p.1 (subst (GrewByPrefix (g.K.Sink.bytes c.args.sink.now) (g.K.Sink.bytes c.write.new.self)) (take-append-drop c.loop-at.at c.args.piece.now)
    (grew_prefix _ (g.K.Sink.bytes c.loop-at.sink) _ (take c.loop-at.at c.args.piece.now) (drop c.loop-at.at c.args.piece.now) c.loop-at.invariant.done
    (subst (GrewByPrefix (g.K.Sink.bytes c.loop-at.sink) (g.K.Sink.bytes c.write.new.self)) (take_rest c.args.piece.now c.loop-at.at) c.in_err-at.ensures.err)))

pub loop-at-preserved : goal.loop-at-preserved
loop-at-preserved g c = record {
  within = search rules;
  done = subst (Grew (g.K.Sink.bytes c.args.sink.now) (g.K.Sink.bytes c.write.new.self)) (take_two c.loop-at.at c.in_ok-at.field-0 c.args.piece.now)
      (grew_then _ (g.K.Sink.bytes c.loop-at.sink) _ (take c.loop-at.at c.args.piece.now) (take c.in_ok-at.field-0 (drop c.loop-at.at c.args.piece.now)) c.loop-at.invariant.done
      (subst (λ ys. Grew (g.K.Sink.bytes c.loop-at.sink) (g.K.Sink.bytes c.write.new.self) (take c.in_ok-at.field-0 ys)) (take_rest c.args.piece.now c.loop-at.at) c.in_ok-at.ensures.bytes));
  later = search rules;
}
