use Rattle.std.proofs.Common.{ap, Err}
use Rattle.std.proofs.lemmas.Result.{err_from_is_err_and}
use Rattle.j_cli.proofs.Unread.{unread_answers}
use Rattle.j_cli.proofs.command.run_selected.Goals as goal

pub returns-in_err-text-clause-answer : goal.returns-in_err-text-clause-answer
returns-in_err-text-clause-answer g c =
    let p = err_from_is_err_and c.from_residual.result c.from_residual.ensures.1 in
    let h = c.in_err-text.field-0.0 in
    rw (p.1, p.2) (unread_answers h (g.S.Source.left c.args.source.now) (g.S.Source.left c.read_text.new.source) (g.K.Sink.bytes c.args.sink.now) (λ e. c.in_err-text.ensures.too_long (ap Err e)))
