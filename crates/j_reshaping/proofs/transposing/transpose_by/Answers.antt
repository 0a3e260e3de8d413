use Rattle.std.proofs.Common.{◌∙◌, sym, ap, length, ℤ, Ok, Vec, Global}
use Rattle.j_reshaping.proofs.Counting.{by_made, by_refused}
use Rattle.j_reshaping.proofs.transposing.transpose_by.Goals as goal

pub returns-in-Ok : goal.returns-in-Ok
returns-in-Ok c =
    by_made c.args.x.now c.args.y.now _ _ _ (ap length c.axes.ensures.value) (c.in-Ok.ensures ∙ ap Ok (sym c.deref.ensures.value)) c.with_counted.ensures

pub returns-in-Err : goal.returns-in-Err
returns-in-Err c =
    by_refused (λ (v : Vec ℤ Global). v.items) c.args.x.now c.args.y.now _ c.in-Err.refusal (ap length c.axes.ensures.value) c.in-Err.ensures
