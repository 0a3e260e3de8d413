use Rattle.std.proofs.Common.{◌∙◌, sym, ap, length, ℕ, Ok, Vec, Global}
use Rattle.j_reshaping.proofs.Counting.{counted_made, counted_refused}
use Rattle.j_reshaping.proofs.transposing.with_counted.Goals as goal

pub returns-in-Ok : goal.returns-in-Ok
returns-in-Ok c =
    counted_made c.args.y.now c.args.numbers.now _ _ _ (ap length c.axes.ensures.value) (sym c.has_repeat.ensures ∙ c.if-has_repeat.false) (c.in-Ok.ensures.value ∙ ap Ok (sym c.deref.ensures.value)) c.with_last.ensures

pub returns-in-Err : goal.returns-in-Err
returns-in-Err c =
    counted_refused (λ (v : Vec ℕ Global). v.items) c.args.y.now c.args.numbers.now _ c.in-Err.refusal (ap length c.axes.ensures.value) (sym c.has_repeat.ensures ∙ c.if-has_repeat.false) c.in-Err.ensures.value
