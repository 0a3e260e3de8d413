use Rattle.std.proofs.Common.{arith, ◌≡◌, ◌+◌, ◌-◌, ◌++◌, take, drop, length, ap, ◌∙◌}
use Rattle.std.proofs.lemmas.List.{drop-drop}
use Rattle.j_display.proofs.measure.put.Goals as goal

pub returns : goal.returns
returns c =
    let size : c.args.from + length c.args.values.now - c.args.from ≡ length c.args.values.now = omega arith in
    ap (λ v. take c.args.from c.args.into.now ++ (v ++ drop (c.args.from + length c.args.values.now - c.args.from) (drop c.args.from c.args.into.now))) c.copy_from_slice.ensures.after
    ∙ ap (λ n. take c.args.from c.args.into.now ++ (c.args.values.now ++ drop n (drop c.args.from c.args.into.now))) size
    ∙ ap (λ t. take c.args.from c.args.into.now ++ (c.args.values.now ++ t)) (drop-drop (length c.args.values.now) c.args.from c.args.into.now)
