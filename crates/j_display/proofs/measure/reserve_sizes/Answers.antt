use Rattle.std.proofs.Common.{rules, ◌≡◌, ◌+◌, ◌++◌, replicate, ap, ◌∙◌, vec_len}
use Rattle.j_display.specs.Rows.{line_length}
use Rattle.j_display.proofs.Blocks.{filled}
use Rattle.j_display.proofs.measure.reserve_sizes.Goals as goal

pub returns-clause-sizes : goal.returns-clause-sizes
returns-clause-sizes c =
    let sized : c.in_ok-end.end ≡ vec_len c.args.sizes.now + (c.arrange-all.result.columns + c.arrange-all.result.count) = search rules in
    c.in-Ok.ensures.items ∙ filled c.args.sizes.now.items 0 (vec_len c.args.sizes.now) c.in_ok-end.end (c.arrange-all.result.columns + c.arrange-all.result.count) (search rules) sized
    ∙ ap (λ n. c.args.sizes.now.items ++ replicate (n + c.arrange-all.result.count) 0) c.arrange-all.ensures.columns ∙ ap (λ n. c.args.sizes.now.items ++ replicate (line_length c.args.axes.now + n) 0) c.arrange-all.ensures.lines
