use Rattle.std.proofs.Common.{◌≡◌, ◌+◌, ◌-◌, ◌++◌, ◌∷◌, [], ◌∙◌, length, sym, ap, arith}
use Rattle.std.proofs.lemmas.List.FromFn.{length-map-range_with_len, map-range_with_len_more}
use Rattle.j_reshaping.proofs.Orders.{down_all}
use Rattle.j_reshaping.proofs.transposing.reversed_axes.Goals as goal

pub unreachable-requires : goal.unreachable-requires
unreachable-requires c =
    let full : length c.loop-k.order ≡ 32 = c.in-Err.ensures.err.2 in
    let some : length c.loop-k.order ≡ c.loop-k.k = ap length c.loop-k.invariant ∙ length-map-range_with_len (λ j. c.args.n - 1 - j) 0 c.loop-k.k in
    omega (arith, c.requires, c.loop-k-test.true)

pub loop-k-preserved : goal.loop-k-preserved
loop-k-preserved c =
    let here : 0 + c.loop-k.k ≡ c.loop-k.k = omega arith in
    c.in-Ok.ensures.ok.0 ∙ ap (λ r. r ++ (c.args.n - 1 - c.loop-k.k) ∷ []) c.loop-k.invariant ∙ sym (map-range_with_len_more (λ j. c.args.n - 1 - j) 0 c.loop-k.k c.loop-k.k here)

pub returns : goal.returns
returns c =
    let ended : c.loop-k.k ≡ c.args.n = omega (arith, c.loop-k-test.false, c.loop-k.auto.k-end) in
    c.loop-k.invariant ∙ down_all c.args.n c.loop-k.k ended
