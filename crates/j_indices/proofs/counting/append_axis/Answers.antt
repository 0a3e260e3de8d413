use Rattle.std.proofs.Common.{◌≡◌, ◌+◌, ◌∷◌, [], ◌++◌, ◌∙◌, ap, arith, rules, unsigned_abs, FitsSigned, ℕ, ℤ, w64, to_z, of_z}
use Rattle.std.proofs.lemmas.Int.{to_z-of_z, to_z_pos}
use Rattle.j_indices.specs.Counting.{integers_from}
use Rattle.j_indices.proofs.Chosen.{axis_more, axis_all}
use Rattle.j_indices.proofs.counting.append_axis.Goals as goal

pub loop-k-preserved : goal.loop-k-preserved
loop-k-preserved c =
    let z : ℤ = to_z w64 (of_z w64 c.args.length) in
    let fits : FitsSigned w64 c.args.length = search rules in
    let same : z ≡ c.args.length = to_z-of_z w64 c.args.length fits in
    let n : ℕ = c.args.start + c.turned.result in
    axis_more c.args.start c.loop-k.k c.turned.result n z c.args.out.now.items c.loop-k.out.items c.push.new.self.items c.turned.ensures.value (omega arith) c.loop-k.invariant
    (c.in-Ok.ensures.items ∙ ap (λ w. c.loop-k.out.items ++ w ∷ []) (to_z_pos w64 n (omega (arith, c.requires, c.turned.ensures.within, ap unsigned_abs same))))

pub returns : goal.returns
returns c =
    let z : ℤ = to_z w64 (of_z w64 c.args.length) in
    let fits : FitsSigned w64 c.args.length = search rules in
    let same : z ≡ c.args.length = to_z-of_z w64 c.args.length fits in
    axis_all c.args.start c.loop-k.k z c.args.out.now.items c.loop-k.out.items (omega (arith, c.loop-k.auto.k-end, c.loop-k-test.false, c.unsigned_abs-k-end.ensures.value)) c.loop-k.invariant
    ∙ ap (λ w. c.args.out.now.items ++ integers_from c.args.start (w ∷ [])) same
