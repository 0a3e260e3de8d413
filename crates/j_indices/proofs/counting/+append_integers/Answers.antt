use Rattle.std.proofs.Common.{◌≡◌, ◌∷◌, ◌*◌, ◌/◌, ◌∙◌, ap, sym, arith, rules, map, FitsSigned, w64, to_z, of_z, ℤ, List}
use Rattle.std.proofs.lemmas.Int.{to_z-of_z}
use Rattle.j_definitions.specs.Array.{product}
use Rattle.j_indices.specs.Counting.{shape_along}
use Rattle.j_indices.proofs.Chosen.{integers_more, integers_all, rest_of, at_first, size_parts, step_is, step_some, step_fits}
use Rattle.j_indices.proofs.counting.+append_integers.Goals as goal

pub loop-k-preserved : goal.loop-k-preserved
loop-k-preserved g t c =
    integers_more c.args.start (to_z w64 (of_z w64 c.whole-length.result)) (map g.N.Whole.value (rest_of c.args.lengths.now)) (c.args.size / c.unsigned_abs-count.result) c.loop-k.k c.turned.result c.args.out.now.items
    c.loop-k.out.items c.append_integers.new.out.items c.turned.ensures.value c.loop-k.invariant c.in_ok-append_integers.ensures

pub returns : goal.returns
returns g t c =
    let fits : FitsSigned w64 c.whole-length.result = search rules in
    let z : ℤ = to_z w64 (of_z w64 c.whole-length.result) in
    let rest : List ℤ = map g.N.Whole.value (rest_of c.args.lengths.now) in
    let split : map g.N.Whole.value c.args.lengths.now ≡ z ∷ rest =
    ap (map g.N.Whole.value) (at_first c.args.lengths.now c.first-item.result c.in-len1-up.len_at_least c.first-item.is)
    ∙ ap (λ w. w ∷ rest) (sym c.whole-length.ensures ∙ sym (to_z-of_z w64 c.whole-length.result fits)) in
    integers_all c.args.start c.args.size c.unsigned_abs-count.result c.loop-k.k z rest (map g.N.Whole.value c.args.lengths.now) c.args.out.now.items c.loop-k.out.items split c.requires.size
    c.requires.some c.unsigned_abs-count.ensures.value (omega (arith, c.loop-k.auto.k-end)) c.loop-k.invariant

pub append_integers-requires : goal.append_integers-requires
append_integers-requires g t c κs within =
    let fits : FitsSigned w64 c.whole-length.result = search rules in
    let z : ℤ = to_z w64 (of_z w64 c.whole-length.result) in
    let rest : List ℤ = map g.N.Whole.value (rest_of c.args.lengths.now) in
    let split : map g.N.Whole.value c.args.lengths.now ≡ z ∷ rest =
    ap (map g.N.Whole.value) (at_first c.args.lengths.now c.first-item.result c.in-len1-up.len_at_least c.first-item.is)
    ∙ ap (λ w. w ∷ rest) (sym c.whole-length.ensures ∙ sym (to_z-of_z w64 c.whole-length.result fits)) in
    let parts : c.args.size ≡ c.unsigned_abs-count.result * (c.args.size / c.unsigned_abs-count.result) =
    size_parts c.args.size c.unsigned_abs-count.result z rest (map g.N.Whole.value c.args.lengths.now) split c.requires.size c.requires.some c.unsigned_abs-count.ensures.value in
    let step : c.args.size / c.unsigned_abs-count.result ≡ product (shape_along rest) =
    step_is c.args.size c.unsigned_abs-count.result z rest (map g.N.Whole.value c.args.lengths.now) split c.requires.size c.requires.some c.unsigned_abs-count.ensures.value in
    let some = step_some c.args.size c.unsigned_abs-count.result parts c.requires.some in
    let few =
    step_fits c.args.start c.args.size c.unsigned_abs-count.result c.turned.result (c.args.size / c.unsigned_abs-count.result) parts (omega (arith, c.turned.ensures.within, c.unsigned_abs-count.ensures.value)) c.requires.few in
    (search rules, (within, (step, (some, few))))
