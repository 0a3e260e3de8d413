use Rattle.std.proofs.Common.{◌∙◌, ◌<ℤ◌, pos, ap, arith, rules, w64, FitsSigned}
use Rattle.std.proofs.lemmas.Int.{ints, to_z-of_z}
use Rattle.j_scans.specs.Scans.{run_at}
use Rattle.j_scans.proofs.Ranges.{product_before}
use Rattle.j_scans.proofs.runs.start_of.Goals as goal

pub overflow_mul-result : goal.overflow_mul-result
overflow_mul-result c =
    let fits : FitsSigned w64 c.args.n = search rules in
    let below : c.args.n <ℤ pos 0 = first_of (search rules, omega (arith, ints)) in
    omega (arith, c.requires.few, product_before c.args.n c.args.items c.args.k c.run_size-size.result c.requires.place (c.run_size-size.ensures ∙ ap (λ n. (run_at n 0).count) (to_z-of_z w64 c.args.n fits)) below)

pub returns-then-n-lt0-clause-before : goal.returns-then-n-lt0-clause-before
returns-then-n-lt0-clause-before c =
    let fits : FitsSigned w64 c.args.n = search rules in
    let below : c.args.n <ℤ pos 0 = first_of (search rules, omega (arith, ints)) in
    product_before c.args.n c.args.items c.args.k c.run_size-size.result c.requires.place (c.run_size-size.ensures ∙ ap (λ n. (run_at n 0).count) (to_z-of_z w64 c.args.n fits)) below
