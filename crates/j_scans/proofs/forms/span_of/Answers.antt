use Rattle.std.proofs.Common.{◌∙◌, ◌+◌, ◌<◌, min, ap, arith, sym, subst, refl, rules, w64, FitsSigned, ℤ}
use Rattle.std.proofs.lemmas.Int.{to_z-of_z}
use Rattle.j_scans.specs.Scans.{run_count, run_at}
use Rattle.j_scans.proofs.Ranges.{prefix_many, suffix_many, infix_many, outfix_many, prefix_at, suffix_at, infix_at, outfix_at}
use Rattle.j_scans.proofs.forms.span_of.Goals as goal

pub overflow_add-result : goal.overflow_add-result
overflow_add-result c = omega (arith, c.requires.few, prefix_many c.args.items, rw c.in-Prefixes.is at c.requires.place)

pub returns-in-Prefixes-clause-span : goal.returns-in-Prefixes-clause-span
returns-in-Prefixes-clause-span c =
    let place : c.args.k < c.args.items = omega (arith, prefix_many c.args.items, rw c.in-Prefixes.is at c.requires.place) in
    record { ordered = omega arith; inside = omega arith }

pub returns-in-Prefixes-clause-places : goal.returns-in-Prefixes-clause-places
returns-in-Prefixes-clause-places c =
    let place : c.args.k < c.args.items = omega (arith, prefix_many c.args.items, rw c.in-Prefixes.is at c.requires.place) in
    rw c.in-Prefixes.is (prefix_at c.args.items c.args.k _ place refl refl)

pub returns-in-Suffixes-clause-span : goal.returns-in-Suffixes-clause-span
returns-in-Suffixes-clause-span c =
    let place : c.args.k < c.args.items = omega (arith, suffix_many c.args.items, rw c.in-Suffixes.is at c.requires.place) in
    record { ordered = omega arith; inside = omega arith }

pub returns-in-Suffixes-clause-places : goal.returns-in-Suffixes-clause-places
returns-in-Suffixes-clause-places c =
    let place : c.args.k < c.args.items = omega (arith, suffix_many c.args.items, rw c.in-Suffixes.is at c.requires.place) in
    rw c.in-Suffixes.is (suffix_at c.args.items c.args.k _ place refl refl)

pub run_at-requires-clause-place : goal.run_at-requires-clause-place
run_at-requires-clause-place c =
    let fits : FitsSigned w64 c.in-Infixes.n = search rules in
    let place : c.args.k < run_count c.in-Infixes.n c.args.items = omega (arith, infix_many c.in-Infixes.n c.args.items, rw c.in-Infixes.is at c.requires.place) in
    subst (λ (n : ℤ). c.args.k < run_count n c.args.items) (sym (to_z-of_z w64 c.in-Infixes.n fits)) place

pub returns-in-Infixes-clause-places : goal.returns-in-Infixes-clause-places
returns-in-Infixes-clause-places c =
    let fits : FitsSigned w64 c.in-Infixes.n = search rules in
    let place : c.args.k < run_count c.in-Infixes.n c.args.items = omega (arith, infix_many c.in-Infixes.n c.args.items, rw c.in-Infixes.is at c.requires.place) in
    rw c.in-Infixes.is
    (infix_at c.in-Infixes.n c.args.items c.args.k c.run_at.result place (c.run_at.ensures.start ∙ ap (λ n. (run_at n c.args.k).start) (to_z-of_z w64 c.in-Infixes.n fits))
    (c.run_at.ensures.end ∙ ap (λ n. min ((run_at n c.args.k).start + (run_at n c.args.k).count) c.args.items) (to_z-of_z w64 c.in-Infixes.n fits)) c.run_at.ensures.span.ordered)

pub run_at-requires-in-Outfixes-clause-place : goal.run_at-requires-in-Outfixes-clause-place
run_at-requires-in-Outfixes-clause-place c =
    let fits : FitsSigned w64 c.in-Outfixes.n = search rules in
    let place : c.args.k < run_count c.in-Outfixes.n c.args.items = omega (arith, outfix_many c.in-Outfixes.n c.args.items, rw c.in-Outfixes.is at c.requires.place) in
    subst (λ (n : ℤ). c.args.k < run_count n c.args.items) (sym (to_z-of_z w64 c.in-Outfixes.n fits)) place

pub returns-in-Outfixes-clause-places : goal.returns-in-Outfixes-clause-places
returns-in-Outfixes-clause-places c =
    let fits : FitsSigned w64 c.in-Outfixes.n = search rules in
    let place : c.args.k < run_count c.in-Outfixes.n c.args.items = omega (arith, outfix_many c.in-Outfixes.n c.args.items, rw c.in-Outfixes.is at c.requires.place) in
    rw c.in-Outfixes.is
    (outfix_at c.in-Outfixes.n c.args.items c.args.k c.run_at-in-Outfixes.result place (c.run_at-in-Outfixes.ensures.start ∙ ap (λ n. (run_at n c.args.k).start) (to_z-of_z w64 c.in-Outfixes.n fits))
    (c.run_at-in-Outfixes.ensures.end ∙ ap (λ n. min ((run_at n c.args.k).start + (run_at n c.args.k).count) c.args.items) (to_z-of_z w64 c.in-Outfixes.n fits)) c.run_at-in-Outfixes.ensures.span.ordered)
