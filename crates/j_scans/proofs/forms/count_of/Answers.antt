use Rattle.std.proofs.Common.{◌∙◌, ap, sym, rules, w64, FitsSigned}
use Rattle.std.proofs.lemmas.Int.{to_z-of_z}
use Rattle.j_scans.specs.Scans.{run_count}
use Rattle.j_scans.proofs.Ranges.{prefix_many, suffix_many, infix_many, outfix_many}
use Rattle.j_scans.proofs.forms.count_of.Goals as goal

pub returns-in-Prefixes : goal.returns-in-Prefixes
returns-in-Prefixes c = rw c.in-Prefixes.is (sym (prefix_many c.args.items))

pub returns-in-Suffixes : goal.returns-in-Suffixes
returns-in-Suffixes c = rw c.in-Suffixes.is (sym (suffix_many c.args.items))

pub returns-in-Infixes : goal.returns-in-Infixes
returns-in-Infixes c =
    let fits : FitsSigned w64 c.in-Infixes.n = search rules in
    rw c.in-Infixes.is (c.run_count.ensures ∙ ap (λ n. run_count n c.args.items) (to_z-of_z w64 c.in-Infixes.n fits) ∙ sym (infix_many c.in-Infixes.n c.args.items))

pub returns-in-Outfixes : goal.returns-in-Outfixes
returns-in-Outfixes c =
    let fits : FitsSigned w64 c.in-Outfixes.n = search rules in
    rw c.in-Outfixes.is (c.run_count-in-Outfixes.ensures ∙ ap (λ n. run_count n c.args.items) (to_z-of_z w64 c.in-Outfixes.n fits) ∙ sym (outfix_many c.in-Outfixes.n c.args.items))
