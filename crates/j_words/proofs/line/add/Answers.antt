use Rattle.std.proofs.Common.{◌≡◌, ◌+◌, ◌-◌, ◌<◌, length, sym, ap, ◌∙◌, true, arith}
use Rattle.std.specs.Prelude.{slice_set}
use Rattle.j_words.specs.Joins.{ends_number}
use Rattle.j_words.proofs.Joins.{grown, ends_some}
use Rattle.j_words.proofs.line.add.Goals as goal

pub returns-then-ends_number-clause-ok : goal.returns-then-ends_number-clause-ok
returns-then-ends_number-clause-ok c =
    let ws = c.args.found.now.items in
    let n = c.len-last.result - 1 in
    let ends : ends_number ws ≡ true = ap ends_number (sym c.deref.ensures.value) ∙ sym c.ends_number.ensures ∙ c.if-ends_number.true in
    let some : 0 < length ws = ends_some ws ends in
    let last : n + 1 ≡ length ws = omega (arith, some, c.len-last.ensures, c.deref.ensures.len, ap length c.deref.ensures.value) in
    ap (λ x. slice_set ws n (record { class = x.class; from = x.from; to = c.args.word.to })) c.index_mut.ensures.value
    ∙ grown ws n c.args.word c.index_mut.result.now last (sym c.is_number.ensures ∙ c.if-is_number.true) ends
