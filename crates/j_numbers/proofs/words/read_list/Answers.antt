use Rattle.std.proofs.Common.{◌≡◌, ℤ, List, length, map, Err, ◌≤◌, ◌++◌, [], ◌∷◌, sym, ap, ◌∙◌, arith, subst, Result, Ok, true, IfErr}
use Rattle.std.proofs.lemmas.List.{length-map}
use Rattle.j_noun.specs.declared.ranks.RankPart.TheVariants.{Number, Infinite}
use Rattle.j_numbers.specs.declared.fault.NumberFault.{NumberFault}
use Rattle.j_numbers.specs.declared.literal.Literal.{Literal}
use Rattle.j_numbers.specs.Numbers.{part_value}
use Rattle.j_numbers.specs.Literals.{read, IsFaultOf}
use Rattle.j_numbers.specs.Readings.{read_after}
use Rattle.j_numbers.proofs.Readings.{fault_given, read_beyond, read_more}
use Rattle.j_numbers.proofs.words.read_list.Goals as goal

pub returns-then-len-eq-MOST_PARTS-clause-err : goal.returns-then-len-eq-MOST_PARTS-clause-err
returns-then-len-eq-MOST_PARTS-clause-err c =
    let many : 4194304 ≤ length (map Number c.loop-part.numbers.items) = omega (arith, c.len.ensures, c.if-len-eq-MOST_PARTS.true, length-map c.loop-part.numbers.items Number) in
    fault_given _ _ (sym c.loop-part.invariant.same ∙ read_beyond (map Number c.loop-part.numbers.items) c.loop-part.rest.now c.in-Some.part.now c.in-Some.after.now c.in-Some.ensures.0 many ∙ ap Err (sym c.fault_beyond.ensures))

pub returns-in-Infinite-clause-err : goal.returns-in-Infinite-clause-err
returns-in-Infinite-clause-err c =
    let value : part_value true c.in-Some.part.now ≡ Ok Infinite = sym c.read_part.ensures ∙ c.in_ok-n.was ∙ ap Ok c.in-Infinite.is in
    let same : read_after (map Number c.deref.result.now ++ Infinite ∷ []) c.in-Some.after.now ≡ read c.args.text.now =
    ap (λ (ns : List ℤ). read_after (map Number ns ++ Infinite ∷ []) c.in-Some.after.now) c.deref.ensures.value
    ∙ sym (read_more (map Number c.loop-part.numbers.items) Infinite c.loop-part.rest.now c.in-Some.part.now c.in-Some.after.now c.in-Some.ensures.0 value) ∙ c.loop-part.invariant.same in
    subst (λ (r : Result Literal NumberFault). IfErr c.read_ranks.result (λ f. IsFaultOf r f)) same c.read_ranks.ensures.err
