use Rattle.std.proofs.Common.{◌≡◌, [], ◌∙◌, sym, subst, arith, map, length, ℤ, List}
use Rattle.std.proofs.lemmas.Bool.{eqb-true, eqb-false}
use Rattle.std.proofs.lemmas.List.{length-map, nil_from_length}
use Rattle.j_noun.specs.Refused.{OrWanting}
use Rattle.j_indices.specs.Indexing.{from_numbers}
use Rattle.j_indices.proofs.Indexed.{numbers_some}
use Rattle.j_indices.proofs.indexing.from_numbers.Goals as goal

pub returns-then-is_empty : goal.returns-then-is_empty
returns-then-is_empty g c =
    let none : length c.args.indices.now ≡ 0 = eqb-true (length c.args.indices.now) 0 (sym c.is_empty.ensures ∙ c.if-is_empty.true) in
    let nothing : map g.N.Whole.value c.args.indices.now ≡ [] = nil_from_length (map g.N.Whole.value c.args.indices.now) (length-map c.args.indices.now g.N.Whole.value ∙ none) in
    subst (λ (zs : List ℤ). OrWanting (from_numbers c.args.frame zs c.args.y.now) c.no_items.result) (sym nothing) c.no_items.ensures

pub returns : goal.returns
returns g c =
    let some = eqb-false (length c.args.indices.now) 0 (sym c.is_empty.ensures ∙ c.if-is_empty.false) in
    subst (λ r. OrWanting r c.items_indexed.result)
    (sym (numbers_some c.args.frame (map g.N.Whole.value c.args.indices.now) c.args.y.now (omega (arith, some, length-map c.args.indices.now g.N.Whole.value)))) c.items_indexed.ensures
