use Rattle.std.proofs.Common.{◌≡◌, ◌<◌, [], ap, sym, subst, arith, rules, refl, map, pos}
use Rattle.std.proofs.lemmas.List.Elements.{All-nil}
use Rattle.j_definitions.specs.Array.{Array, number}
use Rattle.j_definitions.specs.declared.Kind.TheVariants.{Number}
use Rattle.j_noun.specs.declared.noun.Atoms.TheVariants.{Bits}
use Rattle.j_noun.specs.Refused.{OrWanting}
use Rattle.j_indices.proofs.Answering.{answers}
use Rattle.j_indices.proofs.Indexed.{none_as_item, none_as_number}
use Rattle.j_indices.proofs.indexing.no_items.Goals as goal

pub returns-then-count-gt0 : goal.returns-then-count-gt0
returns-then-count-gt0 c = subst (λ r. OrWanting r c.cells_at.result) (sym (none_as_item c.args.frame c.args.y.now (omega (arith, c.tally-count.ensures)))) c.cells_at.ensures

pub returns : goal.returns
returns c =
    let none : c.in_ok-none.none.items ≡ [] = search rules in
    let it : Array = record { kind = Number; shape = c.args.frame; atoms = [] } in
    subst (λ r. OrWanting r c.make.result) (sym (none_as_number c.args.frame c.args.y.now (omega (arith, c.tally-count.ensures))))
    (answers c.args.frame (Bits c.in_ok-none.none) it c.make.result refl (record { kind = refl; atoms = ap (map (λ b. number (pos b))) none; bits = rw none (All-nil (λ b. b < 2)) }) c.make.ensures.limited)
