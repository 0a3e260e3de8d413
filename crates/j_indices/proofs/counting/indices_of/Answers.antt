use Rattle.std.proofs.Common.{◌∙◌, ap, sym, subst, arith, refl, map, pos, length, List, [], ◌∷◌, ℕ, ℤ, Result}
use Rattle.std.proofs.lemmas.List.{length-map}
use Rattle.j_definitions.specs.Array.{Array, number, product}
use Rattle.j_definitions.specs.Limits.{limited}
use Rattle.j_definitions.specs.declared.Fault.{Fault}
use Rattle.j_noun.specs.declared.noun.Atoms.TheVariants.{Wholes}
use Rattle.j_noun.specs.Refused.{OrWanting}
use Rattle.j_indices.specs.Numbers.{magnitudes, and_then}
use Rattle.j_indices.specs.Counting.{repeated_from, numbered}
use Rattle.j_indices.proofs.Counts.{total_is, total_beyond, numbered_beyond}
use Rattle.j_indices.proofs.Chosen.{map_map}
use Rattle.j_indices.proofs.Answering.{answers}
use Rattle.j_indices.proofs.counting.indices_of.Goals as goal

abbrev answer : Result (List ℕ) Fault → Result Array Fault
answer counts = and_then counts (λ ns. limited (numbered (repeated_from 0 ns)))

pub returns-in_default : goal.returns-in_default
returns-in_default g c = ap answer c.in_default.ensures

pub returns-then-total-gt-CELL_LIMIT : goal.returns-then-total-gt-CELL_LIMIT
returns-then-total-gt-CELL_LIMIT g c =
    ap answer c.in-Some.ensures.counted ∙ numbered_beyond (repeated_from 0 (magnitudes (map g.N.Whole.value c.args.counts.now)))
    (total_beyond (map g.N.Whole.value c.args.counts.now) c.in-Some.total c.in-Some.ensures c.if-total-gt-CELL_LIMIT.true)

pub make-requires-clause-as_many : goal.make-requires-clause-as_many
make-requires-clause-as_many g c =
    let zs : List ℤ = map g.N.Whole.value c.args.counts.now in
    let total = total_is zs c.in-Some.total c.in-Some.ensures c.if-total-gt-CELL_LIMIT.false in
    omega (arith, length-map c.in_ok-indices.indices.items number, ap length c.in_ok-indices.ensures, length-map (repeated_from 0 (magnitudes zs)) (λ k. pos k), total, ap product c.shape_of.ensures)

pub returns : goal.returns
returns g c =
    let zs : List ℤ = map g.N.Whole.value c.args.counts.now in
    let ks : List ℕ = repeated_from 0 (magnitudes zs) in
    let total = total_is zs c.in-Some.total c.in-Some.ensures c.if-total-gt-CELL_LIMIT.false in
    subst (λ r. OrWanting r c.make.result) (sym (ap answer c.in-Some.ensures.counted))
    (answers c.shape_of.result (Wholes c.in_ok-indices.indices) (numbered ks) c.make.result (c.shape_of.ensures ∙ ap (λ n. n ∷ []) total)
    (record { kind = refl; atoms = ap (map number) c.in_ok-indices.ensures ∙ map_map number (λ k. pos k) ks; bits = tt }) c.make.ensures.limited)
