use Rattle.std.proofs.Common.{◌<◌, ◌∙◌, ℕ, List, [], ◌∷◌, take, ap, arith, length, refl, sym, drop}
use Rattle.j_definitions.specs.Array.{product, tally}
use Rattle.j_noun.specs.Viewed.{viewed}
use Rattle.j_rank.proofs.Parts.{run_fits, rest_of, part_length}
use Rattle.j_insert.proofs.items.item_of.Goals as goal

item_place : (s : List ℕ) (k : ℕ) → k < tally s → k < product (take 1 s)
item_place [] k h = h
item_place (m ∷ s) k h = omega (arith, h)

pub make-requires-clause-as_many : goal.make-requires-clause-as_many
make-requires-clause-as_many c =
    let fits = run_fits c.args.y.now.shape 1 c.args.k c.in-Some.size (length (viewed c.view-atoms.result)) (item_place c.args.y.now.shape c.args.k c.requires)
    (c.in-Some.ensures.0 ∙ ap product (rest_of c.axes-axes.result.now 1) ∙ ap (λ s. product (drop 1 s)) c.axes-axes.ensures.value)
    (ap length c.view-atoms.ensures.atoms ∙ c.view-atoms.ensures.noun.as_many) in
    ap length c.in_ok-taken.ensures.atoms ∙ part_length (viewed c.view-atoms.result) _ c.args.k c.in-Some.size fits refl ∙ c.in-Some.ensures.0 ∙ ap product (sym c.shape_of.ensures)
