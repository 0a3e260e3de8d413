use Rattle.std.proofs.Common.{◌≡◌, ◌++◌, ◌∷◌, [], ◌+◌, ◌*◌, ◌<◌, arith, rules, sym, ap, ◌∙◌, subst, to_z, of_z, w64, FitsSigned}
use Rattle.std.proofs.lemmas.Int.{ints}
use Rattle.j_search.specs.Packed.{IsDistance, IsPacked}
use Rattle.j_search.specs.Ranged.{LiesIn}
use Rattle.j_search.proofs.Packing.{packed_more, packed_here}
use Rattle.j_search.proofs.Ranks.{keyed_all}
use Rattle.j_search.proofs.packed.packed.Goals as goal

pub distance-far-requires-clause-there : goal.distance-far-requires-clause-there
distance-far-requires-clause-there g c =
    let fits : to_z w64 (of_z w64 c.number.result) ≡ c.number.result = omega (arith, ints, c.number.type_inv) in
    subst (LiesIn c.args.range) (sym (fits ∙ c.number.ensures ∙ ap g.T.Numbered.number c.index-items-k.is)) (c.requires.there c.loop-k.k c.index-items-k.result c.loop-k-test.true)

pub loop-k-preserved : goal.loop-k-preserved
loop-k-preserved g c =
    let k = c.loop-k.k in
    let far = c.distance-far.result in
    let low : k < 4194304 = omega (arith, c.requires.few, c.loop-k-test.true) in
    let fits : to_z w64 (of_z w64 c.number.result) ≡ c.number.result = omega (arith, ints, c.number.type_inv) in
    let held : FitsSigned w64 c.number.result = record { sfits = c.number.type_inv } in
    let pushed : c.push.new.self.items ≡ c.loop-k.words.items ++ (far * 4194304 + k) ∷ [] = search rules in
    record {
      places = packed_more c.loop-k.words.items c.push.new.self.items far k low c.loop-k.invariant.places pushed;
      words = keyed_all (IsPacked g.T.Numbered.number c.args.direction c.args.range c.args.items.now) c.loop-k.words.items c.push.new.self.items (far * 4194304 + k) c.loop-k.invariant.words
          (packed_here g.T.Numbered.number c.args.direction c.args.range c.args.items.now c.index-items-k.result far k low c.loop-k-test.true c.index-items-k.is
          (subst (λ z. IsDistance c.args.direction c.args.range z far) (fits ∙ c.number.ensures) c.distance-far.ensures.value)
          (subst (FitsSigned w64) c.number.ensures held)) pushed;
    }
