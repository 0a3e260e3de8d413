use Rattle.std.proofs.Common.{◌∙◌, ap, sym, map, length, refl}
use Rattle.j_definitions.specs.Array.{number, product}
use Rattle.j_noun.specs.declared.noun.Atoms.TheVariants.{Wholes}
use Rattle.j_indices.specs.Counting.{integers_along}
use Rattle.j_indices.proofs.Chosen.{integers_many, integers_beyond}
use Rattle.j_indices.proofs.Answering.{answers}
use Rattle.j_indices.proofs.counting.integers_of.Goals as goal

pub returns-in_default-size_within : goal.returns-in_default-size_within
returns-in_default-size_within g c =
    integers_beyond (map g.N.Whole.value c.args.lengths.now) c.axes.result.now (c.axes.ensures.value ∙ c.in-Ok.ensures.ok) c.in_default-size_within.ensures

pub make-requires-clause-as_many : goal.make-requires-clause-as_many
make-requires-clause-as_many g c =
    ap (λ zs. length (map number zs)) c.in_ok-integers.ensures ∙ integers_many (map g.N.Whole.value c.args.lengths.now) ∙ ap product (sym c.in-Ok.ensures.ok)

pub returns : goal.returns
returns g c =
    answers c.in-Ok.shape (Wholes c.in_ok-integers.integers) (integers_along (map g.N.Whole.value c.args.lengths.now)) c.make.result c.in-Ok.ensures.ok
    (record { kind = refl; atoms = ap (map number) c.in_ok-integers.ensures; bits = tt }) c.make.ensures.limited
