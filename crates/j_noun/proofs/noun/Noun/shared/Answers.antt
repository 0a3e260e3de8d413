use Rattle.std.proofs.Common.{◌≡◌, ◌∙◌, ap, sym}
use Rattle.j_definitions.specs.Array.{product}
use Rattle.j_noun.proofs.Rules.{kept-IsOfKind}
use Rattle.j_noun.proofs.noun.Noun.shared.Goals as goal

pub invariant_of-result : goal.invariant_of-result
invariant_of-result c = let same : c.in_ok-of.field-0 ≡ c.args.shape.now = c.in_ok-of.ensures.ok in rw c.in-Ok.ensures.ok record {
  noun = record {
    as_many = c.requires.as_many ∙ ap product (sym same);
    of_kind = kept-IsOfKind c.args.atoms;
    within = rw same c.requires.within;
  };
  stored = record { bits = c.requires.bits; not_inline = λ h. c.requires.not_inline (sym same ∙ h.0, h.1); weighed = c.requires.measured.weighed; levelled = c.requires.measured.levelled };
}
