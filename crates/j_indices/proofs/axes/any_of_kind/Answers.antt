use Rattle.std.proofs.Common.{◌∙◌, ap, sym, arith}
use Rattle.std.specs.List.{list_any}
use Rattle.std.proofs.lemmas.List.{take_all}
use Rattle.j_definitions.specs.Array.{Array}
use Rattle.j_indices.specs.Indexing.{is_of}
use Rattle.j_indices.proofs.KindTests.{none_more, one_found}
use Rattle.j_indices.proofs.axes.any_of_kind.Goals as goal

pub returns-then-has_kind : goal.returns-then-has_kind
returns-then-has_kind c =
    sym (one_found (λ (a : Array). list_any (is_of c.args.kind) a.atoms) c.args.nouns.now c.loop-noun.noun-index c.noun-item.result (omega arith) c.noun-item.is (sym c.has_kind.ensures ∙ c.if-has_kind.true))

pub loop-noun-preserved : goal.loop-noun-preserved
loop-noun-preserved c =
    none_more (λ (a : Array). list_any (is_of c.args.kind) a.atoms) c.args.nouns.now c.loop-noun.noun-index c.noun-item.result (omega arith) c.noun-item.is c.loop-noun.invariant
    (sym c.has_kind.ensures ∙ c.if-has_kind.false)

pub returns : goal.returns
returns c = sym (ap (list_any (λ (a : Array). list_any (is_of c.args.kind) a.atoms)) (sym (take_all c.loop-noun.noun-index c.args.nouns.now (omega arith))) ∙ c.loop-noun.invariant)
