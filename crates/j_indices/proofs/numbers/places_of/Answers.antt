use Rattle.std.proofs.Common.{◌∙◌, ◌<◌, ◌+◌, length, ap, arith, ℕ}
use Rattle.std.proofs.lemmas.List.{length_push}
use Rattle.std.proofs.lemmas.List.Elements.{All-push}
use Rattle.j_definitions.specs.Cells.{in_order}
use Rattle.j_definitions.specs.declared.Fault.{Fault}
use Rattle.j_definitions.specs.declared.Fault.TheVariants.{Index}
use Rattle.j_indices.specs.Numbers.{index_in}
use Rattle.j_indices.proofs.Indices.{gives_more, gives_all, gives_fault}
use Rattle.j_indices.proofs.Chosen.{map_map}
use Rattle.j_indices.proofs.numbers.places_of.Goals as goal

pub returns-in_default-clause-places : goal.returns-in_default-clause-places
returns-in_default-clause-places g c =
    ap (in_order {C = ℕ} {E = Fault}) (map_map (index_in c.args.n) g.N.Whole.value c.args.indices.now)
    ∙ gives_fault (λ x. index_in c.args.n (g.N.Whole.value x)) c.args.indices.now c.loop-index.index-index c.index-item.result Index c.loop-index.out.items (omega arith) c.index-item.is c.in_default.ensures
    c.loop-index.invariant.given

pub loop-index-preserved : goal.loop-index-preserved
loop-index-preserved g c = record {
  given = gives_more (λ x. index_in c.args.n (g.N.Whole.value x)) c.args.indices.now c.loop-index.index-index c.index-item.result c.in-Some.place c.loop-index.out.items c.push.new.self.items (omega arith) c.index-item.is
      c.in-Some.ensures.0 c.in-Ok.ensures.items c.loop-index.invariant.given;
  many = ap length c.in-Ok.ensures.items ∙ length_push c.loop-index.out.items c.in-Some.place ∙ ap (λ n. n + 1) c.loop-index.invariant.many;
  within = rw c.in-Ok.ensures.items (All-push (λ k. k < c.args.n) c.loop-index.out.items c.in-Some.place c.loop-index.invariant.within c.in-Some.ensures.1);
}

pub returns-clause-places : goal.returns-clause-places
returns-clause-places g c =
    ap (in_order {C = ℕ} {E = Fault}) (map_map (index_in c.args.n) g.N.Whole.value c.args.indices.now)
    ∙ gives_all (λ x. index_in c.args.n (g.N.Whole.value x)) c.args.indices.now c.loop-index.index-index c.loop-index.out.items (omega arith) c.loop-index.invariant.given
