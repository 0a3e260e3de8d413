use Rattle.std.proofs.Common.{◌≡◌, ◌∷◌, [], ◌∙◌, ◌++◌, ap, sym, arith, map, List}
use Rattle.std.specs.declared.alloc.Global.{Global}
use Rattle.std.specs.declared.vec.Vec.{Vec}
use Rattle.j_indices.proofs.Chosen.{rest_of, at_first}
use Rattle.j_select.proofs.Listings.{flat_more, lists_all, lists_from}
use Rattle.j_select.proofs.choosing.+append_choices.Goals as goal

pub loop-x-preserved : goal.loop-x-preserved
loop-x-preserved g t c =
    let items : Vec g.row.T.Denot Global → List g.row.T.Denot = λ v. v.items in
    let rest : List (List g.row.T.Denot) = map items (rest_of c.split_at.result.1.now) in
    flat_more (λ x. lists_from g.T.Listed.kind g.T.Listed.atom (c.as_slice-begun.result.now ++ x ∷ []) rest) c.as_slice-elements.result.now c.loop-x.x-index c.x-item.result c.args.out.now.items c.loop-x.out.items c.append_choices.new.out.items
    (omega (arith, c.loop-x-test.true)) c.x-item.is c.loop-x.invariant
    (c.in_ok-append_choices.ensures ∙ ap (λ f. c.loop-x.out.items ++ lists_from g.T.Listed.kind g.T.Listed.atom f rest)
    (c.deref.ensures.value ∙ c.in_ok-append_one.ensures ∙ ap (λ l. l ++ c.x-item.result ∷ []) c.in_ok-longer.ensures))

pub returns : goal.returns
returns g t c =
    let items : Vec g.row.T.Denot Global → List g.row.T.Denot = λ v. v.items in
    let others : List (Vec g.row.T.Denot Global) = c.split_at.result.1.now in
    let split : map items others ≡ c.as_slice-elements.result.now ∷ map items (rest_of others) =
    ap (map items) (at_first others c.first-item.result c.in-len1-up.len_at_least c.first-item.is) ∙ ap (λ p. p ∷ map items (rest_of others)) (sym c.as_slice-elements.ensures.value) in
    lists_all g.T.Listed.kind g.T.Listed.atom c.as_slice-begun.result.now c.as_slice-elements.result.now c.loop-x.x-index c.args.out.now.items c.loop-x.out.items (map items (rest_of others)) (map items others) split
    (omega (arith, c.loop-x-test.false)) c.loop-x.invariant
    ∙ ap (λ f. c.args.out.now.items ++ lists_from g.T.Listed.kind g.T.Listed.atom f (map items others)) c.as_slice-begun.ensures.value
    ∙ ap (λ vs. c.args.out.now.items ++ lists_from g.T.Listed.kind g.T.Listed.atom c.append_only.new.front.items (map items vs)) c.split_at.ensures.back
    ∙ ap (λ r. c.args.out.now.items ++ r) c.in_ok-only.ensures.same
    ∙ ap (λ f. c.args.out.now.items ++ lists_from g.T.Listed.kind g.T.Listed.atom f (map items c.args.rest.now)) c.in_ok-begun.ensures
