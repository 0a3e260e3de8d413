use Rattle.std.proofs.Common.{◌≡◌, ◌∷◌, [], ◌+◌, ◌∙◌, ap, sym, arith, map, List}
use Rattle.std.specs.declared.alloc.Global.{Global}
use Rattle.std.specs.declared.vec.Vec.{Vec}
use Rattle.j_select.proofs.Listings.{lists_from, one_is, only_more}
use Rattle.j_select.proofs.choosing.append_only.Goals as goal

pub loop-list-preserved : goal.loop-list-preserved
loop-list-preserved g c =
    let items : Vec g.row.T.Denot Global → List g.row.T.Denot = λ v. v.items in
    let alone : c.as_slice.result.now ≡ c.only-item.result ∷ [] = one_is c.as_slice.result.now c.only-item.result c.in-len1.len_at_least c.in-len1.len_below c.only-item.is in (
      ap (λ n. n + 1) c.loop-list.invariant.0,
      only_more g.T.Listed.kind g.T.Listed.atom items c.loop-list.front.items c.append_one.new.out.items c.only-item.result c.list-item.result c.args.rest.now c.loop-list.list-index
          (lists_from g.T.Listed.kind g.T.Listed.atom c.args.front.now.items (map items c.args.rest.now)) (omega (arith, c.loop-list-test.true)) c.list-item.is (sym c.as_slice.ensures.value ∙ alone) c.in_ok-append_one.ensures c.loop-list.invariant.1,
    )
