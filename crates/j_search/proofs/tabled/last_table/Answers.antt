use Rattle.std.proofs.Common.{◌≡◌, pos, length, map, arith, sym, ap, ◌∙◌, to_z, of_z, w64}
use Rattle.std.proofs.lemmas.List.{get_or-map, length-map}
use Rattle.std.proofs.lemmas.Int.{ints}
use Rattle.j_search.proofs.Tables.{IsEntered, last_below, last_more, last_done}
use Rattle.j_search.proofs.tabled.last_table.Goals as goal

pub loop-j-preserved : goal.loop-j-preserved
loop-j-preserved g c =
    let fits : to_z w64 (of_z w64 c.number.result) ≡ c.number.result = omega (arith, ints, c.number.type_inv) in
    let here : IsEntered c.args.range.low c.args.range.width (to_z w64 (of_z w64 c.number.result)) c.loop-j.j c.loop-j.table.items c.enter.new.table.items = c.enter.ensures.there in
    record {
      wide = c.enter.ensures.wide;
      there = last_more (map g.T.Numbered.number c.args.items.now) c.loop-j.table.items c.enter.new.table.items c.args.range.low (to_z w64 (of_z w64 c.number.result)) c.args.range.width (length c.args.items.now) c.loop-j.j c.loop-j.invariant.there
          (fits ∙ c.number.ensures ∙ ap g.T.Numbered.number c.index-items-j.is ∙ sym (get_or-map g.T.Numbered.number c.args.items.now c.loop-j.j c.index-items-j.result (pos 0) c.loop-j-test.true)) here;
    }

pub returns : goal.returns
returns g c =
    let end : c.loop-j.j ≡ length c.args.items.now = omega (arith, c.loop-j.auto.j-end, c.loop-j-test.false) in
    last_done (map g.T.Numbered.number c.args.items.now) c.loop-j.table.items c.args.range (length c.args.items.now) (sym (length-map c.args.items.now g.T.Numbered.number)) c.loop-j.invariant.wide
    (λ w l. c.loop-j.invariant.there w l ∙ ap (λ j. pos (last_below (map g.T.Numbered.number c.args.items.now) c.args.range.low w (length c.args.items.now) j)) end)
