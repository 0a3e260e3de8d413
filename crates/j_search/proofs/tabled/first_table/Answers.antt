use Rattle.std.proofs.Common.{◌≡◌, ◌<◌, ◌-◌, ℕ, pos, length, map, arith, refl, sym, ap, ◌∙◌, to_z, of_z, w64}
use Rattle.std.proofs.lemmas.List.{get_or-map}
use Rattle.std.proofs.lemmas.Int.{ints}
use Rattle.j_search.proofs.Tables.{IsEntered, first_more}
use Rattle.j_search.proofs.tabled.first_table.Goals as goal

pub loop-behind-preserved : goal.loop-behind-preserved
loop-behind-preserved g c =
    let count : ℕ = length c.args.items.now in
    let j : ℕ = count - 1 - c.loop-behind.behind in
    let low : j < count = omega (arith, c.loop-behind-test.true) in
    let fits : to_z w64 (of_z w64 c.number.result) ≡ c.number.result = omega (arith, ints, c.number.type_inv) in
    let here : IsEntered c.args.range.low c.args.range.width (to_z w64 (of_z w64 c.number.result)) j c.loop-behind.table.items c.enter.new.table.items = c.enter.ensures.there in
    record {
      wide = c.enter.ensures.wide;
      there = first_more (map g.T.Numbered.number c.args.items.now) c.loop-behind.table.items c.enter.new.table.items c.args.range.low (to_z w64 (of_z w64 c.number.result)) c.args.range.width count c.loop-behind.behind j c.loop-behind.invariant.there c.loop-behind-test.true refl
          (fits ∙ c.number.ensures ∙ ap g.T.Numbered.number c.index-items-j.is ∙ sym (get_or-map g.T.Numbered.number c.args.items.now j c.index-items-j.result (pos 0) low)) here;
    }
