use Rattle.std.proofs.Common.{◌≡◌, ◌++◌, ◌∷◌, [], pos, length, map, arith, rules, refl, sym, ap, ◌∙◌, subst, to_z, of_z, w64}
use Rattle.std.proofs.lemmas.Int.{ints}
use Rattle.j_search.specs.Sought.{run_places}
use Rattle.j_search.specs.Tabled.{IsTable}
use Rattle.j_search.proofs.Tables.{table_more}
use Rattle.j_search.proofs.tabled.find_each_by_table.Goals as goal

pub loop-cell-preserved : goal.loop-cell-preserved
loop-cell-preserved g c =
    let table : IsTable c.args.side c.args.range (map g.T.Numbered.number c.args.items.now) c.deref.result.now = subst (IsTable c.args.side c.args.range (map g.T.Numbered.number c.args.items.now)) (sym c.deref.ensures.value) c.in_ok-table.ensures in
    let fits : to_z w64 (of_z w64 c.number.result) ≡ c.number.result = omega (arith, ints, c.number.type_inv) in
    let pushed : c.push.new.self.items ≡ c.loop-cell.places.items ++ c.place_in_table-place.result ∷ [] = search rules in
    table_more g.T.Numbered.number g.T.Key.same g.met.T.Numbered.by_number c.args.items.now c.args.side c.args.range c.deref.result.now c.args.cells.now c.cell-item.result c.loop-cell.cell-index c.place_in_table-place.result (pos (length c.args.items.now)) c.loop-cell.places.items c.push.new.self.items table
    c.requires.range c.loop-cell-test.true c.cell-item.is refl
    (λ w l e. c.place_in_table-place.ensures.there w l (fits ∙ c.number.ensures ∙ e))
    (λ none. omega (arith, ints, c.place_in_table-place.ensures.beyond (λ w l e. none w l (sym c.number.ensures ∙ sym fits ∙ e))))
    c.loop-cell.invariant pushed

pub returns : goal.returns
returns g c =
    let end : c.loop-cell.cell-index ≡ length c.args.cells.now = omega (arith, c.loop-cell-test.false, c.loop-cell.auto.cell-index-end) in
    c.loop-cell.invariant ∙ ap (λ k. run_places g.T.Key.same c.args.side 1 (length c.args.items.now) k c.args.items.now c.args.cells.now) end
