use Rattle.std.proofs.Common.{◌≡◌, ◌<◌, ℕ, pos, length, get_or, set, refl, ap, sym, ◌∙◌, arith, to_z, w64}
use Rattle.std.specs.Cmp.Lexicographic.{pointwise}
use Rattle.std.proofs.lemmas.Int.{ints}
use Rattle.std.proofs.lemmas.List.{length-set}
use Rattle.j_search.specs.Searched.{run_before}
use Rattle.j_search.specs.Sought.{run, place_of}
use Rattle.j_search.proofs.Searching.{before_later, runs_up, entered_more, entered_all}
use Rattle.j_search.proofs.sought.enter_in_order.Goals as goal

pub loop-k-preserved : goal.loop-k-preserved
loop-k-preserved g c =
    let i : ℕ = c.loop-k.k-index in
    let k : ℕ = get_or c.args.turns.now i 0 in
    let low : k < length c.args.turns.now = c.requires.turns.within i 0 c.loop-k-test.true in
    let is : to_z w64 c.place_in_order.result ≡ pos c.place_in_order.result = omega (arith, ints, c.place_in_order.ensures.within, c.requires.few) in
    record {
      wide = length-set c.loop-k.places.items k (to_z w64 c.place_in_order.result) ∙ c.loop-k.invariant.wide;
      within = c.boundary-before.ensures.within;
      front = λ r l u s m. before_later g.T.Ord.cmp g.met.T.Ord.total c.args.side c.args.size s c.args.items.now (run c.args.size c.args.cells.now k) (run c.args.size c.args.cells.now (get_or c.args.turns.now r 0)) c.args.order.now
          (runs_up g.T.Ord.cmp g.met.T.Ord.total c.args.size (length c.args.turns.now) c.args.cells.now c.args.turns.now c.requires.turns c.part-cell.result.now i r (omega arith) u)
          (ap (λ y. run_before c.args.side g.T.Ord.cmp c.args.size c.args.items.now y c.args.order.now s) (sym c.part-cell.ensures) ∙ c.boundary-before.ensures.front s m);
      there = entered_more (λ m. place_of c.args.side (λ j. pointwise g.T.PartialEq.eq (run c.args.size c.args.items.now j) (run c.args.size c.args.cells.now m)) (length c.args.order.now)) c.args.turns.now i k c.loop-k.places.items
          (set c.loop-k.places.items k (to_z w64 c.place_in_order.result)) (to_z w64 c.place_in_order.result) refl (omega (arith, low, c.loop-k.invariant.wide))
          (is ∙ ap pos (c.place_in_order.ensures.value ∙ ap (λ y. place_of c.args.side (λ j. pointwise g.T.PartialEq.eq (run c.args.size c.args.items.now j) y) (length c.args.order.now)) c.part-cell.ensures)) refl
          c.loop-k.invariant.there;
    }

pub returns : goal.returns
returns g c =
    entered_all g.T.Ord.cmp g.met.T.Ord.total c.args.size (length c.args.turns.now) c.args.cells.now c.args.turns.now c.requires.turns
    (λ m. place_of c.args.side (λ j. pointwise g.T.PartialEq.eq (run c.args.size c.args.items.now j) (run c.args.size c.args.cells.now m)) (length c.args.order.now)) c.loop-k.places.items c.loop-k.invariant.wide
    (λ r l. c.loop-k.invariant.there r (omega (arith, c.loop-k-test.false)))
