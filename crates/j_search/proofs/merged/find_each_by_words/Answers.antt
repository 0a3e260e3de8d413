use Rattle.std.proofs.Common.{◌≡◌, ◌<◌, ℕ, pos, List, length, map, get_or, set, refl, ap, sym, ◌∙◌, subst, arith, to_z, w64}
use Rattle.std.specs.List.{All}
use Rattle.std.specs.Cmp.Lexicographic.{pointwise}
use Rattle.std.proofs.lemmas.Int.{ints}
use Rattle.std.proofs.lemmas.List.{length-set, length-map, get_or-map}
use Rattle.j_search.specs.declared.order.Direction.TheVariants.{Up}
use Rattle.j_search.specs.Graded.{IsInOrder}
use Rattle.j_search.specs.Packed.{place_in, distance_in, IsPacked, IsWordBoundary, word_place}
use Rattle.j_search.specs.Sought.{run, place_of}
use Rattle.j_search.proofs.Searching.{entered_more, entered_all}
use Rattle.j_search.proofs.Merging.{placed, later, order_many}
use Rattle.j_search.proofs.merged.find_each_by_words.Goals as goal

pub loop-turn-preserved : goal.loop-turn-preserved
loop-turn-preserved g c =
    let xs : List g.row.T.Denot = c.args.items.now in
    let ys : List g.row.T.Denot = c.args.cells.now in
    let ws : List ℕ = c.in_ok-words.words.items in
    let us : List ℕ = c.deref-turn-items.result.now in
    let i : ℕ = c.loop-turn.turn-index in
    let turns : All (IsPacked g.T.Numbered.number Up c.args.range ys) us = subst (All (IsPacked g.T.Numbered.number Up c.args.range ys)) (sym c.deref-turn-items.ensures.value) c.in_ok-turns.ensures.words in
    let order : IsInOrder g.T.Ord.cmp Up 1 (length ys) ys (map place_in us) = subst (λ (vs : List ℕ). IsInOrder g.T.Ord.cmp Up 1 (length ys) ys (map place_in vs)) (sym c.deref-turn-items.ensures.value) c.in_ok-turns.ensures.order in
    let bound : IsWordBoundary c.args.side ws (distance_in (get_or us i 0)) c.boundary-before.result =
    subst (λ n. IsWordBoundary c.args.side ws n c.boundary-before.result) c.distance_in-far.ensures (subst (λ (vs : List ℕ). IsWordBoundary c.args.side vs c.distance_in-far.result c.boundary-before.result) c.deref.ensures.value c.boundary-before.ensures) in
    let told : c.word_place.result ≡ word_place c.args.side ws (distance_in (get_or us i 0)) c.boundary-before.result (length xs) =
    c.word_place.ensures.value ∙ ap (λ (vs : List ℕ). word_place c.args.side vs c.distance_in-far.result c.boundary-before.result (length xs)) c.deref-in-loop-turn.ensures.value
    ∙ ap (λ n. word_place c.args.side ws n c.boundary-before.result (length xs)) c.distance_in-far.ensures in
    let at : get_or (map place_in us) i 0 ≡ place_in (get_or us i 0) = get_or-map place_in us i 0 0 c.loop-turn-test.true in
    let low : get_or (map place_in us) i 0 < length ys = order.within i 0 (subst (λ n. i < n) (sym (length-map us place_in)) c.loop-turn-test.true) in
    let F : ℕ → ℕ = λ k. place_of c.args.side (λ j. pointwise g.T.PartialEq.eq (run 1 xs j) (run 1 ys k)) (length xs) in
    let fits : to_z w64 c.word_place.result ≡ pos c.word_place.result = omega (arith, ints, c.word_place.ensures.within) in
    record {
      wide = length-set c.loop-turn.places.items c.place_in.result (to_z w64 c.word_place.result) ∙ c.loop-turn.invariant.wide;
      within = bound.within;
      front = λ r l m s n. later g.T.Ord.cmp g.met.T.Ord.total g.T.Numbered.number g.met.T.Numbered.by_order c.args.range xs ys (length xs) ws c.in_ok-words.ensures.words c.in_ok-words.ensures.order (length ys) us turns order
          c.args.side i r s (omega arith) m (omega (arith, bound.within)) (bound.front s n);
      there = entered_more F (map place_in us) i c.place_in.result c.loop-turn.places.items (set c.loop-turn.places.items c.place_in.result (to_z w64 c.word_place.result)) (to_z w64 c.word_place.result)
          (c.place_in.ensures ∙ sym at) (subst (λ n. n < length c.loop-turn.places.items) (at ∙ sym c.place_in.ensures) (subst (λ n. get_or (map place_in us) i 0 < n) (sym c.loop-turn.invariant.wide) low))
          (fits ∙ ap pos (placed g.T.Ord.cmp g.met.T.Ord.total g.T.Numbered.number g.met.T.Numbered.by_order c.args.range xs ys (length xs) ws c.in_ok-words.ensures.words c.in_ok-words.ensures.order (length ys) us turns order
          g.T.PartialEq.eq g.met.T.Ord.matches_eq c.args.side i c.loop-turn-test.true c.boundary-before.result bound c.word_place.result told ∙ ap F (sym c.place_in.ensures)))
          refl c.loop-turn.invariant.there;
    }

pub returns : goal.returns
returns g c =
    let us : List ℕ = c.deref-turn-items.result.now in
    let order : IsInOrder g.T.Ord.cmp Up 1 (length c.args.cells.now) c.args.cells.now (map place_in us) =
    subst (λ (vs : List ℕ). IsInOrder g.T.Ord.cmp Up 1 (length c.args.cells.now) c.args.cells.now (map place_in vs)) (sym c.deref-turn-items.ensures.value) c.in_ok-turns.ensures.order in
    entered_all g.T.Ord.cmp g.met.T.Ord.total 1 (length c.args.cells.now) c.args.cells.now (map place_in us) order
    (λ k. place_of c.args.side (λ j. pointwise g.T.PartialEq.eq (run 1 c.args.items.now j) (run 1 c.args.cells.now k)) (length c.args.items.now)) c.loop-turn.places.items c.loop-turn.invariant.wide
    (λ r l. c.loop-turn.invariant.there r (omega (arith, c.loop-turn-test.false, order_many g.T.Ord.cmp (length c.args.cells.now) c.args.cells.now us order)))
