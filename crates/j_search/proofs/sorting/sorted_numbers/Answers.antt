use Rattle.std.proofs.Common.{◌≡◌, ◌++◌, ◌∷◌, [], ◌<◌, ℕ, List, length, map, get_or, rules, sym, ap, ◌∙◌, subst, take_all}
use Rattle.std.specs.List.{All, flat_map}
use Rattle.std.specs.Ordering.{int_cmp}
use Rattle.std.proofs.lemmas.Cmp.{int_cmp_total}
use Rattle.std.proofs.lemmas.List.Elements.{Contains-get_or, All-contains}
use Rattle.std.proofs.lemmas.List.Folds.{flat_map-map}
use Rattle.j_search.specs.Packed.{place_in, IsDistance, IsPacked}
use Rattle.j_search.specs.Sought.{run}
use Rattle.j_search.proofs.Listed.{number_here, word_taken}
use Rattle.j_search.proofs.Ranks.{order_counted}
use Rattle.j_search.proofs.sorting.sorted_numbers.Goals as goal

pub loop-word-preserved : goal.loop-word-preserved
loop-word-preserved c =
    let us : List ℕ = c.deref-word-items.result.now in
    let i : ℕ = c.loop-word.word-index in
    let packed : All (IsPacked (λ x. x) c.args.direction c.args.range c.args.items.now) us = subst (All (IsPacked (λ x. x) c.args.direction c.args.range c.args.items.now)) (sym c.deref-word-items.ensures.value) c.in_ok-words.ensures.words in
    let here : IsPacked (λ x. x) c.args.direction c.args.range c.args.items.now (get_or us i 0) = All-contains (IsPacked (λ x. x) c.args.direction c.args.range c.args.items.now) us (get_or us i 0) packed (Contains-get_or us i 0 c.loop-word-test.true) in
    let pushed : c.push.new.self.items ≡ c.loop-word.numbers.items ++ c.number_at-number.result ∷ [] = search rules in
    word_taken (λ w. run 1 c.args.items.now (place_in w)) us i c.loop-word.numbers.items c.push.new.self.items c.number_at-number.result c.loop-word-test.true c.loop-word.invariant
    (number_here c.args.direction c.args.range c.args.items.now (get_or us i 0) c.number_at-number.result here
    (λ y fits far. c.number_at-number.ensures y fits (subst (IsDistance c.args.direction c.args.range y) (sym c.distance_in.ensures) far))) pushed

pub returns-clause-order : goal.returns-clause-order
returns-clause-order c =
    let us : List ℕ = c.deref-word-items.result.now in
    c.loop-word.invariant ∙ ap (flat_map (λ w. run 1 c.args.items.now (place_in w))) (take_all c.loop-word.word-index us c.loop-word-test.false) ∙ sym (flat_map-map (run 1 c.args.items.now) place_in us)
    ∙ ap (λ vs. flat_map (run 1 c.args.items.now) (map place_in vs)) c.deref-word-items.ensures.value
    ∙ ap (flat_map (run 1 c.args.items.now)) (order_counted int_cmp int_cmp_total 1 (length c.args.items.now) c.args.items.now c.args.direction (map place_in c.in_ok-words.words.items) c.in_ok-words.ensures.order)

pub returns-clause-within : goal.returns-clause-within
returns-clause-within c =
    subst (All (λ k. k < length c.args.items.now)) (order_counted int_cmp int_cmp_total 1 (length c.args.items.now) c.args.items.now c.args.direction (map place_in c.in_ok-words.words.items) c.in_ok-words.ensures.order)
    c.in_ok-words.ensures.order.within
