use Rattle.std.proofs.Common.{◌≡◌, ◌*◌, ap, sym, ◌∙◌, arith, subst, length}
use Rattle.std.proofs.lemmas.List.{length-replicate}
use Rattle.j_search.specs.Graded.{IsAscending}
use Rattle.j_search.specs.Sought.{run_places}
use Rattle.j_search.proofs.Searching.{ascending_many}
use Rattle.j_search.proofs.sought.find_each_in_order.Goals as goal

pub enter_in_order-requires-clause-items : goal.enter_in_order-requires-clause-items
enter_in_order-requires-clause-items g c =
    let many : length c.deref.result.now ≡ c.args.sizes.items = ap length c.deref.ensures.value ∙ ascending_many g.T.Ord.cmp c.args.sizes.size c.args.sizes.items c.args.items.now c.in_ok-order.order.items c.in_ok-order.ensures in
    c.requires.items ∙ ap (λ n. n * c.args.sizes.size) (sym many)

pub enter_in_order-requires-clause-cells : goal.enter_in_order-requires-clause-cells
enter_in_order-requires-clause-cells g c =
    let each : length c.deref-2.result.now ≡ c.args.sizes.cells = ap length c.deref-2.ensures.value ∙ ascending_many g.T.Ord.cmp c.args.sizes.size c.args.sizes.cells c.args.cells.now c.in_ok-turns.turns.items c.in_ok-turns.ensures in
    c.requires.cells ∙ ap (λ n. n * c.args.sizes.size) (sym each)

pub enter_in_order-requires-clause-order : goal.enter_in_order-requires-clause-order
enter_in_order-requires-clause-order g c =
    let many : length c.deref.result.now ≡ c.args.sizes.items = ap length c.deref.ensures.value ∙ ascending_many g.T.Ord.cmp c.args.sizes.size c.args.sizes.items c.args.items.now c.in_ok-order.order.items c.in_ok-order.ensures in
    subst (λ n. IsAscending g.T.Ord.cmp c.args.sizes.size n c.args.items.now c.deref.result.now) (sym many)
    (subst (IsAscending g.T.Ord.cmp c.args.sizes.size c.args.sizes.items c.args.items.now) (sym c.deref.ensures.value) c.in_ok-order.ensures)

pub enter_in_order-requires-clause-turns : goal.enter_in_order-requires-clause-turns
enter_in_order-requires-clause-turns g c =
    let each : length c.deref-2.result.now ≡ c.args.sizes.cells = ap length c.deref-2.ensures.value ∙ ascending_many g.T.Ord.cmp c.args.sizes.size c.args.sizes.cells c.args.cells.now c.in_ok-turns.turns.items c.in_ok-turns.ensures in
    subst (λ n. IsAscending g.T.Ord.cmp c.args.sizes.size n c.args.cells.now c.deref-2.result.now) (sym each)
    (subst (IsAscending g.T.Ord.cmp c.args.sizes.size c.args.sizes.cells c.args.cells.now) (sym c.deref-2.ensures.value) c.in_ok-turns.ensures)

pub enter_in_order-requires-clause-few : goal.enter_in_order-requires-clause-few
enter_in_order-requires-clause-few g c =
    let many : length c.deref.result.now ≡ c.args.sizes.items = ap length c.deref.ensures.value ∙ ascending_many g.T.Ord.cmp c.args.sizes.size c.args.sizes.items c.args.items.now c.in_ok-order.order.items c.in_ok-order.ensures in
    omega (arith, many, c.requires.few)

pub enter_in_order-requires-clause-wide : goal.enter_in_order-requires-clause-wide
enter_in_order-requires-clause-wide g c =
    let each : length c.deref-2.result.now ≡ c.args.sizes.cells = ap length c.deref-2.ensures.value ∙ ascending_many g.T.Ord.cmp c.args.sizes.size c.args.sizes.cells c.args.cells.now c.in_ok-turns.turns.items c.in_ok-turns.ensures in
    ap length c.in_ok-places.ensures ∙ length-replicate c.args.sizes.cells _ ∙ sym each

pub returns : goal.returns
returns g c =
    let many : length c.deref.result.now ≡ c.args.sizes.items = ap length c.deref.ensures.value ∙ ascending_many g.T.Ord.cmp c.args.sizes.size c.args.sizes.items c.args.items.now c.in_ok-order.order.items c.in_ok-order.ensures in
    let each : length c.deref-2.result.now ≡ c.args.sizes.cells = ap length c.deref-2.ensures.value ∙ ascending_many g.T.Ord.cmp c.args.sizes.size c.args.sizes.cells c.args.cells.now c.in_ok-turns.turns.items c.in_ok-turns.ensures in
    c.enter_in_order.ensures ∙ ap (λ n. run_places g.T.PartialEq.eq c.args.side c.args.sizes.size n (length c.deref-2.result.now) c.args.items.now c.args.cells.now) many
    ∙ ap (λ n. run_places g.T.PartialEq.eq c.args.side c.args.sizes.size c.args.sizes.items n c.args.items.now c.args.cells.now) each
