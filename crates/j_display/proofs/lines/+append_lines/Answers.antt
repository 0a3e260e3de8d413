use Rattle.std.proofs.Common.{rules, arith, ◌≡◌, ◌+◌, ◌*◌, ◌∷◌, ◌++◌, length, replicate, ap, ◌∙◌, vec_len, vec_capacity}
use Rattle.std.proofs.lemmas.List.{length-append, length-replicate}
use Rattle.j_definitions.specs.Array.{product}
use Rattle.j_display.specs.Lines.{between, row_at}
use Rattle.j_display.proofs.Stacking.{written_more}
use Rattle.j_display.proofs.LineRows.{fewer_lines, after_item, item_ends, item_has_room, items_done}
use Rattle.j_display.proofs.lines.+append_lines.Goals as goal

pub overflow_add-result : goal.overflow_add-result
overflow_add-result t c = omega (arith, c.requires.lines.counted)

pub append_copies-requires : goal.append_copies-requires
append_copies-requires t c =
    let frame : c.args.frame.now ≡ c.in-Some.n.now ∷ c.in-Some.item.now = search rules in
    let fits =
    item_has_room c.in-Some.n.now c.args.frame.now c.in-Some.item.now c.args.lines c.args.from c.loop-k.k c.loop-k.next (vec_len c.args.into.now) (vec_len c.loop-k.into) (vec_capacity c.args.into.now) (vec_capacity c.loop-k.into)
    c.args.into.now.items c.loop-k.into.items frame c.loop-k-test.true c.loop-k.invariant.next c.loop-k.invariant.items (search rules) (search rules) c.requires.room c.loop-k.invariant.capacity in
    record { room = omega arith }

pub append_lines-next-requires : goal.append_lines-next-requires
append_lines-next-requires t c =
    let frame : c.args.frame.now ≡ c.in-Some.n.now ∷ c.in-Some.item.now = search rules in
    let whole : product c.args.frame.now ≡ c.in-Some.n.now * product c.in-Some.item.now = ap product frame in
    let ends = item_ends c.in-Some.n.now c.args.from c.loop-k.k (product c.in-Some.item.now) c.loop-k.next c.loop-k-test.true c.loop-k.invariant.next in
    let fits =
    item_has_room c.in-Some.n.now c.args.frame.now c.in-Some.item.now c.args.lines c.args.from c.loop-k.k c.loop-k.next (vec_len c.args.into.now) (vec_len c.loop-k.into) (vec_capacity c.args.into.now) (vec_capacity c.append_copies.new.into)
    c.args.into.now.items c.loop-k.into.items frame c.loop-k-test.true c.loop-k.invariant.next c.loop-k.invariant.items (search rules) (search rules) c.requires.room (omega arith) in
    let parted : length c.append_copies.new.into.items ≡ length c.loop-k.into.items + between c.loop-k.k (length c.in-Some.item.now) =
    ap length c.append_copies.ensures.items ∙ length-append c.loop-k.into.items (replicate c.between.result 10) ∙ ap (λ m. length c.loop-k.into.items + m) (length-replicate c.between.result 10 ∙ c.between.ensures) in
    (search rules, (fewer_lines c.args.lines _ _ c.requires.lines (omega arith), omega arith))

pub loop-k-preserved : goal.loop-k-preserved
loop-k-preserved t c = record {
  next = c.append_lines-next.ensures.next ∙ after_item c.args.from c.loop-k.k (product c.in-Some.item.now) c.loop-k.next c.loop-k.invariant.next;
  items =
      written_more c.in-Some.item.now (row_at c.args.lines) c.args.from c.loop-k.k c.loop-k.next c.args.into.now.items c.loop-k.into.items c.append_copies.new.into.items c.append_lines-next.new.into.items c.loop-k.invariant.next
      c.loop-k.invariant.items (c.append_copies.ensures.items ∙ ap (λ n. c.loop-k.into.items ++ replicate n 10) c.between.ensures) c.append_lines-next.ensures.items;
  capacity = omega arith;
}

pub returns-clause-items : goal.returns-clause-items
returns-clause-items t c =
    let frame : c.args.frame.now ≡ c.in-Some.n.now ∷ c.in-Some.item.now = search rules in
    items_done c.in-Some.n.now c.args.frame.now c.in-Some.item.now c.args.lines c.args.from c.loop-k.k c.args.into.now.items c.loop-k.into.items frame (omega arith) c.loop-k.invariant.items
