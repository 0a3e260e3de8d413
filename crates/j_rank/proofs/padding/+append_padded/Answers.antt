use Rattle.std.proofs.Common.{◌≡◌, ◌<◌, ◌≤◌, ◌*◌, ◌/◌, ◌∙◌, ap, arith, rules, length}
use Rattle.j_definitions.specs.Array.{product}
use Rattle.j_rank.proofs.Paddings.{head, rest, none_padded, on_ok, rest_many, item_size_is, head_some, rest_positive, item_many, items_more, all_padded}
use Rattle.j_rank.proofs.padding.+append_padded.Goals as goal

pub returns-then-eq : goal.returns-then-eq
returns-then-eq g t c =
    let same : c.args.from.now ≡ c.args.to.now = search rules in
    on_ok c.append.result _ _ (none_padded c.args.fill.now c.args.from.now c.args.to.now c.args.all.now c.args.out.now.items c.append.new.out.items same c.requires.many) c.append.ensures

pub loop-k-preserved : goal.loop-k-preserved
loop-k-preserved g t c =
    let from : 1 ≤ length c.args.from.now = c.in-len1-up.len_at_least in
    let size = item_size_is c.args.from.now _ from c.requires.many (omega (arith, c.loop-k-test.true)) in
    items_more c.args.fill.now _ _ c.args.all.now c.part-item.result.now c.args.out.now.items c.loop-k.out.items c.append_padded.new.out.items c.loop-k.k _ size c.part-item.ensures c.loop-k.invariant
    c.in_ok-append_padded.ensures

pub returns : goal.returns
returns g t c =
    let from : 1 ≤ length c.args.from.now = c.in-len1-up.len_at_least in
    let to : 1 ≤ length c.args.to.now = c.in-len1-up-to.len_at_least in
    let some = head_some c.args.to.now c.args.size to c.requires.size c.requires.some in
    let item = item_size_is c.args.to.now c.args.size to c.requires.size some in
    let ended : c.loop-k.k ≡ head c.args.from.now = omega (arith, c.loop-k.auto.k-end) in
    on_ok c.append_fills.result _ _
    (all_padded c.args.fill.now c.args.from.now c.args.to.now c.args.all.now c.args.out.now.items c.loop-k.out.items c.append_fills.new.out.items c.loop-k.k _ from to ended
    (ap (λ n. c.saturating_sub.result * n) item ∙ ap (λ n. n * product (rest c.args.to.now)) c.saturating_sub.ensures) c.loop-k.invariant) c.append_fills.ensures

pub append_padded-requires : goal.append_padded-requires
append_padded-requires g t c =
    let from : 1 ≤ length c.args.from.now = c.in-len1-up.len_at_least in
    let to : 1 ≤ length c.args.to.now = c.in-len1-up-to.len_at_least in
    let rank = rest_many c.args.from.now c.args.to.now c.requires.rank in
    let item = item_size_is c.args.to.now c.args.size to c.requires.size (head_some c.args.to.now c.args.size to c.requires.size c.requires.some) in
    let some : 0 < c.args.size / head c.args.to.now = omega (arith, item, rest_positive c.args.to.now c.args.size to c.requires.size c.requires.some) in
    let many = item_many c.args.from.now c.args.all.now c.part-item.result.now c.loop-k.k from c.requires.many c.loop-k-test.true c.part-item.ensures in search (rules, rank, item, some, many)
