use Rattle.std.proofs.Common.{◌≡◌, ◌≤◌, ◌/◌, ◌∷◌, ◌∙◌, ap, sym, arith, map, length}
use Rattle.j_rank.proofs.Paddings.{head, item_size_is, head_some}
use Rattle.j_indices.proofs.Chosen.{rest_of, at_first}
use Rattle.j_indices.proofs.Taken.{places, none_taken, taken_all, head_rest}
use Rattle.j_indices.proofs.axes.+append_places.Goals as goal

pub returns-in_default : goal.returns-in_default
returns-in_default t c = none_taken c.args.start c.args.axes.now c.args.taken.now c.args.out.now.items c.push.new.self.items c.in_default.len_below c.in-Ok.ensures.items

pub returns : goal.returns
returns t c =
    let axes : 1 ≤ length c.args.axes.now = c.in-len1-up-axes.len_at_least in
    let step = item_size_is c.args.axes.now c.args.size axes c.requires.size (head_some c.args.axes.now c.args.size axes c.requires.size c.requires.some) in
    let split : map places c.args.taken.now ≡ c.as_slice-places.result.now ∷ map places (rest_of c.args.taken.now) =
    ap (map places) (at_first c.args.taken.now c.first-item.result c.in-len1-up.len_at_least c.first-item.is) ∙ ap (λ p. p ∷ map places (rest_of c.args.taken.now)) (sym c.as_slice-places.ensures.value) in
    taken_all c.args.start (head c.args.axes.now) (c.args.size / head c.args.axes.now) c.loop-k.k-index c.args.axes.now (rest_of c.args.axes.now) c.as_slice-places.result.now c.args.out.now.items c.loop-k.out.items
    (map places c.args.taken.now) (map places (rest_of c.args.taken.now)) (head_rest c.args.axes.now axes) split step (omega arith) c.loop-k.invariant
