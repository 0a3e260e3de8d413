use Rattle.std.proofs.Common.{◌≡◌, ◌++◌, ◌∷◌, [], sym, rules, get_or, pos}
use Rattle.std.specs.Ordering.{int_eq}
use Rattle.j_search.proofs.Keeping.{is_one, is_zero, one_where, bit_more}
use Rattle.j_search.proofs.kept.own_bits.Goals as goal
use Rattle.j_search.proofs.kept.own_bits.Goals.{then-is_place, else-is_place}

pub loop-k-preserved : goal.loop-k-preserved
loop-k-preserved c =
    let is : c.if-is_place.bit ≡ one_where (int_eq (get_or c.args.places.now c.loop-k.k (pos 0)) (pos c.loop-k.k)) = elim c.if-is_place.branch [
      | then-is_place w ↦ is_one (int_eq (get_or c.args.places.now c.loop-k.k (pos 0)) (pos c.loop-k.k)) c.if-is_place.bit w.bit-is (sym w.if-is_place.ensures)
      | else-is_place w ↦ is_zero (int_eq (get_or c.args.places.now c.loop-k.k (pos 0)) (pos c.loop-k.k)) c.if-is_place.bit w.bit-is (sym w.if-is_place.ensures)
    ] in
    let pushed : c.push.new.self.items ≡ c.loop-k.bits.items ++ c.if-is_place.bit ∷ [] = search rules in
    bit_more (λ k. one_where (int_eq (get_or c.args.places.now k (pos 0)) (pos k))) c.loop-k.k c.if-is_place.bit c.loop-k.bits.items c.push.new.self.items c.loop-k.invariant is pushed
