use Rattle.std.proofs.Common.{sym, subst, map, pos, ℕ, ℤ, List}
use Rattle.j_definitions.specs.Array.{number, boxed}
use Rattle.j_noun.specs.Refused.{OrWanting}
use Rattle.j_indices.specs.Selecting.{items_indexed}
use Rattle.j_indices.proofs.BoxIndices.{one_element, one_number, one_box}
use Rattle.j_indices.proofs.indexing.from.Goals as goal

pub returns-in-Wholes : goal.returns-in-Wholes
returns-in-Wholes c =
    let v : List ℤ = c.in-Wholes.v.now in
    let one = one_element number v c.args.x.now c.in-Wholes.ensures.atoms c.requires c.view.ensures.noun in
    subst (λ r. OrWanting r c.items_indexed.result) (sym (one_number (λ (z : ℤ). z) v c.args.x.now c.args.y.now c.in-Wholes.ensures.atoms one))
    (subst (λ (s : List ℕ). OrWanting (items_indexed s (map (λ (z : ℤ). z) v) c.args.y.now) c.items_indexed.result) c.new.ensures c.items_indexed.ensures)

pub returns-in-Bits : goal.returns-in-Bits
returns-in-Bits c =
    let v : List ℕ = c.in-Bits.v.now in
    let one = one_element (λ b. number (pos b)) v c.args.x.now c.in-Bits.ensures.atoms c.requires c.view.ensures.noun in
    subst (λ r. OrWanting r c.items_indexed-in-Bits.result) (sym (one_number (λ b. pos b) v c.args.x.now c.args.y.now c.in-Bits.ensures.atoms one))
    (subst (λ (s : List ℕ). OrWanting (items_indexed s (map (λ b. pos b) v) c.args.y.now) c.items_indexed-in-Bits.result) c.new-in-Bits.ensures c.items_indexed-in-Bits.ensures)

pub returns-in-Boxes : goal.returns-in-Boxes
returns-in-Boxes c =
    let one = one_element boxed c.in-Boxes.v.now c.args.x.now c.in-Boxes.ensures.atoms c.requires c.view.ensures.noun in
    subst (λ r. OrWanting r c.from_box.result) (sym (one_box c.in-Boxes.v.now c.index-v-0.result c.args.x.now c.args.y.now c.in-Boxes.ensures.atoms one c.index-v-0.is)) c.from_box.ensures
