use Rattle.std.proofs.Common.{◌≡◌, ◌∙◌, ap, sym, subst, map, pos, ℕ, ℤ, List, IfOk}
use Rattle.j_definitions.specs.Array.{Array, number, atom_array, opened}
use Rattle.j_definitions.specs.declared.Kind.TheVariants.{Number}
use Rattle.j_indices.proofs.Chosen.{map_map}
use Rattle.j_indices.proofs.BoxIndices.{opened_boxes}
use Rattle.j_select.proofs.reaching.index_nouns.Goals as goal

abbrev single : ℤ → Array
single z = atom_array Number (number z)

pub returns-in-Wholes : goal.returns-in-Wholes
returns-in-Wholes c =
    let v : List ℤ = c.in-Wholes.v.now in
    subst (λ (ns : List Array). IfOk c.nouns_of.result (λ w. w.items ≡ ns)) (map_map single (λ (z : ℤ). z) v ∙ sym (map_map opened number v) ∙ ap (map opened) c.in-Wholes.ensures.atoms) c.nouns_of.ensures

pub returns-in-Bits : goal.returns-in-Bits
returns-in-Bits c =
    let v : List ℕ = c.in-Bits.v.now in
    subst (λ (ns : List Array). IfOk c.nouns_of-in-Bits.result (λ w. w.items ≡ ns)) (map_map single (λ b. pos b) v ∙ sym (map_map opened (λ b. number (pos b)) v) ∙ ap (map opened) c.in-Bits.ensures.atoms)
    c.nouns_of-in-Bits.ensures

pub returns-in-Boxes : goal.returns-in-Boxes
returns-in-Boxes c =
    subst (λ (ns : List Array). IfOk c.copied.result (λ w. w.items ≡ ns)) (sym (opened_boxes c.in-Boxes.v.now) ∙ ap (map opened) c.in-Boxes.ensures.atoms) c.copied.ensures
