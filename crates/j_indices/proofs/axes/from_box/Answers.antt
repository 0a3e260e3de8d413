use Rattle.std.proofs.Common.{◌≡◌, ◌∙◌, ap, sym, subst, map, length, pos, ℕ, ℤ, List}
use Rattle.j_definitions.specs.Array.{Array, Atom, number, atom_array, opened}
use Rattle.j_definitions.specs.declared.Kind.TheVariants.{Number}
use Rattle.j_noun.specs.Refused.{OrWanting}
use Rattle.j_indices.specs.Indexing.{along_axes}
use Rattle.j_indices.proofs.Chosen.{map_map}
use Rattle.j_indices.proofs.BoxIndices.{opened_boxes, bytes_refused}
use Rattle.j_indices.proofs.axes.from_box.Goals as goal

abbrev single : ℤ → Array
single z = atom_array Number (number z)

pub returns-in-Wholes : goal.returns-in-Wholes
returns-in-Wholes c =
    let v : List ℤ = c.in-Wholes.v.now in
    let nouns : map opened c.args.held.now.atoms ≡ map single (map (λ (z : ℤ). z) v) = ap (map opened) (sym c.in-Wholes.ensures.atoms) ∙ map_map opened number v ∙ sym (map_map single (λ (z : ℤ). z) v) in
    subst (λ (ns : List Array). OrWanting (along_axes (length c.args.held.now.shape) ns c.args.y.now) c.along_numbers.result) (sym nouns)
    (subst (λ (s : List ℕ). OrWanting (along_axes (length s) (map single (map (λ (z : ℤ). z) v)) c.args.y.now) c.along_numbers.result) c.axes-rank.ensures.value c.along_numbers.ensures)

pub returns-in-Bits : goal.returns-in-Bits
returns-in-Bits c =
    let v : List ℕ = c.in-Bits.v.now in
    let nouns : map opened c.args.held.now.atoms ≡ map single (map (λ b. pos b) v) = ap (map opened) (sym c.in-Bits.ensures.atoms) ∙ map_map opened (λ b. number (pos b)) v ∙ sym (map_map single (λ b. pos b) v) in
    subst (λ (ns : List Array). OrWanting (along_axes (length c.args.held.now.shape) ns c.args.y.now) c.along_numbers-in-Bits.result) (sym nouns)
    (subst (λ (s : List ℕ). OrWanting (along_axes (length s) (map single (map (λ b. pos b) v)) c.args.y.now) c.along_numbers-in-Bits.result) c.axes-rank.ensures.value c.along_numbers-in-Bits.ensures)

pub returns-in-Bytes : goal.returns-in-Bytes
returns-in-Bytes c =
    ap (λ (xs : List Atom). along_axes (length c.args.held.now.shape) (map opened xs) c.args.y.now) (sym c.in-Bytes.ensures.atoms)
    ∙ bytes_refused (length c.args.held.now.shape) c.in-Bytes.field-0.now c.args.y.now c.in-Bytes.len_at_least

pub returns-in-Boxes : goal.returns-in-Boxes
returns-in-Boxes c =
    let nouns : map opened c.args.held.now.atoms ≡ c.in-Boxes.v.now = ap (map opened) (sym c.in-Boxes.ensures.atoms) ∙ opened_boxes c.in-Boxes.v.now in
    subst (λ (ns : List Array). OrWanting (along_axes (length c.args.held.now.shape) ns c.args.y.now) c.along_axes-in-Boxes.result) (sym nouns)
    (subst (λ (s : List ℕ). OrWanting (along_axes (length s) c.in-Boxes.v.now c.args.y.now) c.along_axes-in-Boxes.result) c.axes-rank.ensures.value c.along_axes-in-Boxes.ensures)
