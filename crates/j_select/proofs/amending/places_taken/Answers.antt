use Rattle.std.proofs.Common.{◌∙◌, ap, sym, length, pos, List, ℤ, Result, Ok}
use Rattle.std.proofs.lemmas.List.{length-map}
use Rattle.j_definitions.specs.Array.{number}
use Rattle.j_definitions.specs.declared.Fault.{Fault}
use Rattle.j_indices.specs.Numbers.{whole_numbers}
use Rattle.j_indices.proofs.Readings.{whole_wholes, whole_bits}
use Rattle.j_select.proofs.ListPlaces.{map_same}
use Rattle.j_select.proofs.amending.places_taken.Goals as goal

pub places_in_list-requires-clause-numbers : goal.places_in_list-requires-clause-numbers
places_in_list-requires-clause-numbers c =
    ap whole_numbers (sym c.in-Wholes.ensures.atoms) ∙ whole_wholes c.in-Wholes.v.now ∙ ap (λ (zs : List ℤ). let r : Result (List ℤ) Fault = Ok zs in r) (sym (map_same c.in-Wholes.v.now))

pub places_in_list-requires-clause-many : goal.places_in_list-requires-clause-many
places_in_list-requires-clause-many c = sym (length-map c.in-Wholes.v.now number) ∙ ap length c.in-Wholes.ensures.atoms

pub places_in_list-requires-in-Bits-clause-numbers : goal.places_in_list-requires-in-Bits-clause-numbers
places_in_list-requires-in-Bits-clause-numbers c = ap whole_numbers (sym c.in-Bits.ensures.atoms) ∙ whole_bits c.in-Bits.v.now

pub places_in_list-requires-in-Bits-clause-many : goal.places_in_list-requires-in-Bits-clause-many
places_in_list-requires-in-Bits-clause-many c = sym (length-map c.in-Bits.v.now (λ b. number (pos b))) ∙ ap length c.in-Bits.ensures.atoms
