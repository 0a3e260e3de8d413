use Rattle.std.proofs.Common.{refl}
use Rattle.j_rank.proofs.rows.worked_assemblies.Goals as goal

pub returns-clause-padded : goal.returns-clause-padded
returns-clause-padded c = refl

pub returns-clause-atom_beside_list : goal.returns-clause-atom_beside_list
returns-clause-atom_beside_list c = refl

pub returns-clause-list_beside_table : goal.returns-clause-list_beside_table
returns-clause-list_beside_table c = refl

pub returns-clause-characters : goal.returns-clause-characters
returns-clause-characters c = refl

pub returns-clause-boxes : goal.returns-clause-boxes
returns-clause-boxes c = refl

pub returns-clause-boxed_and_number : goal.returns-clause-boxed_and_number
returns-clause-boxed_and_number c = refl

pub returns-clause-last_of_three : goal.returns-clause-last_of_three
returns-clause-last_of_three c = refl

pub returns-clause-no_boxes_yield : goal.returns-clause-no_boxes_yield
returns-clause-no_boxes_yield c = refl

pub returns-clause-no_places_for_a_box : goal.returns-clause-no_places_for_a_box
returns-clause-no_places_for_a_box c = refl

pub returns-clause-one_place : goal.returns-clause-one_place
returns-clause-one_place c = refl

pub returns-clause-no_places : goal.returns-clause-no_places
returns-clause-no_places c = refl

pub returns-clause-two_kinds : goal.returns-clause-two_kinds
returns-clause-two_kinds c = refl

pub returns-clause-no_atoms_yield : goal.returns-clause-no_atoms_yield
returns-clause-no_atoms_yield c = refl

pub returns-clause-no_atoms : goal.returns-clause-no_atoms
returns-clause-no_atoms c = refl

pub returns-clause-long_axis : goal.returns-clause-long_axis
returns-clause-long_axis c = refl
