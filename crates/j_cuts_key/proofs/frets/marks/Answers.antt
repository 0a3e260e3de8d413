use Rattle.std.proofs.Common.{◌≡◌, ◌<◌, ◌∙◌, ap, arith, sym, length, map, pos, List, Bool, Result, Ok, Err, IfOk}
use Rattle.j_definitions.specs.Array.{Atom, number, product}
use Rattle.j_definitions.specs.Cells.{in_order}
use Rattle.j_cuts_key.specs.Cuts.{mark_in}
use Rattle.j_cuts_key.proofs.Marks.{marks_as_many, bytes_refused, boxes_refused}
use Rattle.j_cuts_key.proofs.frets.marks.Goals as goal

pub returns-in-Wholes-clause-many : goal.returns-in-Wholes-clause-many
returns-in-Wholes-clause-many c = marks_as_many c.marks_of_wholes.result _ c.args.x.now.atoms _ c.in-Wholes.ensures.atoms c.in-Wholes.ensures.noun.as_many c.marks_of_wholes.ensures

pub returns-in-Bits-clause-many : goal.returns-in-Bits-clause-many
returns-in-Bits-clause-many c = marks_as_many c.marks_of_bits.result _ c.args.x.now.atoms _ c.in-Bits.ensures.atoms c.in-Bits.ensures.noun.as_many c.marks_of_bits.ensures

pub returns-in-Bytes-clause-marks : goal.returns-in-Bytes-clause-marks
returns-in-Bytes-clause-marks c = ap (λ (xs : List Atom). in_order (map mark_in xs)) (sym c.in-Bytes.ensures.atoms) ∙ bytes_refused c.in-Bytes.field-0.now (omega (arith, c.in-Bytes.len_at_least))

pub returns-in-Boxes-clause-marks : goal.returns-in-Boxes-clause-marks
returns-in-Boxes-clause-marks c = ap (λ (xs : List Atom). in_order (map mark_in xs)) (sym c.in-Boxes.ensures.atoms) ∙ boxes_refused c.in-Boxes.field-0.now (omega (arith, c.in-Boxes.len_at_least))
