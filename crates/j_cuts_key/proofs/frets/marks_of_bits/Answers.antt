use Rattle.std.proofs.Common.{◌≡◌, ◌∙◌, ap, arith, sym, pos, get_or, rules, ℕ, ℤ, Bool, Err}
use Rattle.j_definitions.specs.Array.{number, Atom}
use Rattle.j_definitions.specs.Cells.{in_order}
use Rattle.j_definitions.specs.declared.Fault.{Fault}
use Rattle.j_definitions.specs.declared.Fault.TheVariants.{Domain}
use Rattle.j_search.proofs.Keeping.{map_map}
use Rattle.j_indices.proofs.Indices.{gives_more, gives_all, gives_fault}
use Rattle.j_cuts_key.specs.Cuts.{mark_in}
use Rattle.j_cuts_key.proofs.frets.marks_of_bits.Goals as goal

pub returns-in_default : goal.returns-in_default
returns-in_default c =
    ap (in_order {C = Bool} {E = Fault}) (map_map mark_in (λ x. number (pos x)) c.args.bits.now)
    ∙ gives_fault (λ x. mark_in (number (pos x))) c.args.bits.now c.loop-b.b-index (get_or c.args.bits.now c.loop-b.b-index 0) Domain c.loop-b.marks.items (omega arith) (search rules) (search rules) c.loop-b.invariant

pub returns : goal.returns
returns c =
    ap (in_order {C = Bool} {E = Fault}) (map_map mark_in (λ x. number (pos x)) c.args.bits.now)
    ∙ gives_all (λ x. mark_in (number (pos x))) c.args.bits.now c.loop-b.b-index c.loop-b.marks.items (omega arith) c.loop-b.invariant
