use Rattle.std.proofs.Common.{ℕ, ℤ, List, Result, refl, subst}
use Rattle.j_definitions.specs.Array.{Array, byte, boxed}
use Rattle.j_definitions.specs.declared.Fault.{Fault}
use Rattle.j_noun.specs.Refused.{OrWantingAs}
use Rattle.j_places.proofs.KeepLaws.{wholes_read, bits_read, others_read}
use Rattle.j_places.proofs.axis_places.numbers_of.Goals as goal

pub returns-in_ok-copied-in-Wholes : goal.returns-in_ok-copied-in-Wholes
returns-in_ok-copied-in-Wholes c = wholes_read c.args.x.now c.in-Wholes.v.now _ c.in-Wholes.ensures.atoms c.in_ok-copied-in-Wholes.ensures

pub returns-in_ok-widened-in-Bits : goal.returns-in_ok-widened-in-Bits
returns-in_ok-widened-in-Bits c = bits_read c.args.x.now c.in-Bits.v.now _ c.in-Bits.ensures.atoms c.in_ok-widened-in-Bits.ensures

pub returns-in-Bytes : goal.returns-in-Bytes
returns-in-Bytes c =
    subst (λ (s : Result (List ℤ) Fault). OrWantingAs (λ v. v.items) s c.no_numbers.result) (others_read byte (λ (b : ℕ). refl) c.args.x.now c.in-Bytes.v.now c.in-Bytes.ensures.atoms) c.no_numbers.ensures

pub returns-in-Boxes : goal.returns-in-Boxes
returns-in-Boxes c =
    subst (λ (s : Result (List ℤ) Fault). OrWantingAs (λ v. v.items) s c.no_numbers-in-Boxes.result) (others_read boxed (λ (a : Array). refl) c.args.x.now c.in-Boxes.v.now c.in-Boxes.ensures.atoms) c.no_numbers-in-Boxes.ensures
