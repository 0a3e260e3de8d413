use Rattle.std.proofs.Common.{◌∙◌, sym, ap, map}
use Rattle.j_definitions.specs.Array.{number, byte, boxed}
use Rattle.j_select.proofs.Placings.{amended_as}
use Rattle.j_select.proofs.putting.amended_atoms.Goals as goal

pub returns-in_ok-amended_by-in-Number : goal.returns-in_ok-amended_by-in-Number
returns-in_ok-amended_by-in-Number c = record {
  kind = sym c.in-Number.is;
  atoms = amended_as number c.deref.result.now c.in_ok-out-in-Number.out.items c.in_ok-amended_by-in-Number.field-0.items c.args.places.now c.args.x.now.atoms c.args.y.now.atoms
      (ap (map number) c.deref.ensures.value ∙ c.in_ok-elements-in-Number.ensures) c.in_ok-out-in-Number.ensures c.in_ok-amended_by-in-Number.ensures;
  bits = tt;
}

pub returns-in_ok-amended_by-in-Character : goal.returns-in_ok-amended_by-in-Character
returns-in_ok-amended_by-in-Character c = record {
  kind = sym c.in-Character.is;
  atoms = amended_as byte c.bytes_of-in-Character.result.now c.in_ok-out-in-Character.out.items c.in_ok-amended_by-in-Character.field-0.items c.args.places.now c.args.x.now.atoms c.args.y.now.atoms
      c.bytes_of-in-Character.ensures (ap (map byte) c.in_ok-out-in-Character.ensures ∙ c.bytes_of.ensures) c.in_ok-amended_by-in-Character.ensures;
  bits = tt;
}

pub returns-in_ok-amended_by-in-Boxed : goal.returns-in_ok-amended_by-in-Boxed
returns-in_ok-amended_by-in-Boxed c = record {
  kind = sym c.in-Boxed.is;
  atoms = amended_as boxed c.nouns_of-in-Boxed.result.now c.in_ok-out-in-Boxed.out.items c.in_ok-amended_by-in-Boxed.field-0.items c.args.places.now c.args.x.now.atoms c.args.y.now.atoms
      c.nouns_of-in-Boxed.ensures (ap (map boxed) c.in_ok-out-in-Boxed.ensures ∙ c.nouns_of.ensures) c.in_ok-amended_by-in-Boxed.ensures;
  bits = tt;
}
