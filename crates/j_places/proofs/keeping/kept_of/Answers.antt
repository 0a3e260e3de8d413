use Rattle.std.proofs.Common.{◌<◌, ◌∙◌, ap, arith, map, pos, refl, subst, sym}
use Rattle.std.specs.List.{All}
use Rattle.j_definitions.specs.Array.{Array, number, byte, boxed}
use Rattle.j_noun.specs.Viewed.{ShowsBits}
use Rattle.j_places.specs.AxisPlaces.{kept_atoms}
use Rattle.j_places.specs.Axes.{places_of, extents}
use Rattle.j_places.proofs.KeptLaws.{map-kept_atoms, All-kept_atoms}
use Rattle.j_places.proofs.keeping.kept_of.Goals as goal

pub returns-in_ok-kept-in-Wholes : goal.returns-in_ok-kept-in-Wholes
returns-in_ok-kept-in-Wholes c =
    rw c.in-Wholes.is (record {
      kind = refl;
      atoms = ap (map number) c.in_ok-kept-in-Wholes.ensures ∙ map-kept_atoms number (pos 0) (map places_of c.args.axes.now) (extents c.args.axes.now c.args.unit) c.in-Wholes.v.now;
      bits = tt;
    })

pub returns-in_ok-kept-in-Bits : goal.returns-in_ok-kept-in-Bits
returns-in_ok-kept-in-Bits c =
    let low : All (λ b. b < 2) c.in-Bits.v.now = subst ShowsBits c.in-Bits.is c.requires.bits in
    rw c.in-Bits.is (record {
      kind = refl;
      atoms = ap (map (λ b. number (pos b))) c.in_ok-kept-in-Bits.ensures ∙ map-kept_atoms (λ b. number (pos b)) 0 (map places_of c.args.axes.now) (extents c.args.axes.now c.args.unit) c.in-Bits.v.now;
      bits = subst (All (λ b. b < 2)) (sym c.in_ok-kept-in-Bits.ensures) (All-kept_atoms (λ b. b < 2) 0 (map places_of c.args.axes.now) (extents c.args.axes.now c.args.unit) c.in-Bits.v.now (omega arith) low);
    })

pub returns-in_ok-kept-in-Bytes : goal.returns-in_ok-kept-in-Bytes
returns-in_ok-kept-in-Bytes c =
    rw c.in-Bytes.is (record {
      kind = refl;
      atoms = ap (map byte) c.in_ok-kept-in-Bytes.ensures ∙ map-kept_atoms byte 32 (map places_of c.args.axes.now) (extents c.args.axes.now c.args.unit) c.in-Bytes.v.now;
      bits = tt;
    })

pub returns-in_ok-kept-in-Boxes : goal.returns-in_ok-kept-in-Boxes
returns-in_ok-kept-in-Boxes c =
    rw c.in-Boxes.is (record {
      kind = refl;
      atoms =
          ap (map boxed) c.in_ok-kept-in-Boxes.ensures ∙ map-kept_atoms boxed c.in_ok-fill-in-Boxes.fill (map places_of c.args.axes.now) (extents c.args.axes.now c.args.unit) c.in-Boxes.v.now
          ∙ ap (λ (w : Array). kept_atoms (boxed w) (map places_of c.args.axes.now) (extents c.args.axes.now c.args.unit) (map boxed c.in-Boxes.v.now)) c.in_ok-fill-in-Boxes.ensures;
      bits = tt;
    })
