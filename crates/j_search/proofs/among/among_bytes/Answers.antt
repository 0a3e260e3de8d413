use Rattle.std.proofs.Common.{refl, sym, ap, map, pos}
use Rattle.j_definitions.specs.Array.{number, byte, boxed}
use Rattle.j_noun.specs.Viewed.{viewed}
use Rattle.j_search.proofs.Runs.{mapped_many, ok_places, unlike_places, byte_places}
use Rattle.j_search.proofs.among.among_bytes.Goals as goal

pub returns-in-Wholes : goal.returns-in-Wholes
returns-in-Wholes c =
    ok_places c.everywhere.result (unlike_places byte number (λ _ _. refl) c.args.side c.args.sizes.size c.args.sizes.items c.args.sizes.cells c.args.a.now c.in-Wholes.field-0.now (map byte c.args.a.now) (viewed c.args.y) refl (sym (ap viewed c.in-Wholes.is)) c.requires.some
    (mapped_many byte c.args.a.now _ c.requires.items)) c.everywhere.ensures

pub returns-in-Bits : goal.returns-in-Bits
returns-in-Bits c =
    ok_places c.everywhere-in-Bits.result (unlike_places byte (λ b. number (pos b)) (λ _ _. refl) c.args.side c.args.sizes.size c.args.sizes.items c.args.sizes.cells c.args.a.now c.in-Bits.field-0.now (map byte c.args.a.now) (viewed c.args.y) refl (sym (ap viewed c.in-Bits.is)) c.requires.some
    (mapped_many byte c.args.a.now _ c.requires.items)) c.everywhere-in-Bits.ensures

pub returns-in-Bytes : goal.returns-in-Bytes
returns-in-Bytes c =
    byte_places c.find_numbers.result c.args.side c.args.sizes.size c.args.sizes.items c.args.sizes.cells c.args.a.now c.in-Bytes.b.now (map byte c.args.a.now) (viewed c.args.y) refl (sym (ap viewed c.in-Bytes.is)) c.find_numbers.ensures

pub returns-in-Boxes : goal.returns-in-Boxes
returns-in-Boxes c =
    ok_places c.everywhere-in-Boxes.result (unlike_places byte boxed (λ _ _. refl) c.args.side c.args.sizes.size c.args.sizes.items c.args.sizes.cells c.args.a.now c.in-Boxes.field-0.now (map byte c.args.a.now) (viewed c.args.y) refl (sym (ap viewed c.in-Boxes.is)) c.requires.some
    (mapped_many byte c.args.a.now _ c.requires.items)) c.everywhere-in-Boxes.ensures
