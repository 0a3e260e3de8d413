use Rattle.std.proofs.Common.{refl, sym, ap, map, pos}
use Rattle.j_definitions.specs.Array.{number, byte, boxed}
use Rattle.j_noun.specs.Viewed.{viewed}
use Rattle.j_search.proofs.Runs.{mapped_many, ok_places, unlike_places, box_places}
use Rattle.j_search.proofs.among.among_boxes.Goals as goal

pub returns-in-Wholes : goal.returns-in-Wholes
returns-in-Wholes c =
    ok_places c.everywhere.result (unlike_places boxed number (λ _ _. refl) c.args.side c.args.sizes.size c.args.sizes.items c.args.sizes.cells c.args.a.now c.in-Wholes.field-0.now (map boxed c.args.a.now) (viewed c.args.y) refl (sym (ap viewed c.in-Wholes.is)) c.requires.some
    (mapped_many boxed c.args.a.now _ c.requires.items)) c.everywhere.ensures

pub returns-in-Bits : goal.returns-in-Bits
returns-in-Bits c =
    ok_places c.everywhere-in-Bits.result (unlike_places boxed (λ b. number (pos b)) (λ _ _. refl) c.args.side c.args.sizes.size c.args.sizes.items c.args.sizes.cells c.args.a.now c.in-Bits.field-0.now (map boxed c.args.a.now) (viewed c.args.y) refl (sym (ap viewed c.in-Bits.is)) c.requires.some
    (mapped_many boxed c.args.a.now _ c.requires.items)) c.everywhere-in-Bits.ensures

pub returns-in-Bytes : goal.returns-in-Bytes
returns-in-Bytes c =
    ok_places c.everywhere-in-Bytes.result (unlike_places boxed byte (λ _ _. refl) c.args.side c.args.sizes.size c.args.sizes.items c.args.sizes.cells c.args.a.now c.in-Bytes.field-0.now (map boxed c.args.a.now) (viewed c.args.y) refl (sym (ap viewed c.in-Bytes.is)) c.requires.some
    (mapped_many boxed c.args.a.now _ c.requires.items)) c.everywhere-in-Bytes.ensures

pub returns-in-Boxes : goal.returns-in-Boxes
returns-in-Boxes c =
    box_places c.find_each.result c.args.side c.args.sizes.size c.args.sizes.items c.args.sizes.cells c.args.a.now c.in-Boxes.b.now (map boxed c.args.a.now) (viewed c.args.y) refl (sym (ap viewed c.in-Boxes.is)) c.find_each.ensures
