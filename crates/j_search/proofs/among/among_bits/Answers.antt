use Rattle.std.proofs.Common.{refl, sym, ap, ◌∙◌, map, pos}
use Rattle.j_definitions.specs.Array.{number, byte, boxed}
use Rattle.j_noun.specs.Viewed.{viewed}
use Rattle.j_search.proofs.Runs.{mapped_many, ok_places, unlike_places, whole_places, bit_places}
use Rattle.j_search.proofs.among.among_bits.Goals as goal

pub returns-in_ok-numbers-in-Wholes : goal.returns-in_ok-numbers-in-Wholes
returns-in_ok-numbers-in-Wholes c =
    whole_places c.find_numbers.result c.args.side c.args.sizes.size c.args.sizes.items c.args.sizes.cells c.deref.result.now c.in-Wholes.b.now (map (λ b. number (pos b)) c.args.a.now) (viewed c.args.y)
    (ap (map number) c.deref.ensures.value ∙ c.in_ok-numbers-in-Wholes.ensures) (sym (ap viewed c.in-Wholes.is)) c.find_numbers.ensures

pub returns-in-Bits : goal.returns-in-Bits
returns-in-Bits c =
    bit_places c.find_numbers-in-Bits.result c.args.side c.args.sizes.size c.args.sizes.items c.args.sizes.cells c.args.a.now c.in-Bits.b.now (map (λ b. number (pos b)) c.args.a.now) (viewed c.args.y) refl (sym (ap viewed c.in-Bits.is)) c.find_numbers-in-Bits.ensures

pub returns-in-Bytes : goal.returns-in-Bytes
returns-in-Bytes c =
    ok_places c.everywhere.result (unlike_places (λ b. number (pos b)) byte (λ _ _. refl) c.args.side c.args.sizes.size c.args.sizes.items c.args.sizes.cells c.args.a.now c.in-Bytes.field-0.now (map (λ b. number (pos b)) c.args.a.now) (viewed c.args.y) refl (sym (ap viewed c.in-Bytes.is)) c.requires.some
    (mapped_many (λ b. number (pos b)) c.args.a.now _ c.requires.items)) c.everywhere.ensures

pub returns-in-Boxes : goal.returns-in-Boxes
returns-in-Boxes c =
    ok_places c.everywhere-in-Boxes.result (unlike_places (λ b. number (pos b)) boxed (λ _ _. refl) c.args.side c.args.sizes.size c.args.sizes.items c.args.sizes.cells c.args.a.now c.in-Boxes.field-0.now (map (λ b. number (pos b)) c.args.a.now) (viewed c.args.y) refl (sym (ap viewed c.in-Boxes.is)) c.requires.some
    (mapped_many (λ b. number (pos b)) c.args.a.now _ c.requires.items)) c.everywhere-in-Boxes.ensures
