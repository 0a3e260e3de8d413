use Rattle.std.proofs.Common.{◌<◌, ◌/◌, sym, ap, ◌∙◌, arith, length}
use Rattle.j_noun.specs.Viewed.{viewed}
use Rattle.j_search.specs.Sought.{atom_places}
use Rattle.j_search.proofs.Runs.{ok_places}
use Rattle.j_search.proofs.Nouns.{none_there, other_shape, size_is, cells_many, other_size, found_cells, all_match}
use Rattle.j_search.proofs.looking.look_up.Goals as goal

pub returns-then-f-eq0 : goal.returns-then-f-eq0
returns-then-f-eq0 c = ok_places c.everywhere.result (none_there c.args.side c.args.x.now c.args.f c.args.y.now c.args.g c.if-f-eq0.true) c.everywhere.ensures

pub returns-then-not-have_one_shape : goal.returns-then-not-have_one_shape
returns-then-not-have_one_shape c =
    ok_places c.everywhere-then-not-have_one_shape.result (other_shape c.args.side c.args.x.now c.args.f c.args.y.now c.args.g (sym c.if-not-have_one_shape.ensures)) c.everywhere-then-not-have_one_shape.ensures

pub returns-then-size-eq0 : goal.returns-then-size-eq0
returns-then-size-eq0 c =
    let some : 0 < c.args.f.count = omega arith in
    let size = size_is c.args.x.now.shape c.args.f c.atom_count.result c.requires.left (c.atom_count.ensures ∙ ap length c.view-x_atoms.ensures.atoms ∙ c.view-x_atoms.ensures.noun.as_many) some in
    ok_places c.everywhere-then-size-eq0.result
    (all_match c.args.side c.args.x.now c.args.f c.args.y.now c.args.g c.place_of_all.result c.if-not-have_one_shape.ensures (sym c.if-size-eq0.true ∙ size) c.place_of_all.ensures.value) c.everywhere-then-size-eq0.ensures

pub among-requires-clause-items : goal.among-requires-clause-items
among-requires-clause-items c =
    let some : 0 < c.args.f.count = omega arith in
    let size = size_is c.args.x.now.shape c.args.f c.atom_count.result c.requires.left (c.atom_count.ensures ∙ ap length c.view-x_atoms.ensures.atoms ∙ c.view-x_atoms.ensures.noun.as_many) some in
    cells_many c.args.x.now.shape c.args.f (length (viewed c.view-x_atoms.result)) (c.atom_count.result / c.args.f.count) c.requires.left (ap length c.view-x_atoms.ensures.atoms ∙ c.view-x_atoms.ensures.noun.as_many) size

pub among-requires-clause-cells : goal.among-requires-clause-cells
among-requires-clause-cells c =
    let some : 0 < c.args.f.count = omega arith in
    let size = size_is c.args.x.now.shape c.args.f c.atom_count.result c.requires.left (c.atom_count.ensures ∙ ap length c.view-x_atoms.ensures.atoms ∙ c.view-x_atoms.ensures.noun.as_many) some in
    cells_many c.args.y.now.shape c.args.g (length (viewed c.view-y_atoms.result)) (c.atom_count.result / c.args.f.count) c.requires.right (ap length c.view-y_atoms.ensures.atoms ∙ c.view-y_atoms.ensures.noun.as_many)
    (other_size c.args.x.now c.args.f c.args.y.now c.args.g (c.atom_count.result / c.args.f.count) c.if-not-have_one_shape.ensures size)

pub returns : goal.returns
returns c =
    let some : 0 < c.args.f.count = omega arith in
    let size = size_is c.args.x.now.shape c.args.f c.atom_count.result c.requires.left (c.atom_count.ensures ∙ ap length c.view-x_atoms.ensures.atoms ∙ c.view-x_atoms.ensures.noun.as_many) some in
    ok_places c.among.result
    (ap (λ xs. atom_places c.args.side (c.atom_count.result / c.args.f.count) c.args.f.count c.args.g.count xs (viewed c.view-y_atoms.result)) c.view-x_atoms.ensures.atoms
    ∙ ap (λ ys. atom_places c.args.side (c.atom_count.result / c.args.f.count) c.args.f.count c.args.g.count c.args.x.now.atoms ys) c.view-y_atoms.ensures.atoms
    ∙ found_cells c.args.side c.args.x.now c.args.f c.args.y.now c.args.g (c.atom_count.result / c.args.f.count) c.if-not-have_one_shape.ensures size) c.among.ensures
