use Rattle.std.proofs.Common.{length, ap, ◌∙◌}
use Rattle.std.proofs.lemmas.List.{length-map}
use Rattle.j_definitions.specs.Array.{byte}
use Rattle.j_noun.specs.Viewed.{viewed}
use Rattle.j_display.proofs.Bounds.{atoms_split}
use Rattle.j_display.proofs.display.show_atoms.Goals as goal

pub show_characters-requires-clause-some : goal.show_characters-requires-clause-some
show_characters-requires-clause-some c =
    (atoms_split c.args.axes.now c.split_at.result.0.now c.split_at.result.1.now c.columns_of-columns.result (length (viewed c.args.atoms)) c.split_at.ensures.by_index.0 c.columns_of-columns.ensures c.requires.many c.requires.some c.requires.few).some

pub show_characters-requires-clause-whole : goal.show_characters-requires-clause-whole
show_characters-requires-clause-whole c =
    (atoms_split c.args.axes.now c.split_at.result.0.now c.split_at.result.1.now c.columns_of-columns.result (length (viewed c.args.atoms)) c.split_at.ensures.by_index.0 c.columns_of-columns.ensures c.requires.many c.requires.some c.requires.few).whole
    ∙ ap (λ v. length (viewed v)) c.in-Bytes.is ∙ length-map c.in-Bytes.bytes.now byte

pub show_characters-requires-clause-count : goal.show_characters-requires-clause-count
show_characters-requires-clause-count c =
    (atoms_split c.args.axes.now c.split_at.result.0.now c.split_at.result.1.now c.columns_of-columns.result (length (viewed c.args.atoms)) c.split_at.ensures.by_index.0 c.columns_of-columns.ensures c.requires.many c.requires.some c.requires.few).few

pub show_numbers-requires-clause-some : goal.show_numbers-requires-clause-some
show_numbers-requires-clause-some c =
    (atoms_split c.args.axes.now c.split_at.result.0.now c.split_at.result.1.now c.columns_of-columns.result (length (viewed c.args.atoms)) c.split_at.ensures.by_index.0 c.columns_of-columns.ensures c.requires.many c.requires.some c.requires.few).some

pub show_numbers-requires-clause-column : goal.show_numbers-requires-clause-column
show_numbers-requires-clause-column c =
    (atoms_split c.args.axes.now c.split_at.result.0.now c.split_at.result.1.now c.columns_of-columns.result (length (viewed c.args.atoms)) c.split_at.ensures.by_index.0 c.columns_of-columns.ensures c.requires.many c.requires.some c.requires.few).column

pub show_numbers-requires-clause-whole : goal.show_numbers-requires-clause-whole
show_numbers-requires-clause-whole c =
    (atoms_split c.args.axes.now c.split_at.result.0.now c.split_at.result.1.now c.columns_of-columns.result (length (viewed c.args.atoms)) c.split_at.ensures.by_index.0 c.columns_of-columns.ensures c.requires.many c.requires.some c.requires.few).whole

pub show_numbers-requires-clause-count : goal.show_numbers-requires-clause-count
show_numbers-requires-clause-count c =
    (atoms_split c.args.axes.now c.split_at.result.0.now c.split_at.result.1.now c.columns_of-columns.result (length (viewed c.args.atoms)) c.split_at.ensures.by_index.0 c.columns_of-columns.ensures c.requires.many c.requires.some c.requires.few).few
