use Rattle.std.proofs.Common.{◌∙◌, length, ap, sym, arith}
use Rattle.j_scans.specs.Pieced.{pieces_at}
use Rattle.j_cuts_key.specs.Kept.{pieced, linked}
use Rattle.j_cuts_key.specs.Obliques.{obliques, rows, columns, line_count}
use Rattle.j_cuts_key.specs.Cuts.{pieces_between}
use Rattle.j_cuts_key.proofs.Lists.{pieces_many, lines_as_many, obliques_many, between_many, linked_many, cut_pieces, key_pieces}
use Rattle.j_cuts_key.proofs.pieces.Pieces.count.Goals as goal

pub returns-in-Obliques : goal.returns-in-Obliques
returns-in-Obliques c =
    pieces_many c.args.self.now (obliques c.self.inside.items.now) c.line_count.result (line_count (rows c.self.inside.items.now.shape) (columns c.self.inside.items.now.shape))
    (sym c.self.view_is ∙ ap (λ ls. pieced ls c.self.inside.items.now) c.in-Obliques.is)
    (lines_as_many c.self.inside.items.now c.rows.result c.columns.result c.line_count.result c.rows.ensures.value c.columns.ensures.value c.line_count.ensures) (obliques_many c.self.inside.items.now)

pub returns-in-Cuts : goal.returns-in-Cuts
returns-in-Cuts c =
    pieces_many c.args.self.now (pieces_between c.in-Cuts.field-0 c.in-Cuts.places.items c.self.inside.items.now) c.len.result (length c.in-Cuts.places.items)
    (cut_pieces c.self.inside.lines c.in-Cuts.field-0 c.in-Cuts.places c.self.inside.items.now c.args.self.now c.in-Cuts.is c.self.view_is) (omega arith)
    (between_many c.in-Cuts.field-0 c.in-Cuts.places.items c.self.inside.items.now)

pub returns-in-Keys : goal.returns-in-Keys
returns-in-Keys c =
    pieces_many c.args.self.now (pieces_at c.self.inside.items.now (linked c.in-Keys.keys.classes.items c.in-Keys.keys.firsts.items)) c.len-in-Keys.result (length c.in-Keys.keys.firsts.items)
    (key_pieces c.self.inside.lines c.in-Keys.keys c.self.inside.items.now c.args.self.now c.in-Keys.is c.self.view_is) (omega arith)
    (linked_many c.self.inside.items.now c.in-Keys.keys.classes.items c.in-Keys.keys.firsts.items)
