use Rattle.std.proofs.Common.{◌∙◌, List, ℕ, ap, sym}
use Rattle.j_scans.specs.Pieced.{pieces_at}
use Rattle.j_cuts_key.specs.Kept.{pieced, linked}
use Rattle.j_cuts_key.specs.Obliques.{obliques}
use Rattle.j_cuts_key.specs.Cuts.{pieces_between}
use Rattle.j_cuts_key.proofs.Lists.{piece_in, piece_answered, cut_place, key_place, cut_pieces, key_pieces, kept_cuts, kept_keys}
use Rattle.j_cuts_key.proofs.pieces.Pieces.piece.Goals as goal

pub oblique-requires : goal.oblique-requires
oblique-requires c = piece_in c.args.self.now (obliques c.self.inside.items.now) c.args.k (sym c.self.view_is ∙ ap (λ ls. pieced ls c.self.inside.items.now) c.in-Obliques.is) c.requires

pub returns-in-Obliques : goal.returns-in-Obliques
returns-in-Obliques c =
    piece_answered c.oblique.result c.args.self.now (obliques c.self.inside.items.now) c.args.k (sym c.self.view_is ∙ ap (λ ls. pieced ls c.self.inside.items.now) c.in-Obliques.is) c.oblique.ensures

pub cut-requires-clause-rising : goal.cut-requires-clause-rising
cut-requires-clause-rising c = rw c.deref.ensures.value (kept_cuts c.self.inside.lines c.in-Cuts.form c.in-Cuts.places c.self.inside.items.now c.in-Cuts.is c.self.invariant)

pub cut-requires-clause-place : goal.cut-requires-clause-place
cut-requires-clause-place c =
    rw c.deref.ensures.value (cut_place c.self.inside.lines c.in-Cuts.form c.in-Cuts.places c.self.inside.items.now c.args.self.now c.args.k c.in-Cuts.is c.self.view_is c.requires)

pub returns-in-Cuts : goal.returns-in-Cuts
returns-in-Cuts c =
    piece_answered c.cut.result c.args.self.now (pieces_between c.in-Cuts.form c.deref.result.now c.self.inside.items.now) c.args.k
    (cut_pieces c.self.inside.lines c.in-Cuts.form c.in-Cuts.places c.self.inside.items.now c.args.self.now c.in-Cuts.is c.self.view_is
    ∙ ap (λ (fs : List ℕ). pieces_between c.in-Cuts.form fs c.self.inside.items.now) (sym c.deref.ensures.value))
    c.cut.ensures

pub key-requires-clause-links : goal.key-requires-clause-links
key-requires-clause-links c = kept_keys c.self.inside.lines c.in-Keys.keys c.self.inside.items.now c.in-Keys.is c.self.invariant

pub key-requires-clause-place : goal.key-requires-clause-place
key-requires-clause-place c = key_place c.self.inside.lines c.in-Keys.keys c.self.inside.items.now c.args.self.now c.args.k c.in-Keys.is c.self.view_is c.requires

pub returns-in-Keys : goal.returns-in-Keys
returns-in-Keys c =
    piece_answered c.key.result c.args.self.now (pieces_at c.self.inside.items.now (linked c.in-Keys.keys.classes.items c.in-Keys.keys.firsts.items)) c.args.k
    (key_pieces c.self.inside.lines c.in-Keys.keys c.self.inside.items.now c.args.self.now c.in-Keys.is c.self.view_is) c.key.ensures
