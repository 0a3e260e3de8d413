use Rattle.std.proofs.Common.{◌≡◌, ◌-◌, IfSome, arith, subst}
use Rattle.j_definitions.specs.Array.{tally}
use Rattle.j_scans.specs.Spans.{places_in}
use Rattle.j_scans.proofs.Made.{short_made}
use Rattle.j_scans.proofs.Ranges.{All-range}
use Rattle.j_scans.proofs.copying.short_piece.Goals as goal

pub returns-in-len1 : goal.returns-in-len1
returns-in-len1 c =
    subst (λ a. IfSome c.short_text.result (λ n. n ≡ a))
    (short_made c.args.y.now c.in-Bytes.all.now c.stretch.result.now (places_in c.args.span) c.view.ensures.noun (rw (← c.axes.ensures.value) c.in-len1.len_at_least) (rw (← c.axes.ensures.value) c.in-len1.len_below) c.in-Bytes.ensures.kind c.in-Bytes.ensures.atoms c.stretch.ensures
    (All-range c.args.span.start (c.args.span.end - c.args.span.start) (tally c.args.y.now.shape) (omega (arith, c.requires.ordered, c.requires.inside))))
    c.short_text.ensures
