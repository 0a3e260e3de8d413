use Rattle.std.proofs.Common.{arith, sym, subst, ℕ}
use Rattle.j_scans.specs.Spans.{places_in}
use Rattle.j_cuts_key.specs.Kept.{IsRising}
use Rattle.j_cuts_key.proofs.Lists.{cut_answered}
use Rattle.j_cuts_key.proofs.pieces.cut.Goals as goal

pub cut_span-span-requires-clause-rising : goal.cut_span-span-requires-clause-rising
cut_span-span-requires-clause-rising c = subst (λ (n : ℕ). IsRising 0 n c.args.frets.now) (sym c.rows.ensures.value) c.requires.rising

pub items_in-requires : goal.items_in-requires
items_in-requires c = record {
  ordered = c.cut_span-span.ensures.span.ordered;
  inside = omega (arith, c.cut_span-span.ensures.span.inside, c.rows.ensures.value);
}

pub returns : goal.returns
returns c =
    cut_answered c.items_in.result c.args.form c.args.frets.now c.args.y.now c.args.k c.rows.result (places_in c.cut_span-span.result) c.rows.ensures.value c.requires.place c.cut_span-span.ensures.places c.items_in.ensures
