use Rattle.std.proofs.Common.{◌+◌, ◌*◌, drop, arith, sym, ap, ◌∙◌}
use Rattle.j_definitions.specs.Array.{product}
use Rattle.j_rank.proofs.Products.{product_zero, product_more, product_ended, product_beyond}
use Rattle.j_rank.proofs.sizes.size_within.Goals as goal

pub returns-then-contains : goal.returns-then-contains
returns-then-contains c = (sym (product_zero c.args.axes.now (sym c.contains.ensures.value ∙ c.if-contains.true)), omega arith)

pub returns-in_default : goal.returns-in_default
returns-in_default c =
    product_beyond c.args.axes.now c.loop-n.n-index c.loop-n.size 4194304 (omega arith) (sym c.contains.ensures.value ∙ c.if-contains.false) c.loop-n.invariant.so_far
    (omega (arith, c.in_default.ensures))

pub returns-then-more-gt-CELL_LIMIT : goal.returns-then-more-gt-CELL_LIMIT
returns-then-more-gt-CELL_LIMIT c =
    product_beyond c.args.axes.now c.loop-n.n-index c.loop-n.size 4194304 (omega arith) (sym c.contains.ensures.value ∙ c.if-contains.false) c.loop-n.invariant.so_far
    (omega (arith, c.in-Some.ensures))

pub loop-n-preserved : goal.loop-n-preserved
loop-n-preserved c = record {
  within = omega arith;
  so_far =
      let more = c.in-Some.ensures in
      ap (λ n. n * product (drop (c.loop-n.n-index + 1) c.args.axes.now)) more.1 ∙ product_more c.args.axes.now c.loop-n.n-index c.loop-n.size (omega arith) c.loop-n.invariant.so_far;
}

pub returns : goal.returns
returns c = (product_ended c.args.axes.now c.loop-n.n-index c.loop-n.size (omega arith) c.loop-n.invariant.so_far, omega arith)
