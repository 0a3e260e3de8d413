use Rattle.std.proofs.Common.{◌<◌, ◌∙◌, sym, arith, length, get_or, refl}
use Rattle.std.proofs.lemmas.Bool.{eqb-true, eqb-false}
use Rattle.j_select.proofs.Placings.{put_more, put_nowhere, amended_nothing}
use Rattle.j_select.proofs.putting.amended_by.Goals as goal

pub returns-then-is_empty : goal.returns-then-is_empty
returns-then-is_empty g c = sym (amended_nothing c.args.elements.now c.args.out.items c.args.places.now (eqb-true (length c.args.elements.now) 0 (sym c.is_empty.ensures ∙ c.if-is_empty.true)))

pub loop-k-init : goal.loop-k-init
loop-k-init g c = sym (put_nowhere 1 c.args.elements.now c.args.out.items)

pub loop-k-preserved : goal.loop-k-preserved
loop-k-preserved g c =
    let differ = eqb-false (length c.args.elements.now) 0 (sym c.is_empty.ensures ∙ c.if-is_empty.false) in
    let some : 0 < length c.args.elements.now = omega (arith, differ) in
    put_more c.loop-k.k (get_or c.args.places.now c.loop-k.k 0) c.index-elements-k.result c.args.elements.now c.args.places.now c.args.out.items c.loop-k.out.items c.put_in.new.out.items (omega (arith, c.loop-k-test.true)) refl some
    c.index-elements-k.is c.loop-k.invariant c.in_ok-put_in.ensures
