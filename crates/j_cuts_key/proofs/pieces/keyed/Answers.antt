use Rattle.std.proofs.Common.{◌≡◌, ◌∙◌, List, ℤ, ap, arith, subst}
use Rattle.j_definitions.specs.Array.{tally}
use Rattle.j_search.specs.Kept.{own_places}
use Rattle.j_cuts_key.specs.Kept.{AreLinks}
use Rattle.j_cuts_key.proofs.Alike.{are_places, classes_many}
use Rattle.j_cuts_key.proofs.Lists.{keyed_is, own_inside}
use Rattle.j_cuts_key.proofs.pieces.keyed.Goals as goal

pub own_places-requires : goal.own_places-requires
own_places-requires c = omega (arith, classes_many c.args.x.now c.deref.result.now (c.deref.ensures.value ∙ c.in_ok-classes.ensures.places), c.in_ok-classes.ensures.few)

pub links-requires : goal.links-requires
links-requires c = are_places c.args.x.now c.deref-2.result.now (c.deref-2.ensures.value ∙ c.in_ok-classes.ensures.places)

pub invariant_of-result : goal.invariant_of-result
invariant_of-result c =
    let same : tally c.args.x.now.shape ≡ tally c.args.y.now.shape = omega arith in
    record {
      many = classes_many c.args.x.now c.in_ok-classes.classes.items c.in_ok-classes.ensures.places ∙ same;
      inside =
          own_inside c.in_ok-classes.classes.items c.in_ok-firsts.firsts.items (tally c.args.y.now.shape) (classes_many c.args.x.now c.in_ok-classes.classes.items c.in_ok-classes.ensures.places ∙ same)
          (c.in_ok-firsts.ensures ∙ ap own_places c.deref.ensures.value);
      linked = subst (λ (zs : List ℤ). AreLinks zs c.in_ok-heads.heads.items c.in_ok-heads.next.items) c.deref-2.ensures.value c.in_ok-heads.ensures;
    }

pub returns : goal.returns
returns c =
    let same : tally c.args.x.now.shape ≡ tally c.args.y.now.shape = omega arith in
    keyed_is c.args.x.now c.args.y.now c.in_ok-classes.classes.items c.in_ok-firsts.firsts.items same c.in_ok-classes.ensures.places (c.in_ok-firsts.ensures ∙ ap own_places c.deref.ensures.value)
