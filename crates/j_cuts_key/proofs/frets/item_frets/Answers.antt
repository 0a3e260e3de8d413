use Rattle.std.proofs.Common.{◌≡◌, ◌∙◌, length, arith, ap, sym}
use Rattle.j_cuts_key.proofs.Alike.{fret_inside, class_few, frets_answered, none_answered, answered_rise, classes_many}
use Rattle.j_cuts_key.proofs.frets.item_frets.Goals as goal

pub class_at-class-requires : goal.class_at-class-requires
class_at-class-requires c =
    let many : c.len-items.result ≡ length c.deref.result.now = omega (arith, ap length c.deref.ensures.value) in
    fret_inside c.args.form c.deref.result.now c.len-items.result c.fret_place.result many c.if-items-eq0.false c.fret_place.ensures

pub lost_places-requires : goal.lost_places-requires
lost_places-requires c =
    let many : c.len-items.result ≡ length c.deref.result.now = omega (arith, ap length c.deref.ensures.value) in
    class_few c.args.y.now c.deref.result.now c.fret_place.result c.class_at-class.result (c.deref.ensures.value ∙ c.in_ok-classes.ensures.places) c.in_ok-classes.ensures.few
    (fret_inside c.args.form c.deref.result.now c.len-items.result c.fret_place.result many c.if-items-eq0.false c.fret_place.ensures) c.class_at-class.ensures

pub returns-then-items-eq0-clause-places : goal.returns-then-items-eq0-clause-places
returns-then-items-eq0-clause-places c =
    none_answered c.args.form c.args.y.now c.fresh.result _ (omega (arith, classes_many c.args.y.now c.in_ok-classes.classes.items c.in_ok-classes.ensures.places)) c.fresh.ensures.ok

pub returns-then-items-eq0-clause-rising : goal.returns-then-items-eq0-clause-rising
returns-then-items-eq0-clause-rising c =
    answered_rise c.args.form c.args.y.now c.fresh.result
    (none_answered c.args.form c.args.y.now c.fresh.result _ (omega (arith, classes_many c.args.y.now c.in_ok-classes.classes.items c.in_ok-classes.ensures.places)) c.fresh.ensures.ok)

pub returns-clause-places : goal.returns-clause-places
returns-clause-places c =
    let many : c.len-items.result ≡ length c.deref.result.now = omega (arith, ap length c.deref.ensures.value) in
    frets_answered c.args.form c.args.y.now c.deref.result.now c.deref-2.result.now c.len-items.result c.fret_place.result c.class_at-class.result c.lost_places.result
    (c.deref.ensures.value ∙ c.in_ok-classes.ensures.places) (c.deref-2.ensures.value ∙ sym c.deref.ensures.value) many c.if-items-eq0.false c.fret_place.ensures c.class_at-class.ensures c.lost_places.ensures

pub returns-clause-rising : goal.returns-clause-rising
returns-clause-rising c =
    let many : c.len-items.result ≡ length c.deref.result.now = omega (arith, ap length c.deref.ensures.value) in
    answered_rise c.args.form c.args.y.now c.lost_places.result
    (frets_answered c.args.form c.args.y.now c.deref.result.now c.deref-2.result.now c.len-items.result c.fret_place.result c.class_at-class.result c.lost_places.result
    (c.deref.ensures.value ∙ c.in_ok-classes.ensures.places) (c.deref-2.ensures.value ∙ sym c.deref.ensures.value) many c.if-items-eq0.false c.fret_place.ensures c.class_at-class.ensures c.lost_places.ensures)
