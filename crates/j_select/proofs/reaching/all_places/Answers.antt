use Rattle.std.proofs.Common.{◌≡◌, ◌+◌, ◌∙◌, ap, arith, length, map, pos, subst, ℕ, List, Err, to_z, w64}
use Rattle.std.specs.List.{range_with_len}
use Prim.Native.Nat.{suc}
use Rattle.std.proofs.lemmas.Int.{to_z_pos}
use Rattle.std.proofs.lemmas.List.FromFn.{length-map-range_with_len}
use Rattle.j_definitions.specs.Array.{Array, number, product}
use Rattle.j_definitions.specs.declared.Kind.TheVariants.{Number}
use Rattle.j_indices.proofs.Chosen.{placed_more}
use Rattle.j_definitions.specs.Limits.{limited}
use Rattle.j_noun.specs.declared.refusal.Refusal.{Refusal}
use Rattle.j_noun.specs.Refused.{OrWantingAs}
use Rattle.j_select.specs.Amending.{all_places}
use Rattle.j_select.proofs.ListPlaces.{never_refused, places_fit}
use Rattle.j_select.proofs.reaching.all_places.Goals as goal

pub loop-k-preserved : goal.loop-k-preserved
loop-k-preserved c =
    let next : c.loop-k.k + 1 ≡ suc c.loop-k.k = omega arith in
    placed_more (λ j. pos (suc j)) c.loop-k.k c.loop-k.places.items c.push.new.self.items (to_z w64 (c.loop-k.k + 1)) c.loop-k.invariant
    (to_z_pos w64 (c.loop-k.k + 1) (omega (arith, c.in-Some.ensures.1, c.loop-k-test.true)) ∙ ap (λ n. pos n) next) c.in-Ok.ensures.items

pub make-requires-clause-as_many : goal.make-requires-clause-as_many
make-requires-clause-as_many c =
    omega (
      arith,
      ap length c.loop-k.invariant,
      length-map-range_with_len (λ j. number (pos (suc j))) 0 c.loop-k.k,
      c.loop-k-test.false,
      c.loop-k.auto.k-end,
      c.in-Some.ensures.0,
      ap product c.axes.ensures.value,
      ap product c.shape.ensures,
    )

pub unreachable-requires-in-Err-Fault : goal.unreachable-requires-in-Err-Fault
unreachable-requires-in-Err-Fault c =
    let s : List ℕ = c.args.y.now.shape in
    let count : c.loop-k.k ≡ product s = omega (arith, c.loop-k-test.false, c.loop-k.auto.k-end, c.in-Some.ensures.0, ap product c.axes.ensures.value) in
    let same : (let a : Array = record { kind = Number; shape = c.shape.result; atoms = map number c.loop-k.places.items } in a) ≡ all_places s =
    ap (λ t. let a : Array = record { kind = Number; shape = t; atoms = map number c.loop-k.places.items } in a) c.shape.ensures
    ∙ ap (λ xs. let a : Array = record { kind = Number; shape = s; atoms = xs } in a) (c.loop-k.invariant ∙ ap (λ m. map (λ j. number (pos (suc j))) (range_with_len 0 m)) count) in
    let made : Array = record { kind = Number; shape = c.shape.result; atoms = map number c.loop-k.places.items } in
    never_refused made (all_places s) c.in-Err-Fault.field-0-0 same (places_fit c.args.y.now c.view.ensures.noun)
    (subst (λ (e : Refusal). OrWantingAs {B = Array} (λ a. a) (limited made) (Err e)) c.in-Err-Fault.field-0-is c.in-Err-Fault.ensures.limited)
