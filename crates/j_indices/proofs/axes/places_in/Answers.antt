use Rattle.std.proofs.Common.{◌<◌, ◌∷◌, [], ◌∙◌, ap, arith, length, map, get_or, ℕ, List, Result, Ok, sym, subst, take, ◌≡◌, rules}
use Rattle.std.specs.declared.alloc.Global.{Global}
use Rattle.std.specs.declared.vec.Vec.{Vec}
use Rattle.std.proofs.lemmas.List.{map-append, length-map, length-take, take_all}
use Rattle.std.proofs.lemmas.Result.{err_from_is_err_and}
use Rattle.j_definitions.specs.declared.Fault.{Fault}
use Rattle.j_definitions.specs.Array.{Array, product}
use Rattle.j_indices.specs.Numbers.{whole_numbers, indices_in, and_then}
use Rattle.j_indices.specs.Indexing.{places_in, AreInside}
use Rattle.j_indices.proofs.Indices.{oks}
use Rattle.j_indices.proofs.KindTests.{inside_none, inside_push, sizes_more, length-places, places_at, results_more, results_all, stopped}
use Rattle.j_indices.proofs.axes.places_in.Goals as goal

abbrev places : Vec ℕ Global → List ℕ
places w = w.items

abbrev all_places : Vec (Vec ℕ Global) Global → List (List ℕ)
all_places v = map places v.items

pub returns-in_err-places-clause-places : goal.returns-in_err-places-clause-places
returns-in_err-places-clause-places c =
    let none : Result (List ℕ) Fault = Ok [] in
    let many = length-places c.args.axes.now c.args.nouns.now c.requires in
    let said : Result (List ℕ) Fault = and_then (whole_numbers c.index-nouns-i.result.atoms) (indices_in (get_or c.args.axes.now c.loop-i.i 0)) in
    let within : c.loop-i.i < length c.args.nouns.now = omega arith in
    let p = err_from_is_err_and c.from_residual-in_err-places.result c.from_residual-in_err-places.ensures.1 in
    rw (p.1, p.2)
    (stopped all_places places (places_in c.args.axes.now c.args.nouns.now) c.loop-i.i none said (map places c.loop-i.out.items) c.in_err-places.field-0.0 (omega (arith, many, within))
    (places_at c.args.axes.now c.args.nouns.now c.loop-i.i c.index-nouns-i.result none c.requires within c.index-nouns-i.is) c.loop-i.invariant.given c.in_err-places.ensures.places)

pub loop-i-preserved : goal.loop-i-preserved
loop-i-preserved c =
    let none : Result (List ℕ) Fault = Ok [] in
    let many = length-places c.args.axes.now c.args.nouns.now c.requires in
    let within : c.loop-i.i < length c.args.nouns.now = omega arith in
    let count : length (map places c.loop-i.out.items) ≡ c.loop-i.i = omega (arith, length-map c.loop-i.out.items places, length-map c.loop-i.out.items (λ (w : Vec ℕ Global). length w.items), ap length c.loop-i.invariant.many, length-map (take c.loop-i.i c.args.nouns.now) (λ (a : Array). product a.shape), length-take c.loop-i.i c.args.nouns.now) in
    record {
      given = results_more (places_in c.args.axes.now c.args.nouns.now) c.loop-i.i none c.in_ok-places.places.items (map places c.loop-i.out.items) (map places c.push.new.self.items) (omega (arith, many, within))
          (places_at c.args.axes.now c.args.nouns.now c.loop-i.i c.index-nouns-i.result none c.requires within c.index-nouns-i.is ∙ c.in_ok-places.ensures.places)
          (ap (map places) c.in-Ok.ensures.items ∙ map-append places c.loop-i.out.items (c.in_ok-places.places ∷ [])) c.loop-i.invariant.given;
      inside = subst (λ (kss : List (List ℕ)). AreInside c.args.axes.now kss) (sym (ap (map places) c.in-Ok.ensures.items ∙ map-append places c.loop-i.out.items (c.in_ok-places.places ∷ [])))
          (inside_push c.args.axes.now (map places c.loop-i.out.items) c.in_ok-places.places.items c.loop-i.i count (omega (arith, within, c.requires)) c.loop-i.invariant.inside c.in_ok-places.ensures.within);
      many = ap (map (λ (w : Vec ℕ Global). length w.items)) c.in-Ok.ensures.items ∙ map-append (λ (w : Vec ℕ Global). length w.items) c.loop-i.out.items (c.in_ok-places.places ∷ [])
          ∙ sizes_more c.args.nouns.now c.loop-i.i c.index-nouns-i.result (map (λ (w : Vec ℕ Global). length w.items) c.loop-i.out.items) (length c.in_ok-places.places.items) within c.index-nouns-i.is c.in_ok-places.ensures.many c.loop-i.invariant.many;
    }

pub returns-clause-places : goal.returns-clause-places
returns-clause-places c =
    results_all (places_in c.args.axes.now c.args.nouns.now) c.loop-i.i (map places c.loop-i.out.items) (omega (arith, length-places c.args.axes.now c.args.nouns.now c.requires)) c.loop-i.invariant.given

pub returns-clause-many : goal.returns-clause-many
returns-clause-many c = c.loop-i.invariant.many ∙ ap (map (λ (a : Array). product a.shape)) (take_all c.loop-i.i c.args.nouns.now (omega arith))

pub loop-i-init : goal.loop-i-init
loop-i-init c =
    let none : c.in_ok-out.out.items ≡ [] = search rules in
    record {
      given = ap (λ (ws : List (Vec ℕ Global)). oks (map places ws)) (sym none);
      inside = subst (λ (ws : List (Vec ℕ Global)). AreInside c.args.axes.now (map places ws)) (sym none) (inside_none c.args.axes.now);
      many = ap (map (λ (w : Vec ℕ Global). length w.items)) none;
    }
