use Rattle.std.proofs.Common.{◌≡◌, ◌<◌, ◌∙◌, ap, sym, subst, arith, map, length, List, ℕ, ℤ, Result, Ok}
use Prim.Native.Nat.{suc}
use Rattle.std.specs.List.{All}
use Rattle.std.specs.declared.alloc.Global.{Global}
use Rattle.std.specs.declared.vec.Vec.{Vec}
use Rattle.std.proofs.lemmas.List.{length-map}
use Rattle.j_definitions.specs.Array.{tally}
use Rattle.j_definitions.specs.declared.Fault.{Fault}
use Rattle.j_definitions.proofs.Limits.{noun_few}
use Rattle.j_noun.specs.Refused.{OrWantingAs}
use Rattle.j_indices.specs.Numbers.{indices_in}
use Rattle.j_select.proofs.ListPlaces.{list_taken, list_stopped}
use Rattle.j_select.proofs.amending.places_in_list.Goals as goal

abbrev items : Vec ℕ Global → List ℕ
items v = v.items

pub returns-in-Ok : goal.returns-in-Ok
returns-in-Ok g c =
    let zs : List ℤ = map g.N.Whole.value c.args.indices.now in
    let ks : List ℕ = c.in-Ok.places.items in
    let more : 0 < length zs = omega (arith, length-map c.args.indices.now g.N.Whole.value, c.requires.many, c.requires.some) in
    let said : indices_in (tally c.args.y.now.shape) zs ≡ Ok ks = ap (λ n. indices_in n zs) (sym c.tally.ensures) ∙ c.in-Ok.ensures.places in
    let many : length ks ≡ length c.args.m.now.atoms = c.in-Ok.ensures.many ∙ c.requires.many in
    let within : All (λ k. k < tally c.args.y.now.shape) ks = subst (λ (n : ℕ). All (λ k. k < n) ks) c.tally.ensures c.in-Ok.ensures.within in
    let taken = list_taken c.args.m.now c.args.y.now.shape zs ks c.requires.kind c.requires.numbers c.requires.some more said c.view.ensures.noun (noun_few c.args.m.now c.view.ensures.noun) many c.requires.list within in
    subst (λ (said : Result (List ℕ) Fault). OrWantingAs items said c.next_places.result)
    (sym (taken ∙ ap (λ (js : List ℕ). let r : Result (List ℕ) Fault = Ok (map (λ k. suc k) js) in r) (sym c.deref.ensures.value))) c.next_places.ensures

pub returns-in-Err : goal.returns-in-Err
returns-in-Err g c =
    let zs : List ℤ = map g.N.Whole.value c.args.indices.now in
    let more : 0 < length zs = omega (arith, length-map c.args.indices.now g.N.Whole.value, c.requires.many, c.requires.some) in
    list_stopped items items c.args.m.now c.args.y.now.shape zs c.tally.result c.in-Err.e c.requires.kind c.requires.numbers c.requires.some more c.tally.ensures c.in-Err.ensures.places
