use Rattle.std.proofs.Common.{◌≡◌, ◌∙◌, ap, sym, subst, map, ℕ, ℤ, List, Result, Ok, Err}
use Rattle.std.proofs.lemmas.Result.{err_from_is_err_and}
use Rattle.j_definitions.specs.Array.{Array, tally}
use Rattle.j_definitions.specs.Limits.{limited}
use Rattle.j_definitions.specs.declared.Fault.{Fault}
use Rattle.j_noun.specs.declared.refusal.Refusal.{Refusal}
use Rattle.j_noun.specs.Refused.{OrWanting}
use Rattle.std.specs.declared.alloc.Global.{Global}
use Rattle.std.specs.declared.vec.Vec.{Vec}
use Rattle.j_indices.specs.Numbers.{indices_in, and_then}
use Rattle.j_indices.specs.Selecting.{cells_at}
use Rattle.j_indices.proofs.Answering.{refused}
use Rattle.j_indices.proofs.indexing.items_indexed.Goals as goal

abbrev by_places : List ℕ → Array → Result (List ℕ) Fault → Result Array Fault
by_places frame y r = and_then r (λ ks. limited (cells_at frame 1 y ks))

pub returns-in_err-places : goal.returns-in_err-places
returns-in_err-places g c =
    let zs : List ℤ = map g.N.Whole.value c.args.indices.now in
    let given : Result Array Refusal = Err c.in_err-places.field-0.0 in
    let p = err_from_is_err_and c.from_residual.result c.from_residual.ensures.1 in
    rw (p.1, p.2)
    (subst (λ (r : Result (List ℕ) Fault). OrWanting (by_places c.args.frame c.args.y.now r) given) (ap (λ n. indices_in n zs) c.tally.ensures)
    (refused (λ (v : Vec ℕ Global). v.items) (indices_in c.tally.result zs) (λ ks. limited (cells_at c.args.frame 1 c.args.y.now ks)) c.in_err-places.field-0.0 c.in_err-places.ensures.places))

pub returns : goal.returns
returns g c =
    let zs : List ℤ = map g.N.Whole.value c.args.indices.now in
    let said : indices_in (tally c.args.y.now.shape) zs ≡ Ok c.in_ok-places.places.items = ap (λ n. indices_in n zs) (sym c.tally.ensures) ∙ c.in_ok-places.ensures.places in
    subst (λ r. OrWanting r c.cells_at.result) (sym (ap (by_places c.args.frame c.args.y.now) said))
    (subst (λ (ks : List ℕ). OrWanting (limited (cells_at c.args.frame 1 c.args.y.now ks)) c.cells_at.result) c.deref.ensures.value c.cells_at.ensures)
