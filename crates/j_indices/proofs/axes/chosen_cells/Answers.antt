use Rattle.std.proofs.Common.{◌≡◌, ◌<◌, ◌++◌, ◌∙◌, ap, sym, subst, arith, length, map, take, drop, refl, ℕ, List}
use Rattle.std.specs.List.{All, flat_map}
use Rattle.std.specs.declared.alloc.Global.{Global}
use Rattle.std.specs.declared.vec.Vec.{Vec}
use Rattle.std.proofs.lemmas.Bool.{eqb-true, eqb-false}
use Rattle.j_definitions.specs.Array.{Array, product}
use Rattle.j_definitions.specs.Limits.{limited}
use Rattle.j_definitions.proofs.Limits.{noun_few}
use Rattle.j_noun.specs.Refused.{OrWanting}
use Rattle.j_rank.proofs.Products.{product_append}
use Rattle.j_indices.specs.Selecting.{cells_at}
use Rattle.j_indices.specs.Indexing.{places_from, AreInside, cells_chosen}
use Rattle.j_indices.proofs.Runs.{cells_beyond}
use Rattle.j_indices.proofs.Taken.{places, chosen_known, from_start, none_framed, axes_limits, more_beyond}
use Rattle.j_indices.proofs.axes.chosen_cells.Goals as goal

-- the axes that the nouns index, and the places that they take there
abbrev lead : List Array → Array → List ℕ
lead nouns y = take (length nouns) y.shape

abbrev ks : List Array → Array → List (Vec ℕ Global) → List ℕ
ks nouns y taken = places_from 0 (lead nouns y) (map places taken)

cells_are : (nouns : List Array) (y : Array) (taken : List (Vec ℕ Global)) (frame : List ℕ) → frame ≡ flat_map (λ (a : Array). a.shape) nouns → cells_at frame (length nouns) y (ks nouns y taken) ≡ cells_chosen nouns y (map places taken)
cells_are nouns y taken frame e =
    ap (λ f. cells_at f (length nouns) y (ks nouns y taken)) e
    ∙ ap (λ js. cells_at (flat_map (λ (a : Array). a.shape) nouns) (length nouns) y js) (from_start (lead nouns y) (map places taken))

pub no_cells-requires-clause-empty : goal.no_cells-requires-clause-empty
no_cells-requires-clause-empty c =
    let known = chosen_known c.args.nouns.now c.args.taken.now c.args.y.now c.requires.fewer c.requires.many c.requires.inside in
    let none : length c.args.y.now.atoms ≡ 0 = eqb-true (length c.args.y.now.atoms) 0 (sym c.has_no_atoms-is_empty.ensures ∙ c.if-is_empty.true) in
    none_framed c.in-Ok.frame (length c.args.nouns.now) c.args.y.now (ks c.args.nouns.now c.args.y.now c.args.taken.now) c.view.ensures.noun none
    (ap product c.in-Ok.ensures.ok ∙ known.many) known.within

pub returns-then-is_empty : goal.returns-then-is_empty
returns-then-is_empty c =
    subst (λ (a : Array). OrWanting (limited a) c.no_cells.result) (cells_are c.args.nouns.now c.args.y.now c.args.taken.now c.in-Ok.frame c.in-Ok.ensures.ok)
    (c.no_cells.ensures (ks c.args.nouns.now c.args.y.now c.args.taken.now))

pub returns-in_default-size_within : goal.returns-in_default-size_within
returns-in_default-size_within c =
    let n : ℕ = length c.args.nouns.now in
    let known = chosen_known c.args.nouns.now c.args.taken.now c.args.y.now c.requires.fewer c.requires.many c.requires.inside in
    let differ = eqb-false (length c.args.y.now.atoms) 0 (sym c.has_no_atoms-is_empty.ensures ∙ c.if-is_empty.false) in
    let some : 0 < length c.args.y.now.atoms = omega (arith, differ) in
    let limits = axes_limits c.args.y.now n c.view.ensures.noun some (noun_few c.args.y.now c.view.ensures.noun) in
    let many : 4194304 < product c.in-Ok.frame = omega (arith, c.in_default-size_within.ensures, ap product c.axes.ensures.value) in
    let beyond : 4194304 < product (c.in-Ok.frame ++ drop n c.args.y.now.shape) =
    omega (arith, product_append c.in-Ok.frame (drop n c.args.y.now.shape), more_beyond (product c.in-Ok.frame) (product (drop n c.args.y.now.shape)) 4194304 limits.2 many) in
    ap (λ (a : Array). limited a) (sym (cells_are c.args.nouns.now c.args.y.now c.args.taken.now c.in-Ok.frame c.in-Ok.ensures.ok))
    ∙ cells_beyond c.in-Ok.frame n c.args.y.now (ks c.args.nouns.now c.args.y.now c.args.taken.now) (c.in-Ok.frame ++ drop n c.args.y.now.shape) c.view.ensures.noun
    (ap product c.in-Ok.ensures.ok ∙ known.many) known.within refl beyond

pub chosen_places-requires-clause-some : goal.chosen_places-requires-clause-some
chosen_places-requires-clause-some c =
    let differ = eqb-false (length c.args.y.now.atoms) 0 (sym c.has_no_atoms-is_empty.ensures ∙ c.if-is_empty.false) in
    let some : 0 < length c.args.y.now.atoms = omega (arith, differ) in
    let limits = axes_limits c.args.y.now (length c.args.nouns.now) c.view.ensures.noun some (noun_few c.args.y.now c.view.ensures.noun) in
    omega (arith, limits.0, ap product c.leading-axes.ensures, ap (λ s. product (take (length c.args.nouns.now) s)) c.axes-2.ensures.value)

pub chosen_places-requires-clause-few : goal.chosen_places-requires-clause-few
chosen_places-requires-clause-few c =
    let differ = eqb-false (length c.args.y.now.atoms) 0 (sym c.has_no_atoms-is_empty.ensures ∙ c.if-is_empty.false) in
    let some : 0 < length c.args.y.now.atoms = omega (arith, differ) in
    let limits = axes_limits c.args.y.now (length c.args.nouns.now) c.view.ensures.noun some (noun_few c.args.y.now c.view.ensures.noun) in
    omega (arith, limits.1, ap product c.leading-axes.ensures, ap (λ s. product (take (length c.args.nouns.now) s)) c.axes-2.ensures.value)

pub chosen_places-requires-clause-inside : goal.chosen_places-requires-clause-inside
chosen_places-requires-clause-inside c =
    let known = chosen_known c.args.nouns.now c.args.taken.now c.args.y.now c.requires.fewer c.requires.many c.requires.inside in
    subst (λ (s : List ℕ). AreInside s (map places c.args.taken.now)) (sym (c.leading-axes.ensures ∙ ap (take (length c.args.nouns.now)) c.axes-2.ensures.value)) known.inside

pub cells_at-requires-clause-frame : goal.cells_at-requires-clause-frame
cells_at-requires-clause-frame c =
    let known = chosen_known c.args.nouns.now c.args.taken.now c.args.y.now c.requires.fewer c.requires.many c.requires.inside in
    let axes = c.leading-axes.ensures ∙ ap (take (length c.args.nouns.now)) c.axes-2.ensures.value in
    let taken : c.deref.result.now ≡ ks c.args.nouns.now c.args.y.now c.args.taken.now = c.deref.ensures.value ∙ c.in_ok-places.ensures ∙ ap (λ s. places_from 0 s (map places c.args.taken.now)) axes in
    ap product c.in-Ok.ensures.ok ∙ known.many ∙ ap length (sym taken)

pub cells_at-requires-clause-within : goal.cells_at-requires-clause-within
cells_at-requires-clause-within c =
    let known = chosen_known c.args.nouns.now c.args.taken.now c.args.y.now c.requires.fewer c.requires.many c.requires.inside in
    let axes = c.leading-axes.ensures ∙ ap (take (length c.args.nouns.now)) c.axes-2.ensures.value in
    let taken : c.deref.result.now ≡ ks c.args.nouns.now c.args.y.now c.args.taken.now = c.deref.ensures.value ∙ c.in_ok-places.ensures ∙ ap (λ s. places_from 0 s (map places c.args.taken.now)) axes in
    subst (λ (js : List ℕ). All (λ k. k < product (lead c.args.nouns.now c.args.y.now)) js) (sym taken) known.within

pub returns : goal.returns
returns c =
    let axes = c.leading-axes.ensures ∙ ap (take (length c.args.nouns.now)) c.axes-2.ensures.value in
    let taken : c.deref.result.now ≡ ks c.args.nouns.now c.args.y.now c.args.taken.now = c.deref.ensures.value ∙ c.in_ok-places.ensures ∙ ap (λ s. places_from 0 s (map places c.args.taken.now)) axes in
    subst (λ (a : Array). OrWanting (limited a) c.cells_at.result)
    (ap (λ js. cells_at c.in-Ok.frame (length c.args.nouns.now) c.args.y.now js) taken ∙ cells_are c.args.nouns.now c.args.y.now c.args.taken.now c.in-Ok.frame c.in-Ok.ensures.ok) c.cells_at.ensures
