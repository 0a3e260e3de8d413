use Rattle.std.proofs.Common.{◌/◌, ◌∙◌, ap, arith, sym, subst, length, drop, rules, IfOk, ℕ, List}
use Rattle.j_definitions.specs.Array.{Atom, product}
use Rattle.j_definitions.specs.declared.Kind.{Kind}
use Rattle.j_noun.specs.Held.{AreAtoms}
use Rattle.j_noun.specs.Viewed.{viewed, kind_viewed}
use Rattle.j_indices.specs.Selecting.{runs_at}
use Rattle.j_indices.proofs.Runs.{no_runs, run_size, some_places, all_fit}
use Rattle.j_indices.proofs.selecting.atoms_of_cells.Goals as goal

pub returns-then-total-eq0 : goal.returns-then-total-eq0
returns-then-total-eq0 c =
    subst (λ (ys : List Atom). IfOk c.fills.result (λ a. AreAtoms a c.args.y.now.kind ys)) (sym (no_runs c.args.y.now c.args.n c.args.total c.args.places.now c.view-atoms.ensures.noun c.requires.within c.requires.total c.if-total-eq0.true))
    (search rules)

pub nonzero_div-total : goal.nonzero_div-total
nonzero_div-total c = let some = some_places c.args.total (length c.args.places.now) (product (drop c.args.n c.args.y.now.shape)) c.requires.total (omega arith) in omega arith

pub atoms_at-requires-clause-within : goal.atoms_at-requires-clause-within
atoms_at-requires-clause-within c =
    all_fit c.args.y.now.shape c.args.n (c.args.total / length c.args.places.now) (length (viewed c.view-atoms.result)) c.args.places.now
    (run_size c.args.total (length c.args.places.now) (product (drop c.args.n c.args.y.now.shape)) c.requires.total (omega arith)) (ap length c.view-atoms.ensures.atoms ∙ c.view-atoms.ensures.noun.as_many) c.requires.within

pub returns : goal.returns
returns c =
    let size = run_size c.args.total (length c.args.places.now) (product (drop c.args.n c.args.y.now.shape)) c.requires.total (omega arith) in
    subst (λ (k : Kind). IfOk c.atoms_at.result (λ a. AreAtoms a k (runs_at (product (drop c.args.n c.args.y.now.shape)) c.args.y.now.atoms c.args.places.now))) c.view-atoms.ensures.kind
    (subst (λ (xs : List Atom). IfOk c.atoms_at.result (λ a. AreAtoms a (kind_viewed c.view-atoms.result) (runs_at (product (drop c.args.n c.args.y.now.shape)) xs c.args.places.now))) c.view-atoms.ensures.atoms
    (subst (λ (n : ℕ). IfOk c.atoms_at.result (λ a. AreAtoms a (kind_viewed c.view-atoms.result) (runs_at n (viewed c.view-atoms.result) c.args.places.now))) size c.atoms_at.ensures))
