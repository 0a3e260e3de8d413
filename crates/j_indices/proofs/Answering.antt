-- Nouns that are made, as what a verb answers.
use Rattle.std.proofs.Common.{◌≡◌, List, ℕ, ap, ◌∙◌, subst, Result, Err}
use Rattle.j_definitions.specs.Array.{Array, Atom}
use Rattle.j_definitions.specs.Limits.{limited}
use Rattle.j_definitions.specs.declared.Kind.{Kind}
use Rattle.j_noun.specs.declared.noun.Atoms.{Atoms}
use Rattle.j_noun.specs.declared.refusal.Refusal.{Refusal}
use Rattle.j_noun.specs.Held.{AreAtoms, array_kept, atoms_kept, kind_kept}
use Rattle.j_noun.specs.declared.refusal.Refusal.TheVariants.{Fault as RefusedFault, NoMemory}
use Rattle.j_definitions.specs.declared.Fault.{Fault}
use Rattle.j_indices.specs.Numbers.{and_then}
use Rattle.j_noun.specs.Refused.{OrWanting, OrWantingAs}

pub kept_is : (s t : List ℕ) (a : Atoms) (k : Kind) (xs : List Atom) → s ≡ t → AreAtoms a k xs → (let it : Array = record { kind = k; shape = t; atoms = xs } in array_kept s a ≡ it)
kept_is s t a k xs e are =
    let atoms : atoms_kept a ≡ xs = are.atoms in
    let kind : kind_kept a ≡ k = are.kind in
    ap (λ r. let it : Array = record { kind = kind_kept a; shape = r; atoms = atoms_kept a } in it) e
    ∙ ap (λ j. let it : Array = record { kind = j; shape = t; atoms = atoms_kept a } in it) kind
    ∙ ap (λ ys. let it : Array = record { kind = k; shape = t; atoms = ys } in it) atoms

-- what make answers, where the atoms and the shape are those of b
pub answers : (s : List ℕ) (a : Atoms) (b : Array) (m : Result Array Refusal) → s ≡ b.shape → AreAtoms a b.kind b.atoms → OrWanting (limited (array_kept s a)) m → OrWanting (limited b) m
answers s a b m e are h = subst (λ (w : Array). OrWanting (limited w) m) (kept_is s b.shape a b.kind b.atoms e are) h

-- a call that was refused
pub refused : {A B V : Type 0} (f : V → A) (said : Result A Fault) (rest : A → Result B Fault) (e : Refusal) → OrWantingAs f said (Err e) → OrWanting (and_then said rest) (Err e)
refused f said rest NoMemory h = tt
refused {B = B} f said rest (RefusedFault x) h = ap (λ r. and_then {B = B} r rest) h
