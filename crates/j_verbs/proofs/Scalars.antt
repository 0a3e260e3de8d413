-- The laws of scalar verbs.
use Rattle.std.proofs.Common.{◌≡◌, [], ◌∷◌, refl, sym, ap, ◌∙◌, Option, Some, None, Result, Ok, Err}
use Rattle.j_definitions.specs.Array.{Array, Atom, number, byte, nested, atom_array, IsNoun}
use Rattle.j_definitions.specs.declared.Kind.{Kind}
use Rattle.j_definitions.specs.declared.Fault.{Fault}
use Rattle.j_definitions.proofs.Laws.{number-IsNoun}
use Rattle.j_kernels.specs.Scalars.{monad_of, dyad_of}
use Rattle.j_kernels.specs.declared.scalar.Scalar.{Scalar as ScalarVerb}
use Rattle.j_leaves.specs.declared.ranks.Ranks.{Ranks}
use Rattle.j_entity.specs.Ranks.{same, of}
use Rattle.j_rank.specs.Assembly.{assemble}
use Rattle.j_rank.proofs.Single.{assemble_one}
use Rattle.j_verbs.specs.ByRank.{Doing, by_ranks}
use Rattle.j_verbs.specs.Laws.{IsNounOrNone, AreZero, scalar, scalar_verb, ScalarsAreWhole, RankZeroIsItself}
use Rattle.j_verbs.specs.State.{State, Outcome, then_do, pure, or_fault}
use Rattle.j_verbs.specs.Words.{one_number, scalar_cell}
use Rattle.j_verbs.proofs.CellLaw.{single, IsNumberOr, dyad_of_number, monad_of_number}
use Rattle.j_verbs.proofs.CellMonad.{monad_by_cells}
use Rattle.j_verbs.proofs.CellDyad.{any_dyad_by_cells}

-- What does on atoms what a scalar verb does is by ranks 0 the verb on whole nouns.
pub dyad_whole : (v : ScalarVerb) (F : Doing) (r : Ranks) (x y : Array) (s : State) → ((a b : Array) → F (Some a) b s ≡ or_fault (scalar_cell v (Some a) b) s) → AreZero r (Some x) → IsNoun x → IsNoun y →
    by_ranks r F (Some x) y s ≡ or_fault (scalar v (Some x) y) s
dyad_whole v F r x y s h z nx ny =
    any_dyad_by_cells (dyad_of v) (dyad_of_number v) F x y s (λ a b ha hb. h (atom_array x.kind a) (atom_array y.kind b)) r z.0 z.1 nx ny

pub monad_whole : (v : ScalarVerb) (F : Doing) (r : Ranks) (y : Array) (s : State) → ((b : Array) → F None b s ≡ or_fault (scalar_cell v None b) s) → AreZero r None → IsNoun y →
    by_ranks r F None y s ≡ or_fault (scalar v None y) s
monad_whole v F r y s h z ny = monad_by_cells (monad_of v) (monad_of_number v) F y s (λ a. h (atom_array y.kind a)) r z ny

pub scalars_are_whole : ScalarsAreWhole
scalars_are_whole v (Some x) y s nx ny = dyad_whole v (λ x y. or_fault (scalar_cell v x y)) (same (of 0)) x y s (λ a b. refl) (refl, refl) nx ny
scalars_are_whole v None y s nx ny = monad_whole v (λ x y. or_fault (scalar_cell v x y)) (same (of 0)) y s (λ b. refl) refl ny

-- the one cell of two atoms, or of one
one_alone : (q : Result Atom Fault) (s : State) → IsNumberOr q → then_do (then_do (or_fault (one_number q) s) (λ (r : Array). pure (r ∷ []))) (λ rs. or_fault (assemble [] rs)) ≡ or_fault (one_number q) s
one_alone (Ok (number z)) s h = ap (λ (r : Result Array Fault). or_fault r s) (assemble_one (single (number z)) (number-IsNoun z))
one_alone (Ok (byte b)) s h = absurd h
one_alone (Ok (nested k t r)) s h = absurd h
one_alone (Err e) s h = refl

atom_pair : (F : Doing) (k l : Kind) (a b : Atom) (q : Result Atom Fault) (s : State) → IsNumberOr q → F (Some (atom_array k a)) (atom_array l b) s ≡ or_fault (one_number q) s →
    by_ranks (same (of 0)) F (Some (atom_array k a)) (atom_array l b) s ≡ or_fault (one_number q) s
unfolding by_ranks
atom_pair F k l a b q s h e =
    ap (λ (o : Outcome Array). then_do (then_do o (λ (r : Array). pure (r ∷ []))) (λ rs. or_fault (assemble [] rs))) e ∙ one_alone q s h

atom_alone : (F : Doing) (k : Kind) (a : Atom) (q : Result Atom Fault) (s : State) → IsNumberOr q → F None (atom_array k a) s ≡ or_fault (one_number q) s →
    by_ranks (same (of 0)) F None (atom_array k a) s ≡ or_fault (one_number q) s
unfolding by_ranks
atom_alone F k a q s h e =
    ap (λ (o : Outcome Array). then_do (then_do o (λ (r : Array). pure (r ∷ []))) (λ rs. or_fault (assemble [] rs))) e ∙ one_alone q s h

zero_twice : (v : ScalarVerb) (x : Option Array) (y : Array) (s : State) → IsNounOrNone x → IsNoun y → by_ranks (same (of 0)) (scalar_verb v) x y s ≡ or_fault (scalar v x y) s
zero_twice v (Some x) y s nx ny =
    any_dyad_by_cells (dyad_of v) (dyad_of_number v) (scalar_verb v) x y s
    (λ a b ha hb. atom_pair (λ x y. or_fault (scalar_cell v x y)) x.kind y.kind a b (dyad_of v a b) s (dyad_of_number v a b) refl) (same (of 0)) refl refl nx ny
zero_twice v None y s nx ny =
    monad_by_cells (monad_of v) (monad_of_number v) (scalar_verb v) y s (λ a. atom_alone (λ x y. or_fault (scalar_cell v x y)) y.kind a (monad_of v a) s (monad_of_number v a) refl) (same (of 0)) refl ny

pub rank_zero_is_itself : RankZeroIsItself
rank_zero_is_itself v x y s nx ny = zero_twice v x y s nx ny ∙ sym (scalars_are_whole v x y s nx ny)
