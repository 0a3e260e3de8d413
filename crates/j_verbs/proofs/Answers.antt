-- The answers of calls on nouns, as runs.
use Rattle.std.proofs.Common.{◌≡◌, pos, Result, Ok, Err, ap, ◌∙◌, Option, Some, None, sym, subst, refl}
use Rattle.j_definitions.specs.Array.{Array, IsNoun, atom_array}
use Rattle.j_leaves.specs.Spelling.{constant}
use Rattle.j_definitions.specs.declared.Fault.TheVariants.{Domain, Nonce}
use Rattle.j_definitions.specs.declared.Fault.{Fault}
use Rattle.j_definitions.specs.declared.Kind.TheVariants.{Number}
use Rattle.j_kernels.specs.declared.scalar.Scalar.{Scalar as ScalarVerb}
use Rattle.j_leaves.specs.declared.primitive.Primitive.{Primitive}
use Rattle.j_leaves.specs.declared.ranks.Ranks.{Ranks}
use Rattle.j_noun.specs.Refused.{OrWanting}
use Rattle.j_noun.specs.declared.ranks.Rank.TheVariants as rank
use Rattle.j_indices.specs.Indexing.{from_list}
use Rattle.j_verbs.specs.declared.calls.Dyad.TheVariants.{From}
use Rattle.j_verbs.proofs.FromCells.{from_by_cells}
use Rattle.j_noun.specs.declared.refusal.Refusal.{Refusal}
use Rattle.j_noun.specs.declared.refusal.Refusal.TheVariants as refusal
use Rattle.j_verbs.specs.Answered.{Gives}
use Rattle.j_verbs.specs.ByRank.{by_ranks}
use Rattle.j_verbs.specs.Calls.{of_one}
use Rattle.j_verbs.specs.declared.calls.Monad.{Monad}
use Rattle.j_verbs.specs.declared.calls.Dyad.{Dyad}
use Rattle.j_verbs.specs.Laws.{IsNounOrNone, AreZero, scalar}
use Rattle.j_verbs.specs.State.{State, Run, Gave, or_fault}
use Rattle.j_verbs.specs.Words.{always, two_cell, done, left_of, scalar_cell, valence, word}
use Rattle.j_verbs.specs.declared.table.Valence.{Valence}
use Rattle.j_verbs.specs.declared.table.Valence.TheVariants.{Scalar, OnOne, OnTwo, LeftArgument, RightArgument, Constant, LeftOut, Later, Absent}
use Rattle.j_verbs.proofs.Scalars.{dyad_whole, monad_whole}

pub gives_as : (m : Run Array) (q : Result Array Fault) (a : Result Array Refusal) → ((s : State) → m s ≡ or_fault q s) → OrWanting q a → Gives m a
gives_as m q (Ok y) e h = λ s. e s ∙ ap (λ (q : Result Array Fault). or_fault q s) h
gives_as m q (Err (refusal.Fault f)) e h = λ s. e s ∙ ap (λ (q : Result Array Fault). or_fault q s) h
gives_as m q (Err refusal.NoMemory) e h = tt

-- a word by ranks 0, where its valence is a scalar verb
word_whole : (v : ScalarVerb) (p : Primitive) (r : Ranks) (x : Option Array) (y : Array) (s : State) → Scalar v ≡ valence p x → AreZero r x → IsNounOrNone x → IsNoun y → by_ranks r (word p) x y s ≡ or_fault (scalar v x y) s
unfolding word
word_whole v p r (Some x) y s e z nx ny = dyad_whole v (word p) r x y s (λ a b. ap (λ (w : Valence). done p w (Some a) b s) (sym e)) z nx ny
word_whole v p r None y s e z nx ny = monad_whole v (word p) r y s (λ b. ap (λ (w : Valence). done p w None b s) (sym e)) z ny

-- a scalar verb on whole nouns
pub scalar_gives : (v : ScalarVerb) (p : Primitive) (r : Ranks) (x : Option Array) (y : Array) (a : Result Array Refusal) → Scalar v ≡ valence p x → AreZero r x → IsNounOrNone x → IsNoun y → OrWanting (scalar v x y) a → Gives (by_ranks r (word p) x y) a
scalar_gives v p r x y a e z nx ny h = gives_as (by_ranks r (word p) x y) (scalar v x y) a (λ s. word_whole v p r x y s e z nx ny) h

-- a word on one cell or two, by its valence
pub word_gives : (w : Valence) (p : Primitive) (x : Option Array) (y : Array) (a : Result Array Refusal) → w ≡ valence p x → Gives (done p w x y) a → Gives (word p x y) a
unfolding word
word_gives w p x y a e h = subst (λ (w : Valence). Gives (done p w x y) a) e h

pub scalar_word_gives : (v : ScalarVerb) (p : Primitive) (x : Option Array) (y : Array) (a : Result Array Refusal) → Scalar v ≡ valence p x → OrWanting (scalar_cell v x y) a → Gives (word p x y) a
scalar_word_gives v p x y a e h = word_gives (Scalar v) p x y a e (gives_as (done p (Scalar v) x y) (scalar_cell v x y) a (λ s. refl) h)

pub one_gives : (m : Monad) (p : Primitive) (x : Option Array) (y : Array) (a : Result Array Refusal) → OnOne m ≡ valence p x → OrWanting (of_one m y) a → Gives (word p x y) a
one_gives m p x y a e h = word_gives (OnOne m) p x y a e (gives_as (done p (OnOne m) x y) (of_one m y) a (λ s. refl) h)

pub two_gives : (d : Dyad) (p : Primitive) (x : Option Array) (y : Array) (a : Result Array Refusal) → OnTwo d ≡ valence p x → OrWanting (two_cell d x y) a → Gives (word p x y) a
two_gives d p x y a e h = word_gives (OnTwo d) p x y a e (gives_as (done p (OnTwo d) x y) (two_cell d x y) a (λ s. refl) h)

pub left_gives : (p : Primitive) (x : Option Array) (y a : Array) → LeftArgument ≡ valence p x → a ≡ left_of x y → Gives (word p x y) (Ok a)
left_gives p x y a e h = word_gives LeftArgument p x y (Ok a) e (λ s. ap (λ (b : Array). Gave b s) (sym h))

pub right_gives : (p : Primitive) (x : Option Array) (y a : Array) → RightArgument ≡ valence p x → a ≡ y → Gives (word p x y) (Ok a)
right_gives p x y a e h = word_gives RightArgument p x y (Ok a) e (λ s. ap (λ (b : Array). Gave b s) (sym h))

pub constant_gives : (p : Primitive) (x : Option Array) (y : Array) (a : Result Array Refusal) → Constant ≡ valence p x → OrWanting (always (constant p)) a → Gives (word p x y) a
constant_gives p x y a e h = word_gives Constant p x y a e (gives_as (done p Constant x y) (always (constant p)) a (λ s. refl) h)

pub left_out_gives : (p : Primitive) (x : Option Array) (y : Array) → LeftOut ≡ valence p x → Gives (word p x y) (Err (refusal.Fault Nonce))
left_out_gives p x y e = word_gives LeftOut p x y (Err (refusal.Fault Nonce)) e (λ s. refl)

pub later_gives : (p : Primitive) (x : Option Array) (y : Array) → Later ≡ valence p x → Gives (word p x y) (Err (refusal.Fault Nonce))
later_gives p x y e = word_gives Later p x y (Err (refusal.Fault Nonce)) e (λ s. refl)

pub absent_gives : (p : Primitive) (x : Option Array) (y : Array) → Absent ≡ valence p x → Gives (word p x y) (Err (refusal.Fault Domain))
absent_gives p x y e = word_gives Absent p x y (Err (refusal.Fault Domain)) e (λ s. refl)

-- `x { y` for all numbers x
from_whole : (p : Primitive) (r : Ranks) (x y : Array) (s : State) → valence p (Some x) ≡ OnTwo From → r.left ≡ rank.Number (pos 0) → r.right ≡ rank.Infinite → x.kind ≡ Number → IsNoun x → IsNoun y → by_ranks r (word p) (Some x) y s ≡ or_fault (from_list x y) s
unfolding word
from_whole p r x y s e l g k nx ny = from_by_cells (word p) x y s (λ a b. ap (λ (w : Valence). done p w (Some (atom_array x.kind a)) b s) e) nx ny k r l g

pub from_gives : (p : Primitive) (r : Ranks) (x y : Array) (a : Result Array Refusal) → valence p (Some x) ≡ OnTwo From → r.left ≡ rank.Number (pos 0) → r.right ≡ rank.Infinite → x.kind ≡ Number → IsNoun x → IsNoun y → OrWanting (from_list x y) a → Gives (by_ranks r (word p) (Some x) y) a
from_gives p r x y a e l g k nx ny h = gives_as (by_ranks r (word p) (Some x) y) (from_list x y) a (λ s. from_whole p r x y s e l g k nx ny) h
