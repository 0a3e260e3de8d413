-- What a row leaves is shorter.
use Rattle.std.proofs.Common.{◌≡◌, ℕ, zero, suc, ◌+◌, ◌-◌, ◌<◌, ◌≤◌, List, [], ◌∷◌, length, Option, Some, None, Result, Ok, Err, refl, sym, ap, ◌∙◌, arith, length-drop}
use Rattle.j_definitions.specs.declared.Fault.{Fault}
use Rattle.j_entity.specs.Tree.{EntityTree}
use Rattle.j_eval.specs.declared.stack.Entry.{Entry}
use Rattle.j_eval.specs.declared.stack.Row.{Row}
use Rattle.j_eval.specs.declared.stack.Row.TheVariants as row
use Rattle.j_eval.specs.Applying.{Calls, call}
use Rattle.j_trains.specs.Form.{conjunction_of, fork_of, verb_entity}
use Rattle.j_entity.specs.Tree.{a_noun}
use Rattle.j_eval.specs.Meaning.{is_local, assigned, entity_bident, monad_at, dyad_at, modified, joined, train, bident, assignment, made, kept, used, reduced, reduced_by_places}
use Rattle.j_eval.specs.Stack.{stack_of, slot_word, word_at, entity_at, noun_at, verb_at, adverb_at, conjunction_at, operand_at, then_in, replaced}
use Rattle.j_verbs.specs.State.{State, Outcome, Gave, Erred, Spent, Run, then_do, ◌>>=◌, pure, or_fault}
use Rattle.j_eval.specs.Table.{Slot, slot_at}
use Rattle.j_eval.proofs.Stacks.{length_stack}
use Rattle.j_eval.proofs.Patterns.{reduced_is}

-- a step gave something, and then the next did
pub record Stepped {A B : Type 0} (o : Outcome A) (go : A → Run B) (b : B) (t : State) : Type 0 where
  pub value : A
  pub state : State
  pub first : o ≡ Gave value state
  pub next : go value state ≡ Gave b t

stepped : {A B : Type 0} (o : Outcome A) (go : A → Run B) (b : B) (t : State) → then_do o go ≡ Gave b t → Stepped o go b t
stepped (Gave a s) go b t h = record { value = a; state = s; first = refl; next = h }
stepped (Erred x s) go b t h = absurd (cc)
stepped (Spent s) go b t h = absurd (cc)

gave : {A : Type 0} (r : Result A Fault) (s t : State) (a : A) → or_fault r s ≡ Gave a t → r ≡ Ok a
gave (Ok b) s t a h = let e : b ≡ a = cc in ap Ok e
gave (Err x) s t a h = absurd (cc)

pub record Found {A : Type 0} (r : Result A Fault) : Type 0 where
  pub value : A
  pub is : r ≡ Ok value

then_found : {A B : Type 0} (r : Result A Fault) (go : A → Result B Fault) (b : B) → then_in r go ≡ Ok b → Found r
then_found (Ok a) go b h = record { value = a; is = refl }
then_found (Err x) go b h = absurd (cc)

found_next : {A B : Type 0} (r : Result A Fault) (go : A → Result B Fault) (a : A) (b : B) → r ≡ Ok a → then_in r go ≡ Ok b → go a ≡ Ok b
found_next r go a b e h = rw e at h

slot_long : (es : List Slot) (k : ℕ) (e : Slot) → slot_at es k ≡ Some e → k < length es
slot_long [] k e h = absurd (cc)
slot_long (a ∷ es) zero e h = omega arith
slot_long (a ∷ es) (suc k) e h = let l = slot_long es k e h in omega (arith, l)

some_long : (es : List Slot) (k : ℕ) (o : Option Slot) (r : Found (slot_word o)) → slot_at es k ≡ o → k < length es
some_long es k None r h = absurd (let no = r.is in cc)
some_long es k (Some e) r h = slot_long es k e h

word_long : (es : List Slot) (k : ℕ) → Found (word_at es k) → k < length es
unfolding word_at
word_long es k f = some_long es k (slot_at es k) f refl

entity_long : (es : List Slot) (k : ℕ) → Found (entity_at es k) → k < length es
unfolding entity_at
entity_long es k f = word_long es k (then_found _ _ f.value f.is)

noun_long : (es : List Slot) (k : ℕ) → Found (noun_at es k) → k < length es
unfolding noun_at
noun_long es k f = entity_long es k (then_found _ _ f.value f.is)

verb_long : (es : List Slot) (k : ℕ) → Found (verb_at es k) → k < length es
unfolding verb_at
verb_long es k f = entity_long es k (then_found _ _ f.value f.is)

adverb_long : (es : List Slot) (k : ℕ) → Found (adverb_at es k) → k < length es
unfolding adverb_at
adverb_long es k f = entity_long es k (then_found _ _ f.value f.is)

operand_long : (es : List Slot) (k : ℕ) → Found (operand_at es k) → k < length es
unfolding operand_at
operand_long es k f = word_long es k (then_found _ _ f.value f.is)

module _ (calls : Calls) (es : List Slot) (s t : State) (e : EntityTree) where
  monad_long : (i j : ℕ) → monad_at calls es i j s ≡ Gave e t → j < length es
  unfolding monad_at
  monad_long i j h =
      let v = stepped (or_fault (verb_at es i) s) (λ v. or_fault (noun_at es j) >>= (λ y. call calls v None y >>= (λ r. pure (a_noun r)))) e t h in
      let y = stepped (or_fault (noun_at es j) v.state) (λ y. call calls v.value None y >>= (λ r. pure (a_noun r))) e t v.next in
      noun_long es j (record { value = y.value; is = gave (noun_at es j) v.state y.state y.value y.first })

  dyad_long : dyad_at calls es s ≡ Gave e t → 3 < length es
  unfolding dyad_at
  dyad_long h =
      let x = stepped (or_fault (noun_at es 1) s) (λ x. or_fault (verb_at es 2) >>= (λ v. or_fault (noun_at es 3) >>= (λ y. call calls v (Some x) y >>= (λ r. pure (a_noun r))))) e t h in
      let v = stepped (or_fault (verb_at es 2) x.state) (λ v. or_fault (noun_at es 3) >>= (λ y. call calls v (Some x.value) y >>= (λ r. pure (a_noun r)))) e t x.next in
      let y = stepped (or_fault (noun_at es 3) v.state) (λ y. call calls v.value (Some x.value) y >>= (λ r. pure (a_noun r))) e t v.next in
      noun_long es 3 (record { value = y.value; is = gave (noun_at es 3) v.state y.state y.value y.first })

  assignment_long : assignment es s ≡ Gave e t → 2 < length es
  unfolding assignment
  assignment_long h =
      let v = stepped (or_fault (entity_at es 2) s) (λ e. assigned (is_local (slot_at es 1)) (slot_at es 0) e >>= (λ u. pure e)) e t h in
      entity_long es 2 (record { value = v.value; is = gave (entity_at es 2) s v.state v.value v.first })

module _ (es : List Slot) (e : EntityTree) where
  modified_long : modified es ≡ Ok e → 2 < length es
  unfolding modified
  modified_long h = adverb_long es 2 (then_found _ _ e h)

  joined_long : joined es ≡ Ok e → 3 < length es
  unfolding joined
  joined_long h =
      let c = then_found (conjunction_at es 2) (λ c. then_in (operand_at es 3) (λ v. then_in (operand_at es 1) (λ u. conjunction_of c u v))) e h in
      let h1 = found_next (conjunction_at es 2) (λ c. then_in (operand_at es 3) (λ v. then_in (operand_at es 1) (λ u. conjunction_of c u v))) c.value e c.is h in
      operand_long es 3 (then_found (operand_at es 3) (λ v. then_in (operand_at es 1) (λ u. conjunction_of c.value u v)) e h1)

  train_long : train es ≡ Ok e → 3 < length es
  unfolding train
  train_long h =
      let g = then_found (verb_at es 2) (λ g. then_in (verb_at es 3) (λ h. then_in (operand_at es 1) (λ f. verb_entity (fork_of f g h)))) e h in
      let h1 = found_next (verb_at es 2) (λ g. then_in (verb_at es 3) (λ h. then_in (operand_at es 1) (λ f. verb_entity (fork_of f g h)))) g.value e g.is h in
      verb_long es 3 (then_found (verb_at es 3) (λ h. then_in (operand_at es 1) (λ f. verb_entity (fork_of f g.value h))) e h1)

  bident_long : bident es ≡ Ok e → 2 < length es
  unfolding bident
  bident_long h =
      let b = then_found (entity_at es 1) (λ b. then_in (word_at es 2) (entity_bident b)) e h in
      word_long es 2 (then_found (word_at es 2) (entity_bident b.value) e (found_next (entity_at es 1) (λ b. then_in (word_at es 2) (entity_bident b)) b.value e b.is h))

-- The entries that a row keeps are there, and what it leaves is shorter.
pub record Enough (k n l : ℕ) : Type 0 where
  pub kept : k ≤ l
  pub shorter : k + 1 + (l - (k + n)) < l

made_enough : (calls : Calls) (r : Row) (es : List Slot) (s t : State) (e : EntityTree) → made calls r es s ≡ Gave e t → Enough (kept r) (used r) (length es)
made_enough calls row.Monad es s t e h = let l = monad_long calls es s t e 1 2 h in record { kept = omega arith; shorter = omega arith }
made_enough calls row.MonadRight es s t e h = let l = monad_long calls es s t e 2 3 h in record { kept = omega arith; shorter = omega arith }
made_enough calls row.Dyad es s t e h = let l = dyad_long calls es s t e h in record { kept = omega arith; shorter = omega arith }
made_enough calls row.Adverb es s t e h = let l = modified_long es e (gave (modified es) s t e h) in record { kept = omega arith; shorter = omega arith }
made_enough calls row.Conjunction es s t e h = let l = joined_long es e (gave (joined es) s t e h) in record { kept = omega arith; shorter = omega arith }
made_enough calls row.Fork es s t e h = let l = train_long es e (gave (train es) s t e h) in record { kept = omega arith; shorter = omega arith }
made_enough calls row.Bident es s t e h = let l = bident_long es e (gave (bident es) s t e h) in record { kept = omega arith; shorter = omega arith }
made_enough calls row.Assignment es s t e h = let l = assignment_long calls es s t e h in record { kept = omega arith; shorter = omega arith }
made_enough calls row.Parentheses es s t e h = let l = entity_long es 1 (record { value = e; is = gave (entity_at es 1) s t e h }) in record { kept = omega arith; shorter = omega arith }

length-replaced : (k n : ℕ) (e : EntityTree) (es : List Slot) → k ≤ length es → length (replaced k n e es) ≡ k + 1 + (length es - (k + n))
length-replaced zero n e es l = omega (arith, length-drop n es)
length-replaced (suc k) n e [] l = absurd (omega arith)
length-replaced (suc k) n e (a ∷ es) l = let l' : k ≤ length es = omega arith in omega (arith, length-replaced k n e es l')

-- what a row leaves
pub left_shorter : (calls : Calls) (r : Row) (es es' : List Slot) (s t : State) → reduced calls r es s ≡ Gave es' t → (0 < length es') × (length es' < length es)
unfolding reduced_by_places
left_shorter calls r es es' s t h =
    let h' : reduced_by_places calls r es s ≡ Gave es' t = sym (reduced_is calls s r es) ∙ h in
    let e = stepped (made calls r es s) (λ e. pure (replaced (kept r) (used r) e es)) es' t h' in
    let q : replaced (kept r) (used r) e.value es ≡ es' = let n = e.next in cc in
    let m = made_enough calls r es s e.state e.value e.first in
    let l = length-replaced (kept r) (used r) e.value es m.kept in
    let n : length es' ≡ kept r + 1 + (length es - (kept r + used r)) = ap length (sym q) ∙ l in
    (omega (arith, n), omega (arith, n, m.shorter))

-- the same in the vector
pub items_left : (calls : Calls) (r : Row) (old new : List Entry) (s t : State) → reduced calls r (stack_of old) s ≡ Gave (stack_of new) t → (0 < length new) × (length new < length old)
items_left calls r old new s t h =
    let short = left_shorter calls r (stack_of old) (stack_of new) s t h in
    (omega (arith, short.0, length_stack new), omega (arith, short.1, length_stack old, length_stack new))
