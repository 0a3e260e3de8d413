-- One turn of a sentence.
use Rattle.std.proofs.Common.{◌≡◌, ℕ, zero, suc, ◌+◌, ◌-◌, ◌*◌, ◌<◌, List, [], ◌∷◌, ◌++◌, reverse, length, map, Bool, true, false, Some, None, Err, refl, sym, ap, ◌∙◌, subst, arith}
use Rattle.std.proofs.lemmas.List.{reverse-append, nil_from_length, map-append}
use Rattle.j_entity.specs.Tree.{WordTree}
use Rattle.j_entity.specs.View.{word_of}
use Rattle.j_entity.specs.declared.entity.Item.{Item}
use Rattle.j_eval.specs.declared.outcome.Halt.{Halt}
use Rattle.j_eval.specs.declared.outcome.Halt.TheVariants as halt
use Rattle.j_eval.specs.declared.stack.Row.{Row}
use Rattle.j_verbs.specs.State.{State, Outcome, Gave, then_do, ◌>>=◌, counted, one_step}
use Rattle.j_eval.specs.Applying.{Calls}
use Rattle.j_eval.specs.Table.{Slot, Start, Word, row_of}
use Rattle.j_eval.specs.Meaning.{Given, goes_on, next_slot, is_assignment, moved, finished, reduced, parsed, queue_of, sentence}
use Rattle.j_eval.specs.Meets.{Running, Meets, MeetsAs, MeetsAt, given_of}
use Rattle.j_eval.proofs.Runs.{ticked, counted_after, counted_err}

module _ (calls : Calls) (quiet : Bool) (queue : List Slot) (es : List Slot) (s : State) where
  -- a row matches
  parsed_row : (bound : ℕ) (r : Row) → 0 < bound → row_of es ≡ Some r → parsed bound calls quiet queue es s ≡ counted (reduced calls r es >>= parsed (bound - 1) calls (is_assignment r) queue) s
  parsed_row zero r l e = absurd (omega arith)
  parsed_row (suc k) r l e =
      let n : k ≡ suc k - 1 = omega arith in
      ap (λ o. goes_on o (λ r. counted (reduced calls r es >>= parsed k calls (is_assignment r) queue)) (next_slot queue (λ e queue. moved es e >>= parsed k calls quiet queue) (finished quiet es)) s) e
      ∙ ap (λ n. counted (reduced calls r es >>= parsed n calls (is_assignment r) queue) s) n

  -- none matches
  parsed_move : (bound : ℕ) → 0 < bound → row_of es ≡ None → parsed bound calls quiet queue es s ≡ next_slot queue (λ e queue. moved es e >>= parsed (bound - 1) calls quiet queue) (finished quiet es) s
  parsed_move zero l e = absurd (omega arith)
  parsed_move (suc k) l e =
      let n : k ≡ suc k - 1 = omega arith in
      ap (λ o. goes_on o (λ r. counted (reduced calls r es >>= parsed k calls (is_assignment r) queue)) (next_slot queue (λ e queue. moved es e >>= parsed k calls quiet queue) (finished quiet es)) s) e
      ∙ ap (λ n. next_slot queue (λ e queue. moved es e >>= parsed n calls quiet queue) (finished quiet es) s) n

  pub reduce_more : (bound : ℕ) (r : Row) (es' : List Slot) (t t' : State) → 0 < bound → row_of es ≡ Some r → one_step s ≡ Gave tt t → reduced calls r es t ≡ Gave es' t' →
      parsed bound calls quiet queue es s ≡ parsed (bound - 1) calls (is_assignment r) queue es' t'
  reduce_more bound r es' t t' l e k h =
      parsed_row bound r l e ∙ (counted_after s t (reduced calls r es >>= parsed (bound - 1) calls (is_assignment r) queue) (ticked s t k) ∙ ap (λ o. then_do o (parsed (bound - 1) calls (is_assignment r) queue)) h)

  pub tick_err : (bound : ℕ) (r : Row) (e : Halt) (m : Running) (o : Outcome Given) → 0 < bound → row_of es ≡ Some r → parsed bound calls quiet queue es s ≡ o →
      Meets {A = Unit {0}} (Err e) m (one_step s) → MeetsAs given_of (Err e) m o
  tick_err bound r e m o l q p h =
      subst (MeetsAs given_of (Err e) m) (sym (parsed_row bound r l q) ∙ p) (counted_err given_of e m s (reduced calls r es >>= parsed (bound - 1) calls (is_assignment r) queue) h)

  pub reduce_err : (bound : ℕ) (r : Row) (e : Halt) (m : Running) (t : State) (es' : List Slot) (o : Outcome Given) → 0 < bound → row_of es ≡ Some r → one_step s ≡ Gave tt t → parsed bound calls quiet queue es s ≡ o →
      MeetsAt {A = Unit {0}} es' (Err e) m (reduced calls r es t) → MeetsAs given_of (Err e) m o
  reduce_err bound r e m t es' o l q k p h =
      subst (MeetsAs given_of (Err e) m) (sym (parsed_row bound r l q ∙ counted_after s t (reduced calls r es >>= parsed (bound - 1) calls (is_assignment r) queue) (ticked s t k)) ∙ p) (err_at e h)
    where
      err_at : (e : Halt) → MeetsAt {A = Unit {0}} es' (Err e) m (reduced calls r es t) → MeetsAs given_of (Err e) m (then_do (reduced calls r es t) (parsed (bound - 1) calls (is_assignment r) queue))
      err_at (halt.Failed f) h = ap (λ o. then_do o (parsed (bound - 1) calls (is_assignment r) queue)) h
      err_at halt.Spent h = ap (λ o. then_do o (parsed (bound - 1) calls (is_assignment r) queue)) h
      err_at halt.NoMemory h = tt

-- what is left of a queue: the words and the mark, or nothing
abbrev pub queue_rest : Bool → List WordTree → List Slot
queue_rest false words = queue_of words
queue_rest true words = []

-- how many marks are left
abbrev pub marks : Bool → ℕ
marks false = 1
marks true = 0

-- the last word comes first
queue_last : (rest : List WordTree) (w : WordTree) → queue_of (rest ++ w ∷ []) ≡ Word w ∷ queue_of rest
queue_last rest w = ap (λ es. reverse (Start ∷ es)) (map-append Word rest (w ∷ [])) ∙ reverse-append (Start ∷ map Word rest) (Word w ∷ [])

-- the last item's word comes first
queue_item : (items rest : List Item) (i : Item) (w : WordTree) → items ≡ rest ++ i ∷ [] → w ≡ word_of i → queue_of (map word_of items) ≡ Word w ∷ queue_of (map word_of rest)
queue_item items rest i w p e =
    ap (λ is. queue_of (map word_of is)) p ∙ ap queue_of (map-append word_of rest (i ∷ [])) ∙ queue_last (map word_of rest) (word_of i)
    ∙ ap (λ w. Word w ∷ queue_of (map word_of rest)) (sym e)

module _ (calls : Calls) (quiet : Bool) where
  -- the next word is moved
  item_turn : (items rest : List Item) (i : Item) (es : List Slot) (s : State) (bound : ℕ) → items ≡ rest ++ i ∷ [] → 0 < bound → row_of es ≡ None →
      parsed bound calls quiet (queue_of (map word_of items)) es s ≡ then_do (moved es (Word (word_of i)) s) (parsed (bound - 1) calls quiet (queue_of (map word_of rest)))
  item_turn items rest i es s bound p l n =
      ap (λ queue. parsed bound calls quiet queue es s) (queue_item items rest i (word_of i) p refl) ∙ parsed_move calls quiet (Word (word_of i) ∷ queue_of (map word_of rest)) es s bound l n

  pub item_more : (started : Bool) (items rest : List Item) (i : Item) (es es' : List Slot) (s : State) (bound : ℕ) → started ≡ false → items ≡ rest ++ i ∷ [] → moved es (Word (word_of i)) s ≡ Gave es' s → 0 < bound → row_of es ≡ None →
      parsed bound calls quiet (queue_rest started (map word_of items)) es s ≡ parsed (bound - 1) calls quiet (queue_rest started (map word_of rest)) es' s
  item_more true items rest i es es' s bound q p h l n = absurd (cc)
  item_more false items rest i es es' s bound q p h l n = item_turn items rest i es s bound p l n ∙ ap (λ o. then_do o (parsed (bound - 1) calls quiet (queue_of (map word_of rest)))) h

  pub item_err : (started : Bool) (items rest : List Item) (i : Item) (es es' : List Slot) (e : Halt) (m : Running) (bound : ℕ) (o : Outcome Given) → started ≡ false → items ≡ rest ++ i ∷ [] → 0 < bound → row_of es ≡ None →
      parsed bound calls quiet (queue_rest started (map word_of items)) es m.state ≡ o → MeetsAt {A = Unit {0}} es' (Err e) m (moved es (Word (word_of i)) m.state) → MeetsAs given_of (Err e) m o
  item_err true items rest i es es' e m bound o q p l n w h = absurd (cc)
  item_err false items rest i es es' e m bound o q p l n w h = subst (MeetsAs given_of (Err e) m) (sym (item_turn items rest i es m.state bound p l n) ∙ w) (err_at e h)
    where
      err_at : (e : Halt) → MeetsAt {A = Unit {0}} es' (Err e) m (moved es (Word (word_of i)) m.state) → MeetsAs given_of (Err e) m (then_do (moved es (Word (word_of i)) m.state) (parsed (bound - 1) calls quiet (queue_of (map word_of rest))))
      err_at (halt.Failed f) h = ap (λ o. then_do o (parsed (bound - 1) calls quiet (queue_of (map word_of rest)))) h
      err_at halt.Spent h = ap (λ o. then_do o (parsed (bound - 1) calls quiet (queue_of (map word_of rest)))) h
      err_at halt.NoMemory h = tt

  -- the mark is moved
  pub mark_more : (started : Bool) (items : List Item) (es es' : List Slot) (s : State) (bound : ℕ) → started ≡ false → length items ≡ 0 → es' ≡ Start ∷ es → 0 < bound → row_of es ≡ None →
      parsed bound calls quiet (queue_rest started (map word_of items)) es s ≡ parsed (bound - 1) calls quiet (queue_rest true (map word_of items)) es' s
  mark_more true items es es' s bound q p ees l n = absurd (cc)
  mark_more false items es es' s bound q p ees l n =
      ap (λ (is : List Item). parsed bound calls quiet (queue_of (map word_of is)) es s) (nil_from_length items p) ∙ parsed_move calls quiet (Start ∷ []) es s bound l n
      ∙ ap (λ es. parsed (bound - 1) calls quiet [] es s) (sym ees)

  -- nothing is left
  pub queue_end : (started : Bool) (words : List WordTree) (es : List Slot) (s : State) (bound : ℕ) → started ≡ true → 0 < bound → row_of es ≡ None → parsed bound calls quiet (queue_rest started words) es s ≡ finished quiet es s
  queue_end true words es s bound q l n = parsed_move calls quiet [] es s bound l n
  queue_end false words es s bound q l n = absurd (cc)

-- the sentence is begun
pub sentence_begun : (calls : Calls) (words : List WordTree) (s t : State) → one_step s ≡ Gave tt t → parsed (2 * length words + 3) calls false (queue_of words) [] t ≡ sentence calls words s
sentence_begun calls words s t k = sym (counted_after s t (parsed (2 * length words + 3) calls false (queue_of words) []) (ticked s t k))

-- while words are left the mark isn't moved
pub still_open : (started : Bool) (items : List Item) → (started ≡ true → length items ≡ 0) → 0 < length items → started ≡ false
still_open true items h l = let none : length items ≡ 0 = h refl in absurd (omega arith)
still_open false items h l = refl
