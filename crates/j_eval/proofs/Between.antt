-- A verb between items, and what is left of it after one item.
use Rattle.std.proofs.Common.{◌≡◌, List, [], ◌∷◌, drop, Option, Some, None, Result, Err, sym, ap, subst, ◌∙◌}
use Rattle.j_definitions.specs.Array.{Array}
use Rattle.j_insert.specs.Insertion.{first_noun}
use Rattle.j_eval.specs.declared.outcome.Halt.{Halt}
use Rattle.j_eval.specs.Insertion.{between, in_item_shape, insert_items, operand_identity}
use Rattle.j_eval.specs.Meets.{Running, Meets}
use Rattle.j_eval.specs.Operands.{Operand}
use Rattle.j_eval.proofs.Parts.{then_err}
use Rattle.j_verbs.specs.ByRank.{Doing}
use Rattle.j_verbs.specs.State.{State, Outcome, Gave, then_do, or_fault}

module _ (f : Doing) where
  -- one item more
  pub between_more : (items rest : List Array) (a r q : Array) (s u t : State) (o : Outcome Array) → Some a ≡ first_noun items → rest ≡ drop 1 items → u ≡ s → f (Some a) r u ≡ Gave q t → between f items r s ≡ o → between f rest q t ≡ o
  between_more [] rest a r q s u t o e d w h same = absurd (cc)
  between_more (b ∷ items) rest a r q s u t o e d w h same =
      ap (λ (rest : List Array). between f rest q t) d
      ∙ sym (ap (λ (x : Option Array). then_do (f x r s) (between f items)) (sym e) ∙ ap (λ (s : State). then_do (f (Some a) r s) (between f items)) (sym w) ∙ ap (λ (o : Outcome Array). then_do o (between f items)) h)
      ∙ same

  pub between_err : (items : List Array) (a r : Array) (e : Halt) (m : Running) (s u : State) (o : Outcome Array) → Some a ≡ first_noun items → u ≡ s → Meets {A = Array} (Err e) m (f (Some a) r u) → between f items r s ≡ o → Meets {A = Array} (Err e) m o
  between_err [] a r e m s u o q w h same = absurd (cc)
  between_err (b ∷ items) a r e m s u o q w h same =
      let first : Meets {A = Array} (Err e) m (f (Some b) r s) = subst (Meets {A = Array} (Err e) m) (ap (f (Some a) r) w ∙ ap (λ (x : Option Array). f x r s) q) h in
      subst (Meets {A = Array} (Err e) m) same (then_err {A = Array} {B = Array} e m (f (Some b) r s) (between f items) first)

  pub between_end : (items : List Array) (r : Array) (s u : State) (o : Outcome Array) → None ≡ first_noun items → u ≡ s → between f items r s ≡ o → o ≡ Gave r u
  between_end [] r s u o e w same = sym same ∙ ap (Gave r) (sym w)
  between_end (a ∷ items) r s u o e w same = absurd (cc)

abbrev first_and : Option Array → List Array → List Array
first_and (Some a) items = a ∷ items
first_and None items = items

-- the last item is what comes first
pub insert_some : (u : Operand) (y a : Array) (items rest : List Array) (r : Result Array Halt) (m : Running) (s t : State) → Some a ≡ first_noun items → rest ≡ drop 1 items → t ≡ s → Meets r m (between u.does rest a t) → Meets r m (insert_items u y items s)
insert_some u y a [] rest r m s t e d w h = absurd (cc)
insert_some u y a (b ∷ items) rest r m s t e d w h =
    subst (Meets r m) (ap (λ (rest : List Array). between u.does rest a t) d ∙ ap (between u.does items a) w ∙ ap (λ (x : Option Array). insert_items u y (first_and x items) s) e) h

pub insert_none : (u : Operand) (y : Array) (items : List Array) (r : Result Array Halt) (m : Running) (s t : State) → None ≡ first_noun items → t ≡ s → Meets r m (or_fault (in_item_shape (operand_identity u.tree) y) t) → Meets r m (insert_items u y items s)
insert_none u y [] r m s t e w h = subst (Meets r m) (ap (or_fault (in_item_shape (operand_identity u.tree) y)) w) h
insert_none u y (a ∷ items) r m s t e w h = absurd (cc)
