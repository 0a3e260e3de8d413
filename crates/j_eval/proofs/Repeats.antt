-- A verb time after time, and what is left of it after one time.
use Rattle.std.proofs.Common.{◌≡◌, ℕ, zero, suc, ◌+◌, ◌-◌, ◌<◌, ◌≤◌, Bool, true, false, List, [], ◌∷◌, map, Option, Err, refl, sym, ap, subst, ◌∙◌, rules, tests, arith}
use Rattle.std.specs.Prelude.{nat_lt, if◌then◌else◌}
use Rattle.j_definitions.specs.Array.{Array, byte, boxed, arrays_match}
use Rattle.j_eval.specs.declared.outcome.Halt.{Halt}
use Rattle.j_eval.specs.Meets.{Running, Meets}
use Rattle.j_eval.specs.Powers.{once, times, until_same, endless, count_said}
use Rattle.j_eval.proofs.Parts.{then_err}
use Rattle.j_verbs.specs.ByRank.{Doing}
use Rattle.j_verbs.specs.State.{State, Outcome, Gave, Spent, Run, pure, counted, then_do}

-- a step that gave something was one of the budget, and where none is left nothing is given
abbrev next : State → State
next s = record s { steps = s.steps + 1 }

room_by : {A : Type 0} (s t : State) (a : A) (go : Run A) (b : Bool) → b ≡ nat_lt s.steps s.budget → (if b then go (next s) else Spent s) ≡ Gave a t → s.steps < s.budget
room_by s t a go true e h = search (rules, tests)
room_by s t a go false e h = absurd (cc)

pub counted_room : {A : Type 0} (s t : State) (a : A) (go : Run A) → counted go s ≡ Gave a t → s.steps < s.budget
counted_room s t a go h = room_by s t a go (nat_lt s.steps s.budget) refl h

no_room : {A : Type 0} (s : State) (go : Run A) → s.budget ≤ s.steps → counted go s ≡ Spent s
no_room s go l = let e : nat_lt s.steps s.budget ≡ false = search (rules, tests) in rw e refl

module _ (f : Doing) (x : Option Array) where
  pub times_more : (n m : ℕ) (y r : Array) (s t : State) (o : Outcome Array) → n ≡ suc m → once f x y s ≡ Gave r t → times n f x y s ≡ o → times m f x r t ≡ o
  times_more n m y r s t o e h same = sym (ap (λ n. times n f x y s) e ∙ ap (λ q. then_do q (times m f x)) h) ∙ same

  pub times_err : (n m : ℕ) (e : Halt) (k : Running) (y : Array) (s : State) (o : Outcome Array) → n ≡ suc m → Meets {A = Array} (Err e) k (once f x y s) → times n f x y s ≡ o → Meets {A = Array} (Err e) k o
  times_err n m e k y s o q h same =
      let more = then_err {A = Array} {B = Array} e k (once f x y s) (times m f x) h in
      subst (Meets {A = Array} (Err e) k) (sym (ap (λ n. times n f x y s) q) ∙ same) more

  -- what is left of a run until results are the same, where enough steps are left
  pub record Left (y : Array) (s : State) (o : Outcome Array) : Type 0 where
    pub left : ℕ
    pub enough : s.budget - s.steps ≤ left
    pub same : until_same left f x y s ≡ o

  abbrev or_more : ℕ → Array → Array → Run Array
  or_more n y r = if arrays_match r y then pure r else until_same n f x r

  pub begun : (y : Array) (s : State) → Left y s (endless f x y s)
  begun y s = record { left = s.budget - s.steps; enough = omega arith; same = refl }

  more_left : (n : ℕ) (y r : Array) (s t : State) (o : Outcome Array) → s.budget - s.steps ≤ n → until_same n f x y s ≡ o → once f x y s ≡ Gave r t → arrays_match r y ≡ false → s.steps < t.steps → t.budget ≡ s.budget → Left r t o
  more_left zero y r s t o l same h differs up budget = let room = counted_room s t r (f x y) h in absurd (omega (arith, room))
  more_left (suc n) y r s t o l same h differs up budget =
      record {
        left = n;
        enough = omega (arith, budget);
        same = sym (ap (λ q. then_do q (or_more n y)) h ∙ ap (λ b. (if b then pure r else until_same n f x r) t) differs) ∙ same;
      }

  pub more : (y r : Array) (s t : State) (o : Outcome Array) → Left y s o → once f x y s ≡ Gave r t → arrays_match r y ≡ false → s.steps < t.steps → t.budget ≡ s.budget → Left r t o
  more y r s t o l = more_left l.left y r s t o l.enough l.same

  same_left : (n : ℕ) (y r : Array) (s t : State) (o : Outcome Array) → s.budget - s.steps ≤ n → until_same n f x y s ≡ o → once f x y s ≡ Gave r t → arrays_match r y ≡ true → o ≡ Gave r t
  same_left zero y r s t o l same h matches = let room = counted_room s t r (f x y) h in absurd (omega (arith, room))
  same_left (suc n) y r s t o l same h matches = sym same ∙ (ap (λ q. then_do q (or_more n y)) h ∙ ap (λ b. (if b then pure r else until_same n f x r) t) matches)

  pub end : (y r : Array) (s t : State) (o : Outcome Array) → Left y s o → once f x y s ≡ Gave r t → arrays_match r y ≡ true → o ≡ Gave r t
  end y r s t o l = same_left l.left y r s t o l.enough l.same

  err_left : (n : ℕ) (e : Halt) (m : Running) (y : Array) (s : State) (o : Outcome Array) → s.budget - s.steps ≤ n → until_same n f x y s ≡ o → Meets {A = Array} (Err e) m (once f x y s) → Meets {A = Array} (Err e) m o
  err_left zero e m y s o l same h = subst (Meets {A = Array} (Err e) m) (no_room s (f x y) (omega (arith, l)) ∙ same) h
  err_left (suc n) e m y s o l same h = subst (Meets {A = Array} (Err e) m) same (then_err {A = Array} {B = Array} e m (once f x y s) (or_more n y) h)

  pub end_err : (e : Halt) (m : Running) (y : Array) (s : State) (o : Outcome Array) → Left y s o → Meets {A = Array} (Err e) m (once f x y s) → Meets {A = Array} (Err e) m o
  end_err e m y s o l = err_left l.left e m y s o l.enough l.same

-- what isn't a number says no times
pub no_byte_said : (xs : List ℕ) → count_said (map byte xs) ≡ 0
no_byte_said [] = refl
no_byte_said (x ∷ xs) = refl

pub no_box_said : (xs : List Array) → count_said (map boxed xs) ≡ 0
no_box_said [] = refl
no_box_said (x ∷ xs) = refl
