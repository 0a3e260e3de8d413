-- A stack, its first entry first.
use Rattle.std.proofs.Common.{◌≡◌, ℕ, zero, suc, ◌+◌, ◌-◌, ◌≤◌, List, [], ◌∷◌, ◌++◌, reverse, length, map, take, drop, sym, ap, ◌∙◌, arith, length-drop, length-take}
use Rattle.std.proofs.lemmas.List.{reverse-append, map-append, length-reverse, length-map, nil_from_length, take-append-drop, drop_all}
use Rattle.std.proofs.Math.Seq.{drop-append_seam}
use Rattle.j_entity.specs.Tree.{EntityTree}
use Rattle.j_eval.specs.declared.stack.Entry.{Entry}
use Rattle.j_eval.specs.Table.{Slot, slot_at}
use Rattle.j_eval.specs.Stack.{slot_of, stack_of, replaced}

-- the entry that is last in the vector is the first
pub stack_more : (new old : List Entry) (e : Entry) → new ≡ old ++ e ∷ [] → stack_of new ≡ slot_of e ∷ stack_of old
unfolding stack_of
stack_more new old e h = ap (λ (es : List Entry). reverse (map slot_of es)) h ∙ ap reverse (map-append slot_of old (e ∷ [])) ∙ reverse-append (map slot_of old) (slot_of e ∷ [])

pub length_stack : (es : List Entry) → length (stack_of es) ≡ length es
unfolding stack_of
length_stack es = length-reverse (map slot_of es) ∙ length-map es slot_of

pub stack_nil : (es : List Entry) → es ≡ [] → stack_of es ≡ []
unfolding stack_of
stack_nil es h = ap (λ (es : List Entry). reverse (map slot_of es)) h

pub stack_empty : (es : List Entry) → length es ≡ 0 → stack_of es ≡ []
stack_empty es h = stack_nil es (nil_from_length es h)

slot_past_zero : (e : Slot) (es : List Slot) (k : ℕ) → slot_at (e ∷ es) (k + 1) ≡ slot_at es k
slot_past_zero e es k = let n : k + 1 ≡ suc k = omega arith in ap (slot_at (e ∷ es)) n

pub slot_past : (e : Slot) (es : List Slot) (k j : ℕ) → k ≡ j + 1 → slot_at (e ∷ es) k ≡ slot_at es j
slot_past e es k j h = ap (slot_at (e ∷ es)) h ∙ slot_past_zero e es j

pub replaced_past : (k j n : ℕ) (e : EntityTree) (a : Slot) (es : List Slot) → k ≡ j + 1 → replaced k n e (a ∷ es) ≡ a ∷ replaced j n e es
replaced_past k j n e a es h = let m : k ≡ suc j = omega arith in ap (λ k. replaced k n e (a ∷ es)) m

stack_append : (p q : List Entry) → stack_of (p ++ q) ≡ stack_of q ++ stack_of p
unfolding stack_of
stack_append p q = ap reverse (map-append slot_of p q) ∙ reverse-append (map slot_of p) (map slot_of q)

-- the first n entries are taken off
pub stack_without : (xs : List Entry) (m n : ℕ) → m ≡ length xs - n → stack_of (take m xs) ≡ drop n (stack_of xs)
stack_without xs zero n h =
    let few : length (stack_of xs) ≤ n = omega (arith, length_stack xs) in
    let none : length (take 0 xs) ≡ 0 = omega (arith, length-take 0 xs) in
    stack_empty (take 0 xs) none ∙ sym (drop_all n (stack_of xs) few)
stack_without xs (suc m) n h =
    let size : length (stack_of (drop (suc m) xs)) ≡ n = omega (arith, length_stack (drop (suc m) xs), length-drop (suc m) xs) in
    let parts : stack_of (drop (suc m) xs) ++ stack_of (take (suc m) xs) ≡ stack_of xs = sym (stack_append (take (suc m) xs) (drop (suc m) xs)) ∙ ap stack_of (take-append-drop (suc m) xs) in
    sym (drop-append_seam (stack_of (drop (suc m) xs)) (stack_of (take (suc m) xs))) ∙ (ap (λ k. drop k (stack_of (drop (suc m) xs) ++ stack_of (take (suc m) xs))) size ∙ ap (drop n) parts)
