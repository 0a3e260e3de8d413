-- A word is added to words.
use Rattle.std.proofs.Common.{◌≡◌, ℕ, zero, suc, ◌+◌, ◌-◌, ◌<◌, ◌&&◌, Bool, true, false, cond, List, [], ◌∷◌, ◌++◌, length, get_or, refl, sym, ap, ◌∙◌, arith}
use Rattle.std.specs.Prelude.{slice_set}
use Rattle.std.proofs.lemmas.Bool.{true≢false}
use Rattle.j_words.specs.Lines.{is_number, join, joined}
use Rattle.j_words.specs.Joins.{ends_number}
use Rattle.j_words.specs.declared.Word.{Word}

-- a number word of which the last word is a part
longer : Word → ℕ → Word
longer w n = record { class = w.class; from = w.from; to = n }

both : (b c : Bool) → b ≡ true → c ≡ true → (b && c) ≡ true
both b c h g = ap (λ t. t && c) h ∙ g

pub ends_none : (ws : List Word) → length ws ≡ 0 → ends_number ws ≡ false
ends_none [] h = refl
ends_none (w ∷ ws) h = absurd (omega arith)

pub ends_last : (ws : List Word) (d : Word) → 0 < length ws → ends_number ws ≡ is_number (get_or ws (length ws - 1) d).class
ends_last [] d h = absurd (omega arith)
ends_last (w ∷ []) d h = refl
ends_last (w ∷ x ∷ ws) d h = let e : suc (length (x ∷ ws) - 1) ≡ length (w ∷ x ∷ ws) - 1 = omega arith in ends_last (x ∷ ws) d (omega arith) ∙ ap (λ n. is_number (get_or (w ∷ x ∷ ws) n d).class) e

pub ends_some : (ws : List Word) → ends_number ws ≡ true → 0 < length ws
ends_some [] h = absurd (true≢false (sym h))
ends_some (w ∷ ws) h = omega arith

pub grown : (ws : List Word) (n : ℕ) (w d : Word) → n + 1 ≡ length ws → is_number w.class ≡ true → ends_number ws ≡ true
    → slice_set ws n (record { class = (get_or ws n d).class; from = (get_or ws n d).from; to = w.to }) ≡ joined ws (w ∷ [])
grown [] n w d e h g = absurd (true≢false (sym g))
grown (v ∷ []) zero w d e h g = sym (ap (λ t. cond t (record { class = v.class; from = v.from; to = w.to } ∷ []) (v ∷ w ∷ [])) (both (is_number v.class) (is_number w.class) g h))
grown (v ∷ []) (suc n) w d e h g = absurd (omega arith)
grown (v ∷ x ∷ ws) zero w d e h g = absurd (omega arith)
grown (v ∷ x ∷ ws) (suc n) w d e h g = ap (λ vs. v ∷ vs) (grown (x ∷ ws) n w d (omega arith) h g)

pub pushed : (ws : List Word) (w : Word) → (is_number w.class && ends_number ws) ≡ false → joined ws (w ∷ []) ≡ ws ++ w ∷ []
pushed [] w h = refl
pushed (v ∷ []) w h = ap (λ t. cond t (record { class = v.class; from = v.from; to = w.to } ∷ []) (v ∷ w ∷ [])) (flip (is_number w.class) (is_number v.class) h)
  where
    flip : (b c : Bool) → (b && c) ≡ false → (c && b) ≡ false
    flip true true h = h
    flip true false h = refl
    flip false true h = refl
    flip false false h = refl
pushed (v ∷ x ∷ ws) w h = ap (λ vs. v ∷ vs) (pushed (x ∷ ws) w h)

push_cond : (t : Bool) (f : List Word → List Word) (xs ys : List Word) → f (cond t xs ys) ≡ cond t (f xs) (f ys)
push_cond true f xs ys = refl
push_cond false f xs ys = refl

pub joined_none : (ws : List Word) → joined ws [] ≡ ws
joined_none [] = refl
joined_none (w ∷ []) = refl
joined_none (w ∷ x ∷ ws) = ap (λ vs. w ∷ vs) (joined_none (x ∷ ws))

module _ (v w r : Word) (rs : List Word) where
  left_first : Bool → Bool → Bool → List Word
  left_first a b c = cond (a && b) (cond (a && c) (longer v r.to ∷ rs) (longer v w.to ∷ r ∷ rs)) (v ∷ cond (b && c) (longer w r.to ∷ rs) (w ∷ r ∷ rs))

  right_first : Bool → Bool → Bool → List Word
  right_first a b c = cond (b && c) (cond (a && b) (longer v r.to ∷ rs) (v ∷ longer w r.to ∷ rs)) (cond (a && b) (longer v w.to ∷ r ∷ rs) (v ∷ w ∷ r ∷ rs))

  either_first : (a b c : Bool) → left_first a b c ≡ right_first a b c
  unfolding left_first right_first
  either_first true true true = refl
  either_first true true false = refl
  either_first true false true = refl
  either_first true false false = refl
  either_first false true true = refl
  either_first false true false = refl
  either_first false false true = refl
  either_first false false false = refl

join_join : (v w : Word) (rs : List Word) → joined (join v (w ∷ [])) rs ≡ join v (join w rs)
unfolding left_first right_first longer
join_join v w [] = joined_none (join v (w ∷ []))
join_join v w (r ∷ rs) =
    let a = is_number v.class in
    let b = is_number w.class in
    let c = is_number r.class in
    push_cond (a && b) (λ ws. joined ws (r ∷ rs)) (longer v w.to ∷ []) (v ∷ w ∷ []) ∙ either_first v w r rs a b c ∙ sym (push_cond (b && c) (join v) (longer w r.to ∷ rs) (w ∷ r ∷ rs))

-- some words stay some words
record Some_of (ws : List Word) : Type 0 where
  head : Word
  tail : List Word
  same : ws ≡ head ∷ tail

join_some : (v : Word) (vs : List Word) → Some_of (join v vs)
join_some v [] = record { head = v; tail = []; same = refl }
join_some v (w ∷ vs) = pick (is_number v.class && is_number w.class)
  where
    pick : (b : Bool) → Some_of (cond b (record { class = v.class; from = v.from; to = w.to } ∷ vs) (v ∷ w ∷ vs))
    pick true = record { head = record { class = v.class; from = v.from; to = w.to }; tail = vs; same = refl }
    pick false = record { head = v; tail = w ∷ vs; same = refl }

joined_some : (x : Word) (ws vs : List Word) → Some_of (joined (x ∷ ws) vs)
joined_some x [] vs = join_some x vs
joined_some x (y ∷ ws) vs = record { head = x; tail = joined (y ∷ ws) vs; same = refl }

pub joined_join : (ws : List Word) (w : Word) (rs : List Word) → joined (joined ws (w ∷ [])) rs ≡ joined ws (join w rs)
joined_join [] w rs = refl
joined_join (v ∷ []) w rs = join_join v w rs
joined_join (v ∷ x ∷ ws) w rs =
    let some = joined_some x ws (w ∷ []) in
    ap (λ l. joined (v ∷ l) rs) some.same ∙ ap (λ l. v ∷ joined l rs) (sym some.same) ∙ ap (λ l. v ∷ l) (joined_join (x ∷ ws) w rs)
