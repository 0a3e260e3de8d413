-- The vocabulary's verbs, adverbs and conjunctions are those that are spelled here.
use Rattle.std.proofs.Common.{◌≡◌, ℕ, ◌==◌, Bool, true, false, not, cond, List, [], ◌∷◌, Option, Some, None, is_some, bytes_eq, refl, sym, ap, ◌∙◌, ⊎_elim, IsTrue, IsFalse, IsSome, IsSomeAnd}
use Rattle.std.specs.List.{list_all, list_any, slice_split}
use Rattle.std.proofs.lemmas.Bool.{and_parts, or_cases, not-true, cond_both}
use Rattle.std.proofs.lemmas.Slice.Eq.{bytes_eq-Decides}
use Rattle.j_words.specs.Vocabulary.{Words, vocabulary, is_among, first_row, is_for, or_for, look_up, class_or_name}
use Rattle.j_words.specs.declared.Class.{Class}
use Rattle.j_words.specs.declared.Class.TheVariants as class
use Rattle.j_leaves.specs.Spelling.{primitive_spelling, is_primitive_word, primitive_of, modifier_spelling, modifier_of, is_adverb}
use Rattle.j_leaves.specs.declared.primitive.Primitive.{Primitive}
use Rattle.j_leaves.specs.declared.primitive.Primitive.TheVariants as p
use Rattle.j_leaves.specs.declared.modifier.Modifier.{Modifier}
use Rattle.j_leaves.specs.declared.modifier.Modifier.TheVariants as m

-- whether there is one that passes
abbrev passes : {A : Type 0} → (A → Bool) → Option A → Bool
passes test None = false
passes test (Some x) = test x

passes_both : {A : Type 0} (test : A → Bool) (o : Option A) → passes test o ≡ true → IsSomeAnd o (λ x. test x ≡ true)
passes_both test None h = absurd (cc)
passes_both test (Some x) h = h

-- whether a word of a class is spelled as one
abbrev is_spelled : Class → List ℕ → Bool
is_spelled class.Verb w = is_some (primitive_of w)
is_spelled class.Adverb w = passes is_adverb (modifier_of w)
is_spelled class.Conjunction w = passes (λ m. not (is_adverb m)) (modifier_of w)
is_spelled _ w = true

among_all : (test : List ℕ → Bool) (w : List ℕ) (ws : List (List ℕ)) → list_all test ws ≡ true → list_any (λ x. bytes_eq x w) ws ≡ true → test w ≡ true
among_all test w [] all any = absurd (cc)
among_all test w (x ∷ xs) all any =
    let both = and_parts (test x) (list_all test xs) all in
    ⊎_elim (λ same. ap test (sym ((bytes_eq-Decides x w).0 same)) ∙ both.0) (λ more. among_all test w xs both.1 more) (or_cases (bytes_eq x w) (list_any (λ y. bytes_eq y w) xs) any)

abbrev all_spelled : Words → Bool
all_spelled r = list_all (is_spelled r.class) (slice_split (λ b. b == 32) r.text)

row_spelled : (w : List ℕ) (rs : List Words) → list_all all_spelled rs ≡ true → is_spelled (class_or_name (first_row w rs)) w ≡ true
row_spelled w [] all = refl
row_spelled w (r ∷ rs) all =
    let both = and_parts (all_spelled r) (list_all all_spelled rs) all in
    cond_both (is_among w r.text) _ _ (λ o. is_spelled (class_or_name o) w ≡ true) (among_all (is_spelled r.class) w (slice_split (λ b. b == 32) r.text) both.0) (λ _. row_spelled w rs both.1)

-- each word of the vocabulary; this computes
vocabulary_spelled : list_all all_spelled vocabulary ≡ true
vocabulary_spelled = refl

class_spelled : (w : List ℕ) → is_spelled (class_or_name (look_up w)) w ≡ true
class_spelled w =
    let listed = row_spelled w vocabulary vocabulary_spelled in
    let all = elim (first_row w vocabulary) as (λ o. is_spelled (class_or_name o) w ≡ true → is_spelled (class_or_name (or_for w o)) w ≡ true) [
      | Some e ↦ λ h. h
      | None ↦ λ h. cond_both (is_for w) _ _ (λ o. is_spelled (class_or_name o) w ≡ true) (λ _. refl) (λ _. refl)
    ] in
    all listed

spelled_as : (w : List ℕ) (c : Class) → class_or_name (look_up w) ≡ c → is_spelled c w ≡ true
spelled_as w c h = ap (λ d. is_spelled d w) (sym h) ∙ class_spelled w

pub verbs_spelled : (w : List ℕ) → class_or_name (look_up w) ≡ class.Verb → IsSome (primitive_of w)
verbs_spelled w h = spelled_as w class.Verb h

pub adverbs_spelled : (w : List ℕ) → class_or_name (look_up w) ≡ class.Adverb → IsSomeAnd (modifier_of w) (λ m. IsTrue (is_adverb m))
adverbs_spelled w h = passes_both is_adverb (modifier_of w) (spelled_as w class.Adverb h)

not_adverb : (o : Option Modifier) → passes (λ m. not (is_adverb m)) o ≡ true → IsSomeAnd o (λ m. IsFalse (is_adverb m))
not_adverb None h = absurd (cc)
not_adverb (Some m) h = not-true (is_adverb m) h

pub conjunctions_spelled : (w : List ℕ) → class_or_name (look_up w) ≡ class.Conjunction → IsSomeAnd (modifier_of w) (λ m. IsFalse (is_adverb m))
conjunctions_spelled w h = not_adverb (modifier_of w) (spelled_as w class.Conjunction h)

-- each that is spelled here is a word of the vocabulary
pub primitives_listed : (p : Primitive) → IsTrue (is_primitive_word p) → class_or_name (look_up (primitive_spelling p)) ≡ class.Verb
primitives_listed p.Echo h = absurd (cc)
primitives_listed p.Cocurrent h = absurd (cc)
primitives_listed _ h = refl

pub modifiers_listed : (m : Modifier) → class_or_name (look_up (modifier_spelling m)) ≡ cond (is_adverb m) class.Adverb class.Conjunction
modifiers_listed m.Insert = refl
modifiers_listed _ = refl
