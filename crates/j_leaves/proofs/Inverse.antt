-- A word has one meaning, and each meaning its word.
use Rattle.std.proofs.Common.{◌≡◌, ◌↔◌, ℕ, Bool, true, cond, List, [], ◌∷◌, Some, None, refl, subst, arith, ◌∙◌, ap, IsTrue, find, bytes_eq}
use Rattle.std.specs.List.{list_all}
use Rattle.std.proofs.lemmas.Slice.Eq.{bytes_eq-Decides}
use Rattle.j_leaves.specs.Spelling.{spelled_of, primitive_spelling, primitive_words, is_primitive_word, modifier_spelling, modifier_words}
use Rattle.j_leaves.specs.declared.primitive.Primitive.{Primitive}
use Rattle.j_leaves.specs.declared.primitive.Primitive.TheVariants as p
use Rattle.j_leaves.specs.declared.modifier.Modifier.{Modifier}
use Rattle.j_leaves.specs.declared.modifier.Modifier.TheVariants as m

-- what is found passes, and is one of the list
find_passes : {P : Type 0} (test fit : P → Bool) (xs : List P) (x : P) → list_all fit xs ≡ true → find test xs ≡ Some x → (test x ≡ true) × (fit x ≡ true)
find_passes test fit [] x all f = absurd (cc)
find_passes test fit (y ∷ ys) x all f = grind (arith, find_passes test fit ys x)

-- from a test at each meaning
inverse : {P : Type 0} (spelling : P → List ℕ) (words : List P) (is_word : P → Bool) → list_all is_word words ≡ true
    → ((p : P) → spelled_of spelling words (spelling p) ≡ cond (is_word p) (Some p) None)
    → (w : List ℕ) (p : P) → (spelled_of spelling words w ≡ Some p) ↔ (IsTrue (is_word p) × (spelling p ≡ w))
inverse spelling words is_word all test w p = (
  λ f. let h = find_passes (λ q. bytes_eq (spelling q) w) is_word words p all f in (h.1, (bytes_eq-Decides (spelling p) w).0 h.0),
  λ h. subst (λ v. spelled_of spelling words v ≡ Some p) h.1 (test p ∙ ap (λ b. cond b (Some p) None) h.0),
)

primitive_test : (p : Primitive) → spelled_of primitive_spelling primitive_words (primitive_spelling p) ≡ cond (is_primitive_word p) (Some p) None
primitive_test p.Plus = refl
primitive_test _ = refl

modifier_test : (m : Modifier) → spelled_of modifier_spelling modifier_words (modifier_spelling m) ≡ Some m
modifier_test m.Insert = refl
modifier_test _ = refl

pub primitive_inverse : (w : List ℕ) (p : Primitive) → (spelled_of primitive_spelling primitive_words w ≡ Some p) ↔ (IsTrue (is_primitive_word p) × (primitive_spelling p ≡ w))
primitive_inverse = inverse primitive_spelling primitive_words is_primitive_word refl primitive_test

pub modifier_inverse : (w : List ℕ) (m : Modifier) → (spelled_of modifier_spelling modifier_words w ≡ Some m) ↔ (modifier_spelling m ≡ w)
modifier_inverse w m =
    let both = inverse modifier_spelling modifier_words (λ _. true) refl modifier_test w m in
    (λ f. (both.0 f).1, λ e. both.1 (refl, e))
