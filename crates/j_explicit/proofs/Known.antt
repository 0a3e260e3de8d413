-- Each word of the vocabulary that isn't left out spells something, and a simple name is the name of its bytes.
use Rattle.std.proofs.Common.{◌≡◌, ◌==◌, ◌||◌, ℕ, Bool, true, false, cond, List, [], ◌∷◌, Some, None, Result, Ok, Err, option_map, IsTrue, bytes_eq, refl, sym, ap, ◌∙◌, ⊎_elim}
use Rattle.std.specs.List.{list_all, list_any, slice_split}
use Rattle.std.proofs.lemmas.Bool.{and_parts, or_cases, cond_both, cond-true}
use Rattle.std.proofs.lemmas.Slice.Eq.{bytes_eq-Decides}
use Rattle.j_definitions.specs.declared.Fault.{Fault}
use Rattle.j_definitions.specs.declared.Fault.TheVariants as fault
use Rattle.j_words.specs.Vocabulary.{Words, vocabulary, is_among, first_row, is_for, or_for, look_up, class_or_name, is_simple_name}
use Rattle.j_words.specs.NameForms.{name_form}
use Rattle.j_words.specs.Names.{has_name_bytes, is_simple}
use Rattle.j_words.specs.declared.names.NameForm.TheVariants as form
use Rattle.j_words.specs.declared.Class.{Class}
use Rattle.j_words.specs.declared.Class.TheVariants as class
use Rattle.j_leaves.specs.Names.{parted}
use Rattle.j_entity.specs.Tree.{WordTree}
use Rattle.j_explicit.specs.Reading.{item_as, name_item}
use Rattle.j_explicit.specs.Rows.{simple}

-- anything but a spelling error
abbrev is_known : Result WordTree Fault → Bool
is_known (Err fault.Spelling) = false
is_known _ = true

abbrev is_name : Class → Bool
is_name class.Name = true
is_name _ = false

abbrev known_as : Class → List ℕ → Bool
known_as c w = is_name c || is_known (item_as false c w)

among_all : (test : List ℕ → Bool) (w : List ℕ) (ws : List (List ℕ)) → list_all test ws ≡ true → list_any (λ x. bytes_eq x w) ws ≡ true → test w ≡ true
among_all test w [] all any = absurd (cc)
among_all test w (x ∷ xs) all any =
    let both = and_parts (test x) (list_all test xs) all in
    ⊎_elim (λ same. ap test (sym ((bytes_eq-Decides x w).0 same)) ∙ both.0) (λ more. among_all test w xs both.1 more) (or_cases (bytes_eq x w) (list_any (λ y. bytes_eq y w) xs) any)

abbrev all_known : Words → Bool
all_known r = list_all (known_as r.class) (slice_split (λ b. b == 32) r.text)

row_known : (w : List ℕ) (rs : List Words) → list_all all_known rs ≡ true → known_as (class_or_name (first_row w rs)) w ≡ true
row_known w [] all = refl
row_known w (r ∷ rs) all =
    let both = and_parts (all_known r) (list_all all_known rs) all in
    cond_both (is_among w r.text) _ _ (λ o. known_as (class_or_name o) w ≡ true) (among_all (known_as r.class) w (slice_split (λ b. b == 32) r.text) both.0) (λ _. row_known w rs both.1)

-- each word of the vocabulary; this computes
vocabulary_known : list_all all_known vocabulary ≡ true
vocabulary_known = refl

class_known : (w : List ℕ) → known_as (class_or_name (look_up w)) w ≡ true
class_known w =
    let all = elim (first_row w vocabulary) as (λ o. known_as (class_or_name o) w ≡ true → known_as (class_or_name (or_for w o)) w ≡ true) [
      | Some e ↦ λ h. h
      | None ↦ λ h. cond_both (is_for w) _ _ (λ o. known_as (class_or_name o) w ≡ true) (λ _. refl) (λ _. refl)
    ] in
    all (row_known w vocabulary vocabulary_known)

never_spelling : (r : Result WordTree Fault) → is_known r ≡ true → r ≡ Err fault.Spelling → ⊥
never_spelling r h e = let wrong : false ≡ true = ap is_known (sym e) ∙ h in absurd (cc)

the_name : (c : Class) → is_name c ≡ true → c ≡ class.Name
the_name class.Name h = refl
the_name _ h = absurd (cc)

pub spelled : (w : List ℕ) → (class_or_name (look_up w) ≡ class.Name → ⊥) → item_as false (class_or_name (look_up w)) w ≡ Err fault.Spelling → ⊥
spelled w no_name e =
    let c = class_or_name (look_up w) in
    ⊎_elim (λ named. no_name (the_name c named)) (λ known. never_spelling (item_as false c w) known e) (or_cases (is_name c) (is_known (item_as false c w)) (class_known w))

cond_twice : {A : Type 0} (a b : Bool) (x y z : A) → a ≡ true → b ≡ true → cond a (cond b x y) z ≡ x
cond_twice a b x y z h k = cond-true a (cond b x y) z h ∙ cond-true b x y k

pub simple_named : (w : List ℕ) → IsTrue (is_simple_name w) → item_as false class.Name w ≡ Ok (simple w)
simple_named w h =
    let both = and_parts (has_name_bytes w) (is_simple w) h in
    let of_form : name_form w ≡ Some form.Simple = cond_twice (has_name_bytes w) (is_simple w) (Some form.Simple) _ None both.0 both.1 in
    ap (λ o. name_item (option_map (parted w) o)) of_form
