-- The kinds of results.
use Rattle.std.proofs.Common.{◌≡◌, ◌<◌, ◌+◌, ℕ, Bool, true, false, ◌&&◌, nat_eq, cond, List, [], ◌∷◌, length, drop, get_or, arith, refl, sym, ap, ◌∙◌, subst, Option, Some, None}
use Rattle.std.specs.List.{All, list_all}
use Rattle.std.proofs.lemmas.Bool.{eqb-true}
use Rattle.std.proofs.lemmas.List.{drop_more}
use Rattle.std.proofs.lemmas.List.Elements.{All-nil, All-cons}
use Rattle.j_definitions.specs.Array.{Array, Atom}
use Rattle.j_definitions.specs.declared.Kind.{Kind}
use Rattle.j_definitions.specs.declared.Kind.TheVariants.{Number, Character, Boxed}
use Rattle.j_definitions.proofs.Limits.{true_left, true_right}
use Rattle.j_rank.specs.Assembly.{same_kind, kinds_with_atoms, one_kind}
use Rattle.j_rank.specs.Joined.{first_of, Joins}

abbrev bare : Array → Bool
bare a = nat_eq (length a.atoms) 0

with_first_kind : (b : Bool) (a : Array) (xs : List Array) → bare a ≡ b → kinds_with_atoms (a ∷ xs) ≡ cond b (kinds_with_atoms xs) (a.kind ∷ kinds_with_atoms xs)
with_first_kind b a xs e = ap (λ c. let r : List Kind = cond c (kinds_with_atoms xs) (a.kind ∷ kinds_with_atoms xs) in r) e

-- one result more, with atoms or without
pub kinds_at : (b : Bool) (xs : List Array) (i : ℕ) (a : Array) → i < length xs → a ≡ get_or xs i a → bare a ≡ b →
    kinds_with_atoms (drop i xs) ≡ cond b (kinds_with_atoms (drop (i + 1) xs)) (a.kind ∷ kinds_with_atoms (drop (i + 1) xs))
kinds_at b xs i a h is e =
    ap kinds_with_atoms (drop_more xs i a h ∙ ap (λ (w : Array). w ∷ drop (i + 1) xs) (sym is)) ∙ with_first_kind b a (drop (i + 1) xs) e

pub same_self : (k : Kind) → same_kind k k ≡ true
same_self Number = refl
same_self Character = refl
same_self Boxed = refl

pub same_is : (k j : Kind) → same_kind k j ≡ true → j ≡ k
same_is Number Number h = refl
same_is Number Character h = cc
same_is Number Boxed h = cc
same_is Character Number h = cc
same_is Character Character h = refl
same_is Character Boxed h = cc
same_is Boxed Number h = cc
same_is Boxed Character h = cc
same_is Boxed Boxed h = refl

-- the one kind, by the first one and a test of all
pub one_kind_is : (ks : List Kind) (xs : List Array) (k : Kind) (b : Bool) → 0 < length xs → k ≡ first_of ks xs → b ≡ list_all (same_kind k) ks → one_kind ks xs ≡ cond b (Some k) None
one_kind_is [] [] k b some e h = absurd (omega arith)
one_kind_is [] (a ∷ xs) k b some e h = ap Some (sym e) ∙ ap (λ c. let r : Option Kind = cond c (Some k) None in r) (sym h)
one_kind_is (j ∷ ks) xs k b some e h =
    ap (λ i. let r : Option Kind = cond (list_all (same_kind i) ks) (Some i) None in r) (sym e)
    ∙ ap (λ c. let r : Option Kind = cond c (Some k) None in r)
    (ap (λ c. c && list_all (same_kind k) ks) (sym (ap (same_kind k) (sym e) ∙ same_self k)) ∙ sym h)

none : (n : ℕ) → nat_eq n 0 ≡ true → 0 < n → ⊥
none n e h = omega (arith, eqb-true n 0 e)

joins_bare : (k : Kind) (a : Array) → bare a ≡ true → Joins k a
joins_bare k a e some = absurd (none (length a.atoms) e some)

joins_kind : (k : Kind) (a : Array) → same_kind k a.kind ≡ true → Joins k a
joins_kind k a e some = same_is k a.kind e

-- where the test holds each result joins
pub all_join : (k : Kind) (xs : List Array) → list_all (same_kind k) (kinds_with_atoms xs) ≡ true → All (Joins k) xs
all_join k [] h = All-nil (Joins k)
all_join k (a ∷ xs) h =
    elim (bare a) as (λ b. bare a ≡ b → All (Joins k) (a ∷ xs)) [
      | true ↦ λ e. All-cons (Joins k) a xs (joins_bare k a e) (all_join k xs (ap (list_all (same_kind k)) (sym (with_first_kind true a xs e)) ∙ h))
      | false ↦ λ e. let test : (same_kind k a.kind && list_all (same_kind k) (kinds_with_atoms xs)) ≡ true = ap (list_all (same_kind k)) (sym (with_first_kind false a xs e)) ∙ h in
          All-cons (Joins k) a xs (joins_kind k a (true_left (same_kind k a.kind) _ test)) (all_join k xs (true_right (same_kind k a.kind) _ test))
    ] refl

abbrev IsNumber : Kind → Type 0
IsNumber Number = Unit {0}
IsNumber _ = ⊥

no_atoms : (xs : List Atom) → (0 < length xs → ⊥) → xs ≡ []
no_atoms [] h = refl
no_atoms (x ∷ xs) h = absurd (h (omega arith))

-- a result of another kind joins numbers only without atoms
pub bytes_none : (a : Array) → Joins Number a → Character ≡ a.kind → [] ≡ a.atoms
bytes_none a h e = sym (no_atoms a.atoms (λ some. subst IsNumber (sym (e ∙ h some)) tt))

pub boxes_none : (a : Array) → Joins Number a → Boxed ≡ a.kind → [] ≡ a.atoms
boxes_none a h e = sym (no_atoms a.atoms (λ some. subst IsNumber (sym (e ∙ h some)) tt))
