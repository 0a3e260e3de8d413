-- The bytes in order, one after the other, and the noun that they are.
use Rattle.std.proofs.Common.{◌≡◌, ℕ, zero, suc, ◌+◌, List, [], ◌∷◌, ◌++◌, map, Result, Ok, arith, refl, sym, ap, subst, ◌∙◌}
use Rattle.std.specs.List.{range_with_len}
use Rattle.j_definitions.specs.Array.{Array, byte}
use Rattle.j_definitions.specs.Limits.{limited}
use Rattle.j_definitions.specs.declared.Fault.{Fault}
use Rattle.j_definitions.specs.declared.Kind.TheVariants.{Character}
use Rattle.j_noun.specs.Refused.{OrWanting}
use Rattle.j_noun.specs.declared.refusal.Refusal.{Refusal}
use Rattle.j_explicit.specs.NounWords.{alphabet}

range_suc : (a n : ℕ) → range_with_len a (suc n) ≡ range_with_len a n ++ (a + n) ∷ []
range_suc a zero = let e : a ≡ a + 0 = omega arith in ap (λ (m : ℕ). m ∷ []) e
range_suc a (suc n) = let e : (a + 1) + n ≡ a + suc n = omega arith in ap (λ (xs : List ℕ). a ∷ xs) (range_suc (a + 1) n ∙ ap (λ (m : ℕ). range_with_len (a + 1) n ++ m ∷ []) e)

pub byte_more : (bytes more : List ℕ) (k : ℕ) → bytes ≡ range_with_len 0 k → more ≡ bytes ++ k ∷ [] → more ≡ range_with_len 0 (k + 1)
byte_more bytes more k e m =
    let n : suc k ≡ k + 1 = omega arith in
    let z : 0 + k ≡ k = omega arith in
    m ∙ ap (λ (bytes : List ℕ). bytes ++ k ∷ []) e ∙ sym (range_suc 0 k ∙ ap (λ (i : ℕ). range_with_len 0 k ++ i ∷ []) z) ∙ ap (range_with_len 0) n

-- all characters are within the limits
all_within : limited alphabet ≡ Ok alphabet
unfolding alphabet
all_within = refl

listed : limited (record { kind = Character; shape = 256 ∷ []; atoms = map byte (range_with_len 0 256) }) ≡ limited alphabet
unfolding alphabet
listed = refl

pub alphabet_made : (s bs : List ℕ) (a : Result Array Refusal) → s ≡ 256 ∷ [] → bs ≡ range_with_len 0 256 → OrWanting (limited (record { kind = Character; shape = s; atoms = map byte bs })) a → OrWanting (Ok alphabet) a
alphabet_made s bs a e f h =
    subst (λ (r : Result Array Fault). OrWanting r a)
    (ap (λ (s : List ℕ). limited (let r : Array = record { kind = Character; shape = s; atoms = map byte bs } in r)) e
    ∙ ap (λ (bs : List ℕ). limited (let r : Array = record { kind = Character; shape = 256 ∷ []; atoms = map byte bs } in r)) f
    ∙ listed ∙ all_within) h
