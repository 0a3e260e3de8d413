-- Lemmas that the goals of several functions use.
use Rattle.std.proofs.Common.{◌≡◌, ◌≤◌, ◌<◌, refl, sym, ap, ◌∙◌, Result, Ok, Err, IfOk, IfErr, ℕ, List, [], ◌∷◌, length, map, pos, arith}
use Rattle.std.specs.List.{sum_by, All}
use Rattle.std.proofs.lemmas.List.Elements.{All-map, All-nil, All-cons}
use Rattle.j_definitions.specs.Array.{Array, Atom, number, byte, boxed, atom_weight, greatest_level, product, atom_array, IsOfKind}
use Rattle.j_definitions.specs.declared.Kind.TheVariants.{Number, Character, Boxed}
use Rattle.j_definitions.proofs.Laws.{number-IsNoun, byte-IsNoun, boxes_weight_more, boxes_level_more, unit_weights, no_level, length_le-weight}
use Rattle.std.proofs.lemmas.List.{length-map}
use Rattle.j_noun.specs.Held.{atoms_kept, kind_kept}
use Rattle.j_definitions.specs.Array.{IsNoun, IsWithin}
use Rattle.j_definitions.specs.Limits.{limited}
use Rattle.j_definitions.specs.declared.Fault.TheVariants.{Limit}
use Rattle.j_definitions.proofs.Limits.{limited-Ok, limited-Err, noun_few}
use Rattle.j_noun.specs.declared.refusal.Refusal.{Refusal}
use Rattle.j_noun.specs.declared.refusal.Refusal.TheVariants.{NoMemory, Fault as RefusedFault}
use Rattle.j_noun.specs.Refused.{IsRefusedBeyond, OrWanting}
use Rattle.j_noun.specs.declared.noun.Atoms.{Atoms}
use Rattle.j_noun.specs.declared.noun.Atoms.TheVariants.{Wholes, Bits, Bytes, Boxes}

pub numbers_weight : (xs : List _) → sum_by atom_weight (map number xs) ≡ length xs
numbers_weight xs = unit_weights number (λ _. refl) xs

pub bits_weight : (xs : List ℕ) → sum_by atom_weight (map (λ b. number (pos b)) xs) ≡ length xs
bits_weight xs = unit_weights (λ b. number (pos b)) (λ _. refl) xs

pub bytes_weight : (xs : List ℕ) → sum_by atom_weight (map byte xs) ≡ length xs
bytes_weight xs = unit_weights byte (λ _. refl) xs

pub boxes_weight : (xs : List Array) → length xs ≤ sum_by atom_weight (map boxed xs)
boxes_weight xs = omega (arith, length_le-weight (map boxed xs), length-map xs boxed)

pub numbers_level : (xs : List _) → greatest_level (map number xs) ≡ 0
numbers_level xs = no_level number (λ _. refl) xs

pub bits_level : (xs : List ℕ) → greatest_level (map (λ b. number (pos b)) xs) ≡ 0
bits_level xs = no_level (λ b. number (pos b)) (λ _. refl) xs

pub bytes_level : (xs : List ℕ) → greatest_level (map byte xs) ≡ 0
bytes_level xs = no_level byte (λ _. refl) xs

pub ruleset kept_rules = (numbers_weight, bits_weight, bytes_weight, boxes_weight, numbers_level, bits_level, bytes_level)

pub kept-IsOfKind : (a : Atoms) → All (IsOfKind (kind_kept a)) (atoms_kept a)
kept-IsOfKind (Wholes v) = All-map (IsOfKind Number) number v.items (λ _ _ _. tt)
kept-IsOfKind (Bits v) = All-map (IsOfKind Number) (λ b. number (pos b)) v.items (λ _ _ _. tt)
kept-IsOfKind (Bytes v) = All-map (IsOfKind Character) byte v.items (λ _ _ _. tt)
kept-IsOfKind (Boxes v) = All-map (IsOfKind Boxed) boxed v.items (λ _ _ _. tt)

-- the one axis of a list is as long as it has atoms
pub only_axis : (s : List ℕ) (n : ℕ) → 1 ≤ length s → length s < 2 → n ≡ product s → n ∷ [] ≡ s
only_axis [] n h g e = absurd (omega arith)
only_axis (m ∷ []) n h g e = ap (λ k. k ∷ []) (omega (arith, e))
only_axis (m ∷ k ∷ s) n h g e = absurd (omega arith)

-- a list of few characters is a noun
pub text-IsNoun : (t : List ℕ) → length t ≤ 7 → IsNoun (record { kind = Character; shape = length t ∷ []; atoms = map byte t })
text-IsNoun t h = record {
  as_many = omega (arith, length-map t byte);
  of_kind = All-map (IsOfKind Character) byte t (λ _ _ _. tt);
  within = record {
    rank = omega arith;
    axes = All-cons (λ n. n ≤ 4194304) (length t) [] (omega arith) (All-nil (λ n. n ≤ 4194304));
    light = omega (arith, bytes_weight t);
    shallow = omega (arith, bytes_level t);
  };
}

-- a box alone is a noun
pub box-IsNoun : (a : Array) → sum_by atom_weight (boxed a ∷ []) ≤ 4194304 → greatest_level (boxed a ∷ []) ≤ 64 → IsNoun (atom_array Boxed (boxed a))
box-IsNoun a light shallow = record {
  as_many = refl;
  of_kind = All-cons (IsOfKind Boxed) (boxed a) [] tt (All-nil (IsOfKind Boxed));
  within = record { rank = omega arith; axes = All-nil (λ n. n ≤ 4194304); light = light; shallow = shallow };
}

pub ruleset box_rules = (box-IsNoun)

pub ruleset atom_rules = (number-IsNoun, byte-IsNoun)

pub few_atoms : (a : Array) → IsNoun a → (xs : List Atom) → xs ≡ a.atoms → length xs ≤ 4194304
few_atoms a noun xs e = omega (arith, noun_few a noun, ap length e)

pub ruleset few_rules = (noun_few)

-- the answer of a call that makes a noun within the limits
pub made_limited : (a : Array) (m : Result Array Refusal) → IfOk m (λ n. (n ≡ a) × IsWithin a.shape a.atoms) → IfErr m (IsRefusedBeyond (IsWithin a.shape a.atoms)) → OrWanting (limited a) m
made_limited a (Ok n) ok err = limited-Ok a ok.1 ∙ ap Ok (sym ok.0)
made_limited a (Err NoMemory) ok err = tt
made_limited a (Err (RefusedFault Limit)) ok err = limited-Err a err
made_limited a (Err (RefusedFault _)) ok err = absurd err
