-- Number words read part by part.
use Rattle.std.proofs.Common.{◌≡◌, ◌≢◌, ℕ, suc, ℤ, pos, ◌+◌, ◌<◌, ◌≤◌, Bool, true, false, cond, leb, List, [], ◌∷◌, ◌++◌, length, map, Option, Some, None, Result, Ok, Err, refl, sym, ap, ◌∙◌, get_or, arith}
use Rattle.std.specs.List.{list_any}
use Rattle.std.proofs.lemmas.Bool.{cond-true, cond-false, le-leb, lt-leb}
use Rattle.std.proofs.lemmas.List.{map_push, length-map, length-append}
use Rattle.std.proofs.lemmas.List.Elements.{All-cons, All-nil}
use Rattle.j_definitions.specs.Array.{Array, Atom, number, IsWithin}
use Rattle.j_definitions.specs.Cells.{in_order, with_first}
use Rattle.j_definitions.specs.declared.Kind.TheVariants.{Number as NumberKind}
use Rattle.j_definitions.specs.declared.Fault.{Fault as AnyFault}
use Rattle.j_definitions.specs.declared.Fault.TheVariants.{Limit as LimitFault}
use Rattle.j_noun.specs.declared.refusal.Refusal.TheVariants.{Fault as RefusedFault}
use Rattle.j_noun.specs.Refused.{IsRefusedBeyond}
use Rattle.j_noun.proofs.Rules.{numbers_weight, numbers_level}
use Rattle.j_numbers.specs.declared.fault.NumberFault.{NumberFault}
use Rattle.j_numbers.specs.declared.fault.NumberFault.TheVariants.{IllFormed, Overflow, Limit, NoMemory}
use Rattle.j_numbers.specs.declared.literal.Literal.TheVariants.{Noun, Ranks}
use Rattle.j_noun.specs.declared.ranks.RankPart.{RankPart}
use Rattle.j_noun.specs.declared.ranks.RankPart.TheVariants.{Number, Infinite}
use Rattle.j_noun.specs.Ranks.{is_infinite}
use Rattle.j_definitions.specs.Range.{in_range}
use Rattle.j_numbers.specs.Numbers.{parts, number_of, ranged, part_value, within_limit, literal}
use Rattle.j_numbers.specs.Literals.{number_list, with_number, finite, noun_or_ranks, literal_of, read, noun_or_fault, noun_of, noun, IsFaultOf}
use Rattle.j_numbers.specs.Readings.{values, after, values_after, read_after, noun_after, limit_or_fault}
use Rattle.j_numbers.proofs.Lists.{after_none, after_more, after_fault, after_end, length-in_order}

pub fault_given : {A : Type 0} (r : Result A NumberFault) (f : NumberFault) → r ≡ Err f → IsFaultOf r f
fault_given r IllFormed e = e
fault_given r Overflow e = e
fault_given r Limit e = e
fault_given r NoMemory e = tt

pub memory_given : {A : Type 0} (r : Result A NumberFault) (f : NumberFault) → f ≡ NoMemory → IsFaultOf r f
memory_given r IllFormed e = absurd (cc)
memory_given r Overflow e = absurd (cc)
memory_given r Limit e = absurd (cc)
memory_given r NoMemory e = tt

module _ (infinite : Bool) where
  values_none : (text : List ℕ) → values_after infinite [] text ≡ literal text infinite
  values_none text = ap within_limit (after_none (in_order (values infinite text)))

  values_more : (xs : List RankPart) (x : RankPart) (text part next : List ℕ) → parts text ≡ part ∷ parts next → part_value infinite part ≡ Ok x → values_after infinite xs text ≡ values_after infinite (xs ++ x ∷ []) next
  values_more xs x text part next e h =
      ap within_limit (after_more xs x (part_value infinite part) (values infinite next) (values infinite text) (ap (map (part_value infinite)) e) h)

  values_fault : (xs : List RankPart) (f : NumberFault) (text part next : List ℕ) → parts text ≡ part ∷ parts next → part_value infinite part ≡ Err f → values_after infinite xs text ≡ Err f
  values_fault xs f text part next e h =
      ap within_limit (after_fault xs f (part_value infinite part) (values infinite next) (values infinite text) (ap (map (part_value infinite)) e) h)

within : (xs : List RankPart) → length xs ≤ 4194304 → within_limit (Ok xs) ≡ Ok xs
within xs l = cond-true (leb (length xs) 4194304) (Ok xs) (Err Limit) (le-leb (length xs) 4194304 l)

beyond : (xs : List RankPart) → 4194304 < length xs → within_limit (Ok xs) ≡ Err Limit
beyond xs l = cond-false (leb (length xs) 4194304) (Ok xs) (Err Limit) (lt-leb (length xs) 4194304 l)

beyond_result : (xs : List RankPart) (n : ℕ) (r : Result (List RankPart) NumberFault) → ((ys : List RankPart) → r ≡ Ok ys → length ys ≡ n) → 0 < n → 4194304 ≤ length xs → within_limit (after xs r) ≡ Err (limit_or_fault r)
beyond_result xs n (Ok ys) h some l =
    let long : length ys ≡ n = h ys refl in
    beyond (xs ++ ys) (omega (arith, length-append xs ys))
beyond_result xs n (Err f) h some l = refl

module _ (infinite : Bool) (xs : List RankPart) (text : List ℕ) where
  values_end : parts text ≡ [] → length xs ≤ 4194304 → values_after infinite xs text ≡ Ok xs
  values_end e l = ap within_limit (after_end xs (values infinite text) (ap (map (part_value infinite)) e)) ∙ within xs l

  values_beyond : (part next : List ℕ) → parts text ≡ part ∷ parts next → 4194304 ≤ length xs → values_after infinite xs text ≡ Err (limit_or_fault (in_order (values infinite text)))
  values_beyond part next e l =
      let some : length (values infinite text) ≡ suc (length (values infinite next)) = ap (λ ps. length (map (part_value infinite) ps)) e in
      beyond_result xs (length (values infinite text)) (in_order (values infinite text)) (λ ys h. length-in_order (values infinite text) ys h) (omega arith) l

-- a number word, of which parts may be infinite
pub read_none : (text : List ℕ) → read_after [] text ≡ read text
read_none text = ap literal_of (values_none true text)

pub read_more : (xs : List RankPart) (x : RankPart) (text part next : List ℕ) → parts text ≡ part ∷ parts next → part_value true part ≡ Ok x → read_after xs text ≡ read_after (xs ++ x ∷ []) next
read_more xs x text part next e h = ap literal_of (values_more true xs x text part next e h)

pub read_number : (xs : List ℤ) (n : ℤ) (text part next : List ℕ) → parts text ≡ part ∷ parts next → part_value true part ≡ Ok (Number n) → read_after (map Number xs) text ≡ read_after (map Number (xs ++ n ∷ [])) next
read_number xs n text part next e h =
    read_more (map Number xs) (Number n) text part next e h ∙ ap (λ ys. read_after ys next) (sym (map_push Number xs n))

pub read_fault : (xs : List RankPart) (f : NumberFault) (text part next : List ℕ) → parts text ≡ part ∷ parts next → part_value true part ≡ Err f → read_after xs text ≡ Err f
read_fault xs f text part next e h = ap literal_of (values_fault true xs f text part next e h)

pub read_end : (xs : List RankPart) (text : List ℕ) → parts text ≡ [] → length xs ≤ 4194304 → read_after xs text ≡ Ok (noun_or_ranks xs (finite xs))
read_end xs text e l = ap literal_of (values_end true xs text e l)

pub read_beyond : (xs : List RankPart) (text part next : List ℕ) → parts text ≡ part ∷ parts next → 4194304 ≤ length xs → read_after xs text ≡ Err (limit_or_fault (in_order (values true text)))
read_beyond xs text part next e l = ap literal_of (values_beyond true xs text part next e l)

finite_numbers : (zs : List ℤ) → finite (map Number zs) ≡ Some zs
finite_numbers [] = refl
finite_numbers (z ∷ zs) = ap (with_number z) (finite_numbers zs)

-- a number word of which no part may be
in_or_out : (b : Bool) (z : ℤ) → cond b (Ok (Number z)) (Err Overflow) ≡ Ok Infinite → ⊥
in_or_out true z h = absurd (cc)
in_or_out false z h = absurd (cc)

not_infinite : (o : Option ℤ) → ranged o ≡ Ok Infinite → ⊥
not_infinite None h = absurd (cc)
not_infinite (Some z) h = in_or_out (in_range z) z h

pub all_finite : (part : List ℕ) → part_value false part ≡ Ok Infinite → ⊥
all_finite part h = not_infinite (number_of part) h

pub noun_none : (text : List ℕ) → noun_after [] text ≡ noun text
noun_none text = ap noun_of (values_none false text)

pub noun_number : (xs : List ℤ) (n : ℤ) (text part next : List ℕ) → parts text ≡ part ∷ parts next → part_value false part ≡ Ok (Number n) → noun_after (map Number xs) text ≡ noun_after (map Number (xs ++ n ∷ [])) next
noun_number xs n text part next e h =
    ap noun_of (values_more false (map Number xs) (Number n) text part next e h) ∙ ap (λ ys. noun_after ys next) (sym (map_push Number xs n))

pub noun_fault : (xs : List RankPart) (f : NumberFault) (text part next : List ℕ) → parts text ≡ part ∷ parts next → part_value false part ≡ Err f → noun_after xs text ≡ Err f
noun_fault xs f text part next e h = ap noun_of (values_fault false xs f text part next e h)

pub noun_end : (zs : List ℤ) (text : List ℕ) → parts text ≡ [] → length zs ≤ 4194304 → noun_after (map Number zs) text ≡ Ok (number_list (map number zs))
noun_end zs text e l =
    ap noun_of (values_end false (map Number zs) text e (omega (arith, length-map zs Number))) ∙ ap noun_or_fault (finite_numbers zs)

pub only_noun : (n : ℤ) (text part next : List ℕ) → parts text ≡ part ∷ parts next → parts next ≡ [] → part_value false part ≡ Ok (Number n) → noun text ≡ Ok (number_list (number n ∷ []))
only_noun n text part next e f h = sym (noun_none text) ∙ noun_number [] n text part next e h ∙ noun_end (n ∷ []) next f (omega arith)

pub noun_beyond : (xs : List RankPart) (text part next : List ℕ) → parts text ≡ part ∷ parts next → 4194304 ≤ length xs → noun_after xs text ≡ Err (limit_or_fault (in_order (values false text)))
noun_beyond xs text part next e l = ap noun_of (values_beyond false xs text part next e l)

first_kept : (x : RankPart) (r : Result (List RankPart) NumberFault) → limit_or_fault (with_first x r) ≡ limit_or_fault r
first_kept x (Ok ys) = refl
first_kept x (Err f) = refl

module _ (infinite : Bool) where
  pub fault_more : (x : RankPart) (text part next : List ℕ) → parts text ≡ part ∷ parts next → part_value infinite part ≡ Ok x
      → limit_or_fault (in_order (values infinite text)) ≡ limit_or_fault (in_order (values infinite next))
  fault_more x text part next e h =
      ap (λ ps. limit_or_fault (in_order (map (part_value infinite) ps))) e ∙ ap (λ r. limit_or_fault (in_order (r ∷ values infinite next))) h ∙ first_kept x (in_order (values infinite next))

  pub fault_out : (f : NumberFault) (text part next : List ℕ) → parts text ≡ part ∷ parts next → part_value infinite part ≡ Err f → limit_or_fault (in_order (values infinite text)) ≡ f
  fault_out f text part next e h =
      ap (λ ps. limit_or_fault (in_order (map (part_value infinite) ps))) e ∙ ap (λ r. limit_or_fault (in_order (r ∷ values infinite next))) h

  pub fault_end : (text : List ℕ) → parts text ≡ [] → limit_or_fault (in_order (values infinite text)) ≡ Limit
  fault_end text e = ap (λ ps. limit_or_fault (in_order (map (part_value infinite) ps))) e

pub numbers_end : (zs : List ℤ) (text : List ℕ) → parts text ≡ [] → length zs ≤ 4194304 → read_after (map Number zs) text ≡ Ok (Noun (number_list (map number zs)))
numbers_end zs text e l =
    read_end (map Number zs) text e (omega (arith, length-map zs Number)) ∙ ap (λ o. Ok (noun_or_ranks (map Number zs) o)) (finite_numbers zs)

infinite_none : (ps : List RankPart) → list_any is_infinite ps ≡ true → finite ps ≡ None
infinite_none [] h = absurd (cc)
infinite_none (Number z ∷ ps) h = ap (with_number z) (infinite_none ps h)
infinite_none (Infinite ∷ ps) h = refl

pub ranks_end : (ps : List RankPart) (text : List ℕ) → parts text ≡ [] → list_any is_infinite ps ≡ true → length ps ≤ 4194304 → read_after ps text ≡ Ok (Ranks ps)
ranks_end ps text e h l = read_end ps text e l ∙ ap (λ o. Ok (noun_or_ranks ps o)) (infinite_none ps h)

pub any_more : (ps : List RankPart) (p : RankPart) → list_any is_infinite ps ≡ true → list_any is_infinite (ps ++ p ∷ []) ≡ true
any_more [] p h = absurd (cc)
any_more (Number z ∷ ps) p h = any_more ps p h
any_more (Infinite ∷ ps) p h = refl

pub any_last : (zs : List ℤ) → list_any is_infinite (map Number zs ++ Infinite ∷ []) ≡ true
any_last [] = refl
any_last (z ∷ zs) = any_last zs

pub last_long : (zs : List ℤ) → length (map Number zs ++ Infinite ∷ []) ≡ length zs + 1
last_long zs = omega (arith, length-append (map Number zs) (Infinite ∷ []), length-map zs Number)

-- the noun of numbers that are not one, and of one
list_noun : (xs : List Atom) → length xs ≢ 1 → number_list xs ≡ record { kind = NumberKind; shape = length xs ∷ []; atoms = xs }
list_noun [] h = refl
list_noun (x ∷ []) h = absurd (h refl)
list_noun (x ∷ y ∷ ys) h = refl

pub numbers_noun : (xs : List ℤ) (n : ℕ) → n ≡ length xs → n ≢ 1 → record { kind = NumberKind; shape = n ∷ []; atoms = map number xs } ≡ number_list (map number xs)
numbers_noun xs n e h =
    let m : length (map number xs) ≡ n = length-map xs number ∙ sym e in
    ap (λ (k : ℕ). let a : Array = record { kind = NumberKind; shape = k ∷ []; atoms = map number xs } in a) (sym m) ∙ sym (list_noun (map number xs) (λ k. h (sym m ∙ k)))

pub one_noun : (xs : List ℤ) (n : ℤ) → length xs ≡ 1 → n ≡ get_or xs 0 (pos 0) → record { kind = NumberKind; shape = []; atoms = number n ∷ [] } ≡ number_list (map number xs)
one_noun [] n h e = absurd (omega arith)
one_noun (x ∷ []) n h e = ap (λ (k : ℤ). let a : Array = record { kind = NumberKind; shape = []; atoms = number k ∷ [] } in a) e
one_noun (x ∷ y ∷ ys) n h e = absurd (omega arith)

pub list_within : (xs : List ℤ) (n : ℕ) → n ≡ length xs → n ≤ 4194304 → IsWithin (n ∷ []) (map number xs)
list_within xs n e l = record {
  rank = omega arith;
  axes = All-cons (λ k. k ≤ 4194304) n [] l (All-nil (λ k. k ≤ 4194304));
  light = omega (arith, numbers_weight xs);
  shallow = omega (arith, numbers_level xs);
}

pub refused : (P : Type 0) (f : AnyFault) → IsRefusedBeyond P (RefusedFault f) → P → ⊥
refused P LimitFault h p = h p
refused P _ h p = h
