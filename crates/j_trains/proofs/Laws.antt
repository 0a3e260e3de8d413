-- Laws of trains.
use Rattle.std.proofs.Common.{◌≡◌, ◌≤◌, refl, Bool, true, false, nat_le, Option, Some, None, Result, Ok, Err, arith}
use Rattle.std.specs.Prelude.{IfOk, if◌then◌else◌}
use Rattle.std.proofs.lemmas.Bool.Decides.{nat_tests}
use Rattle.j_definitions.specs.declared.Fault.{Fault}
use Rattle.j_definitions.specs.declared.Fault.TheVariants.{Limit}
use Rattle.j_leaves.specs.declared.modifier.Modifier.{Modifier}
use Rattle.j_entity.specs.Tree.{VerbTree, OperandTree, OperatorTree, EntityTree, fork, noun_fork, hook, derived, derived2, verb, noun, rank_list, modifier, both, right, left, defined, a_noun, a_verb, an_adverb, a_conjunction}
use Rattle.j_entity.specs.Heights.{verb_height}
use Rattle.j_trains.specs.Modifiers.{conjunction_fault, adverb_fault}
use Rattle.j_trains.specs.Form.{most_height, fork_of, bident_of, formed_unless, conjunction_of, adverb_of, operand_again, and_then, formed_verb, formed_adverb, verb_entity}
use Rattle.j_trains.specs.Rows.{entity_height}

regrouped_from : (r : Result OperandTree Fault) (b c : OperatorTree) → and_then (and_then (and_then r (adverb_of b)) operand_again) (adverb_of c) ≡ and_then r (adverb_of (both b c))
regrouped_from (Ok u) b c = refl
regrouped_from (Err e) b c = refl

pub regrouped : (a b c : OperatorTree) (u : OperandTree) → adverb_of (both (both a b) c) u ≡ adverb_of (both a (both b c)) u
regrouped a b c u = regrouped_from (and_then (adverb_of a u) operand_again) b c

verb_fits : (v : VerbTree) → IfOk (formed_verb v) (λ w. verb_height w ≤ 64)
verb_fits v = grind (arith, nat_tests)

verb_entity_fits : (v : VerbTree) → IfOk (verb_entity (formed_verb v)) (λ e. entity_height e ≤ 64)
verb_entity_fits v = grind (arith, nat_tests)

adverb_fits : (a : OperatorTree) → IfOk (formed_adverb a) (λ e. entity_height e ≤ 64)
adverb_fits a = grind (arith, nat_tests)

pub fork_height : (f : OperandTree) (g h : VerbTree) → IfOk (fork_of f g h) (λ v. verb_height v ≤ 64)
fork_height (verb f) g h = verb_fits (fork f g h)
fork_height (noun n) g h = verb_fits (noun_fork n g h)
fork_height (rank_list l) g h = tt

pub bident_height : (a b : EntityTree) → IfOk (bident_of a b) (λ e. entity_height e ≤ 64)
bident_height (a_verb g) (a_verb h) = verb_entity_fits (hook g h)
bident_height (an_adverb a) (an_adverb b) = adverb_fits (both a b)
bident_height (a_conjunction c) (a_noun n) = adverb_fits (right c (noun n))
bident_height (a_conjunction c) (a_verb v) = adverb_fits (right c (verb v))
bident_height (a_noun n) (a_conjunction c) = adverb_fits (left (noun n) c)
bident_height (a_verb v) (a_conjunction c) = adverb_fits (left (verb v) c)
bident_height a b = tt

unless_fits : (e : Option Fault) (v : VerbTree) → IfOk (formed_unless e v) (λ e. entity_height e ≤ 64)
unless_fits None v = verb_entity_fits v
unless_fits (Some e) v = tt

pub conjunction_height : (c : OperatorTree) (u v : OperandTree) → IfOk (conjunction_of c u v) (λ e. entity_height e ≤ 64)
conjunction_height (modifier m) u v = unless_fits (conjunction_fault m u v) (derived2 m u v)
conjunction_height (both a b) u v = tt
conjunction_height (right c w) u v = tt
conjunction_height (left w c) u v = tt
conjunction_height (defined b) u v = tt

given_height : (r : Result OperandTree Fault) (b : OperatorTree) → ((u : OperandTree) → IfOk (adverb_of b u) (λ e. entity_height e ≤ 64)) → IfOk (and_then r (adverb_of b)) (λ e. entity_height e ≤ 64)
given_height (Ok u) b fits = fits u
given_height (Err e) b fits = tt

pub adverb_height : (a : OperatorTree) (u : OperandTree) → IfOk (adverb_of a u) (λ e. entity_height e ≤ 64)
adverb_height (modifier m) u = unless_fits (adverb_fault m u) (derived m u)
adverb_height (both a b) u = given_height (and_then (adverb_of a u) operand_again) b (adverb_height b)
adverb_height (right c v) u = conjunction_height c u v
adverb_height (left v c) u = conjunction_height c v u
adverb_height (defined b) u = tt

forms_if : (fits : Bool) (v : VerbTree) → IfOk (verb_entity (if fits then Ok v else Err Limit)) (λ e. e ≡ a_verb v)
forms_if true v = refl
forms_if false v = tt

unless_forms : (e : Option Fault) (v : VerbTree) → IfOk (formed_unless e v) (λ e. e ≡ a_verb v)
unless_forms None v = forms_if (nat_le (verb_height v) most_height) v
unless_forms (Some e) v = tt

pub conjunction_forms : (c : Modifier) (u v : OperandTree) → IfOk (conjunction_of (modifier c) u v) (λ e. e ≡ a_verb (derived2 c u v))
conjunction_forms c u v = unless_forms (conjunction_fault c u v) (derived2 c u v)

pub adverb_forms : (a : Modifier) (u : OperandTree) → IfOk (adverb_of (modifier a) u) (λ e. e ≡ a_verb (derived a u))
adverb_forms a u = unless_forms (adverb_fault a u) (derived a u)
