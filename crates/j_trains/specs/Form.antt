-- What rows 3 to 6 of the parsing table form of entities that stand side by side.
use Rattle.std.specs.Prelude.{ℕ, nat_le, Option, Some, None, Result, Ok, Err, if◌then◌else◌}
use Rattle.j_definitions.specs.declared.Fault.{Fault}
use Rattle.j_definitions.specs.declared.Fault.TheVariants.{Domain, Limit, Nonce, Syntax}
use Rattle.j_leaves.specs.declared.modifier.Modifier.{Modifier}
use Rattle.j_entity.specs.Tree.{VerbTree, OperandTree, OperatorTree, EntityTree, fork, noun_fork, hook, derived, derived2, verb, noun, rank_list, modifier, both, right, left, defined, a_noun, a_verb, an_adverb, a_conjunction}
use Rattle.j_entity.specs.Heights.{verb_height, operator_height}
use Rattle.j_trains.specs.Modifiers.{conjunction_fault, adverb_fault}

-- the greatest height that may be formed
abbrev pub most_height : ℕ
most_height = 64

-- a verb, where its height allows it
abbrev pub formed_verb : VerbTree → Result VerbTree Fault
formed_verb v = if nat_le (verb_height v) most_height then Ok v else Err Limit

-- an adverb, where its height allows it
abbrev pub formed_adverb : OperatorTree → Result EntityTree Fault
formed_adverb a = if nat_le (operator_height a) most_height then Ok (an_adverb a) else Err Limit

-- a verb as an entity
abbrev pub verb_entity : Result VerbTree Fault → Result EntityTree Fault
verb_entity (Ok v) = Ok (a_verb v)
verb_entity (Err e) = Err e

-- row 5: `f g h`, where f is a verb or a noun
abbrev pub fork_of : OperandTree → VerbTree → VerbTree → Result VerbTree Fault
fork_of (verb f) g h = formed_verb (fork f g h)
fork_of (noun n) g h = formed_verb (noun_fork n g h)
fork_of (rank_list l) g h = Err Domain

-- row 6: two entities alone
abbrev pub bident_of : EntityTree → EntityTree → Result EntityTree Fault
bident_of (a_verb g) (a_verb h) = verb_entity (formed_verb (hook g h))
bident_of (an_adverb a) (an_adverb b) = formed_adverb (both a b)
bident_of (a_conjunction c) (a_noun n) = formed_adverb (right c (noun n))
bident_of (a_conjunction c) (a_verb v) = formed_adverb (right c (verb v))
bident_of (a_noun n) (a_conjunction c) = formed_adverb (left (noun n) c)
bident_of (a_verb v) (a_conjunction c) = formed_adverb (left (verb v) c)
bident_of _ _ = Err Syntax

-- a verb, unless its operands are at fault
abbrev pub formed_unless : Option Fault → VerbTree → Result EntityTree Fault
formed_unless None v = verb_entity (formed_verb v)
formed_unless (Some e) v = Err e

-- a conjunction that is a word, between u and v
abbrev pub word_conjunction : Modifier → OperandTree → OperandTree → Result EntityTree Fault
word_conjunction m u v = formed_unless (conjunction_fault m u v) (derived2 m u v)

-- row 4: `u c v`. An adverb is no conjunction, and a body is run where it is formed
abbrev pub conjunction_of : OperatorTree → OperandTree → OperandTree → Result EntityTree Fault
conjunction_of (modifier m) u v = word_conjunction m u v
conjunction_of (both a b) u v = Err Nonce
conjunction_of (right c w) u v = Err Nonce
conjunction_of (left w c) u v = Err Nonce
conjunction_of (defined b) u v = Err Nonce

-- an adverb that is a word, right of u
abbrev pub word_adverb : Modifier → OperandTree → Result EntityTree Fault
word_adverb m u = formed_unless (adverb_fault m u) (derived m u)

-- what an adverb gave, as the operand of the next one
abbrev pub operand_again : EntityTree → Result OperandTree Fault
operand_again (a_verb v) = Ok (verb v)
operand_again (a_noun n) = Ok (noun n)
operand_again _ = Err Domain

-- one step, and then the next on what it gave
abbrev pub and_then : {A B : Type 0} → Result A Fault → (A → Result B Fault) → Result B Fault
and_then (Ok a) next = next a
and_then (Err e) next = Err e

-- row 3: `u a`
abbrev pub adverb_of : OperatorTree → OperandTree → Result EntityTree Fault
adverb_of (modifier m) u = word_adverb m u
adverb_of (both a b) u = and_then (and_then (adverb_of a u) operand_again) (adverb_of b)
adverb_of (right c v) u = conjunction_of c u v
adverb_of (left v c) u = conjunction_of c v u
adverb_of (defined b) u = Err Nonce
