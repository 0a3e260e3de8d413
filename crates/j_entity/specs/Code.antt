-- How the logic stores a tree: as a binary tree of leaves, from which it is read back.
use Rattle.std.proofs.Common.{◌≡◌, ℕ, zero, suc, ℤ, pos, List, [], refl, inl, inr}
use Rattle.std.specs.Prelude.{◌⊎◌}
use Rattle.std.specs.Coded.{Coded, code_by, coded_ℕ, coded_ℤ, coded_list, coded⊎}
use Rattle.j_leaves.specs.declared.primitive.Primitive.{Primitive}
use Rattle.j_leaves.specs.declared.primitive.Primitive.TheVariants.{Plus}
use Rattle.j_leaves.specs.declared.modifier.Modifier.{Modifier}
use Rattle.j_leaves.specs.declared.modifier.Modifier.TheVariants.{Insert}
use Rattle.j_leaves.specs.Names.{NameParts}
use Rattle.j_leaves.specs.declared.ranks.Ranks.{Ranks}
use Rattle.j_definitions.specs.Array.{Array}
use Rattle.j_noun.specs.declared.ranks.RankPart.{RankPart}
use Rattle.j_leaves.specs.declared.moves.Move.{Move}
use Rattle.j_leaves.specs.contracts.primitive.Primitive as primitives
use Rattle.j_leaves.specs.contracts.modifier.Modifier as modifiers
use Rattle.j_leaves.specs.contracts.name.Name as names
use Rattle.j_leaves.specs.contracts.ranks.Ranks as ranks
use Rattle.j_definitions.specs.Stored.{array_code}
use Rattle.j_definitions.specs.declared.Kind.TheVariants.{Number}
use Rattle.j_noun.specs.contracts.ranks.RankPart as rank_parts
use Rattle.j_leaves.specs.contracts.moves.Move as moves
use Rattle.j_entity.specs.Packed.{Packed, nothing, leaf, knot, coded_packed}
use Rattle.j_entity.specs.Tree.{VerbTree, OperandTree, OperatorTree, EntityTree, WordTree, SentenceTree, SentencesTree, PartTree, BodyTree, primitive, named, fork, noun_fork, hook, derived, derived2, explicit, explicit1, explicit2, verb, noun, rank_list, modifier, both, right, left, defined, a_noun, a_verb, an_adverb, a_conjunction, entity, ranks_word, name, local_copula, global_copula, open_mark, close_mark, no_words, word, no_sentences, sentence, no_part, part, body}

-- a noun, where a code is none
abbrev pub no_noun : Array
no_noun = record { kind = Number; shape = []; atoms = [] }

abbrev pub Leaf : Type 0
Leaf = Primitive ⊎ (Modifier ⊎ (NameParts ⊎ (Ranks ⊎ (Array ⊎ (List RankPart ⊎ (List Move ⊎ (ℤ ⊎ List (List ℕ))))))))

abbrev pub coded_leaf : Coded Leaf
coded_leaf =
    coded⊎ primitives.the_row.coded (coded⊎ modifiers.the_row.coded (coded⊎ names.the_row.coded (coded⊎ ranks.the_row.coded
    (coded⊎ array_code (coded⊎ (coded_list rank_parts.the_row.coded) (coded⊎ (coded_list moves.the_row.coded) (coded⊎ coded_ℤ (coded_list (coded_list coded_ℕ)))))))))

abbrev mutual
  pub verb_code : VerbTree → Packed Leaf
  verb_code (primitive a) = knot 0 (leaf (inl a)) nothing
  verb_code (named a b) = knot 1 (leaf (inr (inr (inl a)))) (leaf (inr (inr (inr (inl b)))))
  verb_code (fork a b c) = knot 2 (verb_code a) (knot 0 (verb_code b) (verb_code c))
  verb_code (noun_fork a b c) = knot 3 (leaf (inr (inr (inr (inr (inl a)))))) (knot 0 (verb_code b) (verb_code c))
  verb_code (hook a b) = knot 4 (verb_code a) (verb_code b)
  verb_code (derived a b) = knot 5 (leaf (inr (inl a))) (operand_code b)
  verb_code (derived2 a b c) = knot 6 (leaf (inr (inl a))) (knot 0 (operand_code b) (operand_code c))
  verb_code (explicit a) = knot 7 (body_code a) nothing
  verb_code (explicit1 a b) = knot 8 (body_code a) (operand_code b)
  verb_code (explicit2 a b c) = knot 9 (body_code a) (knot 0 (operand_code b) (operand_code c))

  pub operand_code : OperandTree → Packed Leaf
  operand_code (verb a) = knot 0 (verb_code a) nothing
  operand_code (noun a) = knot 1 (leaf (inr (inr (inr (inr (inl a)))))) nothing
  operand_code (rank_list a) = knot 2 (leaf (inr (inr (inr (inr (inr (inl a))))))) nothing

  pub operator_code : OperatorTree → Packed Leaf
  operator_code (modifier a) = knot 0 (leaf (inr (inl a))) nothing
  operator_code (both a b) = knot 1 (operator_code a) (operator_code b)
  operator_code (right a b) = knot 2 (operator_code a) (operand_code b)
  operator_code (left a b) = knot 3 (operand_code a) (operator_code b)
  operator_code (defined a) = knot 4 (body_code a) nothing

  pub entity_code : EntityTree → Packed Leaf
  entity_code (a_noun a) = knot 0 (leaf (inr (inr (inr (inr (inl a)))))) nothing
  entity_code (a_verb a) = knot 1 (verb_code a) nothing
  entity_code (an_adverb a) = knot 2 (operator_code a) nothing
  entity_code (a_conjunction a) = knot 3 (operator_code a) nothing

  pub word_code : WordTree → Packed Leaf
  word_code (entity a) = knot 0 (entity_code a) nothing
  word_code (ranks_word a) = knot 1 (leaf (inr (inr (inr (inr (inr (inl a))))))) nothing
  word_code (name a) = knot 2 (leaf (inr (inr (inl a)))) nothing
  word_code local_copula = knot 3 nothing nothing
  word_code global_copula = knot 4 nothing nothing
  word_code open_mark = knot 5 nothing nothing
  word_code close_mark = knot 6 nothing nothing

  pub sentence_code : SentenceTree → Packed Leaf
  sentence_code no_words = knot 0 nothing nothing
  sentence_code (word a b) = knot 1 (word_code a) (sentence_code b)

  pub sentences_code : SentencesTree → Packed Leaf
  sentences_code no_sentences = knot 0 nothing nothing
  sentences_code (sentence a b) = knot 1 (sentence_code a) (sentences_code b)

  pub part_code : PartTree → Packed Leaf
  part_code no_part = knot 0 nothing nothing
  part_code (part a b) = knot 1 (sentences_code a) (leaf (inr (inr (inr (inr (inr (inr (inl b))))))))

  pub body_code : BodyTree → Packed Leaf
  body_code (body a b c d) = knot 0 (leaf (inr (inr (inr (inr (inr (inr (inr (inl a))))))))) (knot 0 (leaf (inr (inr (inr (inr (inr (inr (inr (inr b))))))))) (knot 0 (part_code c) (part_code d)))

abbrev mutual
  pub verb_from : Packed Leaf → VerbTree
  verb_from (knot zero (leaf (inl a)) _) = primitive a
  verb_from (knot (suc zero) (leaf (inr (inr (inl a)))) (leaf (inr (inr (inr (inl b)))))) = named a b
  verb_from (knot (suc (suc zero)) a (knot _ b c)) = fork (verb_from a) (verb_from b) (verb_from c)
  verb_from (knot (suc (suc (suc zero))) (leaf (inr (inr (inr (inr (inl a)))))) (knot _ b c)) = noun_fork a (verb_from b) (verb_from c)
  verb_from (knot (suc (suc (suc (suc zero)))) a b) = hook (verb_from a) (verb_from b)
  verb_from (knot (suc (suc (suc (suc (suc zero))))) (leaf (inr (inl a))) b) = derived a (operand_from b)
  verb_from (knot (suc (suc (suc (suc (suc (suc zero)))))) (leaf (inr (inl a))) (knot _ b c)) = derived2 a (operand_from b) (operand_from c)
  verb_from (knot (suc (suc (suc (suc (suc (suc (suc zero))))))) a _) = explicit (body_from a)
  verb_from (knot (suc (suc (suc (suc (suc (suc (suc (suc zero)))))))) a b) = explicit1 (body_from a) (operand_from b)
  verb_from (knot (suc (suc (suc (suc (suc (suc (suc (suc (suc zero))))))))) a (knot _ b c)) = explicit2 (body_from a) (operand_from b) (operand_from c)
  verb_from _ = primitive Plus

  pub operand_from : Packed Leaf → OperandTree
  operand_from (knot zero a _) = verb (verb_from a)
  operand_from (knot (suc zero) (leaf (inr (inr (inr (inr (inl a)))))) _) = noun a
  operand_from (knot (suc (suc zero)) (leaf (inr (inr (inr (inr (inr (inl a))))))) _) = rank_list a
  operand_from _ = noun no_noun

  pub operator_from : Packed Leaf → OperatorTree
  operator_from (knot zero (leaf (inr (inl a))) _) = modifier a
  operator_from (knot (suc zero) a b) = both (operator_from a) (operator_from b)
  operator_from (knot (suc (suc zero)) a b) = right (operator_from a) (operand_from b)
  operator_from (knot (suc (suc (suc zero))) a b) = left (operand_from a) (operator_from b)
  operator_from (knot (suc (suc (suc (suc zero)))) a _) = defined (body_from a)
  operator_from _ = modifier Insert

  pub entity_from : Packed Leaf → EntityTree
  entity_from (knot zero (leaf (inr (inr (inr (inr (inl a)))))) _) = a_noun a
  entity_from (knot (suc zero) a _) = a_verb (verb_from a)
  entity_from (knot (suc (suc zero)) a _) = an_adverb (operator_from a)
  entity_from (knot (suc (suc (suc zero))) a _) = a_conjunction (operator_from a)
  entity_from _ = a_noun no_noun

  pub word_from : Packed Leaf → WordTree
  word_from (knot zero a _) = entity (entity_from a)
  word_from (knot (suc zero) (leaf (inr (inr (inr (inr (inr (inl a))))))) _) = ranks_word a
  word_from (knot (suc (suc zero)) (leaf (inr (inr (inl a)))) _) = name a
  word_from (knot (suc (suc (suc zero))) _ _) = local_copula
  word_from (knot (suc (suc (suc (suc zero)))) _ _) = global_copula
  word_from (knot (suc (suc (suc (suc (suc zero))))) _ _) = open_mark
  word_from (knot (suc (suc (suc (suc (suc (suc zero)))))) _ _) = close_mark
  word_from _ = open_mark

  pub sentence_from : Packed Leaf → SentenceTree
  sentence_from (knot zero _ _) = no_words
  sentence_from (knot (suc zero) a b) = word (word_from a) (sentence_from b)
  sentence_from _ = no_words

  pub sentences_from : Packed Leaf → SentencesTree
  sentences_from (knot zero _ _) = no_sentences
  sentences_from (knot (suc zero) a b) = sentence (sentence_from a) (sentences_from b)
  sentences_from _ = no_sentences

  pub part_from : Packed Leaf → PartTree
  part_from (knot zero _ _) = no_part
  part_from (knot (suc zero) a (leaf (inr (inr (inr (inr (inr (inr (inl b))))))))) = part (sentences_from a) b
  part_from _ = no_part

  pub body_from : Packed Leaf → BodyTree
  body_from (knot zero (leaf (inr (inr (inr (inr (inr (inr (inr (inl a))))))))) (knot _ (leaf (inr (inr (inr (inr (inr (inr (inr (inr b))))))))) (knot _ c d))) = body a b (part_from c) (part_from d)
  body_from _ = body (pos 0) [] no_part no_part

mutual
  pub verb_back : (t : VerbTree) → verb_from (verb_code t) ≡ t
  verb_back (primitive a) = refl
  verb_back (named a b) = refl
  verb_back (fork a b c) = λ i. fork (verb_back a i) (verb_back b i) (verb_back c i)
  verb_back (noun_fork a b c) = λ i. noun_fork a (verb_back b i) (verb_back c i)
  verb_back (hook a b) = λ i. hook (verb_back a i) (verb_back b i)
  verb_back (derived a b) = λ i. derived a (operand_back b i)
  verb_back (derived2 a b c) = λ i. derived2 a (operand_back b i) (operand_back c i)
  verb_back (explicit a) = λ i. explicit (body_back a i)
  verb_back (explicit1 a b) = λ i. explicit1 (body_back a i) (operand_back b i)
  verb_back (explicit2 a b c) = λ i. explicit2 (body_back a i) (operand_back b i) (operand_back c i)

  pub operand_back : (t : OperandTree) → operand_from (operand_code t) ≡ t
  operand_back (verb a) = λ i. verb (verb_back a i)
  operand_back (noun a) = refl
  operand_back (rank_list a) = refl

  pub operator_back : (t : OperatorTree) → operator_from (operator_code t) ≡ t
  operator_back (modifier a) = refl
  operator_back (both a b) = λ i. both (operator_back a i) (operator_back b i)
  operator_back (right a b) = λ i. right (operator_back a i) (operand_back b i)
  operator_back (left a b) = λ i. left (operand_back a i) (operator_back b i)
  operator_back (defined a) = λ i. defined (body_back a i)

  pub entity_back : (t : EntityTree) → entity_from (entity_code t) ≡ t
  entity_back (a_noun a) = refl
  entity_back (a_verb a) = λ i. a_verb (verb_back a i)
  entity_back (an_adverb a) = λ i. an_adverb (operator_back a i)
  entity_back (a_conjunction a) = λ i. a_conjunction (operator_back a i)

  pub word_back : (t : WordTree) → word_from (word_code t) ≡ t
  word_back (entity a) = λ i. entity (entity_back a i)
  word_back (ranks_word a) = refl
  word_back (name a) = refl
  word_back local_copula = refl
  word_back global_copula = refl
  word_back open_mark = refl
  word_back close_mark = refl

  pub sentence_back : (t : SentenceTree) → sentence_from (sentence_code t) ≡ t
  sentence_back no_words = refl
  sentence_back (word a b) = λ i. word (word_back a i) (sentence_back b i)

  pub sentences_back : (t : SentencesTree) → sentences_from (sentences_code t) ≡ t
  sentences_back no_sentences = refl
  sentences_back (sentence a b) = λ i. sentence (sentence_back a i) (sentences_back b i)

  pub part_back : (t : PartTree) → part_from (part_code t) ≡ t
  part_back no_part = refl
  part_back (part a b) = λ i. part (sentences_back a i) b

  pub body_back : (t : BodyTree) → body_from (body_code t) ≡ t
  body_back (body a b c d) = λ i. body a b (part_back c i) (part_back d i)

abbrev pub coded_verb : Coded VerbTree
coded_verb = code_by (Packed Leaf) (coded_packed coded_leaf) verb_code verb_from verb_back

abbrev pub coded_operator : Coded OperatorTree
coded_operator = code_by (Packed Leaf) (coded_packed coded_leaf) operator_code operator_from operator_back

abbrev pub coded_word : Coded WordTree
coded_word = code_by (Packed Leaf) (coded_packed coded_leaf) word_code word_from word_back

abbrev pub coded_body : Coded BodyTree
coded_body = code_by (Packed Leaf) (coded_packed coded_leaf) body_code body_from body_back
