-- The trees that verbs, operators and bodies stand for.
use Rattle.std.specs.Prelude.{ℕ, suc, ℤ, max, List}
use Rattle.j_leaves.specs.declared.primitive.Primitive.{Primitive}
use Rattle.j_leaves.specs.declared.modifier.Modifier.{Modifier}
use Rattle.j_leaves.specs.Names.{NameParts}
use Rattle.j_leaves.specs.declared.ranks.Ranks.{Ranks}
use Rattle.j_definitions.specs.Array.{Array}
use Rattle.j_noun.specs.declared.ranks.RankPart.{RankPart}
use Rattle.j_leaves.specs.declared.moves.Move.{Move}

mutual
  pub data VerbTree : Type 0 where
    primitive : Primitive → VerbTree
    named : NameParts → Ranks → VerbTree
    fork : VerbTree → VerbTree → VerbTree → VerbTree
    noun_fork : Array → VerbTree → VerbTree → VerbTree
    hook : VerbTree → VerbTree → VerbTree
    derived : Modifier → OperandTree → VerbTree
    derived2 : Modifier → OperandTree → OperandTree → VerbTree
    explicit : BodyTree → VerbTree
    explicit1 : BodyTree → OperandTree → VerbTree
    explicit2 : BodyTree → OperandTree → OperandTree → VerbTree

  pub data OperandTree : Type 0 where
    verb : VerbTree → OperandTree
    noun : Array → OperandTree
    rank_list : List RankPart → OperandTree

  pub data OperatorTree : Type 0 where
    modifier : Modifier → OperatorTree
    both : OperatorTree → OperatorTree → OperatorTree
    right : OperatorTree → OperandTree → OperatorTree
    left : OperandTree → OperatorTree → OperatorTree
    defined : BodyTree → OperatorTree

  pub data EntityTree : Type 0 where
    a_noun : Array → EntityTree
    a_verb : VerbTree → EntityTree
    an_adverb : OperatorTree → EntityTree
    a_conjunction : OperatorTree → EntityTree

  -- a word of a sentence
  pub data WordTree : Type 0 where
    entity : EntityTree → WordTree
    ranks_word : List RankPart → WordTree
    name : NameParts → WordTree
    local_copula : WordTree
    global_copula : WordTree
    open_mark : WordTree
    close_mark : WordTree

  pub data SentenceTree : Type 0 where
    no_words : SentenceTree
    word : WordTree → SentenceTree → SentenceTree

  pub data SentencesTree : Type 0 where
    no_sentences : SentencesTree
    sentence : SentenceTree → SentencesTree → SentencesTree

  -- the part of one valence, if there is one
  pub data PartTree : Type 0 where
    no_part : PartTree
    part : SentencesTree → List Move → PartTree

  -- the number, the lines, the monad's and the dyad's part
  pub data BodyTree : Type 0 where
    body : ℤ → List (List ℕ) → PartTree → PartTree → BodyTree

-- how deep the trees nest
abbrev mutual
  pub verb_depth : VerbTree → ℕ
  verb_depth (primitive p) = 0
  verb_depth (named n r) = 0
  verb_depth (fork f g h) = suc (max (verb_depth f) (max (verb_depth g) (verb_depth h)))
  verb_depth (noun_fork n g h) = suc (max (verb_depth g) (verb_depth h))
  verb_depth (hook g h) = suc (max (verb_depth g) (verb_depth h))
  verb_depth (derived m u) = suc (operand_depth u)
  verb_depth (derived2 m u v) = suc (max (operand_depth u) (operand_depth v))
  verb_depth (explicit b) = suc (body_depth b)
  verb_depth (explicit1 b u) = suc (max (body_depth b) (operand_depth u))
  verb_depth (explicit2 b u v) = suc (max (body_depth b) (max (operand_depth u) (operand_depth v)))

  pub operand_depth : OperandTree → ℕ
  operand_depth (verb v) = verb_depth v
  operand_depth (noun n) = 0
  operand_depth (rank_list l) = 0

  pub operator_depth : OperatorTree → ℕ
  operator_depth (modifier m) = 0
  operator_depth (both a b) = suc (max (operator_depth a) (operator_depth b))
  operator_depth (right c u) = suc (max (operator_depth c) (operand_depth u))
  operator_depth (left u c) = suc (max (operand_depth u) (operator_depth c))
  operator_depth (defined b) = suc (body_depth b)

  pub entity_depth : EntityTree → ℕ
  entity_depth (a_noun n) = 0
  entity_depth (a_verb v) = verb_depth v
  entity_depth (an_adverb a) = operator_depth a
  entity_depth (a_conjunction c) = operator_depth c

  pub word_depth : WordTree → ℕ
  word_depth (entity e) = suc (entity_depth e)
  word_depth (ranks_word l) = 0
  word_depth (name n) = 0
  word_depth local_copula = 0
  word_depth global_copula = 0
  word_depth open_mark = 0
  word_depth close_mark = 0

  pub sentence_depth : SentenceTree → ℕ
  sentence_depth no_words = 0
  sentence_depth (word w s) = max (word_depth w) (sentence_depth s)

  pub sentences_depth : SentencesTree → ℕ
  sentences_depth no_sentences = 0
  sentences_depth (sentence s more) = max (suc (sentence_depth s)) (sentences_depth more)

  pub part_depth : PartTree → ℕ
  part_depth no_part = 0
  part_depth (part s m) = sentences_depth s

  pub body_depth : BodyTree → ℕ
  body_depth (body n l m d) = max (part_depth m) (part_depth d)

abbrev pub monad_of : BodyTree → PartTree
monad_of (body n l m d) = m

abbrev pub dyad_of : BodyTree → PartTree
dyad_of (body n l m d) = d

abbrev pub number_of_body : BodyTree → ℤ
number_of_body (body n l m d) = n

abbrev pub lines_of : BodyTree → List (List ℕ)
lines_of (body n l m d) = l
