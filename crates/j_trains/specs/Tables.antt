-- Operands of each class, and what a modifier says of them.
use Rattle.std.specs.Prelude.{List, [], ◌∷◌, map, Option, Some, None, Result, Ok, Err}
use Rattle.j_definitions.specs.declared.Fault.{Fault}
use Rattle.j_definitions.specs.declared.Fault.TheVariants as fault
use Rattle.j_definitions.specs.declared.Kind.TheVariants.{Number, Character, Boxed}
use Rattle.j_noun.specs.declared.ranks.RankPart.TheVariants.{Infinite}
use Rattle.j_leaves.specs.declared.modifier.Modifier.{Modifier}
use Rattle.j_entity.specs.Tree.{OperandTree, EntityTree, verb, rank_list, modifier}
use Rattle.j_trains.specs.Form.{conjunction_of, adverb_of}
use Rattle.j_trains.specs.Rows.{plus, on_five, letter, box, nothing}

-- eight entries, and eight rows of them
abbrev pub row : {X : Type 0} → X → X → X → X → X → X → X → X → List X
row a b c d e f g h = a ∷ b ∷ c ∷ d ∷ e ∷ f ∷ g ∷ h ∷ []

-- `_`
abbrev pub endless : OperandTree
endless = rank_list (Infinite ∷ [])

-- a verb, a number, a character, a box, a list of no numbers, of no characters and of no boxes, and `_`
abbrev pub operands : List OperandTree
operands = row (verb plus) on_five letter box (nothing Number (0 ∷ [])) (nothing Character (0 ∷ [])) (nothing Boxed (0 ∷ [])) endless

-- the fault, or none where something is formed
abbrev pub said : Result EntityTree Fault → Option Fault
said (Ok e) = None
said (Err e) = Some e

-- what an adverb says of each operand
abbrev pub said_alone : Modifier → List (Option Fault)
said_alone a = map (λ u. said (adverb_of (modifier a) u)) operands

-- what a conjunction says of each left operand, a row each, and each right one
abbrev pub said_between : Modifier → List (List (Option Fault))
said_between c = map (λ u. map (λ v. said (conjunction_of (modifier c) u v)) operands) operands

-- what stands in the tables: something is formed, or one of the faults
abbrev pub formed : Option Fault
formed = None

abbrev pub domain : Option Fault
domain = Some fault.Domain

abbrev pub rank : Option Fault
rank = Some fault.Rank

abbrev pub length : Option Fault
length = Some fault.Length

abbrev pub nonce : Option Fault
nonce = Some fault.Nonce
