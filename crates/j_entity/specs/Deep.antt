-- Each part is less deep than the whole.
use Rattle.std.specs.Prelude.{◌≤◌, ◌+◌, suc, max, List, [], ◌∷◌, map, Option, Some, None}
use Rattle.std.proofs.Common.{arith}
use denote.Param.Weighed.{most}
use Rattle.j_entity.specs.Tree.{verb_depth, operand_depth, operator_depth, sentence_depth, sentences_depth, part_depth, word_depth, entity_depth, body_depth, WordTree}
use Rattle.j_entity.specs.View.{verb_of, operand_of, operator_of, entity_of, word_of, words_tree, sentences_of, part_of, held_of}
use Rattle.j_entity.specs.declared.entity.Body.TheDeep.{deep-VerbForm, deep-Parts, deep-Operand, deep-OperatorForm, deep-OperatorParts, deep-Entity, deep-Item, deep-Part, deep-Held}
use Rattle.j_entity.specs.declared.entity.Body.TheShapes.{weighed-BodyParts-monad}
use Rattle.j_entity.specs.Kept.{formed_verb, formed_operator}
use Rattle.j_entity.specs.declared.entity.VerbForm.{VerbForm}
use Rattle.j_entity.specs.declared.entity.VerbForm.TheVariants as vf
use Rattle.j_entity.specs.declared.entity.OperatorForm.{OperatorForm}
use Rattle.j_entity.specs.declared.entity.OperatorForm.TheVariants as of
use Rattle.j_entity.specs.declared.entity.Held.{Held}
use Rattle.j_entity.specs.declared.entity.Held.TheVariants as h
use Rattle.j_entity.specs.declared.entity.Parts.{Parts}
use Rattle.j_entity.specs.declared.entity.Parts.TheVariants as v
use Rattle.j_entity.specs.declared.entity.Operand.{Operand}
use Rattle.j_entity.specs.declared.entity.Operand.TheVariants as u
use Rattle.j_entity.specs.declared.entity.OperatorParts.{OperatorParts}
use Rattle.j_entity.specs.declared.entity.OperatorParts.TheVariants as o
use Rattle.j_entity.specs.declared.entity.Entity.{Entity}
use Rattle.j_entity.specs.declared.entity.Entity.TheVariants as e
use Rattle.j_entity.specs.declared.entity.Item.{Item}
use Rattle.j_entity.specs.declared.entity.Item.TheVariants as i
use Rattle.j_entity.specs.declared.entity.Part.{Part}

operand_falls : (u : Operand) → deep-Operand u ≤ suc (operand_depth (operand_of u))
operand_falls (u.Verb v) = omega arith
operand_falls (u.Noun n) = omega arith
operand_falls (u.Ranks l) = omega arith

parts_fall : (p : Parts) → max (deep-Parts p) 0 ≤ verb_depth (verb_of p)
parts_fall (v.Primitive p) = omega arith
parts_fall (v.Named n r) = omega arith
parts_fall (v.Fork f g h) = omega arith
parts_fall (v.NounFork n g h) = omega arith
parts_fall (v.Hook g h) = omega arith
parts_fall (v.Derived m u) = omega (arith, operand_falls u)
parts_fall (v.Derived2 m u v) = omega (arith, operand_falls u, operand_falls v)
parts_fall (v.Explicit b) = omega arith
parts_fall (v.Explicit1 b u) = omega (arith, operand_falls u)
parts_fall (v.Explicit2 b u v) = omega (arith, operand_falls u, operand_falls v)

operator_parts_fall : (p : OperatorParts) → max (deep-OperatorParts p) 0 ≤ operator_depth (operator_of p)
operator_parts_fall (o.Primitive m) = omega arith
operator_parts_fall (o.Both a b) = omega arith
operator_parts_fall (o.Right c u) = omega (arith, operand_falls u)
operator_parts_fall (o.Left u c) = omega (arith, operand_falls u)
operator_parts_fall (o.Explicit b) = omega arith

pub verb_falls : (f : VerbForm) → max (deep-VerbForm f) 0 ≤ verb_depth (formed_verb f)
verb_falls (vf.Primitive p) = omega arith
verb_falls (vf.Made made) = omega (arith, parts_fall made.value.parts)

pub operator_falls : (f : OperatorForm) → max (deep-OperatorForm f) 0 ≤ operator_depth (formed_operator f)
operator_falls (of.Primitive m) = omega arith
operator_falls (of.Made made) = omega (arith, operator_parts_fall made.value.parts)

entity_falls : (e : Entity) → deep-Entity e ≤ suc (entity_depth (entity_of e))
entity_falls (e.Noun n) = omega arith
entity_falls (e.Verb v) = omega arith
entity_falls (e.Adverb a) = omega arith
entity_falls (e.Conjunction c) = omega arith

word_falls : (w : Item) → deep-Item w ≤ word_depth (word_of w)
word_falls (i.Entity e) = omega (arith, entity_falls e)
word_falls (i.Ranks l) = omega arith
word_falls (i.Name n) = omega arith
word_falls i.Local = omega arith
word_falls i.Global = omega arith
word_falls i.Open = omega arith
word_falls i.Close = omega arith

pub sentence_falls : (ws : List Item) → max (most deep-Item ws) 0 ≤ sentence_depth (words_tree (map word_of ws))
sentence_falls [] = omega arith
sentence_falls (w ∷ ws) = omega (arith, word_falls w, sentence_falls ws)

pub sentences_fall : (ss : List (List WordTree)) → most (λ s. sentence_depth (words_tree s) + 1) ss ≤ sentences_depth (sentences_of ss)
sentences_fall [] = omega arith
sentences_fall (s ∷ ss) = omega (arith, sentences_fall ss)

part_falls : (p : Option Part) → (weighed-BodyParts-monad).weight Part deep-Part p ≤ part_depth (part_of p)
part_falls None = omega arith
part_falls (Some p) = omega (arith, sentences_fall p.sentences.items)

pub held_falls : (h : Held) → max (deep-Held h) 0 ≤ body_depth (held_of h)
held_falls (h.Own b) = omega (arith, part_falls b.monad, part_falls b.dyad)
held_falls (h.Shared b) = omega (arith, part_falls b.value.monad, part_falls b.value.dyad)
