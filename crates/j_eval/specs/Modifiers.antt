-- What each modifier's verb does. Where a word isn't an adverb or isn't a conjunction no row forms the verb.
use Rattle.j_leaves.specs.declared.modifier.Modifier.{Modifier}
use Rattle.j_leaves.specs.declared.modifier.Modifier.TheVariants as m
use Rattle.j_trains.specs.Modifiers.{adverb_fault, conjunction_fault}
use Rattle.j_verbs.specs.ByRank.{Doing}
use Rattle.j_eval.specs.Operands.{Operand, unformed, where_formed}
use Rattle.j_eval.specs.Insertion.{insert, inner_product}
use Rattle.j_eval.specs.Amending.{amend}
use Rattle.j_eval.specs.Compositions.{at, over, bond, passive, under}
use Rattle.j_eval.specs.Pieces.{prefix, suffix, oblique, cut}
use Rattle.j_eval.specs.Powers.{power}
use Rattle.j_eval.specs.Ranked.{rank}

abbrev pub modified : Modifier → Operand → Doing
modified m.Insert u = insert u
modified m.Prefix u = prefix u
modified m.Suffix u = suffix u
modified m.Oblique u = oblique u
modified m.Passive u = passive u
modified m.Amend u = amend u
modified m.Cut u = unformed
modified m.Rank u = unformed
modified m.Atop u = unformed
modified m.At u = unformed
modified m.Bond u = unformed
modified m.Appose u = unformed
modified m.Under u = unformed
modified m.PowerOf u = unformed
modified m.Product u = unformed
modified m.Adverse u = unformed
modified m.Monadic u = unformed

abbrev pub joined : Modifier → Operand → Operand → Doing
joined m.Cut u v = cut u v
joined m.Rank u v = rank u
joined m.Atop u v = at u v
joined m.At u v = at u v
joined m.Bond u v = bond u v
joined m.Appose u v = over u v
joined m.Under u v = under u v
joined m.PowerOf u v = power u v
joined m.Product u v = inner_product u v
joined m.Adverse u v = unformed
joined m.Monadic u v = unformed
joined m.Insert u v = unformed
joined m.Prefix u v = unformed
joined m.Suffix u v = unformed
joined m.Oblique u v = unformed
joined m.Passive u v = unformed
joined m.Amend u v = unformed

-- the verb that an adverb made of its operand
abbrev pub adverb : Modifier → Operand → Doing
adverb m u = where_formed (adverb_fault m u.tree) (modified m u)

-- the verb that a conjunction made of its operands
abbrev pub conjunction : Modifier → Operand → Operand → Doing
conjunction m u v = where_formed (conjunction_fault m u.tree v.tree) (joined m u v)
