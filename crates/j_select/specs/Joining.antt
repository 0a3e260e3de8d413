-- The kind of two nouns.
use Rattle.std.specs.Prelude.{Bool, cond, Option, Some, None}
use Rattle.j_definitions.specs.declared.Kind.{Kind}
use Rattle.j_rank.specs.Assembly.{same_kind}

-- of two nouns, each with atoms or bare
abbrev pub two_kinds : Kind → Kind → Bool → Bool → Option Kind
two_kinds j k j_is_bare k_is_bare = cond j_is_bare (cond k_is_bare (Some j) (Some k)) (cond k_is_bare (Some j) (cond (same_kind j k) (Some j) None))
