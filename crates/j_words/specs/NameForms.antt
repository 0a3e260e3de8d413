-- What a name is, with the place where its parts meet.
use Rattle.std.specs.Prelude.{ℕ, ◌+◌, ◌-◌, ◌<◌, cond, List, length, take, Option, Some, None, option_map}
use Rattle.j_words.specs.Names.{has_name_bytes, last_low, double_at, is_simple, is_direct, is_object}
use Rattle.j_words.specs.declared.names.NameForm.{NameForm}
use Rattle.j_words.specs.declared.names.NameForm.TheVariants.{Simple, Direct, Object}

-- A name is bytes of a name that are simple or a locative. Other bytes are none.
abbrev pub name_form : List ℕ → Option NameForm
name_form name =
    cond (has_name_bytes name)
    (cond (is_simple name) (Some Simple) (cond (is_direct name) (option_map Direct (last_low (take (length name - 1) name))) (cond (is_object name) (Some (Object (double_at name))) None)))
    None

-- behind the base of a locative stand two bytes that part, and one more
abbrev pub EndsWithin : ℕ → NameForm → Type 0
EndsWithin length Simple = Unit {0}
EndsWithin length (Direct n) = n + 2 < length
EndsWithin length (Object n) = n + 2 < length
