-- The names of a text, and an assignment to several names.
use Rattle.std.specs.Prelude.{ℕ, ◌+◌, ◌==◌, cond, Bool, List, [], ◌∷◌, length, Option, Some, None, Result, Ok, Err, option_map}
use Rattle.std.specs.Option.{option_and_then}
use Rattle.j_definitions.specs.Array.{Array, opened}
use Rattle.j_definitions.specs.Cells.{atom_at}
use Rattle.j_definitions.specs.declared.Fault.{Fault}
use Rattle.j_definitions.specs.declared.Fault.TheVariants.{Domain, Length}
use Rattle.j_entity.specs.Tree.{EntityTree, a_noun, a_verb, an_adverb, a_conjunction}
use Rattle.j_leaves.specs.Names.{NameParts, name_of}
use Rattle.j_names.specs.Locales.{bytes_in, is_text}
use Rattle.j_names.specs.Names.{Scopes, then_in, target_of, put}
use Rattle.j_names.specs.declared.target.Target.{Target}
use Rattle.j_numbers.specs.Numbers.{parts}
use Rattle.j_rank.specs.Cells.{cell}
use Rattle.j_verbs.specs.State.{Run, pure, or_fault, then_do, ◌>>=◌, Unit0}
use Rattle.j_eval.specs.Names.{set_name, with_names}

-- the names that parts are, where each is one
abbrev pub names_of : List (List ℕ) → Option (List NameParts)
names_of [] = Some []
names_of (part ∷ parts) = option_and_then (λ n. option_map (λ ns. n ∷ ns) (names_of parts)) (name_of part)

-- at least one
abbrev pub some_names : Option (List NameParts) → Result (List NameParts) Fault
some_names None = Err Domain
some_names (Some []) = Err Domain
some_names (Some (n ∷ ns)) = Ok (n ∷ ns)

-- the names of a character atom or list
abbrev pub text_names : Array → Result (List NameParts) Fault
text_names y = cond (is_text y.kind y.shape) (some_names (names_of (parts (bytes_in y.atoms)))) (Err Domain)

-- a box atom is opened
abbrev pub opened_at : List ℕ → Array → Array
opened_at [] y = opened (atom_at y.atoms 0)
opened_at (n ∷ s) y = y

abbrev pub opened_item : Array → Array
opened_item y = opened_at y.shape y

-- what each name is given: an atom goes to all of them, and else each gets its item
abbrev pub item_for : List ℕ → Array → ℕ → Array
item_for [] y k = opened_item y
item_for (n ∷ s) y k = opened_item (cell 1 y k)

abbrev pub fits_count : List ℕ → ℕ → Result Unit0 Fault
fits_count [] count = Ok tt
fits_count (n ∷ s) count = cond (n == count) (Ok tt) (Err Length)

-- the targets of names, of which the leftmost fault decides
abbrev pub targets_of : Bool → Scopes → List NameParts → Result (List Target) Fault
targets_of by_local names [] = Ok []
targets_of by_local names (n ∷ ns) = then_in (target_of by_local names n) (λ t. then_in (targets_of by_local names ns) (λ ts. Ok (t ∷ ts)))

-- each name is given its item, the first name first
abbrev pub put_items : Scopes → List NameParts → List Target → Array → ℕ → Scopes
put_items names [] ts y k = names
put_items names (n ∷ ns) [] y k = names
put_items names (n ∷ ns) (t ∷ ts) y k = put_items (put names t n.base (a_noun (item_for y.shape y k))) ns ts y (k + 1)

-- Several names: all is checked before the first is assigned.
abbrev pub assign_items : Bool → Scopes → List NameParts → Array → Result Scopes Fault
assign_items by_local names ns y =
    then_in (fits_count y.shape (length ns)) (λ u. then_in (targets_of by_local names ns) (λ ts. Ok (put_items names ns ts y 0)))

-- only nouns have items
abbrev pub assign_several : Bool → Scopes → List NameParts → EntityTree → Result Scopes Fault
assign_several by_local names ns (a_noun y) = assign_items by_local names ns y
assign_several by_local names ns (a_verb v) = Err Domain
assign_several by_local names ns (an_adverb a) = Err Domain
assign_several by_local names ns (a_conjunction c) = Err Domain

-- one name is given the whole entity
abbrev pub set_names : Bool → EntityTree → List NameParts → Run Unit0
set_names by_local e [] s = pure tt s
set_names by_local e (n ∷ []) s = set_name by_local n e s
set_names by_local e (n ∷ m ∷ ns) s = then_do (or_fault (assign_several by_local s.names (n ∷ m ∷ ns) e) s) with_names

-- the names of a text are given an entity
abbrev pub set_text : Bool → Array → EntityTree → Run Unit0
set_text by_local y e = or_fault (text_names y) >>= set_names by_local e
