-- The names of a run: what each locale holds, the locals of the definitions that run, and the current locale.
use Rattle.std.specs.Prelude.{◌≡◌, ℕ, Bool, true, false, List, [], ◌∷◌, Option, Some, None, Result, Ok, Err, codes}
use Rattle.std.specs.Ordering.{nat_cmp, on}
use Rattle.std.specs.declared.cmp.Ordering.{Ordering}
use Rattle.std.specs.Option.{is_some, option_or}
use Rattle.std.specs.Cmp.Lexicographic.{slice_cmp}
use Rattle.std.specs.FinMap as map
use Rattle.j_definitions.specs.declared.Fault.{Fault}
use Rattle.j_definitions.specs.declared.Fault.TheVariants.{Value, Domain}
use Rattle.j_noun.specs.declared.refusal.Refusal.{Refusal}
use Rattle.j_noun.specs.declared.refusal.Refusal.TheVariants.{Fault as RefusedFault, NoMemory}
use Rattle.j_leaves.specs.Names.{NameParts}
use Rattle.j_leaves.specs.declared.name.Place.{Place}
use Rattle.j_leaves.specs.declared.name.Place.TheVariants as place
use Rattle.j_leaves.specs.declared.primitive.Primitive.TheVariants as p
use Rattle.j_entity.specs.Tree.{EntityTree, primitive, a_noun, a_verb, an_adverb, a_conjunction}
use Rattle.j_names.specs.Locales.{locale_boxed}
use Rattle.j_names.specs.declared.target.Target.{Target}
use Rattle.j_names.specs.declared.target.Target.TheVariants as target

-- A row of a locale is found by the locale and the name.
abbrev pub Key : Type 0
Key = List ℕ × List ℕ

abbrev pub key_texts : Key → List (List ℕ)
key_texts k = k.0 ∷ k.1 ∷ []

abbrev pub key_cmp : Key → Key → Ordering
key_cmp = on key_texts (slice_cmp (slice_cmp nat_cmp))

abbrev pub LocaleRows : Type 0
LocaleRows = map.FinMap key_cmp EntityTree

-- the locals of a definition, by their names
abbrev pub Locals : Type 0
Locals = map.FinMap (slice_cmp nat_cmp) EntityTree

-- The rows of the locales, the locals of each definition that runs, the innermost first, and the current locale. The level is the number of these definitions.
pub record Scopes : Type 0 where
  pub rows : LocaleRows
  pub locals : List Locals
  pub current : List ℕ

abbrev pub base_locale : List ℕ
base_locale = codes "base"

-- where each locale's look-up ends
abbrev pub z_locale : List ℕ
z_locale = codes "z"

-- the verbs that `z` holds from the start
abbrev pub built_in : LocaleRows
built_in = map.from_entries (((z_locale, codes "cocurrent"), a_verb (primitive p.Cocurrent)) ∷ ((z_locale, codes "echo"), a_verb (primitive p.Echo)) ∷ [])

-- the names of a run that begins
abbrev pub begun : Scopes
begun = record { rows = built_in; locals = []; current = base_locale }

-- what the innermost definition's locals hold
abbrev pub local_in : List Locals → List ℕ → Option EntityTree
local_in [] n = None
local_in (l ∷ outer) n = map.get l n

abbrev pub local : Scopes → List ℕ → Option EntityTree
local s n = local_in s.locals n

-- through a locale, and then `z`
abbrev pub through : Scopes → List ℕ → List ℕ → Option EntityTree
through s l n = option_or (map.get s.rows (l, n)) (map.get s.rows (z_locale, n))

-- A simple name is looked up among the locals of the running definition, in the current locale and in `z`.
abbrev pub simple : Scopes → List ℕ → Option EntityTree
simple s n = option_or (local s n) (through s s.current n)

abbrev pub boxed_or_domain : Option (List ℕ) → Result (List ℕ) Fault
boxed_or_domain None = Err Domain
boxed_or_domain (Some l) = Ok l

-- the locale that an object is: a box of a locale's name
abbrev pub locale_held : Option EntityTree → Result (List ℕ) Fault
locale_held None = Err Value
locale_held (Some (a_noun y)) = boxed_or_domain (locale_boxed y)
locale_held (Some (a_verb v)) = Err Domain
locale_held (Some (an_adverb a)) = Err Domain
locale_held (Some (a_conjunction c)) = Err Domain

abbrev pub then_in : {A B : Type 0} → Result A Fault → (A → Result B Fault) → Result B Fault
then_in (Ok a) go = go a
then_in (Err f) go = Err f

-- The locale that a locative names. The object of one is looked up as a simple name.
abbrev pub locale_at : Scopes → Place → Result (Option (List ℕ)) Fault
locale_at s place.Here = Ok None
locale_at s (place.Locale l) = Ok (Some l)
locale_at s (place.Object o) = then_in (locale_held (simple s o)) (λ l. Ok (Some l))

abbrev pub looked : Scopes → List ℕ → Option (List ℕ) → Option EntityTree
looked s n None = simple s n
looked s n (Some l) = through s l n

-- what a name holds
abbrev pub look : Scopes → NameParts → Result (Option EntityTree) Fault
look s n = then_in (locale_at s n.place) (λ l. Ok (looked s n.base l))

abbrev pub local_target : List Locals → Target
local_target [] = target.Current
local_target (l ∷ outer) = target.Local

abbrev pub global_target : Option EntityTree → Result Target Fault
global_target None = Ok target.Current
global_target (Some e) = Err Domain

-- Where `=.` and `=:` put a simple name. At the top both assign in the current locale; a local isn't assigned by `=:`.
abbrev pub simple_target : Bool → List Locals → List ℕ → Result Target Fault
simple_target true ls n = Ok (local_target ls)
simple_target false ls n = global_target (local_in ls n)

abbrev pub target_in : Bool → Scopes → List ℕ → Option (List ℕ) → Result Target Fault
target_in by_local s n None = simple_target by_local s.locals n
target_in by_local s n (Some l) = Ok (target.Locale l)

-- where a copula puts what a name is given, and whether the copula is `=.`
abbrev pub target_of : Bool → Scopes → NameParts → Result Target Fault
target_of by_local s n = then_in (locale_at s n.place) (target_in by_local s n.base)

abbrev pub put_local : List Locals → List ℕ → EntityTree → List Locals
put_local [] n e = []
put_local (l ∷ outer) n e = map.insert l n e ∷ outer

-- the names after one is given an entity at a target
abbrev pub put : Scopes → Target → List ℕ → EntityTree → Scopes
put s target.Local n e = record s { locals = put_local s.locals n e }
put s target.Current n e = record s { rows = map.insert s.rows (s.current, n) e }
put s (target.Locale l) n e = record s { rows = map.insert s.rows (l, n) e }

-- what a target holds under a name
abbrev pub held_at : Scopes → Target → List ℕ → Option EntityTree
held_at s target.Local n = local s n
held_at s target.Current n = map.get s.rows (s.current, n)
held_at s (target.Locale l) n = map.get s.rows (l, n)

-- the names after an assignment
abbrev pub assign : Bool → Scopes → NameParts → EntityTree → Result Scopes Fault
assign by_local s n e = then_in (target_of by_local s n) (λ t. Ok (put s t n.base e))

-- a definition begins, without locals
abbrev pub entered : Scopes → Scopes
entered s = record s { locals = map.empty ∷ s.locals }

abbrev pub without_first : List Locals → List Locals
without_first [] = []
without_first (l ∷ outer) = outer

-- the innermost definition ends, and its locals go
abbrev pub left : Scopes → Scopes
left s = record s { locals = without_first s.locals }

abbrev pub switched : Scopes → List ℕ → Scopes
switched s l = record s { current = l }

-- whether a name is a local of the running definition
abbrev pub is_local_at : Scopes → List ℕ → Place → Bool
is_local_at s n place.Here = is_some (local s n)
is_local_at s n (place.Locale l) = false
is_local_at s n (place.Object o) = false

-- the fault of a part, or want of memory where it has none
abbrev pub IsRefused : {A : Type 0} → Result A Fault → Refusal → Type 0
IsRefused (Err f) r = r ≡ RefusedFault f
IsRefused (Ok a) r = r ≡ NoMemory
