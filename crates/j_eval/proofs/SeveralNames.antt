-- Names of a text, their targets, and what each is given, one after another.
use Rattle.std.proofs.Common.{◌≡◌, ◌<◌, ℕ, ◌+◌, ◌++◌, [], ◌∷◌, Bool, List, Option, Some, None, Result, Ok, Err, length, drop, get_or, option_map, ap, sym, ◌∙◌, refl, subst, arith}
use Rattle.std.specs.Option.{option_and_then}
use Rattle.std.proofs.lemmas.List.{append_assoc, append-nil, drop_more}
use Rattle.std.proofs.Math.Seq.{drop-length}
use Rattle.j_definitions.specs.Array.{Array}
use Rattle.j_definitions.specs.declared.Fault.{Fault}
use Rattle.j_entity.specs.Tree.{a_noun}
use Rattle.j_leaves.specs.Names.{NameParts, name_of}
use Rattle.j_names.specs.Names.{Scopes, then_in, target_of, put}
use Rattle.j_names.specs.declared.target.Target.{Target}
use Rattle.j_verbs.specs.State.{State, Gave, or_fault}
use Rattle.j_eval.specs.declared.outcome.Halt.{Halt}
use Rattle.j_eval.specs.declared.outcome.Halt.TheVariants as halt
use Rattle.j_eval.specs.Meets.{Running, Meets, MeetsAs}
use Rattle.j_eval.specs.Several.{names_of, targets_of, item_for, put_items}

-- so far all parts are names
pub all_named : (o : Option (List NameParts)) → o ≡ option_map (λ ns. [] ++ ns) o
all_named None = refl
all_named (Some ns) = refl

onto : (front : List NameParts) (n : NameParts) (o : Option (List NameParts)) → option_map (λ ns. front ++ ns) (option_map (λ ns. n ∷ ns) o) ≡ option_map (λ ns. (front ++ n ∷ []) ++ ns) o
onto front n None = refl
onto front n (Some ns) = ap Some (sym (append_assoc front (n ∷ []) ns))

-- the next part is a name
pub one_more : (front : List NameParts) (n : NameParts) (part : List ℕ) (all ps : List (List ℕ)) → all ≡ part ∷ ps → name_of part ≡ Some n → option_map (λ ns. front ++ ns) (names_of all) ≡ option_map (λ ns. (front ++ n ∷ []) ++ ns) (names_of ps)
one_more front n part all ps e s =
    ap (λ qs. option_map (λ ns. front ++ ns) (names_of qs)) e
    ∙ ap (λ (o : Option NameParts). option_map (λ ns. front ++ ns) (option_and_then (λ n. option_map (λ ns. n ∷ ns) (names_of ps)) o)) s
    ∙ onto front n (names_of ps)

-- the next part is none
pub no_name : (front : List NameParts) (part : List ℕ) (all ps : List (List ℕ)) → all ≡ part ∷ ps → name_of part ≡ None → option_map (λ ns. front ++ ns) (names_of all) ≡ None
no_name front part all ps e s =
    ap (λ qs. option_map (λ ns. front ++ ns) (names_of qs)) e
    ∙ ap (λ (o : Option NameParts). option_map (λ ns. front ++ ns) (option_and_then (λ n. option_map (λ ns. n ∷ ns) (names_of ps)) o)) s

-- there are no more parts
pub none_more : (front : List NameParts) (all : List (List ℕ)) → all ≡ [] → option_map (λ ns. front ++ ns) (names_of all) ≡ Some front
none_more front all e = ap (λ qs. option_map (λ ns. front ++ ns) (names_of qs)) e ∙ ap Some (append-nil front)

-- targets behind others
abbrev pub behind : List Target → Result (List Target) Fault → Result (List Target) Fault
behind front r = then_in r (λ ts. Ok (front ++ ts))

pub all_targets : (r : Result (List Target) Fault) → r ≡ behind [] r
all_targets (Ok ts) = refl
all_targets (Err f) = refl

onto_targets : (front : List Target) (t : Target) (r : Result (List Target) Fault) → behind front (then_in r (λ ts. Ok (t ∷ ts))) ≡ behind (front ++ t ∷ []) r
onto_targets front t (Err f) = refl
onto_targets front t (Ok ts) = ap Ok (sym (append_assoc front (t ∷ []) ts))

next_target : (local : Bool) (names : Scopes) (front : List Target) (n : NameParts) (ns : List NameParts) (t : Target) → target_of local names n ≡ Ok t → behind front (targets_of local names (n ∷ ns)) ≡ behind (front ++ t ∷ []) (targets_of local names ns)
next_target local names front n ns t e = ap (λ (r : Result Target Fault). behind front (then_in r (λ t. then_in (targets_of local names ns) (λ ts. Ok (t ∷ ts))))) e ∙ onto_targets front t (targets_of local names ns)

gave_target : (r : Result Target Fault) (s u : State) (t : Target) → or_fault r s ≡ Gave t u → r ≡ Ok t
gave_target (Ok t) s u v e = cc
gave_target (Err f) s u v e = absurd (cc)

next : {X : Type 0} (xs : List X) (i : ℕ) (x d : X) → i < length xs → x ≡ get_or xs i d → drop i xs ≡ x ∷ drop (i + 1) xs
next xs i x d l is = drop_more xs i d l ∙ ap (λ y. y ∷ drop (i + 1) xs) (sym is)

-- the next name has a target
pub more_targets : (local : Bool) (names : Scopes) (front : List Target) (ns : List NameParts) (i : ℕ) (n : NameParts) (s u : State) (t : Target) → i < length ns → n ≡ get_or ns i n → or_fault (target_of local names n) s ≡ Gave t u
    → behind front (targets_of local names (drop i ns)) ≡ behind (front ++ t ∷ []) (targets_of local names (drop (i + 1) ns))
more_targets local names front ns i n s u t l is e =
    ap (λ ns. behind front (targets_of local names ns)) (next ns i n n l is)
    ∙ next_target local names front n (drop (i + 1) ns) t (gave_target (target_of local names n) s u t e)

fault_first : {A : Type 0} (f : A → List Target) (e : Halt) (m : Running) (front : List Target) (q : Result Target Fault) (go : Target → Result (List Target) Fault) → Meets {A = Target} (Err e) m (or_fault q m.state) → MeetsAs f (Err e) m (or_fault (behind front (then_in q go)) m.state)
fault_first f (halt.Failed x) m front (Ok t) go h = absurd (cc)
fault_first f (halt.Failed x) m front (Err g) go h = cc
fault_first f halt.Spent m front (Ok t) go h = absurd (cc)
fault_first f halt.Spent m front (Err g) go h = absurd (cc)
fault_first f halt.NoMemory m front q go h = tt

-- the next name has none
pub no_target : {A : Type 0} (f : A → List Target) (e : Halt) (m : Running) (local : Bool) (names : Scopes) (front : List Target) (ns : List NameParts) (i : ℕ) (n : NameParts) (all : Result (List Target) Fault) → i < length ns → n ≡ get_or ns i n
    → all ≡ behind front (targets_of local names (drop i ns)) → Meets {A = Target} (Err e) m (or_fault (target_of local names n) m.state) → MeetsAs f (Err e) m (or_fault all m.state)
no_target f e m local names front ns i n all l at is h =
    subst (λ (r : Result (List Target) Fault). MeetsAs f (Err e) m (or_fault r m.state)) (sym (is ∙ ap (λ ns. behind front (targets_of local names ns)) (next ns i n n l at)))
    (fault_first f e m front (target_of local names n) (λ t. then_in (targets_of local names (drop (i + 1) ns)) (λ ts. Ok (t ∷ ts))) h)

-- all names have one
pub no_more_targets : (local : Bool) (names : Scopes) (front : List Target) (ns : List NameParts) → behind front (targets_of local names (drop (length ns) ns)) ≡ Ok front
no_more_targets local names front ns = ap (λ ns. behind front (targets_of local names ns)) (drop-length ns) ∙ ap Ok (append-nil front)

-- the next name is given its item
pub put_more : (names : Scopes) (ns : List NameParts) (ts : List Target) (y : Array) (i : ℕ) (n d : NameParts) (t u : Target) → i < length ns → length ts ≡ length ns → n ≡ get_or ns i d → t ≡ get_or ts i u
    → put_items names (drop i ns) (drop i ts) y i ≡ put_items (put names t n.base (a_noun (item_for y.shape y i))) (drop (i + 1) ns) (drop (i + 1) ts) y (i + 1)
put_more names ns ts y i n d t u l e is at =
    ap (λ ns. put_items names ns (drop i ts) y i) (next ns i n d l is)
    ∙ ap (λ ts. put_items names (n ∷ drop (i + 1) ns) ts y i) (next ts i t u (omega (arith, l, e)) at)

-- all names are given theirs
pub put_all : (names : Scopes) (ns : List NameParts) (ts : List Target) (y : Array) → put_items names (drop (length ns) ns) (drop (length ns) ts) y (length ns) ≡ names
put_all names ns ts y = ap (λ xs. put_items names xs (drop (length ns) ts) y (length ns)) (drop-length ns)

-- one name alone
pub one_name : (ns : List NameParts) (n d : NameParts) → 0 < length ns → length ns < 2 → n ≡ get_or ns 0 d → ns ≡ n ∷ []
one_name [] n d l m is = absurd (omega arith)
one_name (k ∷ []) n d l m is = ap (λ x. x ∷ []) (sym is)
one_name (k ∷ j ∷ ns) n d l m is = absurd (omega arith)
