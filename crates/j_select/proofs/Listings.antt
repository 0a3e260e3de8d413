-- Lists of all choices.
use Rattle.std.proofs.Common.{◌≡◌, ◌<◌, ◌≤◌, ◌+◌, ◌*◌, ℕ, List, [], ◌∷◌, ◌++◌, length, map, take, drop, get_or, arith, refl, sym, ap, ◌∙◌, subst, append_assoc, append-nil, Result, Err}
use Rattle.std.specs.List.{All, flat_map}
use Rattle.std.proofs.lemmas.List.{take_more, map_more, take_all, drop_more, length-map, nil_from_length}
use Rattle.std.proofs.lemmas.List.Elements.{All-nil, All-cons, All-append, All-head, All-tail}
use Rattle.std.proofs.lemmas.List.Concat.{flat_map-append}
use Rattle.j_definitions.specs.Array.{Array, Atom, boxed, product, IsNoun}
use Rattle.j_definitions.specs.Limits.{limited}
use Rattle.j_definitions.proofs.Limits.{limited-Err, many_beyond}
use Rattle.j_definitions.specs.declared.Fault.{Fault}
use Rattle.j_definitions.specs.declared.Fault.TheVariants.{Limit}
use Rattle.j_definitions.specs.declared.Kind.TheVariants.{Boxed}
use Rattle.j_definitions.specs.declared.Kind.{Kind}
use Rattle.j_rank.proofs.Products.{product_append}
use Rattle.j_indices.specs.Choices.{choices}
use Rattle.j_select.specs.Listed.{listed, kind_of_some}
use Rattle.j_select.specs.Catalogue.{kind_chosen, boxes_of_choices, catalogue_of}
use Rattle.j_indices.specs.Numbers.{and_then}
use Rattle.j_indices.proofs.Chosen.{map_map, map-flat_map, length-choices, flat_map-map}

-- the lists of all choices that begin with these elements
abbrev pub lists_from : {X : Type 0} → Kind → (X → Atom) → List X → List (List X) → List Array
lists_from k atom front rest = map (λ c. listed k (map atom (front ++ c))) (choices rest)

pub lists_parts : {X : Type 0} (k : Kind) (atom : X → Atom) (front xs : List X) (rest : List (List X)) → lists_from k atom front (xs ∷ rest) ≡ flat_map (λ x. lists_from k atom (front ++ x ∷ []) rest) xs
lists_parts {X = X} k atom front xs rest =
    let all : List (List X) = choices rest in
    let at : List X → Array = λ c. listed k (map atom (front ++ c)) in
    map-flat_map at (λ x. map (λ c. x ∷ c) all) xs ∙ (λ i. flat_map (λ x. map_map at (λ c. x ∷ c) all i) xs)
    ∙ sym (λ i. flat_map (λ x. map (λ c. listed k (map atom (append_assoc front (x ∷ []) c i))) all) xs)

-- a list of one element has no other choice
pub only_choice : {X : Type 0} (k : Kind) (atom : X → Atom) (front : List X) (x : X) (rest : List (List X)) → lists_from k atom front ((x ∷ []) ∷ rest) ≡ lists_from k atom (front ++ x ∷ []) rest
only_choice k atom front x rest = lists_parts k atom front (x ∷ []) rest ∙ append-nil (lists_from k atom (front ++ x ∷ []) rest)

pub one_is : {X : Type 0} (s : List X) (x : X) → 1 ≤ length s → length s < 2 → x ≡ get_or s 0 x → s ≡ x ∷ []
one_is [] x h g is = absurd (omega arith)
one_is (y ∷ []) x h g is = ap (λ z. z ∷ []) (sym is)
one_is (y ∷ z ∷ zs) x h g is = absurd (omega arith)

pub only_more : {V X : Type 0} (k : Kind) (atom : X → Atom) (items : V → List X) (front new : List X) (x : X) (v : V) (vs : List V) (i : ℕ) (start : List Array) → i < length vs → v ≡ get_or vs i v →
    items v ≡ x ∷ [] → new ≡ front ++ x ∷ [] → lists_from k atom front (map items (drop i vs)) ≡ start → lists_from k atom new (map items (drop (i + 1) vs)) ≡ start
only_more k atom items front new x v vs i start h is one more before =
    ap (λ f. lists_from k atom f (map items (drop (i + 1) vs))) more ∙ sym (only_choice k atom front x (map items (drop (i + 1) vs)))
    ∙ ap (λ p. lists_from k atom front (p ∷ map items (drop (i + 1) vs))) (sym one) ∙ ap (λ ws. lists_from k atom front (map items ws)) (sym (drop_more vs i v h ∙ ap (λ w. w ∷ drop (i + 1) vs) (sym is))) ∙ before

pub flat_more : {X Y : Type 0} (f : X → List Y) (xs : List X) (i : ℕ) (x : X) (out mid new : List Y) → i < length xs → x ≡ get_or xs i x → mid ≡ out ++ flat_map f (take i xs) → new ≡ mid ++ f x →
    new ≡ out ++ flat_map f (take (i + 1) xs)
flat_more f xs i x out mid new h is before more =
    more ∙ ap (λ r. r ++ f x) before ∙ append_assoc out (flat_map f (take i xs)) (f x)
    ∙ ap (λ r. out ++ r) (ap (λ r. flat_map f (take i xs) ++ r) (sym (append-nil (f x))) ∙ sym (flat_map-append f (take i xs) (x ∷ [])) ∙ ap (flat_map f) (ap (λ y. take i xs ++ y ∷ []) is ∙ sym (take_more xs i x h)))

-- choices of elements and of the atoms that they are
pub choices-map : {X Y : Type 0} (f : X → Y) (xss : List (List X)) → choices (map (map f) xss) ≡ map (map f) (choices xss)
choices-map f [] = refl
choices-map f (xs ∷ rest) =
    ap (λ r. flat_map (λ y. map (λ c. y ∷ c) r) (map f xs)) (choices-map f rest) ∙ flat_map-map (λ y. map (λ c. y ∷ c) (map (map f) (choices rest))) f xs
    ∙ (λ i. flat_map (λ x. map_map (λ c. f x ∷ c) (map f) (choices rest) i) xs)
    ∙ sym (λ i. flat_map (λ x. map_map (map f) (λ c. x ∷ c) (choices rest) i) xs) ∙ sym (map-flat_map (map f) (λ x. map (λ c. x ∷ c) (choices rest)) xs)

-- as many choices as the shapes joined have places
pub joined_size : (contents : List Array) → product (flat_map (λ (a : Array). a.shape) contents) ≡ product (map (λ (a : Array). product a.shape) contents)
joined_size [] = refl
joined_size (a ∷ contents) = product_append a.shape (flat_map (λ (b : Array). b.shape) contents) ∙ ap (λ p. product a.shape * p) (joined_size contents)

pub choices_size : (contents : List Array) → length (choices (map (λ (a : Array). a.atoms) contents)) ≡ product (map (λ (a : Array). length a.atoms) contents)
choices_size contents = length-choices (map (λ (a : Array). a.atoms) contents) ∙ ap product (map_map (λ (xs : List Atom). length xs) (λ (a : Array). a.atoms) contents)

pub lists_all : {X : Type 0} (k : Kind) (atom : X → Atom) (front xs : List X) (i : ℕ) (out mid : List Array) (rest xss : List (List X)) → xss ≡ xs ∷ rest → length xs ≤ i →
    mid ≡ out ++ flat_map (λ x. lists_from k atom (front ++ x ∷ []) rest) (take i xs) → mid ≡ out ++ lists_from k atom front xss
lists_all k atom front xs i out mid rest xss split ended before =
    before ∙ ap (λ ys. out ++ flat_map (λ x. lists_from k atom (front ++ x ∷ []) rest) ys) (take_all i xs ended) ∙ ap (λ r. out ++ r) (sym (lists_parts k atom front xs rest))
    ∙ ap (λ yss. out ++ lists_from k atom front yss) (sym split)

pub chosen_all : {X : Type 0} (k : Kind) (atom : X → Atom) (lists : List (List X)) (contents : List Array) (old new : List Array) → old ≡ [] → new ≡ old ++ lists_from k atom [] lists →
    map (map atom) lists ≡ map (λ (a : Array). a.atoms) contents → new ≡ map (listed k) (choices (map (λ (a : Array). a.atoms) contents))
chosen_all k atom lists contents old new none e are =
    e ∙ ap (λ r. r ++ lists_from k atom [] lists) none ∙ sym (map_map (listed k) (map atom) (choices lists)) ∙ ap (map (listed k)) (sym (choices-map atom lists) ∙ ap choices are)

-- the kind where there are choices
some_kind : (k : Kind) (contents : List Array) (chosen : List (List Atom)) → 0 < length chosen → kind_chosen k contents chosen ≡ kind_of_some k contents
some_kind k [] chosen h = refl
some_kind k (a ∷ contents) [] h = absurd (omega arith)
some_kind k (a ∷ contents) (c ∷ chosen) h = refl

abbrev all_chosen : List Array → List (List Atom)
all_chosen contents = choices (map (λ (a : Array). a.atoms) contents)

abbrev in_boxes : List Array → Kind → Result Array Fault
in_boxes contents j = limited (boxes_of_choices contents (all_chosen contents) j)

pub catalogue_kind : (k : Kind) (contents : List Array) (r : Result Kind Fault) → 0 < length (choices (map (λ (a : Array). a.atoms) contents)) → kind_of_some k contents ≡ r → catalogue_of k contents ≡ and_then r (in_boxes contents)
catalogue_kind k contents r some e = ap (λ (s : Result Kind Fault). and_then s (in_boxes contents)) (some_kind k contents (all_chosen contents) some ∙ e)

pub chosen_beyond : (contents : List Array) (j : Kind) → 4194304 < length (choices (map (λ (a : Array). a.atoms) contents)) → limited (boxes_of_choices contents (choices (map (λ (a : Array). a.atoms) contents)) j) ≡ Err Limit
chosen_beyond contents j many = many_beyond (boxes_of_choices contents (all_chosen contents) j) (omega (arith, many, length-map (all_chosen contents) (λ c. boxed (listed j c))))

pub chosen_long : (contents : List Array) (j : Kind) → 32 < length (flat_map (λ (a : Array). a.shape) contents) → limited (boxes_of_choices contents (choices (map (λ (a : Array). a.atoms) contents)) j) ≡ Err Limit
chosen_long contents j long = limited-Err (boxes_of_choices contents (all_chosen contents) j) (λ w. omega (arith, w.rank, long))

-- no choices
abbrev pub bare_boxes : List ℕ → Array
bare_boxes s = record { kind = Boxed; shape = s; atoms = [] }

pub no_choice : (k : Kind) (contents : List Array) → length (choices (map (λ (a : Array). a.atoms) contents)) ≡ 0 → catalogue_of k contents ≡ limited (bare_boxes (flat_map (λ (a : Array). a.shape) contents))
no_choice k [] e = absurd (omega arith)
no_choice k (a ∷ contents) e =
    ap (λ (chosen : List (List Atom)). and_then (kind_chosen k (a ∷ contents) chosen) (λ j. limited (boxes_of_choices (a ∷ contents) chosen j))) (nil_from_length (all_chosen (a ∷ contents)) e)

pub bare_long : (s : List ℕ) → 32 < length s → limited (bare_boxes s) ≡ Err Limit
bare_long s long = limited-Err (bare_boxes s) (λ w. omega (arith, w.rank, long))

sizes_are : (contents : List Array) → All IsNoun contents → map (λ (a : Array). length a.atoms) contents ≡ map (λ (a : Array). product a.shape) contents
sizes_are [] nouns = refl
sizes_are (a ∷ contents) nouns =
    let first = All-head IsNoun a contents nouns in
    ap (λ n. n ∷ map (λ (b : Array). length b.atoms) contents) first.as_many ∙ ap (λ r. product a.shape ∷ r) (sizes_are contents (All-tail IsNoun a contents nouns))

-- the shapes joined have a place for each choice
pub frame_size : (contents : List Array) → All IsNoun contents → length (choices (map (λ (a : Array). a.atoms) contents)) ≡ product (flat_map (λ (a : Array). a.shape) contents)
frame_size contents nouns = choices_size contents ∙ ap product (sizes_are contents nouns) ∙ sym (joined_size contents)

-- one more noun
pub nouns_more : (contents : List Array) (i : ℕ) (a : Array) → i < length contents → a ≡ get_or contents i a → IsNoun a → All IsNoun (take i contents) → All IsNoun (take (i + 1) contents)
nouns_more contents i a h is noun before =
    let more : take (i + 1) contents ≡ take i contents ++ a ∷ [] = take_more contents i a h ∙ ap (λ b. take i contents ++ b ∷ []) (sym is) in
    subst (All IsNoun) (sym more) (All-append IsNoun (take i contents) (a ∷ []) before (All-cons IsNoun a [] noun (All-nil IsNoun)))

pub sizes_more : (contents : List Array) (i : ℕ) (a : Array) (n : ℕ) (old new : List ℕ) → i < length contents → a ≡ get_or contents i a → n ≡ length a.atoms → old ≡ map (λ (b : Array). length b.atoms) (take i contents) → new ≡ old ++ n ∷ [] →
    new ≡ map (λ (b : Array). length b.atoms) (take (i + 1) contents)
sizes_more contents i a n old new h is many before more =
    more ∙ ap (λ r. r ++ n ∷ []) before ∙ ap (λ m. map (λ (b : Array). length b.atoms) (take i contents) ++ m ∷ []) (many ∙ ap (λ (b : Array). length b.atoms) is)
    ∙ sym (map_more (λ (b : Array). length b.atoms) contents i a h)
