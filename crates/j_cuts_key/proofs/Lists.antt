-- The pieces that the code makes are those of the definitions.
use Rattle.std.proofs.Common.{◌≡◌, ◌<◌, ◌≤◌, ◌+◌, ◌*◌, ℕ, ℤ, pos, Bool, true, false, nat_eq, cond, List, [], ◌∷◌, length, map, take, drop, get_or, arith, refl, sym, ap, ◌∙◌, subst, Result, Ok, Err, IfOk, mul-one}
use Prim.Native.Nat.{zero, suc}
use Rattle.std.specs.List.{All, filter, flat_map}
use Rattle.std.specs.Ordering.{int_eq}
use Rattle.std.specs.declared.alloc.Global.{Global}
use Rattle.std.specs.declared.vec.Vec.{Vec}
use Rattle.std.proofs.lemmas.Bool.{eq-eqb, ne_eqb}
use Rattle.std.proofs.lemmas.List.{length-map, get_or-map, get_or_default}
use Rattle.std.proofs.lemmas.List.Elements.{All-get_or}
use Rattle.j_definitions.specs.Array.{Array, Atom, tally, product}
use Rattle.j_definitions.specs.Items.{part}
use Rattle.j_definitions.specs.Limits.{limited, is_within}
use Rattle.j_definitions.specs.declared.Fault.{Fault}
use Rattle.j_definitions.specs.declared.Fault.TheVariants.{Length, Limit}
use Rattle.j_search.specs.declared.cut.CutForm.{CutForm}
use Rattle.j_search.specs.Matching.{places}
use Rattle.j_search.specs.Kept.{lost_places, own_places}
use Rattle.j_search.proofs.Picks.{All-kept}
use Rattle.j_indices.specs.Selecting.{cells_at}
use Rattle.j_noun.specs.declared.refusal.Refusal.{Refusal}
use Rattle.j_noun.specs.declared.refusal.Refusal.TheVariants.{Fault as RefusedFault, NoMemory}
use Rattle.j_noun.specs.Refused.{OrWanting, OrWantingAs}
use Rattle.j_scans.specs.Pieced.{Pieced, items_at, pieces_at}
use Rattle.j_scans.proofs.Made.{piece_at}
use Rattle.j_cuts_key.specs.Obliques.{rows, columns, spread, line, lines, line_count, obliques}
use Rattle.j_cuts_key.specs.Keys.{keys, keyed}
use Rattle.j_cuts_key.specs.Cuts.{cut_places, pieces_between, and_then, frets_by, cuts_by}
use Rattle.j_cuts_key.specs.Kept.{linked, pieced, IsRising, IsKept, AreKept}
use Rattle.j_cuts_key.specs.declared.lines.Links.{Links}
use Rattle.j_cuts_key.specs.declared.lines.Lines.{Lines}
use Rattle.j_cuts_key.specs.declared.lines.Lines.TheVariants.{Obliques, Cuts, Keys}
use Rattle.j_cuts_key.proofs.Alike.{class_of, keys_linked}
use Rattle.j_cuts_key.proofs.Rising.{cuts_many}
use Rattle.j_cuts_key.proofs.Diagonals.{two_axes, lines_many, line_at}

-- a noun that is within the limits is itself
limited_by : (a b : Array) (w : Bool) → (let r : Result Array Fault = cond w (Ok a) (Err Limit) in r) ≡ Ok b → b ≡ a
limited_by a b true e = cc
limited_by a b false e = cc

pub limited_is : (a b : Array) → limited a ≡ Ok b → b ≡ a
limited_is a b e = limited_by a b (is_within a) e

-- the number of pieces
pub obliques_many : (y : Array) → length (obliques y).pieces ≡ line_count (rows y.shape) (columns y.shape)
obliques_many y = length-map (lines (rows y.shape) (columns y.shape)) (items_at (spread y)) ∙ lines_many (rows y.shape) (columns y.shape)

pub between_many : (form : CutForm) (fs : List ℕ) (y : Array) → length (pieces_between form fs y).pieces ≡ length fs
between_many form fs y = length-map (cut_places form (tally y.shape) fs) (items_at y) ∙ cuts_many form (tally y.shape) fs

pub linked_many : (y : Array) (zs : List ℤ) (fs : List ℕ) → length (pieces_at y (linked zs fs)).pieces ≡ length fs
linked_many y zs fs = length-map (linked zs fs) (items_at y) ∙ length-map fs (λ i. lost_places i zs)

-- the items at places among the cells behind n axes
abbrev pub picked : ℕ → Array → List ℕ → Array
picked n y ks = record { kind = y.kind; shape = length ks ∷ drop n y.shape; atoms = flat_map (part (product (drop n y.shape)) y.atoms) ks }

pub picked_is : (n : ℕ) (y : Array) (ks frame : List ℕ) (a : Array) → frame ≡ length ks ∷ [] → limited (cells_at frame n y ks) ≡ Ok a → a ≡ picked n y ks
picked_is n y ks frame a e is = limited_is (cells_at frame n y ks) a is ∙ ap (λ s. cells_at s n y ks) e

pub line_inside : (y : Array) (r c : ℕ) (ks : List ℕ) → r ≡ rows y.shape → c ≡ columns y.shape → All (λ k. k < r * c) ks → All (λ k. k < product (take 2 y.shape)) ks
line_inside y r c ks e g h =
    let same : r * c ≡ product (take 2 y.shape) = ap (λ n. n * c) e ∙ ap (λ n. rows y.shape * n) g ∙ sym (two_axes y.shape) in
    subst (λ (m : ℕ). All (λ k. k < m) ks) same h

pub line_there : (y : Array) (r c k : ℕ) → r ≡ rows y.shape → c ≡ columns y.shape → k < length (obliques y).pieces → k < line_count r c
line_there y r c k e g h =
    let there : k < line_count (rows y.shape) (columns y.shape) = omega (arith, obliques_many y) in
    subst (λ (n : ℕ). k < line_count n c) (sym e) (subst (λ (n : ℕ). k < line_count (rows y.shape) n) (sym g) there)

pub oblique_is : (y : Array) (r c k : ℕ) (ks : List ℕ) → r ≡ rows y.shape → c ≡ columns y.shape → k < line_count r c → ks ≡ line r c k → picked 2 y ks ≡ get_or (obliques y).pieces k (obliques y).no_items
oblique_is y r c k ks e g h is =
    let same : ks ≡ line (rows y.shape) (columns y.shape) k = is ∙ ap (λ n. line n c k) e ∙ ap (λ n. line (rows y.shape) n k) g in
    let there : k < line_count (rows y.shape) (columns y.shape) = subst (λ (n : ℕ). k < line_count (rows y.shape) n) g (subst (λ (n : ℕ). k < line_count n c) e h) in
    sym (piece_at (spread y) (lines (rows y.shape) (columns y.shape)) k ks (items_at y []) (omega (arith, obliques_many y)) (line_at (rows y.shape) (columns y.shape) k there ∙ sym same))

pub cut_is : (form : CutForm) (fs : List ℕ) (y : Array) (k t : ℕ) (ks : List ℕ) → t ≡ tally y.shape → k < length fs → get_or (cut_places form t fs) k [] ≡ ks →
    items_at y ks ≡ get_or (pieces_between form fs y).pieces k (pieces_between form fs y).no_items
cut_is form fs y k t ks e h is =
    sym (piece_at y (cut_places form (tally y.shape) fs) k ks (items_at y []) (omega (arith, between_many form fs y)) (ap (λ n. get_or (cut_places form n fs) k []) (sym e) ∙ is))

-- a call that answers a cut
pub cut_answered : {E : Type 0} (r : Result Array E) (form : CutForm) (fs : List ℕ) (y : Array) (k t : ℕ) (ks : List ℕ) → t ≡ tally y.shape → k < length fs → get_or (cut_places form t fs) k [] ≡ ks → IfOk r (λ a. a ≡ items_at y ks) →
    IfOk r (λ a. a ≡ get_or (pieces_between form fs y).pieces k (pieces_between form fs y).no_items)
cut_answered (Ok a) form fs y k t ks e h is made = made ∙ cut_is form fs y k t ks e h is
cut_answered (Err x) form fs y k t ks e h is made = tt

pub oblique_answered : {E : Type 0} (q : Result Array E) (y : Array) (r c k : ℕ) (ks : List ℕ) → r ≡ rows y.shape → c ≡ columns y.shape → k < line_count r c → ks ≡ line r c k → IfOk q (λ a. a ≡ picked 2 y ks) →
    IfOk q (λ a. a ≡ get_or (obliques y).pieces k (obliques y).no_items)
oblique_answered (Ok a) y r c k ks e g h is made = made ∙ oblique_is y r c k ks e g h is
oblique_answered (Err x) y r c k ks e g h is made = tt

linked_at : (zs : List ℤ) (fs : List ℕ) (k : ℕ) → k < length fs → get_or (linked zs fs) k [] ≡ lost_places (get_or fs k 0) zs
linked_at zs fs k h = get_or-map (λ i. lost_places i zs) fs k 0 [] h

pub key_is : (y : Array) (zs : List ℤ) (fs : List ℕ) (k c : ℕ) (ks : List ℕ) → k < length fs → c ≡ get_or fs k 0 → ks ≡ lost_places c zs → picked 1 y ks ≡ get_or (pieces_at y (linked zs fs)).pieces k (items_at y [])
key_is y zs fs k c ks h e is =
    sym (piece_at y (linked zs fs) k ks (items_at y []) (omega (arith, linked_many y zs fs)) (linked_at zs fs k h ∙ ap (λ i. lost_places i zs) (sym e) ∙ sym is))

pub key_answered : {E : Type 0} (r : Result Array E) (y : Array) (zs : List ℤ) (fs : List ℕ) (k c : ℕ) (ks : List ℕ) → k < length fs → c ≡ get_or fs k c → ks ≡ lost_places c zs → IfOk r (λ a. a ≡ picked 1 y ks) →
    IfOk r (λ a. a ≡ get_or (pieces_at y (linked zs fs)).pieces k (items_at y []))
key_answered (Ok a) y zs fs k c ks h e is made = made ∙ key_is y zs fs k c ks h (e ∙ get_or_default fs k c 0 h) is
key_answered (Err x) y zs fs k c ks h e is made = tt

-- the place of a key is a place
pub key_there : (zs : List ℤ) (fs : List ℕ) (t k c : ℕ) → length zs ≡ t → All (λ i. i < t) fs → k < length fs → c ≡ get_or fs k c → c < length zs
key_there zs fs t k c e all h is = omega (arith, is, All-get_or (λ i. i < t) fs k c h all)

one_axis : (s : List ℕ) → product (take 1 s) ≡ tally s
one_axis [] = refl
one_axis (n ∷ s) = mul-one n

pub key_inside : (y : Array) (zs : List ℤ) (c : ℕ) (ks : List ℕ) → length zs ≡ tally y.shape → ks ≡ lost_places c zs → All (λ k. k < product (take 1 y.shape)) ks
key_inside y zs c ks e is =
    let same : length zs ≡ product (take 1 y.shape) = e ∙ sym (one_axis y.shape) in
    subst (λ (l : List ℕ). All (λ k. k < product (take 1 y.shape)) l) (sym is)
    (subst (λ (m : ℕ). All (λ k. k < m) (lost_places c zs)) same (All-kept (λ k. int_eq (get_or zs k (pos 0)) (pos c)) (length zs)))

pub own_inside : (zs : List ℤ) (fs : List ℕ) (t : ℕ) → length zs ≡ t → fs ≡ own_places zs → All (λ i. i < t) fs
own_inside zs fs t e is =
    subst (λ (l : List ℕ). All (λ i. i < t) l) (sym is)
    (subst (λ (m : ℕ). All (λ i. i < m) (own_places zs)) e (All-kept (λ k. int_eq (get_or zs k (pos 0)) (pos k)) (length zs)))

-- the frets that a left argument gives, and none where it is refused
abbrev between : CutForm → Array → Result (List ℕ) Fault → Result Pieced Fault
between form y r = and_then r (λ fs. Ok (pieces_between form fs y))

pub by_frets : (form : CutForm) (x y : Array) (fs : List ℕ) → frets_by x (tally y.shape) ≡ Ok fs → cuts_by form x y ≡ Ok (pieces_between form fs y)
by_frets form x y fs h = ap (between form y) h

pub by_refused : (form : CutForm) (x y : Array) (e : Refusal) → OrWantingAs (λ (v : Vec ℕ Global). v.items) (frets_by x (tally y.shape)) (Err e) → OrWanting (cuts_by form x y) (Err e)
by_refused form x y (RefusedFault e) h = ap (between form y) h
by_refused form x y NoMemory h = tt

-- keys of equal and of unequal tallies
abbrev by_tallies : Array → Array → Bool → Result Pieced Fault
by_tallies x y b = cond b (Ok (pieces_at y (keys x))) (Err Length)

pub keyed_is : (x y : Array) (zs : List ℤ) (fs : List ℕ) → tally x.shape ≡ tally y.shape → zs ≡ map (λ k. pos (class_of x k)) (places (tally x.shape)) → fs ≡ own_places zs → keyed x y ≡ Ok (pieces_at y (linked zs fs))
keyed_is x y zs fs same e own =
    ap (by_tallies x y) (eq-eqb (tally x.shape) (tally y.shape) same) ∙ ap (λ (kss : List (List ℕ)). let r : Result Pieced Fault = Ok (pieces_at y kss) in r) (sym (keys_linked x zs fs e own))

pub keyed_unequal : (x y : Array) → (tally x.shape ≡ tally y.shape → ⊥) → keyed x y ≡ Err Length
keyed_unequal x y other = ap (by_tallies x y) (ne_eqb (tally x.shape) (tally y.shape) other)

-- what a noun's pieces say, as its pieces are kept
pub piece_in : (p q : Pieced) (k : ℕ) → p ≡ q → k < length p.pieces → k < length q.pieces
piece_in p q k e h = subst (λ (r : Pieced). k < length r.pieces) e h

pub piece_answered : {E : Type 0} (r : Result Array E) (p q : Pieced) (k : ℕ) → p ≡ q → IfOk r (λ a. a ≡ get_or q.pieces k q.no_items) → IfOk r (λ a. a ≡ get_or p.pieces k p.no_items)
piece_answered r p q k e h = subst (λ (s : Pieced). IfOk r (λ a. a ≡ get_or s.pieces k s.no_items)) (sym e) h

-- cuts and keys that are kept
pub cut_pieces : (ls : Lines) (form : CutForm) (v : Vec ℕ Global) (y : Array) (p : Pieced) → ls ≡ Cuts form v → pieced ls y ≡ p → p ≡ pieces_between form v.items y
cut_pieces ls form v y p e view = sym view ∙ ap (λ (l : Lines). pieced l y) e

pub cut_place : (ls : Lines) (form : CutForm) (v : Vec ℕ Global) (y : Array) (p : Pieced) (k : ℕ) → ls ≡ Cuts form v → pieced ls y ≡ p → k < length p.pieces → k < length v.items
cut_place ls form v y p k e view h = let there : k < length (pieces_between form v.items y).pieces = piece_in p (pieces_between form v.items y) k (cut_pieces ls form v y p e view) h in omega (arith, between_many form v.items y)

pub kept_cuts : (ls : Lines) (form : CutForm) (v : Vec ℕ Global) (y : Array) → ls ≡ Cuts form v → IsKept ls (tally y.shape) → IsRising 0 (tally y.shape) v.items
kept_cuts ls form v y e h = subst (λ (l : Lines). IsKept l (tally y.shape)) e h

pub key_pieces : (ls : Lines) (keys : Links) (y : Array) (p : Pieced) → ls ≡ Keys keys → pieced ls y ≡ p → p ≡ pieces_at y (linked keys.classes.items keys.firsts.items)
key_pieces ls keys y p e view = sym view ∙ ap (λ (l : Lines). pieced l y) e

pub key_place : (ls : Lines) (keys : Links) (y : Array) (p : Pieced) (k : ℕ) → ls ≡ Keys keys → pieced ls y ≡ p → k < length p.pieces → k < length keys.firsts.items
key_place ls keys y p k e view h =
    let there : k < length (pieces_at y (linked keys.classes.items keys.firsts.items)).pieces = piece_in p (pieces_at y (linked keys.classes.items keys.firsts.items)) k (key_pieces ls keys y p e view) h in
    omega (arith, linked_many y keys.classes.items keys.firsts.items)

pub kept_keys : (ls : Lines) (keys : Links) (y : Array) → ls ≡ Keys keys → IsKept ls (tally y.shape) → AreKept keys (tally y.shape)
kept_keys ls keys y e h = subst (λ (l : Lines). IsKept l (tally y.shape)) e h

pub pieces_many : (p q : Pieced) (n m : ℕ) → p ≡ q → n ≡ m → length q.pieces ≡ m → n ≡ length p.pieces
pieces_many p q n m e is many = is ∙ sym many ∙ sym (ap (λ (s : Pieced). length s.pieces) e)

pub lines_as_many : (y : Array) (r c n : ℕ) → r ≡ rows y.shape → c ≡ columns y.shape → n ≡ line_count r c → n ≡ line_count (rows y.shape) (columns y.shape)
lines_as_many y r c n e g is = is ∙ ap (λ a. line_count a c) e ∙ ap (line_count (rows y.shape)) g

no_items_is : (ls : Lines) (y : Array) → (pieced ls y).no_items ≡ items_at y []
no_items_is Obliques y = refl
no_items_is (Cuts form fs) y = refl
no_items_is (Keys k) y = refl

pub no_items_answered : {E : Type 0} (r : Result Array E) (ls : Lines) (y : Array) (p : Pieced) → pieced ls y ≡ p → IfOk r (λ a. a ≡ items_at y []) → IfOk r (λ a. a ≡ p.no_items)
no_items_answered (Ok a) ls y p e made = made ∙ sym (no_items_is ls y) ∙ ap (λ (q : Pieced). q.no_items) e
no_items_answered (Err x) ls y p e made = tt
