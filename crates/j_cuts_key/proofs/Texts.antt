-- The frets of a list of characters.
use Rattle.std.proofs.Common.{◌≡◌, ◌<◌, ◌≤◌, ◌+◌, ℕ, Bool, true, false, ◌&&◌, nat_eq, List, [], ◌∷◌, length, map, get_or, arith, refl, sym, ap, ◌∙◌, subst, mul-one, Result, Ok, Err, IfOk}
use Rattle.std.specs.List.{filter, range_with_len}
use Rattle.std.specs.declared.alloc.Global.{Global}
use Rattle.std.specs.declared.vec.Vec.{Vec}
use Rattle.std.proofs.lemmas.List.{length-map}
use Rattle.j_definitions.specs.Array.{Array, byte, product, tally, atom_array, arrays_match, IsNoun}
use Rattle.j_definitions.specs.declared.Kind.TheVariants.{Character}
use Rattle.j_rank.proofs.Parts.{one_atom, atom_cell}
use Rattle.j_search.specs.Matching.{item_of}
use Rattle.j_search.specs.declared.cut.CutForm.{CutForm}
use Rattle.j_search.specs.declared.cut.CutForm.TheVariants.{Begin, BeginDrop, End, EndDrop}
use Rattle.j_search.proofs.Picks.{filter_same}
use Rattle.j_cuts_key.specs.Cuts.{frets, fret_place}
use Rattle.j_cuts_key.specs.Kept.{IsText, byte_places}

and_true : (b : Bool) → (b && true) ≡ b
and_true true = refl
and_true false = refl

place_inside : (form : CutForm) (t : ℕ) → 0 < t → fret_place form t < t
place_inside Begin t h = h
place_inside BeginDrop t h = h
place_inside End t h = omega arith
place_inside EndDrop t h = omega arith

one_axis : (s : List ℕ) (n : ℕ) → 1 ≤ length s → length s < 2 → n ≡ product s → s ≡ n ∷ []
one_axis [] n a b e = absurd (omega arith)
one_axis (m ∷ []) n a b e = ap (λ k. k ∷ []) (sym (e ∙ mul-one m))
one_axis (m ∷ k ∷ s) n a b e = absurd (omega arith)

-- the noun of one axis and some characters
pub text_is : (y : Array) (bytes s : List ℕ) → IsNoun y → 1 ≤ length s → length s < 2 → s ≡ y.shape → map byte bytes ≡ y.atoms → Character ≡ y.kind → 0 < length bytes → IsText y bytes
text_is y bytes s noun a b same atoms kind some =
    let many : length bytes ≡ product y.shape = sym (length-map bytes byte) ∙ ap length atoms ∙ noun.as_many in
    record { axis = one_axis y.shape (length bytes) (subst (λ (r : List ℕ). 1 ≤ length r) same a) (subst (λ (r : List ℕ). length r < 2) same b) many; atoms = atoms; kind = kind; some = some }

-- an item is its character
text_item : (y : Array) (bytes : List ℕ) (k : ℕ) → IsText y bytes → k < length bytes → item_of y k ≡ atom_array Character (byte (get_or bytes k 0))
text_item y bytes k text h =
    let rank : length y.shape ≤ 1 = omega (arith, ap length text.axis) in
    sym (one_atom byte y bytes Character k (get_or bytes k 0) 0 text.atoms text.kind h refl ∙ atom_cell y 1 k rank)

same_byte : (y : Array) (bytes : List ℕ) (i k : ℕ) → IsText y bytes → i < length bytes → k < length bytes → arrays_match (item_of y i) (item_of y k) ≡ nat_eq (get_or bytes i 0) (get_or bytes k 0)
same_byte y bytes i k text g h =
    ap (λ a. arrays_match a (item_of y k)) (text_item y bytes i text g) ∙ ap (arrays_match (atom_array Character (byte (get_or bytes i 0)))) (text_item y bytes k text h)
    ∙ and_true (nat_eq (get_or bytes i 0) (get_or bytes k 0))

bytes_found : (form : CutForm) (y : Array) (bytes : List ℕ) → IsText y bytes → byte_places (get_or bytes (fret_place form (length bytes)) 0) bytes ≡ frets form y
bytes_found form y bytes text =
    let many : length bytes ≡ tally y.shape = sym (ap tally text.axis) in
    sym (filter_same (λ j. arrays_match (item_of y (fret_place form (length bytes))) (item_of y j)) (λ k. nat_eq (get_or bytes (fret_place form (length bytes)) 0) (get_or bytes k 0)) 0 (length bytes)
    (λ k low high. same_byte y bytes (fret_place form (length bytes)) k text (place_inside form (length bytes) text.some) (omega arith)))
    ∙ ap (λ n. filter (λ j. arrays_match (item_of y (fret_place form n)) (item_of y j)) (range_with_len 0 n)) many

-- what a call answers, where it answers
pub bytes_answered : {E : Type 0} (form : CutForm) (y : Array) (bytes : List ℕ) (r : Result (Vec ℕ Global) E) → IsText y bytes →
    IfOk r (λ v. v.items ≡ byte_places (get_or bytes (fret_place form (length bytes)) 0) bytes) → IfOk r (λ v. v.items ≡ frets form y)
bytes_answered form y bytes (Ok v) text is = is ∙ bytes_found form y bytes text
bytes_answered form y bytes (Err x) text is = tt
