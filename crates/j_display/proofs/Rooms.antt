-- Rows in rooms that stand one behind the other.
use Rattle.std.proofs.Common.{◌≡◌, ℕ, ◌+◌, ◌*◌, ◌<◌, ◌≤◌, List, [], ◌∷◌, ◌++◌, length, take, drop, get_or, replicate, refl, sym, ap, ◌∙◌, arith, suc-mul, zero-mul}
use Prim.Native.Nat.{zero, suc}
use Rattle.std.proofs.Math.ListN.{set}
use Rattle.std.specs.List.{All}
use Rattle.std.proofs.Math.Seq.{take-append_seam}
use Rattle.std.proofs.lemmas.List.{length-append, length-drop, drop-drop, length-set, length-replicate}
use Rattle.std.proofs.lemmas.List.Elements.{All-set}
use Rattle.std.proofs.lemmas.Slice.{drop-append-drop}
use Rattle.std.proofs.lemmas.Nat.{row_fits}
use Rattle.j_display.specs.Blocks.{extended, rows_within, HaveRoom}
use Rattle.j_display.proofs.Blocks.{ext, is_ext, beside-nil}

-- a text over other bytes, from a place on
abbrev pub over : ℕ → List ℕ → List ℕ → List ℕ
over zero text bytes = text ++ drop (length text) bytes
over (suc from) text [] = text
over (suc from) text (b ∷ bytes) = b ∷ over from text bytes

is_over : (from : ℕ) (text bytes : List ℕ) → from ≤ length bytes → take from bytes ++ (text ++ drop (length text) (drop from bytes)) ≡ over from text bytes
is_over zero text bytes h = refl
is_over (suc from) text [] h = absurd (omega arith)
is_over (suc from) text (b ∷ bytes) h = ap (λ r. b ∷ r) (is_over from text bytes (omega arith))

length-over : (from : ℕ) (text bytes : List ℕ) → from + length text ≤ length bytes → length (over from text bytes) ≡ length bytes
length-over zero text bytes h = omega (arith, length-append text (drop (length text) bytes), length-drop (length text) bytes)
length-over (suc from) text [] h = absurd (omega arith)
length-over (suc from) text (b ∷ bytes) h = ap suc (length-over from text bytes (omega arith))

-- what stands before the text
take-over : (n from : ℕ) (text bytes : List ℕ) → n ≤ from → from ≤ length bytes → take n (over from text bytes) ≡ take n bytes
take-over zero from text bytes h g = refl
take-over (suc n) zero text bytes h g = absurd (omega arith)
take-over (suc n) (suc from) text [] h g = absurd (omega arith)
take-over (suc n) (suc from) text (b ∷ bytes) h g = ap (λ r. b ∷ r) (take-over n from text bytes (omega arith) (omega arith))

-- a text in a later room
later-over : (room from q : ℕ) (text bytes : List ℕ) → from ≡ room + q → from ≤ length bytes → drop room (over from text bytes) ≡ over q text (drop room bytes)
later-over zero from q text bytes e h = let same : from ≡ q = omega arith in ap (λ k. over k text bytes) same
later-over (suc room) zero q text bytes e h = absurd (omega arith)
later-over (suc room) (suc from) q text [] e h = absurd (omega arith)
later-over (suc room) (suc from) q text (b ∷ bytes) e h = later-over room from q text bytes (omega arith) (omega arith)

-- up to the end of the text
end-over : (from end : ℕ) (text bytes : List ℕ) → end ≡ from + length text → from ≤ length bytes → take end (over from text bytes) ≡ take from bytes ++ text
end-over zero end text bytes e h =
    let same : end ≡ length text = omega arith in
    ap (λ k. take k (text ++ drop (length text) bytes)) same ∙ take-append_seam text (drop (length text) bytes)
end-over (suc from) zero text bytes e h = absurd (omega arith)
end-over (suc from) (suc end) text [] e h = absurd (omega arith)
end-over (suc from) (suc end) text (b ∷ bytes) e h = ap (λ r. b ∷ r) (end-over from end text bytes (omega arith) (omega arith))

-- what stands behind the text
rest-over : (from room : ℕ) (text bytes : List ℕ) → from + length text ≤ room → from ≤ length bytes → drop room (over from text bytes) ≡ drop room bytes
rest-over zero room text bytes h g = drop-append-drop (length text) bytes text room (omega arith) refl
rest-over (suc from) zero text bytes h g = absurd (omega arith)
rest-over (suc from) (suc room) text [] h g = absurd (omega arith)
rest-over (suc from) (suc room) text (b ∷ bytes) h g = rest-over from room text bytes (omega arith) (omega arith)

-- a text that fits its room stands within the rooms
pub in_rooms : (room : ℕ) (ns bytes : List ℕ) (i at end : ℕ) (text : List ℕ) → i < length ns → length ns * room ≤ length bytes →
    end ≡ get_or ns i 0 + length text → end ≤ room → at ≡ i * room + get_or ns i 0 → at + length text ≤ length bytes
in_rooms room ns bytes i at end text h l e r a = omega (arith, row_fits i room (length ns) room h (omega arith))

-- a text behind one row
row_written : (room : ℕ) (ns bytes : List ℕ) (i at end : ℕ) (text : List ℕ) → i < length ns → All (λ n. n ≤ room) ns → length ns * room ≤ length bytes →
    end ≡ get_or ns i 0 + length text → end ≤ room → at ≡ i * room + get_or ns i 0 →
    rows_within room (set ns i end) (over at text bytes) ≡ ext i (rows_within room ns bytes) (text ∷ [])
row_written room [] bytes i at end text h f l e r a = absurd (omega arith)
row_written room (n ∷ ns) bytes zero at end text h f l e r a =
    let here : at ≡ n = omega (arith, zero-mul room) in
    let size : suc (length ns) * room ≡ length ns * room + room = suc-mul (length ns) room in
    let enough : at ≤ length bytes = omega arith in
    ap (λ t. t ∷ rows_within room ns (drop room (over at text bytes))) (end-over at end text bytes (omega arith) enough)
    ∙ ap (λ b. (take at bytes ++ text) ∷ rows_within room ns b) (rest-over at room text bytes (omega arith) enough)
    ∙ ap (λ k. (take k bytes ++ text) ∷ rows_within room ns (drop room bytes)) here
    ∙ ap (λ t. (take n bytes ++ text) ∷ t) (sym (beside-nil (rows_within room ns (drop room bytes))))
row_written room (n ∷ ns) bytes (suc i) at end text h f l e r a =
    let size : suc (length ns) * room ≡ length ns * room + room = suc-mul (length ns) room in
    let place : suc i * room ≡ i * room + room = suc-mul i room in
    let later : at ≡ room + (i * room + get_or ns i 0) = omega arith in
    let enough : at ≤ length bytes = omega (arith, in_rooms room (n ∷ ns) bytes (suc i) at end text h l e r a) in
    ap (λ t. t ∷ rows_within room (set ns i end) (drop room (over at text bytes))) (take-over n at text bytes (omega (arith, f 0 0 (omega arith))) enough)
    ∙ ap (λ b. take n bytes ∷ rows_within room (set ns i end) b) (later-over room at (i * room + get_or ns i 0) text bytes later enough)
    ∙ ap (λ t. take n bytes ∷ t) (row_written room ns (drop room bytes) i (i * room + get_or ns i 0) end text (omega arith) (λ k d g. f (suc k) d (omega arith)) (omega (arith, length-drop room bytes)) e r refl)

-- what a write leaves
pub written_rooms : (room : ℕ) (ns bytes : List ℕ) (i at end : ℕ) (text : List ℕ) → HaveRoom room ns bytes → i < length ns →
    end ≡ get_or ns i 0 + length text → end ≤ room → at ≡ i * room + get_or ns i 0 →
    HaveRoom room (set ns i end) (take at bytes ++ (text ++ drop (length text) (drop at bytes)))
written_rooms room ns bytes i at end text h less e r a =
    let fits = in_rooms room ns bytes i at end text less h.there e r a in
    let enough : at ≤ length bytes = omega arith in
    let same : length (take at bytes ++ (text ++ drop (length text) (drop at bytes))) ≡ length bytes = ap length (is_over at text bytes enough) ∙ length-over at text bytes fits in
    let count : length (set ns i end) * room ≡ length ns * room = ap (λ n. n * room) (length-set ns i end) in
    record { short = All-set (λ n. n ≤ room) ns i end r h.short; there = omega (arith, h.there) }

pub written_rows : (room : ℕ) (ns bytes : List ℕ) (i at end : ℕ) (text : List ℕ) → HaveRoom room ns bytes → i < length ns →
    end ≡ get_or ns i 0 + length text → end ≤ room → at ≡ i * room + get_or ns i 0 →
    rows_within room (set ns i end) (take at bytes ++ (text ++ drop (length text) (drop at bytes))) ≡ extended (rows_within room ns bytes) i (text ∷ [])
written_rows room ns bytes i at end text h less e r a =
    let fits = in_rooms room ns bytes i at end text less h.there e r a in
    let enough : at ≤ length bytes = omega arith in
    ap (rows_within room (set ns i end)) (is_over at text bytes enough) ∙ row_written room ns bytes i at end text less h.short h.there e r a ∙ sym (is_ext i (rows_within room ns bytes) (text ∷ []))

pub length-rows_within : (room : ℕ) (ns bytes : List ℕ) → length (rows_within room ns bytes) ≡ length ns
length-rows_within room [] bytes = refl
length-rows_within room (n ∷ ns) bytes = ap suc (length-rows_within room ns (drop room bytes))

-- rows of no bytes
pub rows_within-replicate : (room count : ℕ) (bytes : List ℕ) → rows_within room (replicate count 0) bytes ≡ replicate count []
rows_within-replicate room zero bytes = refl
rows_within-replicate room (suc count) bytes = ap (λ r. [] ∷ r) (rows_within-replicate room count (drop room bytes))

zero_short : (room count k d : ℕ) → k < count → get_or (replicate count 0) k d ≤ room
zero_short room zero k d h = absurd (omega arith)
zero_short room (suc count) zero d h = omega arith
zero_short room (suc count) (suc k) d h = zero_short room count k d (omega arith)

pub new_rooms : (room count : ℕ) (bytes : List ℕ) → length bytes ≡ count * room → HaveRoom room (replicate count 0) bytes
new_rooms room count bytes e =
    let many : length {A = ℕ} (replicate count 0) * room ≡ count * room = ap (λ n. n * room) (length-replicate {A = ℕ} count 0) in
    record { short = λ k d h. zero_short room count k d (omega (arith, length-replicate {A = ℕ} count 0)); there = omega arith }

-- what stands in row i
pub row_within : (room : ℕ) (ns bytes : List ℕ) (i : ℕ) → i < length ns → get_or (rows_within room ns bytes) i [] ≡ take (get_or ns i 0) (drop (i * room) bytes)
row_within room [] bytes i h = absurd (omega arith)
row_within room (n ∷ ns) bytes zero h = let none : 0 ≡ zero * room = sym (zero-mul room) in ap (λ k. take n (drop k bytes)) none
row_within room (n ∷ ns) bytes (suc i) h =
    let place : room + i * room ≡ suc i * room = omega (arith, suc-mul i room) in
    row_within room ns (drop room bytes) i (omega arith) ∙ ap (take (get_or ns i 0)) (drop-drop (i * room) room bytes) ∙ ap (λ k. take (get_or ns i 0) (drop k bytes)) place

pub row_there : (room : ℕ) (ns bytes : List ℕ) (i : ℕ) → HaveRoom room ns bytes → i < length ns → i * room + get_or ns i 0 ≤ length bytes
row_there room ns bytes i h less = omega (arith, h.there, h.short i 0 less, row_fits i room (length ns) room less (omega arith))
