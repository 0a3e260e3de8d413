-- The rows of the vocabulary, as the code has them.
use Rattle.std.proofs.Common.{◌≡◌, ℕ, ◌+◌, ◌<◌, ◌≤◌, true, false, cond, List, length, map, drop, get_or, Some, None, ap, ◌∙◌}
use Rattle.std.proofs.lemmas.List.{drop_more, drop_all}
use Rattle.j_words.specs.Vocabulary.{row_of, is_among, first_row}
use Rattle.j_words.specs.declared.vocabulary.Row.{Row}

pub row_found : (word : List ℕ) (rs : List Row) (i : ℕ) (r : Row) → i < length rs → is_among word (get_or rs i r).words.now ≡ true → first_row word (map row_of (drop i rs)) ≡ Some (record { class = (get_or rs i r).class; stage = (get_or rs i r).stage })
row_found word rs i r l h =
    ap (λ xs. first_row word (map row_of xs)) (drop_more rs i r l) ∙ ap (λ t. cond t (Some (record { class = (get_or rs i r).class; stage = (get_or rs i r).stage })) (first_row word (map row_of (drop (i + 1) rs)))) h

pub row_more : (word : List ℕ) (rs : List Row) (i : ℕ) (r : Row) → i < length rs → is_among word (get_or rs i r).words.now ≡ false → first_row word (map row_of (drop i rs)) ≡ first_row word (map row_of (drop (i + 1) rs))
row_more word rs i r l h =
    ap (λ xs. first_row word (map row_of xs)) (drop_more rs i r l) ∙ ap (λ t. cond t (Some (record { class = (get_or rs i r).class; stage = (get_or rs i r).stage })) (first_row word (map row_of (drop (i + 1) rs)))) h

pub row_none : (word : List ℕ) (rs : List Row) (i : ℕ) → length rs ≤ i → first_row word (map row_of (drop i rs)) ≡ None
row_none word rs i l = ap (λ xs. first_row word (map row_of xs)) (drop_all i rs l)
