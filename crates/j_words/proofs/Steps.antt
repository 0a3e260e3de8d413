-- One turn of a line.
use Rattle.std.proofs.Common.{◌≡◌, ℕ, zero, suc, ◌+◌, ◌-◌, ◌<◌, ◌≤◌, true, false, cond, List, [], ◌∷◌, length, take, drop, get_or, Some, None, Result, Ok, Err, refl, sym, ap, ◌∙◌, arith}
use Rattle.std.proofs.lemmas.List.{drop_more, drop_all, drop-drop}
use Rattle.j_definitions.specs.Bytes.{is_blank}
use Rattle.j_words.specs.Forms.{first}
use Rattle.j_words.specs.Vocabulary.{class_of}
use Rattle.j_words.specs.Lines.{joined, with_word, classed, begun, formed}
use Rattle.j_words.proofs.Joins.{joined_none, joined_join}
use Rattle.j_words.specs.declared.Class.{Class}
use Rattle.j_words.specs.declared.Word.{Word}
use Rattle.j_words.specs.declared.WordFault.{WordFault}
use Rattle.j_words.specs.declared.forms.Found.{Found}
use Rattle.j_words.specs.declared.line.Reading.{Reading}

-- words before those that are still to come, or their fault
abbrev pub onto : List Word → Result (List Word) WordFault → Result (List Word) WordFault
onto ws (Ok vs) = Ok (joined ws vs)
onto ws (Err f) = Err f

pub onto_none : (r : Result (List Word) WordFault) → onto [] r ≡ r
onto_none (Ok vs) = refl
onto_none (Err f) = refl

pub onto_end : (ws : List Word) → onto ws (Ok []) ≡ Ok ws
onto_end ws = ap Ok (joined_none ws)

pub onto_word : (ws : List Word) (w : Word) (r : Result (List Word) WordFault) → onto ws (with_word w r) ≡ onto (joined ws (w ∷ [])) r
onto_word ws w (Ok vs) = ap Ok (sym (joined_join ws w vs))
onto_word ws w (Err f) = refl

-- a word goes on in the words that have begun
skipped : (r : Reading) (at k : ℕ) (bs : List ℕ) → formed r at k bs ≡ formed r (at + k) 0 (drop k bs)
skipped r at zero [] = refl
skipped r at (suc k) [] = refl
skipped r at zero (b ∷ bs) = ap (λ n. formed r n 0 (b ∷ bs)) (omega arith)
skipped r at (suc k) (b ∷ bs) = skipped r (suc at) k bs ∙ ap (λ n. formed r n 0 (drop k bs)) (omega arith)

module _ (r : Reading) (line : List ℕ) (at : ℕ) where
  pub ended : length line ≤ at → formed r at 0 (drop at line) ≡ Ok []
  ended l = ap (formed r at 0) (drop_all at line l)

  pub blank_more : at < length line → is_blank (get_or line at 0) ≡ true → formed r at 0 (drop at line) ≡ formed r (at + 1) 0 (drop (at + 1) line)
  blank_more l h =
      ap (formed r at 0) (drop_more line at 0 l) ∙ ap (λ t. cond t (formed r (suc at) 0 (drop (at + 1) line)) (begun r at (get_or line at 0 ∷ drop (at + 1) line) (first (get_or line at 0 ∷ drop (at + 1) line)) (λ k. formed r (suc at) k (drop (at + 1) line)))) h
      ∙ ap (λ n. formed r n 0 (drop (at + 1) line)) (omega arith)

  opened : at < length line → is_blank (get_or line at 0) ≡ false → formed r at 0 (drop at line) ≡ begun r at (drop at line) (first (drop at line)) (λ k. formed r (suc at) k (drop (at + 1) line))
  opened l h =
      ap (formed r at 0) (drop_more line at 0 l) ∙ ap (λ t. cond t (formed r (suc at) 0 (drop (at + 1) line)) (begun r at (get_or line at 0 ∷ drop (at + 1) line) (first (get_or line at 0 ∷ drop (at + 1) line)) (λ k. formed r (suc at) k (drop (at + 1) line)))) h
      ∙ ap (λ bs. begun r at bs (first bs) (λ k. formed r (suc at) k (drop (at + 1) line))) (sym (drop_more line at 0 l))

  pub comment : at < length line → is_blank (get_or line at 0) ≡ false → first (drop at line) ≡ Ok None → formed r at 0 (drop at line) ≡ Ok []
  comment l h e = opened l h ∙ ap (λ o. begun r at (drop at line) o (λ k. formed r (suc at) k (drop (at + 1) line))) e

  pub faulty : (f : WordFault) → at < length line → is_blank (get_or line at 0) ≡ false → first (drop at line) ≡ Err f → formed r at 0 (drop at line) ≡ Err f
  faulty f l h e = opened l h ∙ ap (λ o. begun r at (drop at line) o (λ k. formed r (suc at) k (drop (at + 1) line))) e

  pub misclassed : (w : Found) (f : WordFault) → at < length line → is_blank (get_or line at 0) ≡ false → first (drop at line) ≡ Ok (Some w) → class_of r w.form (take w.length (drop at line)) ≡ Err f → formed r at 0 (drop at line) ≡ Err f
  misclassed w f l h e g =
      opened l h ∙ ap (λ o. begun r at (drop at line) o (λ k. formed r (suc at) k (drop (at + 1) line))) e
      ∙ ap (λ c. classed at w.length c (formed r (suc at) (w.length - 1) (drop (at + 1) line))) g

  pub word_more : (w : Found) (c : Class) → at < length line → is_blank (get_or line at 0) ≡ false → first (drop at line) ≡ Ok (Some w) → class_of r w.form (take w.length (drop at line)) ≡ Ok c → 0 < w.length
      → formed r at 0 (drop at line) ≡ with_word (record { class = c; from = at; to = at + w.length }) (formed r (at + w.length) 0 (drop (at + w.length) line))
  word_more w c l h e g some =
      let there : suc at + (w.length - 1) ≡ at + w.length = omega arith in
      let there' : at + 1 + (w.length - 1) ≡ at + w.length = omega arith in
      opened l h ∙ ap (λ o. begun r at (drop at line) o (λ k. formed r (suc at) k (drop (at + 1) line))) e
      ∙ ap (λ c. classed at w.length c (formed r (suc at) (w.length - 1) (drop (at + 1) line))) g
      ∙ ap (with_word (record { class = c; from = at; to = at + w.length })) (
      skipped r (suc at) (w.length - 1) (drop (at + 1) line) ∙ ap (λ bs. formed r (suc at + (w.length - 1)) 0 bs) (drop-drop (w.length - 1) (at + 1) line ∙ ap (λ n. drop n line) there')
      ∙ ap (λ n. formed r n 0 (drop (at + w.length) line)) there
      )
