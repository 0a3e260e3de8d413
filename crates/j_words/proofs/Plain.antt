-- The forms alone know no word that is left out.
use Rattle.std.proofs.Common.{◌≡◌, ℕ, zero, suc, ◌-◌, ◌==◌, ◌||◌, Bool, true, false, cond, List, [], ◌∷◌, take, Option, Some, None, Result, Ok, Err, subst}
use Rattle.std.specs.Char.{is_ascii_digit, is_ascii_alphabetic}
use Rattle.j_definitions.specs.Bytes.{is_blank}
use Rattle.j_words.specs.Bytes.{is_graphic}
use Rattle.j_words.specs.Forms.{text_bytes, closed, is_comment, first}
use Rattle.j_words.specs.Vocabulary.{class_of}
use Rattle.j_words.specs.Lines.{with_word, classed, begun, formed, IsFault}
use Rattle.j_words.specs.declared.Word.{Word}
use Rattle.j_words.specs.declared.WordFault.{WordFault}
use Rattle.j_words.specs.declared.WordFault.TheVariants.{OpenQuote, Spelling, Nonce, NoMemory}
use Rattle.j_words.specs.declared.forms.Form.{Form}
use Rattle.j_words.specs.declared.forms.Form.TheVariants as form
use Rattle.j_words.specs.declared.forms.Found.{Found}
use Rattle.j_words.specs.declared.line.Reading.TheVariants.{Formal}

IsPlain : WordFault → Type 0
IsPlain Nonce = ⊥
IsPlain f = Unit {0}

Plain : {A : Type 0} → Result A WordFault → Type 0
Plain (Ok x) = Unit {0}
Plain (Err f) = IsPlain f

plain_cond : {A : Type 0} (t : Bool) (x y : Result A WordFault) → Plain x → Plain y → Plain (cond t x y)
plain_cond true x y h g = h
plain_cond false x y h g = g

plain_closed : (o : Option ℕ) → Plain (closed o)
unfolding Plain IsPlain
plain_closed (Some n) = tt
plain_closed None = tt

plain_first : (bs : List ℕ) → Plain (first bs)
unfolding Plain IsPlain
plain_first [] = tt
plain_first (b ∷ bs) =
    plain_cond (b == 39) _ _ (plain_closed (text_bytes bs))
    (plain_cond (is_comment (b ∷ bs)) _ _ tt
    (plain_cond (is_ascii_digit b || (b == 95)) _ _ tt
    (plain_cond (is_ascii_alphabetic b) _ _ tt
    (plain_cond (is_graphic b) _ _ tt tt))))

plain_word : (w : Word) (r : Result (List Word) WordFault) → Plain r → Plain (with_word w r)
unfolding Plain
plain_word w (Ok ws) h = tt
plain_word w (Err f) h = h

plain_classed : (at n : ℕ) (f : Form) (word : List ℕ) (r : Result (List Word) WordFault) → Plain r → Plain (classed at n (class_of Formal f word) r)
plain_classed at n form.Text word r h = plain_word _ r h
plain_classed at n form.Number word r h = plain_word _ r h
plain_classed at n form.Name word r h = plain_word _ r h
plain_classed at n form.Listed word r h = plain_word _ r h

plain_begun : (at : ℕ) (bytes : List ℕ) (o : Result (Option Found) WordFault) (rest : ℕ → Result (List Word) WordFault) → Plain o → ((k : ℕ) → Plain (rest k)) → Plain (begun Formal at bytes o rest)
unfolding Plain
plain_begun at bytes (Ok (Some f)) rest h g = plain_classed at f.length f.form (take f.length bytes) (rest (f.length - 1)) (g (f.length - 1))
plain_begun at bytes (Ok None) rest h g = tt
plain_begun at bytes (Err f) rest h g = h

plain_formed : (at k : ℕ) (bs : List ℕ) → Plain (formed Formal at k bs)
unfolding Plain
plain_formed at zero [] = tt
plain_formed at (suc k) [] = tt
plain_formed at (suc k) (b ∷ bs) = plain_formed (suc at) k bs
plain_formed at zero (b ∷ bs) =
    plain_cond (is_blank b) _ _ (plain_formed (suc at) 0 bs) (plain_begun at (b ∷ bs) (first (b ∷ bs)) (λ k. formed Formal (suc at) k bs) (plain_first (b ∷ bs)) (λ k. plain_formed (suc at) k bs))

pub never_nonce : (line : List ℕ) (f : WordFault) → IsFault (formed Formal 0 0 line) f → f ≡ Nonce → ⊥
unfolding Plain IsPlain
never_nonce line OpenQuote h e = absurd (cc)
never_nonce line Spelling h e = absurd (cc)
never_nonce line NoMemory h e = absurd (cc)
never_nonce line Nonce h e = subst Plain h (plain_formed 0 0 line)
