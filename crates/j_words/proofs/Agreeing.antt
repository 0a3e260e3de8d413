-- What the vocabulary lets through are the words of the forms.
use Rattle.std.proofs.Common.{◌≡◌, ℕ, zero, suc, ◌-◌, ◌||◌, Bool, true, false, cond, List, [], ◌∷◌, take, Option, Some, None, Result, Ok, Err, refl, sym, ap, subst}
use Rattle.j_definitions.specs.Bytes.{is_blank}
use Rattle.j_words.specs.Forms.{first}
use Rattle.j_words.specs.Names.{is_simple, is_direct, is_object}
use Rattle.j_words.specs.Vocabulary.{look_up, at_stage, let_through, class_or_name, class_of}
use Rattle.j_words.specs.Lines.{with_word, classed, begun, formed, words, spans}
use Rattle.j_words.specs.declared.Class.{Class}
use Rattle.j_words.specs.declared.Class.TheVariants as class
use Rattle.j_words.specs.declared.Word.{Word}
use Rattle.j_words.specs.declared.WordFault.{WordFault}
use Rattle.j_words.specs.declared.forms.Form.{Form}
use Rattle.j_words.specs.declared.forms.Form.TheVariants as form
use Rattle.j_words.specs.declared.forms.Found.{Found}
use Rattle.j_words.specs.declared.vocabulary.Stage.{Stage}
use Rattle.j_words.specs.declared.vocabulary.Stage.TheVariants.{Now, Later, LeftOut}
use Rattle.j_words.specs.declared.vocabulary.Entry.{Entry}
use Rattle.j_words.specs.declared.line.Reading.TheVariants.{Strict, Formal}

-- where the first has a value the second has it too
abbrev pub Agree : {A : Type 0} → Result A WordFault → Result A WordFault → Type 0
Agree (Ok x) r = r ≡ Ok x
Agree (Err f) r = Unit {0}

agree_cond : {A : Type 0} (t : Bool) (x y z w : Result A WordFault) → Agree x z → Agree y w → Agree (cond t x y) (cond t z w)
agree_cond true x y z w h g = h
agree_cond false x y z w h g = g

stage_agrees : (s : Stage) (c : Class) → Agree (at_stage s c) (Ok c)
stage_agrees Now c = refl
stage_agrees Later c = tt
stage_agrees LeftOut c = tt

entry_agrees : (o : Option Entry) → Agree (let_through o) (Ok (class_or_name o))
entry_agrees None = tt
entry_agrees (Some e) = stage_agrees e.stage e.class

pub class_let_through : (w : List ℕ) (c : Class) → let_through (look_up w) ≡ Ok c → class_or_name (look_up w) ≡ c
class_let_through w c h =
    let same : Ok (class_or_name (look_up w)) ≡ Ok c = subst (λ r. Agree r (Ok (class_or_name (look_up w)))) h (entry_agrees (look_up w)) in
    cc

fault_agrees : (t : Bool) (f g : WordFault) (r : Result Class WordFault) → Agree (cond t (Err f) (Err g)) r
fault_agrees true f g r = tt
fault_agrees false f g r = tt

name_agrees : (t : Bool) (f : WordFault) → Agree (cond t (Ok class.Name) (Err f)) (Ok class.Name)
name_agrees true f = refl
name_agrees false f = tt

class_agrees : (f : Form) (word : List ℕ) → Agree (class_of Strict f word) (class_of Formal f word)
class_agrees form.Text word = refl
class_agrees form.Number word = refl
class_agrees form.Name word = name_agrees (is_simple word || (is_direct word || is_object word)) _
class_agrees form.Listed word = entry_agrees (look_up word)

word_agrees : (w : Word) (r s : Result (List Word) WordFault) → Agree r s → Agree (with_word w r) (with_word w s)
word_agrees w (Ok ws) s h = ap (with_word w) h
word_agrees w (Err f) s h = tt

classed_agrees : (at n : ℕ) (c d : Result Class WordFault) (r s : Result (List Word) WordFault) → Agree c d → Agree r s → Agree (classed at n c r) (classed at n d s)
classed_agrees at n (Ok c) d r s h g = subst (λ e. Agree (classed at n (Ok c) r) (classed at n e s)) (sym h) (word_agrees _ r s g)
classed_agrees at n (Err f) d r s h g = tt

begun_agrees : (at : ℕ) (bytes : List ℕ) (o : Result (Option Found) WordFault) (r s : ℕ → Result (List Word) WordFault) → ((k : ℕ) → Agree (r k) (s k)) → Agree (begun Strict at bytes o r) (begun Formal at bytes o s)
begun_agrees at bytes (Ok (Some f)) r s h = classed_agrees at f.length (class_of Strict f.form (take f.length bytes)) (class_of Formal f.form (take f.length bytes)) (r (f.length - 1)) (s (f.length - 1)) (class_agrees f.form (take f.length bytes)) (h (f.length - 1))
begun_agrees at bytes (Ok None) r s h = refl
begun_agrees at bytes (Err f) r s h = tt

formed_agrees : (at k : ℕ) (bs : List ℕ) → Agree (formed Strict at k bs) (formed Formal at k bs)
formed_agrees at zero [] = refl
formed_agrees at (suc k) [] = refl
formed_agrees at (suc k) (b ∷ bs) = formed_agrees (suc at) k bs
formed_agrees at zero (b ∷ bs) =
    agree_cond (is_blank b) _ _ _ _ (formed_agrees (suc at) 0 bs) (begun_agrees at (b ∷ bs) (first (b ∷ bs)) (λ k. formed Strict (suc at) k bs) (λ k. formed Formal (suc at) k bs) (λ k. formed_agrees (suc at) k bs))

pub same_words : (line : List ℕ) (ws : List Word) → words line ≡ Ok ws → spans line ≡ Ok ws
same_words line ws h = subst (λ r. Agree r (spans line)) h (formed_agrees 0 0 line)
