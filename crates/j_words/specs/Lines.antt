-- The words of a whole line, or its leftmost fault.
use Rattle.std.specs.Prelude.{◌≡◌, ◌<◌, ◌≤◌, ℕ, zero, suc, ◌+◌, ◌-◌, ◌&&◌, Bool, true, false, cond, List, [], ◌∷◌, take, Option, Some, None, Result, Ok, Err}
use Rattle.j_definitions.specs.Bytes.{is_blank}
use Rattle.j_words.specs.Forms.{first}
use Rattle.j_words.specs.Vocabulary.{class_of}
use Rattle.j_words.specs.declared.Class.{Class}
use Rattle.j_words.specs.declared.Class.TheVariants as class
use Rattle.j_words.specs.declared.Word.{Word}
use Rattle.j_words.specs.declared.WordFault.{WordFault}
use Rattle.j_words.specs.declared.WordFault.TheVariants.{OpenQuote, Spelling, Nonce, NoMemory}
use Rattle.j_words.specs.declared.forms.Found.{Found}
use Rattle.j_words.specs.declared.line.Reading.{Reading}
use Rattle.j_words.specs.declared.line.Reading.TheVariants.{Strict, Formal}

abbrev pub is_number : Class → Bool
is_number class.Number = true
is_number c = false

-- A word before others. Number words next to one another, which only blanks separate, are one word.
abbrev pub join : Word → List Word → List Word
join w [] = w ∷ []
join w (v ∷ vs) = cond (is_number w.class && is_number v.class) (record { class = w.class; from = w.from; to = v.to } ∷ vs) (w ∷ v ∷ vs)

-- words before others, likewise
abbrev pub joined : List Word → List Word → List Word
joined [] vs = vs
joined (w ∷ []) vs = join w vs
joined (w ∷ x ∷ ws) vs = w ∷ joined (x ∷ ws) vs

abbrev pub with_word : Word → Result (List Word) WordFault → Result (List Word) WordFault
with_word w (Ok ws) = Ok (join w ws)
with_word w (Err f) = Err f

-- the word at a place of that many bytes, or its fault, and then what comes after it
abbrev pub classed : ℕ → ℕ → Result Class WordFault → Result (List Word) WordFault → Result (List Word) WordFault
classed at n (Ok c) rest = with_word (record { class = c; from = at; to = at + n }) rest
classed at n (Err f) rest = Err f

-- the word, the comment or the fault that bytes begin with; what comes after a word of n + 1 bytes is told by n
abbrev pub begun : Reading → ℕ → List ℕ → Result (Option Found) WordFault → (ℕ → Result (List Word) WordFault) → Result (List Word) WordFault
begun r at bytes (Ok (Some f)) rest = classed at f.length (class_of r f.form (take f.length bytes)) (rest (f.length - 1))
begun r at bytes (Ok None) rest = Ok []
begun r at bytes (Err f) rest = Err f

-- From a place on, where a word goes on for that many bytes: at each byte that isn't a blank the first word.
abbrev pub formed : Reading → ℕ → ℕ → List ℕ → Result (List Word) WordFault
formed r at k [] = Ok []
formed r at (suc k) (b ∷ bs) = formed r (suc at) k bs
formed r at zero (b ∷ bs) = cond (is_blank b) (formed r (suc at) 0 bs) (begun r at (b ∷ bs) (first (b ∷ bs)) (λ k. formed r (suc at) k bs))

abbrev pub words : List ℕ → Result (List Word) WordFault
words line = formed Strict 0 0 line

-- the same words without the vocabulary
abbrev pub spans : List ℕ → Result (List Word) WordFault
spans line = formed Formal 0 0 line

-- a fault is that of the line, but for want of memory
abbrev pub IsFault : Result (List Word) WordFault → WordFault → Type 0
IsFault said NoMemory = Unit {0}
IsFault said OpenQuote = said ≡ Err OpenQuote
IsFault said Spelling = said ≡ Err Spelling
IsFault said Nonce = said ≡ Err Nonce

abbrev pub is_word : Class → ℕ → ℕ → Word
is_word c n m = record { class = c; from = n; to = m }

-- words lie one after the other between two places, and each has a byte at least
abbrev pub Lie : ℕ → ℕ → List Word → Type 0
Lie at end [] = at ≤ end
Lie at end (w ∷ ws) = (at ≤ w.from) × ((w.from < w.to) × Lie w.to end ws)

-- a word of a line of that length
abbrev pub IsWithin : ℕ → Word → Type 0
IsWithin n w = (w.from < w.to) × (w.to ≤ n)
