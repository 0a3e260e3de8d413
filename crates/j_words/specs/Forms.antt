-- The word that bytes begin with, by the first form that fits.
use Rattle.std.specs.Prelude.{ℕ, ◌+◌, ◌==◌, ◌||◌, ◌&&◌, not, Bool, true, false, cond, List, [], ◌∷◌, drop, Option, Some, None, Result, Ok, Err}
use Rattle.std.specs.Char.{is_ascii_digit, is_ascii_alphabetic}
use Rattle.j_words.specs.Bytes.{is_in, is_graphic, run}
use Rattle.j_words.specs.declared.bytes.Set.TheVariants as set
use Rattle.j_words.specs.declared.WordFault.{WordFault}
use Rattle.j_words.specs.declared.WordFault.TheVariants.{OpenQuote, Spelling}
use Rattle.j_words.specs.declared.forms.Form.{Form}
use Rattle.j_words.specs.declared.forms.Form.TheVariants.{Text, Number, Name, Listed}
use Rattle.j_words.specs.declared.forms.Found.{Found}

abbrev pub further : ℕ → Option ℕ → Option ℕ
further k None = None
further k (Some n) = Some (k + n)

-- how many bytes a text takes after its opening quote: two quotes are a byte of it, and one closes it
abbrev pub text_bytes : List ℕ → Option ℕ
text_bytes [] = None
text_bytes (b ∷ []) = cond (b == 39) (Some 1) None
text_bytes (b ∷ c ∷ bs) = cond (b == 39) (cond (c == 39) (further 2 (text_bytes bs)) (Some 1)) (further 1 (text_bytes (c ∷ bs)))

abbrev pub found : Form → ℕ → Found
found f n = record { form = f; length = n }

abbrev pub closed : Option ℕ → Result (Option Found) WordFault
closed (Some n) = Ok (Some (found Text (n + 1)))
closed None = Err OpenQuote

abbrev pub text_word : List ℕ → Result (Option Found) WordFault
text_word after_quote = closed (text_bytes after_quote)

-- whether neither mark comes first
abbrev pub no_mark : List ℕ → Bool
no_mark [] = true
no_mark (b ∷ bs) = not (is_in set.Mark b)

abbrev pub begins_colon : List ℕ → Bool
begins_colon [] = false
begins_colon (b ∷ bs) = b == 58

-- `NB.` without a mark behind it
abbrev pub is_comment : List ℕ → Bool
is_comment (n ∷ b ∷ dot ∷ after) = (n == 78) && ((b == 66) && ((dot == 46) && no_mark after))
is_comment bytes = false

-- a number part, or with a `:` directly behind it and all marks that follow a word of the vocabulary
abbrev pub part : List ℕ → Found
part bytes =
    let n = run (is_in set.Part) bytes in
    cond (begins_colon (drop n bytes)) (found Listed (n + run (is_in set.Mark) (drop n bytes))) (found Number n)

-- a name, or with marks behind it a word of the vocabulary
abbrev pub letters : List ℕ → Found
letters bytes =
    let n = run (is_in set.Name) bytes in
    let marks = run (is_in set.Mark) (drop n bytes) in
    found (cond (marks == 0) Name Listed) (n + marks)

-- a byte before these bytes, and the marks behind it
abbrev pub graphic : List ℕ → Found
graphic after = found Listed (1 + run (is_in set.Mark) after)

-- The word that bytes begin with where the first isn't a blank, or none where a comment begins.
abbrev pub first : List ℕ → Result (Option Found) WordFault
first [] = Ok None
first (b ∷ bs) =
    cond (b == 39) (text_word bs)
    (cond (is_comment (b ∷ bs)) (Ok None)
    (cond (is_ascii_digit b || (b == 95)) (Ok (Some (part (b ∷ bs))))
    (cond (is_ascii_alphabetic b) (Ok (Some (letters (b ∷ bs))))
    (cond (is_graphic b) (Ok (Some (graphic bs)))
    (Err Spelling)))))

-- a text's bytes with each quote doubled
abbrev pub doubled : List ℕ → List ℕ
doubled [] = []
doubled (b ∷ bs) = cond (b == 39) (39 ∷ 39 ∷ doubled bs) (b ∷ doubled bs)

abbrev pub begins_quote : List ℕ → Bool
begins_quote [] = false
begins_quote (b ∷ bs) = b == 39
