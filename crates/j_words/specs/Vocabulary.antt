-- The vocabulary: which words there are, what they are, and which are left out so far.
use Rattle.std.specs.Prelude.{ℕ, nat_lt, ◌-◌, ◌==◌, ◌&&◌, Bool, cond, List, [], ◌∷◌, length, take, drop, Option, Some, None, Result, Ok, Err, codes, bytes_eq}
use Rattle.std.specs.List.{slice_split, list_any}
use Rattle.j_words.specs.Names.{has_name_bytes, is_simple, name_class}
use Rattle.j_words.specs.declared.Class.{Class}
use Rattle.j_words.specs.declared.Class.TheVariants as class
use Rattle.j_words.specs.declared.WordFault.{WordFault}
use Rattle.j_words.specs.declared.WordFault.TheVariants.{Spelling, Nonce}
use Rattle.j_words.specs.declared.forms.Form.{Form}
use Rattle.j_words.specs.declared.forms.Form.TheVariants as form
use Rattle.j_words.specs.declared.vocabulary.Stage.{Stage}
use Rattle.j_words.specs.declared.vocabulary.Stage.TheVariants.{Now, Later, LeftOut}
use Rattle.j_words.specs.declared.vocabulary.Row.{Row}
use Rattle.j_words.specs.declared.vocabulary.Entry.{Entry}
use Rattle.j_words.specs.declared.line.Reading.{Reading}
use Rattle.j_words.specs.declared.line.Reading.TheVariants.{Strict, Formal}

-- words of one class that came in together, with blanks between them
pub record Words : Type 0 where
  pub text : List ℕ
  pub class : Class
  pub stage : Stage

abbrev pub row : Class → Stage → List ℕ → Words
row c s t = record { text = t; class = c; stage = s }

abbrev pub vocabulary : List Words
vocabulary =
    row class.Verb Now (codes "+ - * % ^ | <. >. <: >: +: *: +. *. -. -: < > = ~: [ ] [: _9: _8: _7: _6: _5: _4: _3: _2: _1: 0: 1: 2: 3: 4: 5: 6: 7: 8: 9:")
    ∷ row class.Verb Now (codes "$ , ,. ,: # |. |: {. {: }. }: { i. i: I.")
    ∷ row class.Verb Now (codes "e. ~. /: \\: #. #:")
    ∷ row class.NounWord Now (codes "a.")
    ∷ row class.Adverb Now (codes "~ /")
    ∷ row class.Conjunction Now (codes "\" @ @: & &: ^: . &. ;.")
    ∷ row class.Copula Now (codes "=. =:")
    ∷ row class.Open Now (codes "(")
    ∷ row class.Close Now (codes ")")
    ∷ row class.Verb Now (codes "; ;: \":")
    ∷ row class.NounWord Now (codes "a:")
    ∷ row class.Adverb Now (codes "} /. \\ \\.")
    ∷ row class.Conjunction Later (codes ": ::")
    ∷ row class.Control Later (codes "if. do. elseif. else. end. while. whilst. for. select. case. fcase. try. catch. assert. break. continue. return.")
    ∷ row class.Name LeftOut (codes "%. %: ^. ! !. !: $. $: ? ?. A. C. D. D: E. H. L. L: M. S: T. b. d. f. j. o. p. p.. p: q: r. s: t. t: u: x: .. .: {:: &.: ` `: @. _: \".")
    ∷ []

-- a row as the code keeps it
abbrev pub row_of : Row → Words
row_of r = record { text = r.words.now; class = r.class; stage = r.stage }

-- whether the text has that word between its blanks
abbrev pub is_among : List ℕ → List ℕ → Bool
is_among word text = list_any (λ w. bytes_eq w word) (slice_split (λ b. b == 32) text)

abbrev pub first_row : List ℕ → List Words → Option Entry
first_row word [] = None
first_row word (r ∷ rs) = cond (is_among word r.text) (Some (record { class = r.class; stage = r.stage })) (first_row word rs)

-- `for_`, a simple name and `.`
abbrev pub is_simple_name : List ℕ → Bool
is_simple_name name = has_name_bytes name && is_simple name

abbrev pub is_for : List ℕ → Bool
is_for word =
    let end = length word - 1 in
    nat_lt 4 (length word) && (bytes_eq (take 4 word) (codes "for_") && (bytes_eq (drop end word) (codes ".") && is_simple_name (take (end - 4) (drop 4 word))))

abbrev pub or_for : List ℕ → Option Entry → Option Entry
or_for word (Some e) = Some e
or_for word None = cond (is_for word) (Some (record { class = class.Control; stage = Later })) None

abbrev pub look_up : List ℕ → Option Entry
look_up word = or_for word (first_row word vocabulary)

-- what is let through
abbrev pub at_stage : Stage → Class → Result Class WordFault
at_stage Now c = Ok c
at_stage Later c = Err Nonce
at_stage LeftOut c = Err Nonce

abbrev pub let_through : Option Entry → Result Class WordFault
let_through None = Err Spelling
let_through (Some e) = at_stage e.stage e.class

-- the class of a word whether it is let through or not
abbrev pub class_or_name : Option Entry → Class
class_or_name None = class.Name
class_or_name (Some e) = e.class

-- The class of a word of a form, or its fault. The forms alone know no fault here.
abbrev pub class_of : Reading → Form → List ℕ → Result Class WordFault
class_of r form.Number word = Ok class.Number
class_of r form.Text word = Ok class.Text
class_of Strict form.Name word = name_class word
class_of Formal form.Name word = Ok class.Name
class_of Strict form.Listed word = let_through (look_up word)
class_of Formal form.Listed word = Ok (class_or_name (look_up word))
