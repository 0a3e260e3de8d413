-- A text that wasn't read.
use Rattle.std.proofs.Common.{◌≡◌, ◌≤◌, ◌+◌, List, ℕ, ◌++◌, Option, None, Some, refl, sym, ap, subst, ◌∙◌, length, length-append, arith}
use Rattle.std.specs.Prelude.{IfSome, cond}
use Rattle.std.proofs.lemmas.Bool.{lt-leb}
use Rattle.std.specs.Io.KnownBytes.{prepend_known}
use Rattle.j_cli.specs.Run.{start, lines_of}
use Rattle.j_cli.specs.Answer.{Answer, answer_on, answer_from, answer_too_long, limit}
use Rattle.j_cli.specs.Halts.{Answered, ReadBeyond, read_status}
use Rattle.j_cli.specs.declared.halt.ReadHalt.{ReadHalt}
use Rattle.j_cli.specs.declared.halt.ReadHalt.TheVariants as read
use Rattle.j_cli.proofs.Known.{grew_nothing}
use Rattle.j_cli.proofs.Executing.{answered_by, answered_nothing, wanting, unread}

abbrev IsTold : Option (List ℕ) → Type 0
IsTold None = ⊥
IsTold (Some text) = Unit {0}

took_length : (text taken : List ℕ) (new : Option (List ℕ)) → Some text ≡ prepend_known taken new → length taken ≤ length text
took_length text taken None e = absurd (subst IsTold e tt)
took_length text taken (Some rest) e =
    let parted : text ≡ taken ++ rest = cc in
    omega (arith, ap length parted ∙ length-append taken rest)

too_long : (text : List ℕ) → limit + 1 ≤ length text → answer_on text ≡ answer_too_long
too_long text h = ap (λ b. cond b (answer_from start (lines_of text)) answer_too_long) (lt-leb (length text) limit (omega arith))

-- any text, told or not
told : (left : Option (List ℕ)) (P : List ℕ → Type 0) → ((text : List ℕ) → P text) → IfSome left P
told None P all = tt
told (Some text) P all = all text

beyond : (left new o : Option (List ℕ)) → ReadBeyond left new → IfSome left (λ text. Answered (answer_on text) 7 o o)
beyond None new o p = tt
beyond (Some text) new o p =
    let long : limit + 1 ≤ length text = omega (arith, took_length text p.0 new p.1.took, p.2) in
    subst (λ (a : Answer). Answered a 7 o o) (sym (too_long text long)) (answered_by answer_too_long 7 o o refl (grew_nothing o))

-- nothing is written where the text wasn't read
pub unread_answers : (h : ReadHalt) (left new o : Option (List ℕ)) → (h ≡ read.TooLong → ReadBeyond left new) → IfSome left (λ text. Answered (answer_on text) (read_status h) o o)
unread_answers read.NoMemory left new o long = told left (λ text. Answered (answer_on text) 1 o o) (λ text. answered_nothing (answer_on text) 1 o wanting)
unread_answers read.Failed left new o long = told left (λ text. Answered (answer_on text) 5 o o) (λ text. answered_nothing (answer_on text) 5 o unread)
unread_answers read.TooLong left new o long = beyond left new o (long refl)
