-- The names of the errors.
use Rattle.std.specs.Prelude.{ℕ, List, codes}
use Rattle.j_definitions.specs.declared.Fault.{Fault}
use Rattle.j_definitions.specs.declared.Fault.TheVariants.{Domain, Index, Length, Rank, Syntax, Value, Limit, Nonce, Control, Stack, Spelling, OpenQuote, IllFormed, Assertion, Overflow, Quotient}

abbrev pub fault_text : Fault → List ℕ
fault_text Domain = codes "domain error"
fault_text Index = codes "index error"
fault_text Length = codes "length error"
fault_text Rank = codes "rank error"
fault_text Syntax = codes "syntax error"
fault_text Value = codes "value error"
fault_text Limit = codes "limit error"
fault_text Nonce = codes "nonce error"
fault_text Control = codes "control error"
fault_text Stack = codes "stack error"
fault_text Spelling = codes "spelling error"
fault_text OpenQuote = codes "open quote"
fault_text IllFormed = codes "ill-formed number"
fault_text Assertion = codes "assertion failure"
fault_text Overflow = codes "overflow error"
fault_text Quotient = codes "quotient error"
