use Rattle.std.proofs.Common.{◌≡◌, ◌+◌, ◌++◌, ℕ, List, length, take, drop, sym, rules, ◌∙◌, ap}
use Rattle.std.proofs.lemmas.List.{take_at, drop-drop, take-append-drop}
use Rattle.j_io.proofs.memory.copy_from.Goals as goal

-- what was copied to the front, and what stands behind it in the text
copied :
    (text got rest : List ℕ) (at n : ℕ) → length got ≡ n → got ≡ take n (drop at text)
    → drop at text ≡ take n (got ++ rest) ++ drop (at + n) text
copied text got rest at n len e =
    sym
    (ap (λ xs. xs ++ drop (at + n) text) (take_at got rest n len ∙ e)
    ∙ (ap (λ ys. take n (drop at text) ++ ys) (sym (drop-drop n at text))
    ∙ take-append-drop n (drop at text)))

pub returns-clause-bytes : goal.returns-clause-bytes
returns-clause-bytes c =
    copied c.args.text.now c.copy_from_slice.new.self _ c.args.at c.min-count.result
    (search rules) (search rules)
