-- Texts are read as they are written.
use Rattle.std.proofs.Common.{◌≡◌, ℕ, ◌+◌, ◌==◌, Bool, true, false, cond, List, [], ◌∷◌, ◌++◌, length, Some, None, refl, ap, ◌∙◌, arith}
use Rattle.j_words.specs.Forms.{further, text_bytes, doubled, begins_quote}
use Rattle.j_words.proofs.Scans.{other_byte}

closing : (rest : List ℕ) → begins_quote rest ≡ false → text_bytes (39 ∷ rest) ≡ Some 1
closing [] h = refl
closing (c ∷ cs) h = ap (λ t. cond t (further 2 (text_bytes cs)) (Some 1)) h

pub text_read : (t rest : List ℕ) → begins_quote rest ≡ false → text_bytes (doubled t ++ 39 ∷ rest) ≡ Some (length (doubled t) + 1)
text_read [] rest h = closing rest h
text_read (b ∷ t) rest h = go (text_read t rest h) (b == 39) refl
  where
    go : text_bytes (doubled t ++ 39 ∷ rest) ≡ Some (length (doubled t) + 1) → (v : Bool) → (b == 39) ≡ v → text_bytes (cond v (39 ∷ 39 ∷ doubled t) (b ∷ doubled t) ++ 39 ∷ rest) ≡ Some (length (cond v (39 ∷ 39 ∷ doubled t) (b ∷ doubled t)) + 1)
    go i true e = ap (further 2) i ∙ ap Some (omega arith)
    go i false e = other_byte b (doubled t ++ 39 ∷ rest) e ∙ ap (further 1) i ∙ ap Some (omega arith)

pub text_unclosed : (t : List ℕ) → text_bytes (doubled t) ≡ None
text_unclosed [] = refl
text_unclosed (b ∷ t) = go (text_unclosed t) (b == 39) refl
  where
    go : text_bytes (doubled t) ≡ None → (v : Bool) → (b == 39) ≡ v → text_bytes (cond v (39 ∷ 39 ∷ doubled t) (b ∷ doubled t)) ≡ None
    go i true e = ap (further 2) i
    go i false e = other_byte b (doubled t) e ∙ ap (further 1) i
