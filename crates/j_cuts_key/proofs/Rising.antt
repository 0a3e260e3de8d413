-- Frets that rise, and the pieces between them.
use Rattle.std.proofs.Common.{◌≡◌, ◌<◌, ◌≤◌, ◌+◌, ◌-◌, ℕ, Bool, true, false, List, [], ◌∷◌, length, map, take, drop, get_or, arith, refl, sym, ap, ◌∙◌, inl, inr}
use Prim.Native.Nat.{zero, suc}
use Rattle.std.specs.List.{filter, range_with_len}
use Rattle.std.proofs.lemmas.Bool.{cases_lt}
use Rattle.std.proofs.lemmas.List.{length-map, get_or-map, get_or_default, get_or_past}
use Rattle.std.proofs.lemmas.List.FromFn.{length-range_with_len}
use Rattle.j_search.proofs.Picks.{keep}
use Rattle.j_search.specs.declared.cut.CutForm.{CutForm}
use Rattle.j_search.specs.declared.cut.CutForm.TheVariants.{Begin, BeginDrop, End, EndDrop}
use Rattle.j_scans.proofs.Ranges.{take_range, drop_range}
use Rattle.j_cuts_key.specs.Cuts.{up_to, first_or, begun, ended, but_first, but_last, cut_places}
use Rattle.j_cuts_key.specs.Kept.{IsRising, after_fret}

rising_kept : (c : Bool) (b a t : ℕ) (rest : List ℕ) → b ≤ a → a < t → IsRising (a + 1) t rest → IsRising b t rest → IsRising b t (keep c a rest)
rising_kept true b a t rest l u h g = (l, u, h)
rising_kept false b a t rest l u h g = g

-- places that pass a test rise
pub rising_filter : (p : ℕ → Bool) (a n b t : ℕ) → b ≤ a → a + n ≤ t → IsRising b t (filter p (range_with_len a n))
rising_filter p a zero b t l u = tt
rising_filter p a (suc n) b t l u =
    rising_kept (p a) b a t (filter p (range_with_len (a + 1) n)) l (omega arith) (rising_filter p (a + 1) n (a + 1) t (omega arith) (omega arith)) (rising_filter p (a + 1) n b t (omega arith) (omega arith))

pub rising_low : (a t : ℕ) (fs : List ℕ) (k d : ℕ) → IsRising a t fs → k < length fs → a ≤ get_or fs k d
rising_low a t [] k d h g = absurd (omega arith)
rising_low a t (f ∷ fs) zero d h g = h.0
rising_low a t (f ∷ fs) (suc k) d h g = omega (arith, h.0, rising_low (f + 1) t fs k d h.2 (omega arith))

pub rising_high : (a t : ℕ) (fs : List ℕ) (k d : ℕ) → IsRising a t fs → k < length fs → get_or fs k d < t
rising_high a t [] k d h g = absurd (omega arith)
rising_high a t (f ∷ fs) zero d h g = h.1
rising_high a t (f ∷ fs) (suc k) d h g = rising_high (f + 1) t fs k d h.2 (omega arith)

pub rising_next : (a t : ℕ) (fs : List ℕ) (k d : ℕ) → IsRising a t fs → suc k < length fs → get_or fs k d < get_or fs (suc k) d
rising_next a t [] k d h g = absurd (omega arith)
rising_next a t (f ∷ fs) zero d h g = let low : f + 1 ≤ get_or fs 0 d = rising_low (f + 1) t fs 0 d h.2 (omega arith) in omega arith
rising_next a t (f ∷ fs) (suc k) d h g = rising_next (f + 1) t fs k d h.2 (omega arith)

-- as many pieces as frets
begun_many : (t : ℕ) (fs : List ℕ) → length (begun t fs) ≡ length fs
begun_many t [] = refl
begun_many t (f ∷ fs) = omega (arith, begun_many t fs)

ended_many : (a : ℕ) (fs : List ℕ) → length (ended a fs) ≡ length fs
ended_many a [] = refl
ended_many a (f ∷ fs) = omega (arith, ended_many (f + 1) fs)

pub cuts_many : (form : CutForm) (t : ℕ) (fs : List ℕ) → length (cut_places form t fs) ≡ length fs
cuts_many Begin t fs = begun_many t fs
cuts_many BeginDrop t fs = length-map (begun t fs) but_first ∙ begun_many t fs
cuts_many End t fs = ended_many 0 fs
cuts_many EndDrop t fs = length-map (ended 0 fs) but_last ∙ ended_many 0 fs

first_is : (t : ℕ) (fs : List ℕ) → first_or t fs ≡ get_or fs 0 t
first_is t [] = refl
first_is t (f ∷ fs) = refl

-- piece k from a fret on
begun_at : (t : ℕ) (fs : List ℕ) (k s e : ℕ) → k < length fs → s ≡ get_or fs k 0 → e ≡ get_or fs (suc k) t → get_or (begun t fs) k [] ≡ up_to s e
begun_at t [] k s e h p q = absurd (omega arith)
begun_at t (f ∷ fs) zero s e h p q = ap (λ j. up_to f j) (first_is t fs ∙ sym q) ∙ ap (λ j. up_to j e) (sym p)
begun_at t (f ∷ fs) (suc k) s e h p q = begun_at t fs k s e (omega arith) p q

-- where piece k begins that goes up to a fret
pub after_some : (a : ℕ) (fs : List ℕ) (k s : ℕ) → 0 < k → s ≡ get_or fs (k - 1) 0 + 1 → s ≡ after_fret a fs k
after_some a fs zero s h e = absurd (omega arith)
after_some a fs (suc k) s h e = let last : suc k - 1 ≡ k = omega arith in e ∙ ap (λ j. get_or fs j 0 + 1) last

pub after_none : (a : ℕ) (fs : List ℕ) (k : ℕ) → k ≤ 0 → a ≡ after_fret a fs k
after_none a fs zero h = refl
after_none a fs (suc k) h = absurd (omega arith)

-- the fret after fret k
pub next_there : (fs : List ℕ) (t k s : ℕ) → k + 1 < length fs → s ≡ get_or fs (k + 1) 0 → s ≡ get_or fs (k + 1) t
next_there fs t k s h e = e ∙ get_or_default fs (k + 1) 0 t h

pub next_past : (fs : List ℕ) (t k : ℕ) → length fs ≤ k + 1 → t ≡ get_or fs (k + 1) t
next_past fs t k h = sym (get_or_past fs (k + 1) t h)

pub next_after : (t : ℕ) (fs : List ℕ) (k e : ℕ) → IsRising 0 t fs → k < length fs → e ≡ get_or fs (k + 1) t → get_or fs k 0 < e
next_after t fs k e h g q = elim (cases_lt (k + 1) (length fs)) [
  | inl there ↦
      let next : k + 1 ≡ suc k = omega arith in
      let at : e ≡ get_or fs (suc k) 0 = q ∙ get_or_default fs (k + 1) t 0 there ∙ ap (λ j. get_or fs j 0) next in
      omega (arith, rising_next 0 t fs k 0 h (omega arith))
  | inr past ↦ omega (arith, rising_high 0 t fs k 0 h g, get_or_past fs (k + 1) t past)
]

pub next_inside : (t : ℕ) (fs : List ℕ) (k e : ℕ) → IsRising 0 t fs → e ≡ get_or fs (k + 1) t → e ≤ t
next_inside t fs k e h q = elim (cases_lt (k + 1) (length fs)) [
  | inl there ↦ omega (arith, rising_high 0 t fs (k + 1) t h there)
  | inr past ↦ omega (arith, get_or_past fs (k + 1) t past)
]

pub after_before : (t : ℕ) (fs : List ℕ) (k s : ℕ) → IsRising 0 t fs → k < length fs → s ≡ after_fret 0 fs k → s ≤ get_or fs k 0
after_before t fs zero s h g e = omega arith
after_before t fs (suc k) s h g e = omega (arith, rising_next 0 t fs k 0 h g)

-- piece k from a fret on, as the code names the next one
pub begun_from : (t : ℕ) (fs : List ℕ) (k s e : ℕ) → k < length fs → s ≡ get_or fs k 0 → e ≡ get_or fs (k + 1) t → get_or (begun t fs) k [] ≡ up_to s e
begun_from t fs k s e h p q = let next : k + 1 ≡ suc k = omega arith in begun_at t fs k s e h p (q ∙ ap (λ j. get_or fs j t) next)

pub ended_at : (a : ℕ) (fs : List ℕ) (k s e : ℕ) → k < length fs → s ≡ after_fret a fs k → e ≡ get_or fs k 0 + 1 → get_or (ended a fs) k [] ≡ up_to s e
ended_at a [] k s e h p q = absurd (omega arith)
ended_at a (f ∷ fs) zero s e h p q = ap (λ j. up_to j (f + 1)) (sym p) ∙ ap (up_to s) (sym q)
ended_at a (f ∷ fs) (suc zero) s e h p q = ended_at (f + 1) fs zero s e (omega arith) p q
ended_at a (f ∷ fs) (suc (suc k)) s e h p q = ended_at (f + 1) fs (suc k) s e (omega arith) p q

-- without the fret
first_dropped : (s e : ℕ) → but_first (up_to s e) ≡ up_to (s + 1) e
first_dropped s e = let rest : e - s - 1 ≡ e - (s + 1) = omega arith in drop_range s (e - s) 1 ∙ ap (range_with_len (s + 1)) rest

last_dropped : (s e : ℕ) → s < e → but_last (up_to s e) ≡ up_to s (e - 1)
last_dropped s e h = take_range s (e - s) (length (up_to s e) - 1) (e - 1 - s) (omega (arith, length-range_with_len s (e - s)))

pub begun_dropped : (t : ℕ) (fs : List ℕ) (k s e : ℕ) → k < length fs → get_or (begun t fs) k [] ≡ up_to s e → get_or (map but_first (begun t fs)) k [] ≡ up_to (s + 1) e
begun_dropped t fs k s e h is = get_or-map but_first (begun t fs) k [] [] (omega (arith, begun_many t fs)) ∙ ap but_first is ∙ first_dropped s e

pub ended_dropped : (fs : List ℕ) (k s e : ℕ) → k < length fs → s < e → get_or (ended 0 fs) k [] ≡ up_to s e → get_or (map but_last (ended 0 fs)) k [] ≡ up_to s (e - 1)
ended_dropped fs k s e h g is = get_or-map but_last (ended 0 fs) k [] [] (omega (arith, ended_many 0 fs)) ∙ ap but_last is ∙ last_dropped s e g
