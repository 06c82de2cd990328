-- Hex in lower case: two digits a byte, and byte after byte.
-- Assumes nothing.
use mathlib.Core.Path.{◌≡◌, refl, sym, ap, ◌∙◌}
use mathlib.Core.List.{List, [], ◌∷◌, ◌++◌}
use Prim.Native.Nat.{ℕ, suc, ◌+◌, ◌*◌, ◌/◌, ◌%◌, ◌≤◌, ◌<◌}
use native.Mathlib.Numerals.{add-one}
use native.Mathlib.Omega.{arith}
use lib.ListN.{length, get_or, set, drop, length-set, drop_of_length-le}
use lib.Seq.{drop-cons}
use Rattle.text.specs.Written.{over, hex_digit, hex_text}
use Rattle.text.proofs.Over.{over_none, over_cons, over_past}

pub hex_length : (b : List ℕ) → length (hex_text b) ≡ 2 * length b
unfolding hex_text
hex_length [] = refl
hex_length (x ∷ b) = let e = hex_length b in omega arith

pub hex_append : (a b : List ℕ) → hex_text (a ++ b) ≡ hex_text a ++ hex_text b
unfolding hex_text
hex_append [] b = refl
hex_append (x ∷ a) b = ap (λ (t : List ℕ). hex_digit (x / 16) ∷ hex_digit (x % 16) ∷ t) (hex_append a b)

-- ---- one byte more of a list, written over an output
module _ (o : List ℕ) (at : ℕ) (b : List ℕ) (i : ℕ) where
  module _ (h : i < length b) where
    hex_first : over o at (hex_text (drop i b)) ≡ over (set o at (hex_digit (get_or b i 0 / 16))) (at + 1) (hex_digit (get_or b i 0 % 16) ∷ hex_text (drop (i + 1) b))
    unfolding hex_text
    hex_first = rw (add-one i, drop-cons b i 0) (over_cons o at (hex_digit (get_or b i 0 / 16)) (hex_digit (get_or b i 0 % 16) ∷ hex_text (drop (suc i) b)))

    pub hex_step : (u l : ℕ) → u ≡ hex_digit (get_or b i 0 / 16) → l ≡ hex_digit (get_or b i 0 % 16)
        → over (set (set o at u) (at + 1) l) (at + 1 + 1) (hex_text (drop (i + 1) b)) ≡ over o at (hex_text (drop i b))
    hex_step u l p q = rw (p, q) (sym (hex_first ∙ over_cons (set o at (hex_digit (get_or b i 0 / 16))) (at + 1) (hex_digit (get_or b i 0 % 16)) (hex_text (drop (i + 1) b))))

    -- the output ends between the two digits
    pub hex_half : (u : ℕ) → u ≡ hex_digit (get_or b i 0 / 16) → length o ≤ at + 1 → set o at u ≡ over o at (hex_text (drop i b))
    hex_half u p r =
        let s = set o at (hex_digit (get_or b i 0 / 16)) in
        let m : length s ≤ at + 1 = rw (length-set o at (hex_digit (get_or b i 0 / 16))) r in
        rw p (sym (hex_first ∙ over_past s (at + 1) (hex_digit (get_or b i 0 % 16) ∷ hex_text (drop (i + 1) b)) m))

  pub hex_done : length b ≤ i → over o at (hex_text (drop i b)) ≡ o
  unfolding hex_text
  hex_done h = ap (λ (t : List ℕ). over o at (hex_text t)) (drop_of_length-le b h) ∙ over_none o at
