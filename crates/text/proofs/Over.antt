-- Bytes written over an output: it stays as long as it is, one piece goes behind the other, and past its end nothing is written.
-- Assumes nothing.
use mathlib.Core.Bool.{Bool, true, false}
use mathlib.Core.Path.{◌≡◌, refl, sym, ap, ◌∙◌}
use mathlib.Core.List.{List, [], ◌∷◌, ◌++◌}
use Prim.Native.Nat.{ℕ, suc, ◌+◌, ◌-◌, ◌≤◌, ◌<◌, min}
use native.Mathlib.Nat.{add-zero, zero-add}
use native.Mathlib.Numerals.{add-one}
use native.Mathlib.Omega.{arith}
use borrow.Author.Tests.{leb-true, leb-false}
use borrow.Rule.Slice.PartMut.{put_mid}
use lib.Dec.{leb}
use lib.ListN.{length, get_or, set, take, drop, length-set, drop_of_length-le}
use lib.Seq.{sets, sets-eq, set_out, length-take-le, drop-cons}
use Rattle.std.proofs.Common.{take-append-drop, drop-drop, append_assoc}
use Rattle.text.specs.Written.{over}

pub over_none : (o : List ℕ) (at : ℕ) → over o at [] ≡ o
unfolding over
over_none o at = refl

pub over_cons : (o : List ℕ) (at x : ℕ) (b : List ℕ) → over o at (x ∷ b) ≡ over (set o at x) (at + 1) b
unfolding over
over_cons o at x b = refl

pub over_append : (o : List ℕ) (at : ℕ) (a b : List ℕ) → over o at (a ++ b) ≡ over (over o at a) (at + length a) b
unfolding over
over_append o at [] b = ap (λ (k : ℕ). over o k b) (sym (add-zero at))
over_append o at (x ∷ a) b =
    let e : at + 1 + length a ≡ at + length (x ∷ a) = omega arith in
    over_append (set o at x) (at + 1) a b ∙ ap (λ (k : ℕ). over (over (set o at x) (at + 1) a) k b) e

pub over_length : (o : List ℕ) (at : ℕ) (b : List ℕ) → length (over o at b) ≡ length o
unfolding over
over_length o at [] = refl
over_length o at (x ∷ b) = over_length (set o at x) (at + 1) b ∙ length-set o at x

pub over_past : (o : List ℕ) (at : ℕ) (b : List ℕ) → length o ≤ at → over o at b ≡ o
unfolding over
over_past o at [] h = refl
over_past o at (x ∷ b) h = ap (λ (z : List ℕ). over z (at + 1) b) (set_out o at x h) ∙ over_past o (at + 1) b (omega arith)

-- ---- bytes that the output has room for

over_sets : (o : List ℕ) (at : ℕ) (b : List ℕ) → over o at b ≡ sets o at b
unfolding over
over_sets o at [] = refl
over_sets o at (x ∷ b) = over_sets (set o at x) (at + 1) b ∙ ap (λ (k : ℕ). sets (set o at x) k b) (add-one at)

module _ (o : List ℕ) (at : ℕ) (b : List ℕ) (h : at + length b ≤ length o) where
  pub over_inside : over o at b ≡ take at o ++ b ++ drop (at + length b) o
  over_inside = over_sets o at b ∙ sets-eq b o at h

pub over_front : (o b : List ℕ) → length b ≤ length o → over o 0 b ≡ b ++ drop (length b) o
over_front o b h = over_inside o 0 b (omega arith) ∙ ap (λ (k : ℕ). b ++ drop k o) (zero-add (length b))

-- ---- a copy of what the output has room for

module _ (o : List ℕ) (at : ℕ) (b : List ℕ) (n : ℕ) (e : n ≡ min (length b) (length o - at)) (h : at ≤ length o) where
  over_cut : over o at b ≡ over o at (take n b)
  over_cut = ap (over o at) (sym (take-append-drop n b)) ∙ over_append o at (take n b) (drop n b) ∙ by (leb (length b) n) refl
    where
      by : (t : Bool) → leb (length b) n ≡ t → over (over o at (take n b)) (at + length (take n b)) (drop n b) ≡ over o at (take n b)
      by true f =
          let l = leb-true (length b) n f in
          rw (drop_of_length-le b l) (over_none (over o at (take n b)) (at + length (take n b)))
      by false f =
          let l = leb-false (length b) n f in
          let m : length (take n b) ≡ n = length-take-le n b (omega arith) in
          over_past (over o at (take n b)) (at + length (take n b)) (drop n b) (omega (arith, over_length o at (take n b)))

  pub over_copy : (k : ℕ) (ys : List ℕ) → k ≡ n → ys ≡ take n b → put_mid at k o ys ≡ over o at b
  over_copy k ys f g =
      let m : length (take n b) ≡ n = length-take-le n b (omega arith) in
      rw (f, g) (sym
      (over_cut
      ∙ over_inside o at (take n b) (omega arith)
      ∙ append_assoc (take at o) (take n b) (drop (at + length (take n b)) o)
      ∙ ap (λ (t : List ℕ). take at o ++ (take n b ++ t)) (ap (λ (i : ℕ). drop (at + i) o) m ∙ sym (drop-drop n at o))))

-- ---- one byte more of a list
module _ (o : List ℕ) (at : ℕ) (b : List ℕ) (i : ℕ) where
  pub over_step : i < length b → over o at (drop i b) ≡ over (set o at (get_or b i 0)) (at + 1) (drop (i + 1) b)
  over_step h = rw (add-one i, drop-cons b i 0) (over_cons o at (get_or b i 0) (drop (suc i) b))

  pub over_done : length b ≤ i → over o at (drop i b) ≡ o
  over_done h = ap (over o at) (drop_of_length-le b h) ∙ over_none o at
