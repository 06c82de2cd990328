-- A field read from its units, joined: the first unit shifted down to the field's first bit, each other above the bits before it, and what the
-- last has too much cut off. Each is a run of the region's bits, and runs side by side are one run, as far as 64 bits hold it.
-- Assumes nothing.
use mathlib.Core.Path.{◌≡◌, sym, ap, ◌∙◌}
use mathlib.Core.List.{List}
use Prim.Native.Nat.{ℕ, ◌+◌, ◌-◌, ◌*◌, ◌/◌, ◌%◌, ◌^◌, ◌≤◌, ◌<◌, min, max}
use native.Mathlib.Nat.{mod-lt, zero-add, suc-mul}
use native.Mathlib.Numerals.{add-one}
use native.Mathlib.Omega.{arith}
use lib.Bits.{bit_or, or_lt}
use lib.Pow.{pow_pos}
use Rattle.bits.specs.Bits.{bit_of, bit_at, run, get_bits}
use Rattle.bits.proofs.Laws.{lt_cases, bit_at_lt, run_ext, run_bit, run_high, run_below, run_eq, run_shr}
use Rattle.bits.proofs.Words.{bit_of_or, bit_of_shl, bit_of_shl_low, or_over}

-- the field's bits so far, of which there are k: as many as 64 bits hold
abbrev pub so_far : List ℕ → ℕ → ℕ → ℕ
so_far s o k = get_bits s o (min k 64)

module _ (s : List ℕ) (o : ℕ) where
  -- the first unit, which begins at bit b, without its bits before the field
  pub joined_first : (x b d w : ℕ) → d < w → w ≤ 64 → b + d ≡ o → x ≡ get_bits s b w → x / 2 ^ d ≡ so_far s o (w - d)
  joined_first x b d w h l e q =
      let all : d + (w - d) ≡ w = omega arith in
      let cut : w - d ≡ min (w - d) 64 = omega arith in
      ap (λ (y : ℕ). y / 2 ^ d) (q ∙ ap (get_bits s b) (sym all))
      ∙ run_shr (bit_at s) (bit_at_lt s) b d (w - d)
      ∙ ap (λ (p : ℕ). run (bit_at s) p (w - d)) e
      ∙ ap (get_bits s o) cut

  -- bits that no 64 hold are shifted out
  full : (k w : ℕ) → k < 64 → 64 ≤ k + w → bit_or (get_bits s o k) (get_bits s (o + k) w * 2 ^ k % 2 ^ 64) ≡ get_bits s o 64
  full k w h l =
      run_eq (bit_at s) (bit_or (get_bits s o k) (get_bits s (o + k) w * 2 ^ k % 2 ^ 64)) o 64
      (or_lt 64 (get_bits s o k) (get_bits s (o + k) w * 2 ^ k % 2 ^ 64) (run_below (bit_at s) (bit_at_lt s) o k 64 (omega arith))
      (mod-lt (get_bits s (o + k) w * 2 ^ k) (pow_pos 64)))
      (λ i r. bit_of_or (get_bits s o k) (get_bits s (o + k) w * 2 ^ k % 2 ^ 64) i ∙ each i r)
    where
      each : (i : ℕ) → i < 64 → max (bit_of (get_bits s o k) i) (bit_of (get_bits s (o + k) w * 2 ^ k % 2 ^ 64) i) ≡ bit_at s (o + i)
      each i r =
          lt_cases i k (max (bit_of (get_bits s o k) i) (bit_of (get_bits s (o + k) w * 2 ^ k % 2 ^ 64) i) ≡ bit_at s (o + i))
          (λ p. omega (arith, run_bit (bit_at s) (bit_at_lt s) o k i p, bit_of_shl_low (get_bits s (o + k) w) k 64 i p r))
          (λ p.
          let e : o + k + (i - k) ≡ o + i = omega arith in
          let u = bit_of_shl (get_bits s (o + k) w) k 64 i p r
          ∙ run_bit (bit_at s) (bit_at_lt s) (o + k) w (i - k) (omega arith)
          ∙ ap (bit_at s) e in
          omega (arith, run_high (bit_at s) (bit_at_lt s) o k i p))

  -- one more unit, which begins where the bits so far end
  pub joined_next : (v x b k w : ℕ) → k < 64 → b ≡ o + k → v ≡ so_far s o k → x ≡ get_bits s b w → bit_or v (x * 2 ^ k % 2 ^ 64) ≡ so_far s o (k + w)
  joined_next v x b k w h e p q =
      let few : min k 64 ≡ k = omega arith in
      ap (λ (y : ℕ). bit_or y (x * 2 ^ k % 2 ^ 64)) (p ∙ ap (get_bits s o) few)
      ∙ ap (λ (y : ℕ). bit_or (get_bits s o k) (y * 2 ^ k % 2 ^ 64)) (q ∙ ap (λ (c : ℕ). get_bits s c w) e)
      ∙ lt_cases 64 (k + w) (bit_or (get_bits s o k) (get_bits s (o + k) w * 2 ^ k % 2 ^ 64) ≡ so_far s o (k + w))
      (λ l. let m : 64 ≡ min (k + w) 64 = omega arith in full k w h (omega arith) ∙ ap (get_bits s o) m)
      (λ l.
      let m : k + w ≡ min (k + w) 64 = omega arith in
      or_over (bit_at s) (bit_at_lt s) o k k w (omega arith) (omega arith) l ∙ ap (get_bits s o) m)

  -- the field's own bits of those
  pub joined_all : (v k n : ℕ) → n ≤ k → n ≤ 64 → v ≡ so_far s o k → run (bit_of v) 0 n ≡ get_bits s o n
  joined_all v k n h l e =
      ap (λ (y : ℕ). run (bit_of y) 0 n) e
      ∙ run_ext (bit_of (so_far s o k)) (bit_at s) 0 o n
      (λ i r. ap (bit_of (so_far s o k)) (zero-add i) ∙ run_bit (bit_at s) (bit_at_lt s) o (min k 64) i (omega arith))

-- ---- the loop over the units

-- where unit u begins there are k bits of the field before it
pub record Joining (s : List ℕ) (w o v k u : ℕ) : Type 0 where
  pub so_far_lem : v ≡ so_far s o k
  pub ends : u * w ≡ o + k

pub next_begins : (w u : ℕ) → (u + 1) * w ≡ u * w + w
next_begins w u = ap (λ (x : ℕ). x * w) (add-one u) ∙ suc-mul u w

-- the first unit begins at the field's first bit or before it, and ends after it
pub joining_start : (s : List ℕ) (w o u x : ℕ) → w ≤ 64 → u * w ≤ o → o < u * w + w → x ≡ get_bits s (u * w) w
    → Joining s w o (x / 2 ^ (o - u * w)) (w - (o - u * w)) (u + 1)
joining_start s w o u x most a b q =
    record {
      so_far_lem = joined_first s o x (u * w) (o - u * w) w (omega arith) most (omega arith) q;
      ends = omega (arith, next_begins w u);
    }

pub joining_next : (s : List ℕ) (w o v k u x : ℕ) → Joining s w o v k u → k < 64 → x ≡ get_bits s (u * w) w
    → Joining s w o (bit_or v (x * 2 ^ k % 2 ^ 64)) (k + w) (u + 1)
joining_next s w o v k u x j h q =
    record { so_far_lem = joined_next s o v x (u * w) k w h j.ends j.so_far_lem q; ends = omega (arith, j.ends, next_begins w u) }
