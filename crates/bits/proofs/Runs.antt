-- Laws of runs of up to 64 bits in a slice, read and written through a word and a ninth byte: bit i of a run from bit r of byte at on is bit
-- r + i of the word there, or bit r + i - 64 of the byte after it (get_one, get_two); a word with the run's bits put in is the run written
-- (splice_law), and what the word does not hold the ninth byte does (set_two).
-- Assumes nothing.
use mathlib.Core.Path.{◌≡◌, sym, ap, ◌∙◌}
use mathlib.Core.List.{List}
use Prim.Native.Nat.{ℕ, ◌+◌, ◌-◌, ◌*◌, ◌/◌, ◌%◌, ◌^◌, ◌≤◌, ◌<◌, min, max}
use native.Mathlib.Nat.{zero-add, add-sub_of_le}
use native.Mathlib.Omega.{arith}
use lib.ListN.{length, get_or}
use lib.Bits.{bit_or}
use Rattle.bits.specs.Bits.{bit_of, bit_at, run, put, set_bits}
use Rattle.bits.proofs.Laws.{lt_cases, bit_of_lt, bit_of_shift, bit_at_lt, bit_at_byte, run_ext, run_bit, run_high, run_shr, put_in, put_below, put_above, put_cases, put_lt, put_shift}
use Rattle.bits.proofs.With.{with_bits_ext, with_bits_end, set_bits_join}
use Rattle.bits.proofs.Words.{bit_of_or, bit_of_shl, bit_of_shl_low, load_past}

-- ---- the word at a byte near the end

pub word_end : (s : List ℕ) (at : ℕ) → length s < at + 8 → run (bit_at s) (8 * at) (8 * (length s - at)) ≡ run (bit_at s) (8 * at) 64
word_end s at h = let e : length s - at ≡ min 8 (length s - at) = omega arith in ap (λ (m : ℕ). run (bit_at s) (8 * at) (8 * m)) e ∙ load_past s at 8

pub word_none : (s : List ℕ) (at : ℕ) → length s ≤ at → 0 ≡ run (bit_at s) (8 * at) 64
unfolding run
word_none s at h = let e : min 8 (length s - at) ≡ 0 = omega arith in rw e at (load_past s at 8)

-- the last word, shifted down, is the word at a later byte
pub word_last : (s : List ℕ) (at : ℕ) → 8 ≤ length s → at < length s → length s < at + 8
    → run (bit_at s) (8 * (length s - 8)) 64 / 2 ^ (8 * (at + 8 - length s)) ≡ run (bit_at s) (8 * at) 64
word_last s at h l q =
    let k = 8 * (at + 8 - length s) in
    let m = 8 * (length s - at) in
    let e : 64 ≡ k + m = omega arith in
    let e2 : 8 * (length s - 8) + k ≡ 8 * at = omega arith in
    ap (λ (n : ℕ). run (bit_at s) (8 * (length s - 8)) n / 2 ^ k) e
    ∙ run_shr (bit_at s) (bit_at_lt s) (8 * (length s - 8)) k m
    ∙ ap (λ (p : ℕ). run (bit_at s) p m) e2
    ∙ word_end s at q

-- ---- reading

module _ (s : List ℕ) (at r : ℕ) where
  -- bit i of the word at a byte, shifted to the run
  word_bit : (i : ℕ) → r + i < 64 → bit_of (run (bit_at s) (8 * at) 64 / 2 ^ r) i ≡ bit_at s (8 * at + r + i)
  word_bit i h =
      let e : 8 * at + (r + i) ≡ 8 * at + r + i = omega arith in
      bit_of_shift (run (bit_at s) (8 * at) 64) r i ∙ run_bit (bit_at s) (bit_at_lt s) (8 * at) 64 (r + i) h ∙ ap (bit_at s) e

  -- the run stands in the word
  pub get_one : (n : ℕ) → r + n ≤ 64 → run (bit_of (run (bit_at s) (8 * at) 64 / 2 ^ r)) 0 n ≡ run (bit_at s) (8 * at + r) n
  get_one n h =
      run_ext (bit_of (run (bit_at s) (8 * at) 64 / 2 ^ r)) (bit_at s) 0 (8 * at + r) n
      (λ i l. rw (zero-add i) (word_bit i (omega arith)))

  abbrev below : ℕ
  below = run (bit_at s) (8 * at) 64 / 2 ^ r

  abbrev above : ℕ
  above = get_or s (at + 8) 0 * 2 ^ (64 - r) % 2 ^ 64

  two_bit : (i : ℕ) → r < 8 → i < 64 → max (bit_of below i) (bit_of above i) ≡ bit_at s (8 * at + r + i)
  two_bit i q l =
      lt_cases (r + i) 64 (max (bit_of below i) (bit_of above i) ≡ bit_at s (8 * at + r + i))
      (λ p.
      let a = word_bit i p in
      let b = bit_of_shl_low (get_or s (at + 8) 0) (64 - r) 64 i (omega arith) l in
      omega arith)
      (λ p.
      let j = i - (64 - r) in
      let e : 8 * (at + 8) + j ≡ 8 * at + r + i = omega arith in
      let a = bit_of_shift (run (bit_at s) (8 * at) 64) r i ∙ run_high (bit_at s) (bit_at_lt s) (8 * at) 64 (r + i) p in
      let b = bit_of_shl (get_or s (at + 8) 0) (64 - r) 64 i (omega arith) l ∙ sym (bit_at_byte s (at + 8) j (omega arith)) ∙ ap (bit_at s) e in
      omega arith)

  -- the run reaches into the ninth byte
  pub get_two : (n : ℕ) → r < 8 → n ≤ 64
      → run (bit_of (bit_or (run (bit_at s) (8 * at) 64 / 2 ^ r) (get_or s (at + 8) 0 * 2 ^ (64 - r) % 2 ^ 64))) 0 n ≡ run (bit_at s) (8 * at + r) n
  get_two n q h =
      run_ext (bit_of (bit_or below above)) (bit_at s) 0 (8 * at + r) n
      (λ i l. rw (zero-add i) (bit_of_or below above i ∙ two_bit i q (omega arith)))

-- ---- writing

-- the m bytes at at as a number, with n bits from r on put in
abbrev spliced : List ℕ → ℕ → ℕ → ℕ → ℕ → ℕ → ℕ
spliced s at m r n v = run (put (bit_of (run (bit_at s) (8 * at) (8 * m))) r n (bit_of v)) 0 64

spliced_bit : (s : List ℕ) (at m r n v : ℕ) → m ≤ 8 → (i : ℕ) → i < 8 * m → bit_of (spliced s at m r n v) i ≡ put (bit_at s) (8 * at + r) n (bit_of v) (8 * at + i)
spliced_bit s at m r n v h i l =
    let g = bit_of (run (bit_at s) (8 * at) (8 * m)) in
    run_bit (put g r n (bit_of v)) (put_lt g (bit_of_lt _) r n (bit_of v) (bit_of_lt v)) 0 64 i (omega arith)
    ∙ ap (put g r n (bit_of v)) (zero-add i)
    ∙ put_shift g (bit_at s) (8 * at) r n (bit_of v) i (run_bit (bit_at s) (bit_at_lt s) (8 * at) (8 * m) i l)

-- a run cut short has the longer one's bits, as far as it goes
put_cut : (f : ℕ → ℕ) (o n m : ℕ) (g : ℕ → ℕ) (k : ℕ) → k < o + m → put f o n g k ≡ put f o (min n m) g k
put_cut f o n m g k h =
    put_cases f o n g k (λ (x : ℕ). x ≡ put f o (min n m) g k)
    (λ a. sym (put_below f o (min n m) g k a))
    (λ a d. sym (put_in f o (min n m) g k a (omega arith)))
    (λ a. sym (put_above f o (min n m) g k (omega arith)))

-- a write into the m bytes from at on, through their number
pub splice_law : (s : List ℕ) (at m r n v : ℕ) → m ≤ 8 → r < 8 * m
    → set_bits s (8 * at) (8 * m) (run (put (bit_of (run (bit_at s) (8 * at) (8 * m))) r n (bit_of v)) 0 64) ≡ set_bits s (8 * at + r) (min n (8 * m - r)) v
splice_law s at m r n v h q =
    with_bits_ext s (8 * at) (8 * m) (bit_of (spliced s at m r n v)) (8 * at + r) (min n (8 * m - r)) (bit_of v)
    (λ k _. put_cases (bit_at s) (8 * at) (8 * m) (bit_of (spliced s at m r n v)) k (λ (x : ℕ). x ≡ put (bit_at s) (8 * at + r) (min n (8 * m - r)) (bit_of v) k)
    (λ a. sym (put_below (bit_at s) (8 * at + r) (min n (8 * m - r)) (bit_of v) k (omega arith)))
    (λ a d.
    let e : 8 * at + (k - 8 * at) ≡ k = add-sub_of_le a in
    spliced_bit s at m r n v h (k - 8 * at) (omega arith)
    ∙ ap (put (bit_at s) (8 * at + r) n (bit_of v)) e
    ∙ put_cut (bit_at s) (8 * at + r) n (8 * m - r) (bit_of v) k (omega arith))
    (λ a. sym (put_above (bit_at s) (8 * at + r) (min n (8 * m - r)) (bit_of v) k (omega arith))))

pub splice8_law : (s : List ℕ) (at r n v : ℕ) → r < 64
    → set_bits s (8 * at) 64 (run (put (bit_of (run (bit_at s) (8 * at) 64)) r n (bit_of v)) 0 64) ≡ set_bits s (8 * at + r) (min n (64 - r)) v
splice8_law s at r n v q = splice_law s at 8 r n v (omega arith) q

-- the low n bits of one byte
pub splice_byte_law : (s : List ℕ) (i n v : ℕ) → n ≤ 8
    → set_bits s (8 * i) 8 (run (put (bit_of (run (bit_at s) (8 * i) 8)) 0 n (bit_of v)) 0 64) ≡ set_bits s (8 * i) n v
splice_byte_law s i n v h =
    let e : 8 * i + 0 ≡ 8 * i = omega arith in
    let e2 : min n (8 * 1 - 0) ≡ n = omega arith in
    rw (e, e2) at (splice_law s i 1 0 n v (omega arith) (omega arith))

-- the run stands in the word
pub set_one : (s : List ℕ) (o r n v : ℕ) → r + n ≤ 64 → set_bits s o (min n (64 - r)) v ≡ set_bits s o n v
set_one s o r n v h = let e : min n (64 - r) ≡ n = omega arith in ap (λ (k : ℕ). set_bits s o k v) e

-- the run reaches into the ninth byte
pub set_two : (s : List ℕ) (at r n v : ℕ) → r < 8 → 64 < r + n
    → set_bits (set_bits s (8 * at + r) (min n (64 - r)) v) (8 * (at + 8)) (r + n - 64) (v / 2 ^ (64 - r)) ≡ set_bits s (8 * at + r) n v
set_two s at r n v q h =
    let e : min n (64 - r) ≡ 64 - r = omega arith in
    let e2 : 8 * (at + 8) ≡ 8 * at + r + (64 - r) = omega arith in
    let e3 : 64 - r + (r + n - 64) ≡ n = omega arith in
    rw (e, e2)
    (set_bits_join s (8 * at + r) (64 - r) (r + n - 64) v (v / 2 ^ (64 - r)) (λ i _. bit_of_shift v (64 - r) i)
    ∙ ap (λ (k : ℕ). set_bits s (8 * at + r) k v) e3)

-- in the last eight bytes
pub set_last : (s : List ℕ) (at r n v : ℕ) → 8 ≤ length s → at < length s → length s < at + 8 → r < 8
    → set_bits s (8 * (length s - 8) + (8 * (at - (length s - 8)) + r)) (min n (64 - (8 * (at - (length s - 8)) + r))) v ≡ set_bits s (8 * at + r) n v
set_last s at r n v h l q p =
    let e : 8 * (length s - 8) + (8 * (at - (length s - 8)) + r) ≡ 8 * at + r = omega arith in
    rw e (with_bits_end s (8 * at + r) n (64 - (8 * (at - (length s - 8)) + r)) (bit_of v) (omega arith))

-- in as many bytes as there are
pub set_few : (s : List ℕ) (at r n v : ℕ) → at < length s → r < 8 → set_bits s (8 * at + r) (min n (8 * (length s - at) - r)) v ≡ set_bits s (8 * at + r) n v
set_few s at r n v l p = with_bits_end s (8 * at + r) n (8 * (length s - at) - r) (bit_of v) (omega arith)
