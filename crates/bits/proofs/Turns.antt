-- Laws of runs of any length, moved 64 bits a turn: each turn makes eight bytes more what they are to be (write_turn, read_turn), the last
-- what is left, as far as there is room (write_rest, read_rest). From the top down what is read was not yet written (self_turn).
-- Assumes nothing.
use mathlib.Core.Path.{◌≡◌, refl, sym, ap, ◌∙◌}
use mathlib.Core.List.{List}
use Prim.Native.Nat.{ℕ, ◌+◌, ◌-◌, ◌*◌, ◌/◌, ◌%◌, ◌^◌, ◌≤◌, ◌<◌, min, max}
use native.Mathlib.Nat.{zero-add, add-zero, add-sub_of_le, sub-zero}
use native.Mathlib.Omega.{arith}
use lib.ListN.{length, get_or}
use lib.Bits.{bit_or}
use lib.Pow.{shr-shr}
use Rattle.bits.specs.Bits.{bit_of, bit_at, run, put, from, with_bits, set_bits, run_bits, bytes_for}
use Rattle.bits.proofs.Laws.{lt_cases, bit_of_high, bit_at_lt, bit_at_byte, bit_at_end, run_ext, run_bit, run_high, run_shr, put_in, put_below, put_above, put_cases, put_lt}
use Rattle.std.specs.Int.{w64, to_le_bytes}
use Rattle.bits.proofs.Words.{number_bit, bit_of_or, bit_of_shl, bit_of_shl_low}
use Rattle.bits.proofs.With.{with_bits_bit, with_bits_ext, with_bits_cong, with_bits_end, with_bits_join, with_bits_front}

-- bit 8 * j of a run from o on, as code has it
place : (o j : ℕ) → 8 * (o / 8 + j) + o % 8 ≡ o + 8 * j
place o j = omega arith

-- ---- a run of s into t

-- t as it is to be
abbrev pub goal : List ℕ → List ℕ → ℕ → ℕ → ℕ → ℕ
goal t s o n = put (bit_at t) o n (bit_at s)

-- t with the j bytes from the run's first on as they are to be
abbrev pub ahead : List ℕ → List ℕ → ℕ → ℕ → ℕ → List ℕ
ahead t s o n j = with_bits t (8 * (o / 8)) (8 * j) (from (goal t s o n) (8 * (o / 8)))

goal_lt : (t s : List ℕ) (o n k : ℕ) → goal t s o n k < 2
goal_lt t s o n k = put_lt (bit_at t) (bit_at_lt t) o n (bit_at s) (bit_at_lt s) k

-- bit i of the run's bits from d on
goal_in : (t s : List ℕ) (o n d i : ℕ) → d + i < n → goal t s o n (o + d + i) ≡ bit_at s (d + i)
goal_in t s o n d i h =
    let e : o + d + i - o ≡ d + i = omega arith in
    put_in (bit_at t) o n (bit_at s) (o + d + i) (omega arith) (omega arith) ∙ ap (bit_at s) e

-- what is carried: the bits below the run's in the next byte
pub carry_first : (t s : List ℕ) (o n : ℕ) → run (bit_of (get_or t (o / 8) 0)) 0 (o % 8) ≡ run (goal t s o n) (8 * (o / 8 + 0)) (o % 8)
carry_first t s o n =
    rw (add-zero (o / 8))
    (run_ext (bit_of (get_or t (o / 8) 0)) (goal t s o n) 0 (8 * (o / 8)) (o % 8)
    (λ i l. rw (zero-add i)
    (sym (bit_at_byte t (o / 8) i (omega arith)) ∙ sym (put_below (bit_at t) o n (bit_at s) (8 * (o / 8) + i) (omega arith)))))

pub carry_next : (t s : List ℕ) (o n k : ℕ) → 8 * (8 * k + 8) ≤ n
    → run (bit_at s) (8 * (8 * k)) 64 / 2 ^ 1 / 2 ^ (63 - o % 8) ≡ run (goal t s o n) (8 * (o / 8 + 8 * (k + 1))) (o % 8)
carry_next t s o n k h =
    let j = 8 * k in
    let r = o % 8 in
    let e : 1 + (63 - r) ≡ 64 - r = omega arith in
    let e2 : 64 ≡ 64 - r + r = omega arith in
    let e3 : 8 * (o / 8 + 8 * (k + 1)) ≡ o + (8 * j + (64 - r)) = omega arith in
    shr-shr (run (bit_at s) (8 * j) 64) 1 (63 - r)
    ∙ ap (λ (k : ℕ). run (bit_at s) (8 * j) 64 / 2 ^ k) e
    ∙ ap (λ (k : ℕ). run (bit_at s) (8 * j) k / 2 ^ (64 - r)) e2
    ∙ run_shr (bit_at s) (bit_at_lt s) (8 * j) (64 - r) r
    ∙ run_ext (bit_at s) (goal t s o n) (8 * j + (64 - r)) (o + (8 * j + (64 - r))) r
    (λ i l. sym (goal_in t s o n (8 * j + (64 - r)) i (omega arith)))
    ∙ ap (λ (k : ℕ). run (goal t s o n) k r) (sym e3)

module _ (t s : List ℕ) (o n j c : ℕ) (e : c ≡ run (goal t s o n) (8 * (o / 8 + j)) (o % 8)) where
  -- a whole word: what is carried, and above it the next bits
  whole_bit : 8 * (j + 8) ≤ n → (i : ℕ) → i < 64
      → bit_of (bit_or c (run (bit_at s) (8 * j) 64 * 2 ^ (o % 8) % 2 ^ 64)) i ≡ goal t s o n (8 * (o / 8 + j) + i)
  whole_bit h i l =
      rw e
      (bit_of_or (run (goal t s o n) (8 * (o / 8 + j)) (o % 8)) (run (bit_at s) (8 * j) 64 * 2 ^ (o % 8) % 2 ^ 64) i
      ∙ lt_cases i (o % 8)
      (max (bit_of (run (goal t s o n) (8 * (o / 8 + j)) (o % 8)) i) (bit_of (run (bit_at s) (8 * j) 64 * 2 ^ (o % 8) % 2 ^ 64) i) ≡ goal t s o n (8 * (o / 8 + j) + i))
      (λ q.
      let a = run_bit (goal t s o n) (goal_lt t s o n) (8 * (o / 8 + j)) (o % 8) i q in
      let b = bit_of_shl_low (run (bit_at s) (8 * j) 64) (o % 8) 64 i q l in
      omega arith)
      (λ q.
      let p : o + 8 * j + (i - o % 8) ≡ 8 * (o / 8 + j) + i = omega arith in
      let a = run_high (goal t s o n) (goal_lt t s o n) (8 * (o / 8 + j)) (o % 8) i q in
      let b = bit_of_shl (run (bit_at s) (8 * j) 64) (o % 8) 64 i q l
      ∙ run_bit (bit_at s) (bit_at_lt s) (8 * j) 64 (i - o % 8) (omega arith)
      ∙ sym (goal_in t s o n (8 * j) (i - o % 8) (omega arith)) ∙ ap (goal t s o n) p in
      omega arith))

  turn : 8 * (j + 8) ≤ n
      → set_bits (ahead t s o n j) (8 * (o / 8 + j)) 64 (bit_or c (run (bit_at s) (8 * j) 64 * 2 ^ (o % 8) % 2 ^ 64)) ≡ ahead t s o n (j + 8)
  turn h =
      let w = bit_or c (run (bit_at s) (8 * j) 64 * 2 ^ (o % 8) % 2 ^ 64) in
      let p : 8 * (o / 8 + j) ≡ 8 * (o / 8) + 8 * j = omega arith in
      let q : 8 * j + 64 ≡ 8 * (j + 8) = omega arith in
      ap (λ (k : ℕ). set_bits (ahead t s o n j) k 64 w) p
      ∙ with_bits_join t (8 * (o / 8)) (8 * j) 64 (from (goal t s o n) (8 * (o / 8))) (bit_of w) (λ k. goal_lt t s o n (8 * (o / 8) + k))
      (λ i l. let p2 : 8 * (o / 8 + j) + i ≡ 8 * (o / 8) + (8 * j + i) = omega arith in whole_bit h i l ∙ ap (goal t s o n) p2)
      ∙ ap (λ (k : ℕ). with_bits t (8 * (o / 8)) k (from (goal t s o n) (8 * (o / 8)))) q

  -- the bits carried at last stand where they belong
  carry : 8 * j ≤ n → set_bits (ahead t s o n j) (8 * (o / 8 + j)) (o % 8) c ≡ with_bits t o (8 * j) (bit_at s)
  carry h =
      let p : 8 * (o / 8 + j) ≡ 8 * (o / 8) + 8 * j = omega arith in
      ap (λ (k : ℕ). set_bits (ahead t s o n j) k (o % 8) c) p
      ∙ with_bits_join t (8 * (o / 8)) (8 * j) (o % 8) (from (goal t s o n) (8 * (o / 8))) (bit_of c) (λ k. goal_lt t s o n (8 * (o / 8) + k))
      (λ i l.
      let p2 : 8 * (o / 8 + j) + i ≡ 8 * (o / 8) + (8 * j + i) = omega arith in
      ap (λ (x : ℕ). bit_of x i) e ∙ run_bit (goal t s o n) (goal_lt t s o n) (8 * (o / 8 + j)) (o % 8) i l ∙ ap (goal t s o n) p2)
      ∙ with_bits_ext t (8 * (o / 8)) (8 * j + o % 8) (from (goal t s o n) (8 * (o / 8))) o (8 * j) (bit_at s) (λ k _. same k)
    where
      same : (k : ℕ) → put (bit_at t) (8 * (o / 8)) (8 * j + o % 8) (from (goal t s o n) (8 * (o / 8))) k ≡ put (bit_at t) o (8 * j) (bit_at s) k
      same k =
          put_cases (bit_at t) (8 * (o / 8)) (8 * j + o % 8) (from (goal t s o n) (8 * (o / 8))) k (λ (x : ℕ). x ≡ put (bit_at t) o (8 * j) (bit_at s) k)
          (λ a. sym (put_below (bit_at t) o (8 * j) (bit_at s) k (omega arith)))
          (λ a d.
          let p : 8 * (o / 8) + (k - 8 * (o / 8)) ≡ k = add-sub_of_le a in
          ap (goal t s o n) p
          ∙ put_cases (bit_at t) o n (bit_at s) k (λ (x : ℕ). x ≡ put (bit_at t) o (8 * j) (bit_at s) k)
          (λ q. sym (put_below (bit_at t) o (8 * j) (bit_at s) k q))
          (λ q r. sym (put_in (bit_at t) o (8 * j) (bit_at s) k q (omega arith)))
          (λ q. let no : ⊥ = omega arith in absurd no))
          (λ a. sym (put_above (bit_at t) o (8 * j) (bit_at s) k (omega arith)))

pub write_turn : (t s : List ℕ) (o n k c : ℕ) → c ≡ run (goal t s o n) (8 * (o / 8 + 8 * k)) (o % 8) → 8 * (8 * k + 8) ≤ n
    → set_bits (ahead t s o n (8 * k)) (8 * (o / 8 + 8 * k)) 64 (bit_or c (run (bit_at s) (8 * (8 * k)) 64 * 2 ^ (o % 8) % 2 ^ 64)) ≡ ahead t s o n (8 * (k + 1))
write_turn t s o n k c e h =
    let w : 8 * (k + 1) ≡ 8 * k + 8 = omega arith in
    rw w (turn t s o n (8 * k) c e h)

pub write_carry : (t s : List ℕ) (o n k c : ℕ) → c ≡ run (goal t s o n) (8 * (o / 8 + 8 * k)) (o % 8) → 8 * (8 * k) ≤ n
    → set_bits (ahead t s o n (8 * k)) (8 * (o / 8 + 8 * k)) (o % 8) c ≡ with_bits t o (8 * (8 * k)) (bit_at s)
write_carry t s o n k c e h = carry t s o n (8 * k) c e h

write_next : (t s : List ℕ) (o d m : ℕ) → m ≤ 64 → set_bits (with_bits t o d (bit_at s)) (o + d) m (run (bit_at s) d 64) ≡ with_bits t o (d + m) (bit_at s)
write_next t s o d m h =
    with_bits_join t o d m (bit_at s) (bit_of (run (bit_at s) d 64)) (bit_at_lt s) (λ i l. run_bit (bit_at s) (bit_at_lt s) d 64 i (omega arith))

-- the last turn: less than eight bytes are left, of the run or of the room for it
pub write_rest : (t s : List ℕ) (o n j : ℕ) → 8 * j ≤ n → min (n / 8) (length t - o / 8) < j + 8
    → set_bits (with_bits t o (8 * j) (bit_at s)) (8 * (o / 8 + j) + o % 8) (min (n - 8 * j) 64) (run (bit_at s) (8 * j) 64) ≡ with_bits t o n (bit_at s)
write_rest t s o n j h l =
    let e : 8 * j + min (n - 8 * j) 64 ≡ min n (8 * j + 64) = omega arith in
    rw (place o j) (write_next t s o (8 * j) (min (n - 8 * j) 64) (omega arith))
    ∙ ap (λ (k : ℕ). with_bits t o k (bit_at s)) e
    ∙ lt_cases n (8 * j + 64) (with_bits t o (min n (8 * j + 64)) (bit_at s) ≡ with_bits t o n (bit_at s))
    (λ q. let w : min n (8 * j + 64) ≡ n = omega arith in ap (λ (k : ℕ). with_bits t o k (bit_at s)) w)
    (λ q. with_bits_end t o n (8 * j + 64) (bit_at s) (room o n j (length t) h l q))
  where
    room : (p m i k : ℕ) → 8 * i ≤ m → min (m / 8) (k - p / 8) < i + 8 → 8 * i + 64 ≤ m → 8 * k ≤ p + (8 * i + 64)
    room p m i k a b d = omega arith

-- ---- a run of s to the front of t

run_bits_lt : (s : List ℕ) (o n k : ℕ) → run_bits s o n k < 2
run_bits_lt s o n k = put_lt (λ _. 0) (λ _. omega arith) 0 n (from (bit_at s) o) (λ i. bit_at_lt s (o + i)) k

run_bits_in : (s : List ℕ) (o n k : ℕ) → k < n → run_bits s o n k ≡ bit_at s (o + k)
run_bits_in s o n k h = put_in (λ _. 0) 0 n (from (bit_at s) o) k (omega arith) (omega arith) ∙ ap (λ (i : ℕ). bit_at s (o + i)) (sub-zero k)

run_bits_above : (s : List ℕ) (o n k : ℕ) → n ≤ k → run_bits s o n k ≡ 0
run_bits_above s o n k h = put_above (λ _. 0) 0 n (from (bit_at s) o) k (omega arith)

-- the next m bits, from a number of k of them: k are all that are left, or as many as asked for
read_next : (t s : List ℕ) (o n d m k : ℕ) → d + k ≤ n → ((i : ℕ) → i < m → k ≤ i → n ≤ d + i)
    → set_bits (with_bits t 0 d (run_bits s o n)) d m (run (bit_at s) (o + d) k) ≡ with_bits t 0 (d + m) (run_bits s o n)
read_next t s o n d m k h r =
    rw (zero-add d) at
    (with_bits_join t 0 d m (run_bits s o n) (bit_of (run (bit_at s) (o + d) k)) (run_bits_lt s o n)
    (λ i l. lt_cases i k (bit_of (run (bit_at s) (o + d) k) i ≡ run_bits s o n (d + i))
    (λ q.
    let e : o + d + i ≡ o + (d + i) = omega arith in
    run_bit (bit_at s) (bit_at_lt s) (o + d) k i q ∙ ap (bit_at s) e ∙ sym (run_bits_in s o n (d + i) (omega arith)))
    (λ q. run_high (bit_at s) (bit_at_lt s) (o + d) k i q ∙ sym (run_bits_above s o n (d + i) (r i l q)))))

pub read_turn : (t s : List ℕ) (o n k : ℕ) → 8 * k + 8 ≤ n / 8
    → set_bits (with_bits t 0 (8 * (8 * k)) (run_bits s o n)) (8 * (8 * k)) 64 (run (bit_at s) (8 * (o / 8 + 8 * k) + o % 8) 64)
    ≡ with_bits t 0 (8 * (8 * (k + 1))) (run_bits s o n)
read_turn t s o n k h =
    let e : 8 * (8 * (k + 1)) ≡ 8 * (8 * k) + 64 = omega arith in
    rw (place o (8 * k), e) (read_next t s o n (8 * (8 * k)) 64 64 (omega arith) (λ i l q. omega arith))

-- eight bytes at most are left, and there is room for them
pub few : (n j k : ℕ) → j ≤ min (n / 8) k → min (n / 8) k < j + 8 → (min (bytes_for n) k - j ≤ 8) × (min (bytes_for n) k - j ≤ k - j)
few n j k a b = (omega arith, omega arith)

pub read_rest : (t s : List ℕ) (o n j : ℕ) → j ≤ min (n / 8) (length t) → min (n / 8) (length t) < j + 8
    → set_bits (with_bits t 0 (8 * j) (run_bits s o n)) (8 * j) (8 * (min (bytes_for n) (length t) - j)) (run (bit_at s) (8 * (o / 8 + j) + o % 8) (min (n - 8 * j) 64))
    ≡ with_bits t 0 (8 * bytes_for n) (run_bits s o n)
read_rest t s o n j h l =
    let m = min (bytes_for n) (length t) - j in
    let f = (few n j (length t) h l).0 in
    let e : 8 * j + 8 * m ≡ min (8 * bytes_for n) (8 * length t) = sizes n j (length t) h in
    rw (place o j)
    (read_next t s o n (8 * j) (8 * m) (min (n - 8 * j) 64) (omega arith) (λ i a b. left n j m i h2 f a b))
    ∙ ap (λ (k : ℕ). with_bits t 0 k (run_bits s o n)) e
    ∙ with_bits_end t 0 (8 * bytes_for n) (8 * length t) (run_bits s o n) (omega arith)
  where
    h2 : 8 * j ≤ n
    h2 = omega arith

    left : (n j m i : ℕ) → 8 * j ≤ n → m ≤ 8 → i < 8 * m → min (n - 8 * j) 64 ≤ i → n ≤ 8 * j + i
    left n j m i a b d e = omega arith

    sizes : (n j k : ℕ) → j ≤ min (n / 8) k → 8 * j + 8 * (min ((n + 7) / 8) k - j) ≡ min (8 * ((n + 7) / 8)) (8 * k)
    sizes n j k a = omega arith

-- ---- a run of s into s itself, from the top down

-- s once its n bits from o on are written from bit d up
abbrev pub upper : List ℕ → ℕ → ℕ → ℕ → List ℕ
upper s o n d = with_bits s (o + d) (n - d) (from (bit_at s) d)

upper_bit : (s : List ℕ) (o n d k : ℕ) → k < d → d ≤ 8 * length s → bit_at (upper s o n d) k ≡ bit_at s k
upper_bit s o n d k h l =
    with_bits_bit s (o + d) (n - d) (from (bit_at s) d) (λ i. bit_at_lt s (d + i)) k (omega arith)
    ∙ put_below (bit_at s) (o + d) (n - d) (from (bit_at s) d) k (omega arith)

self_next : (s : List ℕ) (o n d m : ℕ) → m ≤ 64 → d + m ≤ n → d + m ≤ 8 * length s
    → set_bits (upper s o n (d + m)) (o + d) m (run (bit_at (upper s o n (d + m))) d 64) ≡ upper s o n d
self_next s o n d m h l q =
    let u = upper s o n (d + m) in
    let e : o + (d + m) ≡ o + d + m = omega arith in
    let e2 : m + (n - (d + m)) ≡ n - d = omega arith in
    let v : u ≡ with_bits s (o + d + m) (n - (d + m)) (from (from (bit_at s) d) m) =
    ap (λ (p : ℕ). with_bits s p (n - (d + m)) (from (bit_at s) (d + m))) e
    ∙ with_bits_cong s (o + d + m) (n - (d + m)) (from (bit_at s) (d + m)) (from (from (bit_at s) d) m)
    (λ i _. let w : d + m + i ≡ d + (m + i) = omega arith in ap (bit_at s) w) in
    ap (λ (x : List ℕ). with_bits x (o + d) m (bit_of (run (bit_at u) d 64))) v
    ∙ with_bits_front s (o + d) m (n - (d + m)) (from (bit_at s) d) (bit_of (run (bit_at u) d 64)) (λ i. bit_at_lt s (d + i))
    (λ i a. run_bit (bit_at u) (bit_at_lt u) d 64 i (omega arith) ∙ upper_bit s o n (d + m) (d + i) (omega arith) q)
    ∙ ap (λ (k : ℕ). with_bits s (o + d) k (from (bit_at s) d)) e2

pub self_turn : (s : List ℕ) (o n j i : ℕ) → i + 8 ≡ j → 8 * j ≤ n → j ≤ length s
    → set_bits (upper s o n (8 * j)) (8 * (o / 8 + i) + o % 8) 64 (run (bit_at (upper s o n (8 * j))) (8 * i) 64) ≡ upper s o n (8 * i)
self_turn s o n j i h l q =
    let e : 8 * j ≡ 8 * i + 64 = omega arith in
    rw (place o i, e) (self_next s o n (8 * i) 64 (omega arith) (omega arith) (omega arith))

pub self_rest : (s : List ℕ) (o n j : ℕ) → j < 8 → 8 * j ≤ n → j ≤ length s
    → set_bits (upper s o n (8 * j)) (8 * (o / 8) + o % 8) (8 * j) (run (bit_at (upper s o n (8 * j))) 0 64) ≡ with_bits s o n (bit_at s)
self_rest s o n j h l q =
    let e : 8 * (o / 8) + o % 8 ≡ o + 0 = omega arith in
    let e2 : 0 + 8 * j ≡ 8 * j = zero-add (8 * j) in
    rw e (rw e2 at (self_next s o n 0 (8 * j) (omega arith) (omega arith) (omega arith)))
    ∙ with_bits_cong s (o + 0) (n - 0) (from (bit_at s) 0) (bit_at s) (λ i _. ap (bit_at s) (zero-add i))
    ∙ rw (add-zero o, sub-zero n)

-- ---- a number's bits, as eight bytes

pub eight_bytes : (s : List ℕ) (o n v : ℕ) → v < 2 ^ 64 → with_bits s o n (bit_at (to_le_bytes w64 v)) ≡ set_bits s o n v
eight_bytes s o n v b =
    with_bits_cong s o n (bit_at (to_le_bytes w64 v)) (bit_of v)
    (λ i _. lt_cases i 64 (bit_at (to_le_bytes w64 v) i ≡ bit_of v i)
    (λ q. number_bit v (to_le_bytes w64 v) i refl q)
    (λ q. bit_at_end (to_le_bytes w64 v) i q ∙ sym (bit_of_high v 64 i b q)))
