-- Laws of a byte list with a run of bits replaced (with_bits): its bits (with_bits_bit), when two are equal (with_bits_ext), runs that follow each
-- other, that do not meet, that reach past the end. Those of set_bits are these, at the bits of a number.
-- Assumes nothing.
use mathlib.Core.Path.{◌≡◌, refl, sym, ap, ◌∙◌}
use mathlib.Core.List.{List}
use Prim.Native.Nat.{ℕ, ◌+◌, ◌-◌, ◌*◌, ◌≤◌, ◌<◌, min}
use native.Mathlib.Nat.{zero-add, add-sub_cancel_left}
use native.Mathlib.Omega.{arith}
use lib.ListN.{length, get_or, set, length-set}
use lib.Seq.{ext_get_or}
use Rattle.bits.specs.Bits.{bit_of, bit_at, run, bytes, put, from, with_bits, set_bits}
use Rattle.bits.proofs.Laws.{lt_cases, eq_cases, bit_of_lt, bit_at_lt, bit_at_byte, run_ext, run_mod, run_byte, put_in, put_below, put_above, put_cases, put_lt, put_cong, put_over, put_shift, bytes_length, bytes_at, bit_at_bytes, bytes_ext}

pub with_bits_length : (s : List ℕ) (o n : ℕ) (g : ℕ → ℕ) → length (with_bits s o n g) ≡ length s
unfolding with_bits
with_bits_length s o n g = bytes_length _ _ _

-- bit k after a write: bit k - o of g inside, the old bit outside
pub with_bits_bit : (s : List ℕ) (o n : ℕ) (g : ℕ → ℕ) → ((k : ℕ) → g k < 2) → (k : ℕ) → k < 8 * length s
    → bit_at (with_bits s o n g) k ≡ put (bit_at s) o n g k
unfolding with_bits
with_bits_bit s o n g b k h = bit_at_bytes (put (bit_at s) o n g) (put_lt (bit_at s) (bit_at_lt s) o n g b) (length s) k h

pub with_bits_at : (s : List ℕ) (o n : ℕ) (g : ℕ → ℕ) (j : ℕ) → j < length s → get_or (with_bits s o n g) j 0 ≡ run (put (bit_at s) o n g) (8 * j) 8
unfolding with_bits
with_bits_at s o n g j l = rw (zero-add (8 * j)) at (bytes_at (put (bit_at s) o n g) 0 (length s) j l)

-- two writes of one list are equal where they are bit by bit
pub with_bits_ext : (s : List ℕ) (o n : ℕ) (g : ℕ → ℕ) (p m : ℕ) (h : ℕ → ℕ)
    → ((k : ℕ) → k < 8 * length s → put (bit_at s) o n g k ≡ put (bit_at s) p m h k) → with_bits s o n g ≡ with_bits s p m h
unfolding with_bits
with_bits_ext s o n g p m h e =
    bytes_ext (put (bit_at s) o n g) (put (bit_at s) p m h) 0 (length s) (λ k l. rw (zero-add k) (e k l))

-- only the first n bits of g count
pub with_bits_cong : (s : List ℕ) (o n : ℕ) (g h : ℕ → ℕ) → ((i : ℕ) → i < n → g i ≡ h i) → with_bits s o n g ≡ with_bits s o n h
with_bits_cong s o n g h e =
    with_bits_ext s o n g o n h
    (λ k _. put_cases (bit_at s) o n g k (λ (x : ℕ). x ≡ put (bit_at s) o n h k)
    (λ q. sym (put_below (bit_at s) o n h k q))
    (λ q r. e (k - o) (omega arith) ∙ sym (put_in (bit_at s) o n h k q r))
    (λ q. sym (put_above (bit_at s) o n h k q)))

-- what reaches past the end is dropped
pub with_bits_cut : (s : List ℕ) (o n m : ℕ) (g : ℕ → ℕ) → 8 * length s ≤ o + n → n ≤ m → with_bits s o n g ≡ with_bits s o m g
with_bits_cut s o n m g h l =
    with_bits_ext s o n g o m g
    (λ k q. put_cases (bit_at s) o n g k (λ (x : ℕ). x ≡ put (bit_at s) o m g k)
    (λ a. sym (put_below (bit_at s) o m g k a))
    (λ a d. sym (put_in (bit_at s) o m g k a (omega arith)))
    (λ a. let no : ⊥ = omega arith in absurd no))

-- m bits that reach to the end hold as much of a run as there is room for
pub with_bits_end : (s : List ℕ) (o n m : ℕ) (g : ℕ → ℕ) → 8 * length s ≤ o + m → with_bits s o (min n m) g ≡ with_bits s o n g
with_bits_end s o n m g h =
    lt_cases m n (with_bits s o (min n m) g ≡ with_bits s o n g)
    (λ l. with_bits_cut s o (min n m) n g (omega arith) (omega arith))
    (λ l. let e : min n m ≡ n = omega arith in ap (λ (k : ℕ). with_bits s o k g) e)

-- a write after a write, bit by bit
with_bits_again : (s : List ℕ) (o n : ℕ) (g : ℕ → ℕ) → ((k : ℕ) → g k < 2) → (p m : ℕ) (h : ℕ → ℕ) (q l : ℕ) (f : ℕ → ℕ)
    → ((k : ℕ) → put (put (bit_at s) o n g) p m h k ≡ put (bit_at s) q l f k) → with_bits (with_bits s o n g) p m h ≡ with_bits s q l f
unfolding with_bits
with_bits_again s o n g b p m h q l f e =
    ap (bytes (put (bit_at (with_bits s o n g)) p m h) 0) (with_bits_length s o n g)
    ∙ bytes_ext (put (bit_at (with_bits s o n g)) p m h) (put (bit_at s) q l f) 0 (length s)
    (λ k a. rw (zero-add k) (put_cong (bit_at (with_bits s o n g)) (put (bit_at s) o n g) p m h k (with_bits_bit s o n g b k a) ∙ e k))

-- one run and another that goes on from inside it are one run
pub with_bits_over : (s : List ℕ) (o n d m : ℕ) (g h : ℕ → ℕ) → d ≤ n → n ≤ d + m → ((k : ℕ) → g k < 2) → ((i : ℕ) → i < m → h i ≡ g (d + i))
    → with_bits (with_bits s o n g) (o + d) m h ≡ with_bits s o (d + m) g
with_bits_over s o n d m g h l q b e = with_bits_again s o n g b (o + d) m h o (d + m) g (put_over (bit_at s) o n d m g h l q e)

-- one run after another is one run
pub with_bits_join : (s : List ℕ) (o n m : ℕ) (g h : ℕ → ℕ) → ((k : ℕ) → g k < 2) → ((i : ℕ) → i < m → h i ≡ g (n + i))
    → with_bits (with_bits s o n g) (o + n) m h ≡ with_bits s o (n + m) g
with_bits_join s o n m g h b e = with_bits_over s o n n m g h (omega arith) (omega arith) b e

-- and so is one run before another
pub with_bits_front : (s : List ℕ) (o n m : ℕ) (g h : ℕ → ℕ) → ((k : ℕ) → g k < 2) → ((i : ℕ) → i < n → h i ≡ g i)
    → with_bits (with_bits s (o + n) m (from g n)) o n h ≡ with_bits s o (n + m) g
with_bits_front s o n m g h b e =
    with_bits_again s (o + n) m (from g n) (λ k. b (n + k)) o n h o (n + m) g
    (λ k. put_cases (put (bit_at s) (o + n) m (from g n)) o n h k (λ (x : ℕ). x ≡ put (bit_at s) o (n + m) g k)
    (λ a. put_below (bit_at s) (o + n) m (from g n) k (omega arith) ∙ sym (put_below (bit_at s) o (n + m) g k a))
    (λ a d. e (k - o) (omega arith) ∙ sym (put_in (bit_at s) o (n + m) g k a (omega arith)))
    (λ a. put_cases (bit_at s) (o + n) m (from g n) k (λ (x : ℕ). x ≡ put (bit_at s) o (n + m) g k)
    (λ q. let no : ⊥ = omega arith in absurd no)
    (λ q r. let i : n + (k - (o + n)) ≡ k - o = omega arith in ap g i ∙ sym (put_in (bit_at s) o (n + m) g k (omega arith) (omega arith)))
    (λ q. sym (put_above (bit_at s) o (n + m) g k (omega arith)))))

-- a number's bits, put in place in two parts
pub set_bits_join : (s : List ℕ) (o n m v w : ℕ) → ((i : ℕ) → i < m → bit_of w i ≡ bit_of v (n + i))
    → set_bits (set_bits s o n v) (o + n) m w ≡ set_bits s o (n + m) v
set_bits_join s o n m v w e = with_bits_join s o n m (bit_of v) (bit_of w) (bit_of_lt v) e

-- a byte that the run does not reach is kept
pub with_bits_kept : (s : List ℕ) (o n : ℕ) (g : ℕ → ℕ) (j : ℕ) → j < length s → get_or s j 0 < 256 → ((i : ℕ) → i < 8 → o ≤ 8 * j + i → 8 * j + i < o + n → ⊥)
    → get_or (with_bits s o n g) j 0 ≡ get_or s j 0
with_bits_kept s o n g j l b out =
    with_bits_at s o n g j l
    ∙ run_ext (put (bit_at s) o n g) (bit_at s) (8 * j) (8 * j) 8
    (λ i q. put_cases (bit_at s) o n g (8 * j + i) (λ (x : ℕ). x ≡ bit_at s (8 * j + i)) (λ _. refl) (λ p r. absurd (out i q p r)) (λ _. refl))
    ∙ run_byte s j b

-- no bit is replaced
pub with_bits_none : (s : List ℕ) (o : ℕ) (g : ℕ → ℕ) → ((j : ℕ) → get_or s j 0 < 256) → with_bits s o 0 g ≡ s
with_bits_none s o g b =
    ext_get_or 0 (with_bits s o 0 g) s (with_bits_length s o 0 g)
    (λ j l. with_bits_kept s o 0 g j (omega (arith, with_bits_length s o 0 g)) (b j) (λ i q p r. omega arith))

pub with_bits_zero : (s : List ℕ) (o n : ℕ) (g : ℕ → ℕ) → ((j : ℕ) → get_or s j 0 < 256) → n ≡ 0 → s ≡ with_bits s o n g
with_bits_zero s o n g b e = rw e (sym (with_bits_none s o g b))

-- nor where the run starts past the end
pub with_bits_past : (s : List ℕ) (o n : ℕ) (g : ℕ → ℕ) → ((j : ℕ) → get_or s j 0 < 256) → 8 * length s ≤ o → s ≡ with_bits s o n g
with_bits_past s o n g b h = sym (with_bits_none s o g b) ∙ with_bits_cut s o 0 n g (omega arith) (omega arith)

-- what is left is bytes
pub with_bits_bytes : (s : List ℕ) (o n : ℕ) (g : ℕ → ℕ) → ((k : ℕ) → g k < 2) → (j : ℕ) → get_or (with_bits s o n g) j 0 < 256
with_bits_bytes s o n g b j =
    lt_cases j (length s) (get_or (with_bits s o n g) j 0 < 256)
    (λ l. rw (with_bits_at s o n g j l) (Rattle.bits.proofs.Laws.run_lt (put (bit_at s) o n g) (put_lt (bit_at s) (bit_at_lt s) o n g b) (8 * j) 8))
    (λ l.
    let l2 : length (with_bits s o n g) ≤ j = omega (arith, with_bits_length s o n g) in
    rw (lib.ListN.get_or-eq_default (with_bits s o n g) 0 {n = j} l2) (omega arith))

-- ---- runs that do not meet

abbrev pub Apart : ℕ → ℕ → ℕ → ℕ → Type 0
Apart o n p m = (k : ℕ) → o ≤ k → k < o + n → p ≤ k → k < p + m → ⊥

-- what was written elsewhere is not read
pub get_other : (s : List ℕ) (o n : ℕ) (g : ℕ → ℕ) → ((k : ℕ) → g k < 2) → (p m : ℕ) → p + m ≤ 8 * length s → Apart o n p m
    → run (bit_at (with_bits s o n g)) p m ≡ run (bit_at s) p m
get_other s o n g b p m h a =
    run_ext (bit_at (with_bits s o n g)) (bit_at s) p p m
    (λ i l.
    with_bits_bit s o n g b (p + i) (omega arith)
    ∙ put_cases (bit_at s) o n g (p + i) (λ (x : ℕ). x ≡ bit_at s (p + i)) (λ _. refl) (λ q r. absurd (a (p + i) q r (omega arith) (omega arith))) (λ _. refl))

-- what was written here is read back
pub get_same : (s : List ℕ) (o n : ℕ) (g : ℕ → ℕ) → ((k : ℕ) → g k < 2) → o + n ≤ 8 * length s → run (bit_at (with_bits s o n g)) o n ≡ run g 0 n
get_same s o n g b h =
    run_ext (bit_at (with_bits s o n g)) g o 0 n
    (λ i l.
    with_bits_bit s o n g b (o + i) (omega arith)
    ∙ put_in (bit_at s) o n g (o + i) (omega arith) (omega arith)
    ∙ ap g (add-sub_cancel_left o i ∙ sym (zero-add i)))
