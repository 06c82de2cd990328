-- Laws of bits, runs and bytes: a run is read bit by bit (run_bit), two that agree bit by bit are one (run_ext), and a number is the run of its
-- own bits (run_whole). put_cases splits a place by where it stands: below the run, in it, above it.
-- Assumes nothing.
use mathlib.Core.Path.{◌≡◌, refl, sym, ap, ◌∙◌}
use mathlib.Core.Bool.{Bool, true, false}
use mathlib.Core.List.{List}
use Prim.Native.Nat.{ℕ, zero, suc, ◌+◌, ◌-◌, ◌*◌, ◌/◌, ◌%◌, ◌^◌, ◌≤◌, ◌<◌}
use native.Mathlib.Nat.{pow-suc, add-zero, add-suc, suc-add, zero-add, div-one, not-suc-le-zero, div-div-eq-div-mul, mul_comm, mul_assoc, div-eq_of_lt, lt_of_lt_of_le, add_assoc}
use native.Mathlib.Numerals.{one-add}
use native.Mathlib.Omega.{arith}
use borrow.Author.Tests.{lt-ltb, le-ltb, le-leb, lt-leb, ltb-true, ltb-false, eqb-true, eqb-false}
use lib.Dec.{ltb, eqb}
use lib.ListN.{length, get_or, get_or-eq_default}
use lib.Seq.{ext_get_or}
use lib.Pow.{shr-shr, pow_mono, mod-pow-add, high}
use Rattle.bits.specs.Bits.{bit_of, bit_at, run, bytes, put}

-- ---- by cases

pub lt_cases : (a b : ℕ) (G : Type 0) → (a < b → G) → (b ≤ a → G) → G
lt_cases a b G f g = go (ltb a b) refl
  where
    go : (t : Bool) → ltb a b ≡ t → G
    go true e = f (ltb-true a b e)
    go false e = g (ltb-false a b e)

pub eq_cases : (a b : ℕ) (G : Type 0) → (a ≡ b → G) → ((a ≡ b → ⊥) → G) → G
eq_cases a b G f g = go (eqb a b) refl
  where
    go : (t : Bool) → eqb a b ≡ t → G
    go true e = f (eqb-true a b e)
    go false e = g (eqb-false a b e)

-- ---- bits of numbers

pub bit_of_lt : (x k : ℕ) → bit_of x k < 2
unfolding bit_of
bit_of_lt x k = omega arith

pub bit_of_zero : (x : ℕ) → bit_of x 0 ≡ x % 2
unfolding bit_of
bit_of_zero x = rw (div-one x)

pub bit_of_suc : (x k : ℕ) → bit_of x (suc k) ≡ bit_of (x / 2) k
unfolding bit_of
bit_of_suc x k = ap (λ (n : ℕ). n % 2) (sym (div-div-eq-div-mul x 2 (2 ^ k) ∙ ap (λ (n : ℕ). x / n) (mul_comm 2 (2 ^ k) ∙ sym (pow-suc 2 k))))

-- 0 from bit n on, of a number below 2 ^ n
pub bit_of_high : (x n k : ℕ) → x < 2 ^ n → n ≤ k → bit_of x k ≡ 0
unfolding bit_of
bit_of_high x n k h l = let z : x / 2 ^ k ≡ 0 = div-eq_of_lt (lt_of_lt_of_le h (pow_mono l)) in omega arith

pub bit_of_none : (k : ℕ) → bit_of 0 k ≡ 0
bit_of_none k = bit_of_high 0 0 k (omega arith) (omega arith)

pub bit_of_shift : (v d i : ℕ) → bit_of (v / 2 ^ d) i ≡ bit_of v (d + i)
unfolding bit_of
bit_of_shift v d i = ap (λ (x : ℕ). x % 2) (shr-shr v d i)

-- ---- bits of byte lists

pub bit_at_lt : (s : List ℕ) (k : ℕ) → bit_at s k < 2
unfolding bit_at
bit_at_lt s k = bit_of_lt _ _

pub bit_at_byte : (s : List ℕ) (j i : ℕ) → i < 8 → bit_at s (8 * j + i) ≡ bit_of (get_or s j 0) i
unfolding bit_at
bit_at_byte s j i l =
    let e : (8 * j + i) / 8 ≡ j = omega arith in
    let e2 : (8 * j + i) % 8 ≡ i = omega arith in
    rw (e, e2)

pub bit_at_end : (s : List ℕ) (k : ℕ) → 8 * length s ≤ k → bit_at s k ≡ 0
unfolding bit_at
bit_at_end s k h =
    let l : length s ≤ k / 8 = omega arith in
    rw (get_or-eq_default s 0 {n = k / 8} l) (bit_of_none (k % 8))

-- ---- runs

pub run_lt : (f : ℕ → ℕ) → ((k : ℕ) → f k < 2) → (o n : ℕ) → run f o n < 2 ^ n
unfolding run
run_lt f b o zero = omega arith
run_lt f b o (suc n) = omega (arith, run_lt f b (suc o) n, b o, pow-suc 2 n)

pub run_below : (f : ℕ → ℕ) → ((k : ℕ) → f k < 2) → (o n m : ℕ) → n ≤ m → run f o n < 2 ^ m
run_below f b o n m h = lt_of_lt_of_le (run_lt f b o n) (pow_mono h)

pub run_ext : (f g : ℕ → ℕ) (o p n : ℕ) → ((i : ℕ) → i < n → f (o + i) ≡ g (p + i)) → run f o n ≡ run g p n
unfolding run
run_ext f g o p zero e = refl
run_ext f g o p (suc n) e =
    let h : f o ≡ g p = simp add-zero at (e 0 (omega arith)) in
    let t : run f (suc o) n ≡ run g (suc p) n = run_ext f g (suc o) (suc p) n (λ i l. rw (suc-add o i, suc-add p i, ← add-suc o i, ← add-suc p i) (e (suc i) (omega arith))) in
    omega arith

-- bit i of a run is the bit at its place
pub run_bit : (f : ℕ → ℕ) → ((k : ℕ) → f k < 2) → (o n i : ℕ) → i < n → bit_of (run f o n) i ≡ f (o + i)
unfolding run
run_bit f b o zero i l = absurd (not-suc-le-zero l)
run_bit f b o (suc n) zero l = bit_of_zero _ ∙ rw add-zero (omega (arith, b o))
run_bit f b o (suc n) (suc i) l =
    let h : (f o + 2 * run f (suc o) n) / 2 ≡ run f (suc o) n = omega (arith, b o) in
    let e : suc o + i ≡ o + suc i = omega arith in
    bit_of_suc _ i ∙ ap (λ (x : ℕ). bit_of x i) h ∙ run_bit f b (suc o) n i (omega arith) ∙ ap f e

pub run_high : (f : ℕ → ℕ) → ((k : ℕ) → f k < 2) → (o n i : ℕ) → n ≤ i → bit_of (run f o n) i ≡ 0
run_high f b o n i h = bit_of_high (run f o n) n i (run_lt f b o n) h

-- a number below 2 ^ n is the run of its n bits
pub run_whole : (x n : ℕ) → x < 2 ^ n → run (bit_of x) 0 n ≡ x
unfolding run
run_whole x zero h = omega arith
run_whole x (suc n) h =
    let t : run (bit_of x) 1 n ≡ x / 2 =
    run_ext (bit_of x) (bit_of (x / 2)) 1 0 n (λ i l. rw (one-add, zero-add) (bit_of_suc x i))
    ∙ run_whole (x / 2) n (omega (arith, pow-suc 2 n)) in
    omega (arith, bit_of_zero x)

-- a number that has a run's bits is the run
pub run_eq : (f : ℕ → ℕ) (x o n : ℕ) → x < 2 ^ n → ((i : ℕ) → i < n → bit_of x i ≡ f (o + i)) → x ≡ run f o n
run_eq f x o n h e = sym (run_whole x n h) ∙ run_ext (bit_of x) f 0 o n (λ i l. rw (zero-add i) (e i l))

-- the low n bits, as a remainder
pub run_mod : (v n : ℕ) → run (bit_of v) 0 n ≡ v % 2 ^ n
unfolding run
run_mod v zero = omega arith
run_mod v (suc n) =
    let t : run (bit_of v) 1 n ≡ v / 2 % 2 ^ n =
    run_ext (bit_of v) (bit_of (v / 2)) 1 0 n (λ i l. let e : 1 + i ≡ suc i = omega arith in rw (e, zero-add i) (bit_of_suc v i)) ∙ run_mod (v / 2) n in
    let e : n + 1 ≡ suc n = omega arith in
    let m = mod-pow-add v n 1 in
    omega (arith, bit_of_zero v, rw e at m)

-- a run may be made longer where the bits are 0
pub run_more : (f : ℕ → ℕ) (o n m : ℕ) → ((k : ℕ) → o + n ≤ k → f k ≡ 0) → run f o n ≡ run f o (n + m)
unfolding run
run_more f o zero zero z = refl
run_more f o zero (suc m) z =
    let e : run f (suc o) 0 ≡ run f (suc o) (0 + m) = run_more f (suc o) 0 m (λ k h. z k (omega arith)) in
    rw (zero-add (suc m)) (omega (arith, z o (omega arith), rw (zero-add m) at e))
run_more f o (suc n) m z =
    let e : run f (suc o) n ≡ run f (suc o) (n + m) = run_more f (suc o) n m (λ k h. z k (omega arith)) in
    let s : suc n + m ≡ suc (n + m) = omega arith in
    rw s (omega arith)

two_shift : (p x : ℕ) → 2 * (p * x) ≡ p * 2 * x
two_shift p x = sym (mul_assoc 2 p x) ∙ ap (λ (q : ℕ). q * x) (mul_comm 2 p)

-- a run in two parts
pub run_join : (f : ℕ → ℕ) (o n m : ℕ) → run f o (n + m) ≡ run f (o + n) m * 2 ^ n + run f o n
unfolding run
run_join f o zero m = rw (zero-add m, add-zero o) (omega arith)
run_join f o (suc n) m =
    let e : suc n + m ≡ suc (n + m) = omega arith in
    let e2 : suc o + n ≡ o + suc n = omega arith in
    let t = run_join f (suc o) n m in
    let u = two_shift (2 ^ n) (run f (o + suc n) m) in
    let v = mul_comm (run f (o + suc n) m) (2 ^ n) in
    let w = mul_comm (run f (o + suc n) m) (2 ^ n * 2) in
    rw (e, pow-suc 2 n) (omega (arith, rw e2 at t))

-- a run without its r low bits
pub run_shr : (f : ℕ → ℕ) → ((k : ℕ) → f k < 2) → (o r n : ℕ) → run f o (r + n) / 2 ^ r ≡ run f (o + r) n
run_shr f b o r n = ap (λ (x : ℕ). x / 2 ^ r) (run_join f o r n) ∙ high (run f (o + r) n) r (run_lt f b o r)

-- a byte of a list is the run of its eight bits
pub run_byte : (s : List ℕ) (j : ℕ) → get_or s j 0 < 256 → run (bit_at s) (8 * j) 8 ≡ get_or s j 0
run_byte s j h =
    run_ext (bit_at s) (bit_of (get_or s j 0)) (8 * j) 0 8 (λ i l. rw (zero-add i) (bit_at_byte s j i l)) ∙ run_whole (get_or s j 0) 8 h

-- ---- a run put in place

pub put_in : (f : ℕ → ℕ) (o n : ℕ) (g : ℕ → ℕ) (k : ℕ) → o ≤ k → k < o + n → put f o n g k ≡ g (k - o)
unfolding put
put_in f o n g k h l = simp (le-leb _ _ h, lt-ltb _ _ l)

pub put_below : (f : ℕ → ℕ) (o n : ℕ) (g : ℕ → ℕ) (k : ℕ) → k < o → put f o n g k ≡ f k
unfolding put
put_below f o n g k h = simp (lt-leb _ _ h)

pub put_above : (f : ℕ → ℕ) (o n : ℕ) (g : ℕ → ℕ) (k : ℕ) → o + n ≤ k → put f o n g k ≡ f k
unfolding put
put_above f o n g k h =
    let h2 : o ≤ k = omega arith in
    simp (le-leb _ _ h2, le-ltb _ _ h)

-- what holds of put at a place, by where the place stands
pub put_cases : (f : ℕ → ℕ) (o n : ℕ) (g : ℕ → ℕ) (k : ℕ) (P : ℕ → Type 0)
    → (k < o → P (f k)) → (o ≤ k → k < o + n → P (g (k - o))) → (o + n ≤ k → P (f k)) → P (put f o n g k)
put_cases f o n g k P a b d =
    lt_cases k o (P (put f o n g k)) (λ h. rw (put_below f o n g k h) (a h))
    (λ h. lt_cases k (o + n) (P (put f o n g k)) (λ l. rw (put_in f o n g k h l) (b h l)) (λ l. rw (put_above f o n g k l) (d l)))

pub put_lt : (f : ℕ → ℕ) → ((k : ℕ) → f k < 2) → (o n : ℕ) (g : ℕ → ℕ) → ((k : ℕ) → g k < 2) → (k : ℕ) → put f o n g k < 2
put_lt f b o n g d k = put_cases f o n g k (λ (x : ℕ). x < 2) (λ h. b k) (λ h l. d (k - o)) (λ h. b k)

pub put_cong : (f f' : ℕ → ℕ) (o n : ℕ) (g : ℕ → ℕ) (k : ℕ) → f k ≡ f' k → put f o n g k ≡ put f' o n g k
unfolding put
put_cong f f' o n g k e = rw e

-- one run and another that goes on from inside it are one run
pub put_over : (f : ℕ → ℕ) (o n d m : ℕ) (g h : ℕ → ℕ) → d ≤ n → n ≤ d + m → ((i : ℕ) → i < m → h i ≡ g (d + i)) → (k : ℕ)
    → put (put f o n g) (o + d) m h k ≡ put f o (d + m) g k
put_over f o n d m g h a b e k =
    put_cases (put f o n g) (o + d) m h k (λ (x : ℕ). x ≡ put f o (d + m) g k)
    (λ l. put_cases f o n g k (λ (x : ℕ). x ≡ put f o (d + m) g k)
    (λ q. sym (put_below f o (d + m) g k q))
    (λ q r. sym (put_in f o (d + m) g k q (omega arith)))
    (λ q. let no : ⊥ = omega arith in absurd no))
    (λ l q.
    let i : d + (k - (o + d)) ≡ k - o = omega arith in
    e (k - (o + d)) (omega arith) ∙ ap g i ∙ sym (put_in f o (d + m) g k (omega arith) (omega arith)))
    (λ l. put_above f o n g k (omega arith) ∙ sym (put_above f o (d + m) g k (omega arith)))

pub put_shift : (f f' : ℕ → ℕ) (d a n : ℕ) (g : ℕ → ℕ) (i : ℕ) → f i ≡ f' (d + i) → put f a n g i ≡ put f' (d + a) n g (d + i)
put_shift f f' d a n g i e =
    put_cases f a n g i (λ (x : ℕ). x ≡ put f' (d + a) n g (d + i))
    (λ q. e ∙ sym (put_below f' (d + a) n g (d + i) (omega arith)))
    (λ q r. let w : i - a ≡ d + i - (d + a) = omega arith in ap g w ∙ sym (put_in f' (d + a) n g (d + i) (omega arith) (omega arith)))
    (λ q. e ∙ sym (put_above f' (d + a) n g (d + i) (omega arith)))

-- ---- bytes

pub bytes_length : (f : ℕ → ℕ) (o m : ℕ) → length (bytes f o m) ≡ m
unfolding bytes
bytes_length f o zero = refl
bytes_length f o (suc m) = ap suc (bytes_length f (o + 8) m)

pub bytes_at : (f : ℕ → ℕ) (o m j : ℕ) → j < m → get_or (bytes f o m) j 0 ≡ run f (o + 8 * j) 8
unfolding bytes
bytes_at f o zero j h = absurd (not-suc-le-zero h)
bytes_at f o (suc m) zero h = let e : o ≡ o + 8 * 0 = omega arith in ap (λ (p : ℕ). run f p 8) e
bytes_at f o (suc m) (suc j) h =
    let e : o + 8 + 8 * j ≡ o + 8 * suc j = omega arith in
    bytes_at f (o + 8) m j (omega arith) ∙ ap (λ (p : ℕ). run f p 8) e

-- the bits of the bytes made of f are f's
pub bit_at_bytes : (f : ℕ → ℕ) → ((k : ℕ) → f k < 2) → (m k : ℕ) → k < 8 * m → bit_at (bytes f 0 m) k ≡ f k
unfolding bit_at
bit_at_bytes f b m k h =
    let e : 0 + 8 * (k / 8) + k % 8 ≡ k = omega arith in
    ap (λ (x : ℕ). bit_of x (k % 8)) (bytes_at f 0 m (k / 8) (omega arith)) ∙ run_bit f b (0 + 8 * (k / 8)) 8 (k % 8) (omega arith) ∙ ap f e

pub bytes_ext : (f g : ℕ → ℕ) (o m : ℕ) → ((k : ℕ) → k < 8 * m → f (o + k) ≡ g (o + k)) → bytes f o m ≡ bytes g o m
bytes_ext f g o m e =
    ext_get_or 0 (bytes f o m) (bytes g o m) (bytes_length f o m ∙ sym (bytes_length g o m))
    (λ j l.
    let l2 : j < m = omega (arith, bytes_length f o m) in
    bytes_at f o m j l2
    ∙ run_ext f g (o + 8 * j) (o + 8 * j) 8 (λ i h. rw (add_assoc o (8 * j) i) (e (8 * j + i) (omega arith)))
    ∙ sym (bytes_at g o m j l2))

-- a list of bytes is the bytes of its bits
pub bytes_whole : (s : List ℕ) → ((j : ℕ) → get_or s j 0 < 256) → bytes (bit_at s) 0 (length s) ≡ s
bytes_whole s b =
    ext_get_or 0 (bytes (bit_at s) 0 (length s)) s (bytes_length (bit_at s) 0 (length s))
    (λ j l. bytes_at (bit_at s) 0 (length s) j (omega (arith, bytes_length (bit_at s) 0 (length s))) ∙ rw (zero-add (8 * j)) (run_byte s j (b j)))

-- two lists of bytes of one length with the same bits are equal
pub bits_eq : (s t : List ℕ) → ((j : ℕ) → get_or s j 0 < 256) → ((j : ℕ) → get_or t j 0 < 256) → length s ≡ length t
    → ((k : ℕ) → k < 8 * length s → bit_at s k ≡ bit_at t k) → s ≡ t
bits_eq s t b d l e =
    sym (bytes_whole s b)
    ∙ bytes_ext (bit_at s) (bit_at t) 0 (length s) (λ k h. rw (zero-add k) (e k h))
    ∙ ap (bytes (bit_at t) 0) l
    ∙ bytes_whole t d
