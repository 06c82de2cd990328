-- Laws of machine words: an and, an or, an xor and a shift are known bit by bit (bit_of_and and the others), and a number is known by its bits
-- (run_eq), so what each function on words answers is a run of bits. Parts of a slice side by side are one (load_law, store_law), over the width.
-- Assumes nothing.
use mathlib.Core.Path.{◌≡◌, refl, sym, ap, ◌∙◌}
use mathlib.Core.List.{List}
use Prim.Native.Nat.{ℕ, zero, suc, ◌+◌, ◌-◌, ◌*◌, ◌/◌, ◌%◌, ◌^◌, ◌≤◌, ◌<◌, min, max}
use native.Mathlib.Nat.{pow-suc, zero-add, div-one, one-mul, mul_assoc, mod-lt, add_comm, sub-zero, sub-add_cancel, add-sub_of_le, lt_of_le_of_lt, lt_of_lt_of_le}
use native.Mathlib.Omega.{arith}
use lib.ListN.{length, get_or, take, drop}
use lib.Seq.{ext_get_or}
use Rattle.std.specs.Prelude.{◌++◌, ◌∷◌, []}
use Rattle.std.specs.Int.{w64, from_le_bytes, to_le_bytes}
use Rattle.std.proofs.lemmas.Nat.{le_bytes_8}
use Rattle.std.proofs.lemmas.Grind.{common_steps}
use lib.Bits.{bit_and, bit_or, bit_xor, differ, and_step, or_step, xor_step, and_shr, or_shr, xor_shr, or_lt, xor_lt, and_le_r, and_mask}
use lib.Pow.{pow_pos, pow-add, pow_mono, pow-lt, shl_exact, shl_lt, shl-shr, shr-shr, high, ones_split}
use Rattle.bits.specs.Bits.{bit_of, bit_at, run, put, set_bits}
use Rattle.bits.proofs.Laws.{lt_cases, bit_of_lt, bit_of_none, bit_of_high, bit_of_shift, bit_at_lt, bit_at_end, run_lt, run_below, run_bit, run_high, run_whole, run_eq, run_mod, run_more, run_ext, put_in, put_cases}
use Rattle.bits.proofs.With.{with_bits_at, with_bits_end, with_bits_kept, with_bits_length, with_bits_over}

-- ---- bits of and, or, xor, of a remainder and of a shift to the left

pub bit_of_and : (a b k : ℕ) → bit_of (bit_and a b) k ≡ min (bit_of a k) (bit_of b k)
unfolding bit_of
bit_of_and a b k = ap (λ (x : ℕ). x % 2) (and_shr a b k) ∙ omega (arith, and_step (a / 2 ^ k) (b / 2 ^ k))

pub bit_of_or : (a b k : ℕ) → bit_of (bit_or a b) k ≡ max (bit_of a k) (bit_of b k)
unfolding bit_of
bit_of_or a b k = ap (λ (x : ℕ). x % 2) (or_shr a b k) ∙ omega (arith, or_step (a / 2 ^ k) (b / 2 ^ k))

differ_lt : (x y : ℕ) → x < 2 → y < 2 → differ x y < 2
differ_lt zero y h l = l
differ_lt (suc zero) zero h l = h
differ_lt (suc zero) (suc zero) h l = omega arith
differ_lt (suc zero) (suc (suc y)) h l = let no : ⊥ = omega arith in absurd no
differ_lt (suc (suc x)) y h l = let no : ⊥ = omega arith in absurd no

pub bit_of_xor : (a b k : ℕ) → bit_of (bit_xor a b) k ≡ differ (bit_of a k) (bit_of b k)
unfolding bit_of
bit_of_xor a b k =
    ap (λ (x : ℕ). x % 2) (xor_shr a b k)
    ∙ omega (arith, xor_step (a / 2 ^ k) (b / 2 ^ k), differ_lt (a / 2 ^ k % 2) (b / 2 ^ k % 2) (omega arith) (omega arith))

-- the bits below w of a remainder
pub bit_of_mod : (x w k : ℕ) → k < w → bit_of (x % 2 ^ w) k ≡ bit_of x k
bit_of_mod x w k h = rw (← run_mod x w) (run_bit (bit_of x) (bit_of_lt x) 0 w k h ∙ ap (bit_of x) (zero-add k))

up : (x s i : ℕ) → bit_of (x * 2 ^ s) (s + i) ≡ bit_of x i
unfolding bit_of
up x s i = ap (λ (y : ℕ). y % 2) (sym (shr-shr (x * 2 ^ s) s i) ∙ ap (λ (y : ℕ). y / 2 ^ i) (shl-shr x s))

up_low : (x k i : ℕ) → bit_of (x * 2 ^ (suc i + k)) k ≡ 0
unfolding bit_of
up_low x k i =
    ap (λ (y : ℕ). x * y / 2 ^ k % 2) (pow-add 2 (suc i) k)
    ∙ ap (λ (y : ℕ). y / 2 ^ k % 2) (sym (mul_assoc x (2 ^ suc i) (2 ^ k)))
    ∙ ap (λ (y : ℕ). y % 2) (shl-shr (x * 2 ^ suc i) k ∙ ap (λ (y : ℕ). x * y) (pow-suc 2 i) ∙ sym (mul_assoc x (2 ^ i) 2))
    ∙ omega arith

-- from the shift on, the bits of the number
pub bit_of_shl : (x s w k : ℕ) → s ≤ k → k < w → bit_of (x * 2 ^ s % 2 ^ w) k ≡ bit_of x (k - s)
bit_of_shl x s w k h l =
    let e : s + (k - s) ≡ k = add-sub_of_le h in
    bit_of_mod (x * 2 ^ s) w k l ∙ ap (bit_of (x * 2 ^ s)) (sym e) ∙ up x s (k - s)

-- below it, zeros
pub bit_of_shl_low : (x s w k : ℕ) → k < s → k < w → bit_of (x * 2 ^ s % 2 ^ w) k ≡ 0
bit_of_shl_low x s w k h l =
    let e : suc (s - k - 1) + k ≡ s = omega arith in
    bit_of_mod (x * 2 ^ s) w k l ∙ ap (λ (t : ℕ). bit_of (x * 2 ^ t) k) (sym e) ∙ up_low x k (s - k - 1)

-- ---- the low bits, by a mask

shifted_one : (n : ℕ) → n < 64 → 1 * 2 ^ n % 2 ^ 64 ≡ 2 ^ n
shifted_one n h = shl_exact {a = 1} 1 n 64 (omega arith) (omega arith) ∙ one-mul (2 ^ n)

pub one_left : (n : ℕ) → n < 64 → 1 ≤ 1 * 2 ^ n % 2 ^ 64
one_left n h = rw (shifted_one n h) (pow_pos n)

pub low_law : (v n : ℕ) → n < 64 → bit_and v (1 * 2 ^ n % 2 ^ 64 - 1) ≡ run (bit_of v) 0 n
low_law v n h = ap (λ (x : ℕ). bit_and v (x - 1)) (shifted_one n h) ∙ and_mask v n ∙ sym (run_mod v n)

pub low_all : (v n : ℕ) → v < 2 ^ 64 → 64 ≤ n → v ≡ run (bit_of v) 0 n
low_all v n b h = sym (run_whole v n (lt_of_lt_of_le b (pow_mono h)))

-- ---- one run put into another, by a mask

odd : (k j : ℕ) → bit_of (2 ^ (suc j + k) - 1) k ≡ 1
unfolding bit_of
odd k j =
    ap (λ (x : ℕ). x / 2 ^ k % 2) (ones_split (suc j) k)
    ∙ ap (λ (x : ℕ). x % 2) (high (2 ^ suc j - 1) k {lo = 2 ^ k - 1} (omega (arith, pow_pos k)))
    ∙ omega (arith, pow-suc 2 j, pow_pos j)

pub ones_bit : (w k : ℕ) → k < w → bit_of (2 ^ w - 1) k ≡ 1
ones_bit w k h =
    let e : suc (w - k - 1) + k ≡ w = omega arith in
    ap (λ (u : ℕ). bit_of (2 ^ u - 1) k) (sym e) ∙ odd k (w - k - 1)

-- x where the mask is 0, y where it is 1
mask_zero : (x y : ℕ) → differ x (min (differ x y) 0) ≡ x
mask_zero zero y = omega arith
mask_zero (suc x) y = let e : min (differ (suc x) y) 0 ≡ 0 = omega arith in ap (differ (suc x)) e

mask_one : (x y : ℕ) → x < 2 → y < 2 → differ x (min (differ x y) 1) ≡ y
mask_one zero y h l = omega arith
mask_one (suc zero) zero h l = refl
mask_one (suc zero) (suc zero) h l = refl
mask_one (suc zero) (suc (suc y)) h l = let no : ⊥ = omega arith in absurd no
mask_one (suc (suc x)) y h l = let no : ⊥ = omega arith in absurd no

masked : ℕ → ℕ → ℕ → ℕ
masked old v m = bit_xor old (bit_and (bit_xor old v) m)

masked_bit : (old v m i : ℕ) → bit_of (masked old v m) i ≡ differ (bit_of old i) (min (differ (bit_of old i) (bit_of v i)) (bit_of m i))
unfolding masked
masked_bit old v m i =
    bit_of_xor old (bit_and (bit_xor old v) m) i
    ∙ ap (differ (bit_of old i)) (bit_of_and (bit_xor old v) m i ∙ ap (λ (x : ℕ). min x (bit_of m i)) (bit_of_xor old v i))

-- where the mask is 0, old's bit
pub masked_old : (old v m i : ℕ) → bit_of m i ≡ 0 → bit_of (bit_xor old (bit_and (bit_xor old v) m)) i ≡ bit_of old i
unfolding masked
masked_old old v m i e =
    masked_bit old v m i ∙ ap (λ (x : ℕ). differ (bit_of old i) (min (differ (bit_of old i) (bit_of v i)) x)) e ∙ mask_zero (bit_of old i) (bit_of v i)

-- where it is 1, v's
pub masked_new : (old v m i : ℕ) → bit_of m i ≡ 1 → bit_of (bit_xor old (bit_and (bit_xor old v) m)) i ≡ bit_of v i
unfolding masked
masked_new old v m i e =
    masked_bit old v m i
    ∙ ap (λ (x : ℕ). differ (bit_of old i) (min (differ (bit_of old i) (bit_of v i)) x)) e
    ∙ mask_one (bit_of old i) (bit_of v i) (bit_of_lt old i) (bit_of_lt v i)

masked_lt : (old v m : ℕ) → old < 2 ^ 64 → m < 2 ^ 64 → bit_xor old (bit_and (bit_xor old v) m) < 2 ^ 64
masked_lt old v m b l = xor_lt 64 old (bit_and (bit_xor old v) m) b (lt_of_le_of_lt (and_le_r (bit_xor old v) m) l)

abbrev mask : ℕ → ℕ → ℕ
mask n at = run (bit_of (2 ^ 64 - 1)) 0 n * 2 ^ at % 2 ^ 64

pub merge_law : (old at n v : ℕ) → old < 2 ^ 64 → at < 64
    → bit_xor old (bit_and (bit_xor old (v * 2 ^ at % 2 ^ 64)) (run (bit_of (2 ^ 64 - 1)) 0 n * 2 ^ at % 2 ^ 64))
    ≡ run (put (bit_of old) at n (bit_of v)) 0 64
merge_law old at n v b h =
    let u = v * 2 ^ at % 2 ^ 64 in
    run_eq (put (bit_of old) at n (bit_of v)) (bit_xor old (bit_and (bit_xor old u) (mask n at))) 0 64
    (masked_lt old u (mask n at) b (mod-lt _ (pow_pos 64)))
    (λ i q. rw (zero-add i)
    (sym (put_cases (bit_of old) at n (bit_of v) i (λ (x : ℕ). x ≡ bit_of (bit_xor old (bit_and (bit_xor old u) (mask n at))) i)
    (λ a. sym (masked_old old u (mask n at) i (bit_of_shl_low _ at 64 i a q)))
    (λ a d. sym (masked_new old u (mask n at) i (inside i a d q) ∙ bit_of_shl v at 64 i a q))
    (λ a. sym (masked_old old u (mask n at) i (above i a q))))))
  where
    inside : (i : ℕ) → at ≤ i → i < at + n → i < 64 → bit_of (mask n at) i ≡ 1
    inside i a d q =
        bit_of_shl _ at 64 i a q
        ∙ run_bit (bit_of (2 ^ 64 - 1)) (bit_of_lt (2 ^ 64 - 1)) 0 n (i - at) (omega arith)
        ∙ ap (bit_of (2 ^ 64 - 1)) (zero-add (i - at)) ∙ ones_bit 64 (i - at) (omega arith)

    above : (i : ℕ) → at + n ≤ i → i < 64 → bit_of (mask n at) i ≡ 0
    above i a q = bit_of_shl _ at 64 i (omega arith) q ∙ run_high (bit_of (2 ^ 64 - 1)) (bit_of_lt (2 ^ 64 - 1)) 0 n (i - at) (omega arith)

pub merge_low_law : (old n v : ℕ) → old < 2 ^ 64 → n < 64
    → bit_xor old (bit_and (bit_xor old v) (1 * 2 ^ n % 2 ^ 64 - 1)) ≡ run (put (bit_of old) 0 n (bit_of v)) 0 64
merge_low_law old n v b h =
    let m = 2 ^ n - 1 in
    rw (shifted_one n h)
    (run_eq (put (bit_of old) 0 n (bit_of v)) (bit_xor old (bit_and (bit_xor old v) m)) 0 64
    (masked_lt old v m b (omega (arith, pow-lt h)))
    (λ i q. rw (zero-add i)
    (sym (put_cases (bit_of old) 0 n (bit_of v) i (λ (x : ℕ). x ≡ bit_of (bit_xor old (bit_and (bit_xor old v) m)) i)
    (λ a. let no : ⊥ = omega arith in absurd no)
    (λ a d. ap (bit_of v) (sub-zero i) ∙ sym (masked_new old v m i (ones_bit n i (omega arith))))
    (λ a. sym (masked_old old v m i (bit_of_high m n i (omega (arith, pow_pos n)) (omega arith))))))))

-- ---- bytes side by side

-- two runs of bits, the second from bit d of the first on
pub or_over : (f : ℕ → ℕ) → ((k : ℕ) → f k < 2) → (o n d m : ℕ) → d ≤ n → n ≤ d + m → d + m ≤ 64
    → bit_or (run f o n) (run f (o + d) m * 2 ^ d % 2 ^ 64) ≡ run f o (d + m)
or_over f b o n d m h q l =
    run_eq f (bit_or (run f o n) (run f (o + d) m * 2 ^ d % 2 ^ 64)) o (d + m)
    (or_lt (d + m) (run f o n) (run f (o + d) m * 2 ^ d % 2 ^ 64) (run_below f b o n (d + m) q)
    (rw (shifted, add_comm d m) (shl_lt m d (run_lt f b (o + d) m))))
    (λ i r. bit_of_or (run f o n) (run f (o + d) m * 2 ^ d % 2 ^ 64) i ∙ each i r)
  where
    shifted : run f (o + d) m * 2 ^ d % 2 ^ 64 ≡ run f (o + d) m * 2 ^ d
    shifted = shl_exact {a = run f (o + d) m} m d 64 (run_lt f b (o + d) m) (omega arith)

    low_part : (i : ℕ) → i < d + m → bit_of (run f o n) i ≤ f (o + i)
    low_part i r =
        lt_cases i n (bit_of (run f o n) i ≤ f (o + i))
        (λ p. omega (arith, run_bit f b o n i p))
        (λ p. omega (arith, run_high f b o n i p))

    each : (i : ℕ) → i < d + m → max (bit_of (run f o n) i) (bit_of (run f (o + d) m * 2 ^ d % 2 ^ 64) i) ≡ f (o + i)
    each i r =
        lt_cases i d (max (bit_of (run f o n) i) (bit_of (run f (o + d) m * 2 ^ d % 2 ^ 64) i) ≡ f (o + i))
        (λ p. omega (arith, run_bit f b o n i (omega arith), bit_of_shl_low (run f (o + d) m) d 64 i p (omega arith)))
        (λ p.
        let e : o + d + (i - d) ≡ o + i = omega arith in
        let u = bit_of_shl (run f (o + d) m) d 64 i p (omega arith) ∙ run_bit f b (o + d) m (i - d) (omega arith) ∙ ap f e in
        omega (arith, low_part i r))

-- i bytes, and m more from the d-th of them on
pub load_law : (s : List ℕ) (at i d m : ℕ) → d ≤ i → i ≤ d + m → d + m ≤ 8
    → bit_or (run (bit_at s) (8 * at) (8 * i)) (run (bit_at s) (8 * (at + d)) (8 * m) * 2 ^ (8 * d) % 2 ^ 64) ≡ run (bit_at s) (8 * at) (8 * (d + m))
load_law s at i d m h q l =
    let e : 8 * (at + d) ≡ 8 * at + 8 * d = omega arith in
    let e2 : 8 * (d + m) ≡ 8 * d + 8 * m = omega arith in
    rw (e, e2) (or_over (bit_at s) (bit_at_lt s) (8 * at) (8 * i) (8 * d) (8 * m) (omega arith) (omega arith) (omega arith))

pub store_law : (s : List ℕ) (at i d m v : ℕ) → d ≤ i → i ≤ d + m
    → set_bits (set_bits s (8 * at) (8 * i) v) (8 * (at + d)) (8 * m) (v / 2 ^ (8 * d)) ≡ set_bits s (8 * at) (8 * (d + m)) v
store_law s at i d m v h q =
    let e : 8 * (at + d) ≡ 8 * at + 8 * d = omega arith in
    let e2 : 8 * (d + m) ≡ 8 * d + 8 * m = omega arith in
    rw (e, e2) (with_bits_over s (8 * at) (8 * i) (8 * d) (8 * m) (bit_of v) (bit_of (v / 2 ^ (8 * d))) (omega arith) (omega arith) (bit_of_lt v) (λ j _. bit_of_shift v (8 * d) j))

-- byte i of a number's eight
run_at : (v d n : ℕ) → run (bit_of v) d n ≡ v / 2 ^ d % 2 ^ n
run_at v d n = run_ext (bit_of v) (bit_of (v / 2 ^ d)) d 0 n (λ i l. rw (zero-add i) (sym (bit_of_shift v d i))) ∙ run_mod (v / 2 ^ d) n

le_byte : (v i : ℕ) → i < 8 → get_or (to_le_bytes w64 v) i 0 ≡ run (bit_of v) (8 * i) 8
le_byte v zero h = rw (run_at v 0 8, div-one v)
le_byte v (suc zero) h = sym (run_at v 8 8)
le_byte v (suc (suc zero)) h = sym (run_at v 16 8)
le_byte v (suc (suc (suc zero))) h = sym (run_at v 24 8)
le_byte v (suc (suc (suc (suc zero)))) h = sym (run_at v 32 8)
le_byte v (suc (suc (suc (suc (suc zero))))) h = sym (run_at v 40 8)
le_byte v (suc (suc (suc (suc (suc (suc zero)))))) h = sym (run_at v 48 8)
le_byte v (suc (suc (suc (suc (suc (suc (suc zero))))))) h = sym (run_at v 56 8)
le_byte v (suc (suc (suc (suc (suc (suc (suc (suc i)))))))) h = let no : ⊥ = omega arith in absurd no

-- of three parts, each read where it stands
part_low : (s b : List ℕ) (at n j : ℕ) → at + n ≤ length s → j < at → get_or (take at s ++ (take n b ++ drop n (drop at s))) j 0 ≡ get_or s j 0
part_low s b at n j l h = grind (arith, common_steps)

part_mid : (s b : List ℕ) (at n j : ℕ) → at + n ≤ length s → n ≤ length b → at ≤ j → j < at + n → get_or (take at s ++ (take n b ++ drop n (drop at s))) j 0 ≡ get_or b (j - at) 0
part_mid s b at n j l m h q = grind (arith, common_steps)

part_high : (s b : List ℕ) (at n j : ℕ) → at + n ≤ length s → n ≤ length b → at + n ≤ j → get_or (take at s ++ (take n b ++ drop n (drop at s))) j 0 ≡ get_or s j 0
part_high s b at n j l m h = grind (arith, common_steps)

part_length : (s b : List ℕ) (at n : ℕ) → at + n ≤ length s → n ≤ length b → length (take at s ++ (take n b ++ drop n (drop at s))) ≡ length s
part_length s b at n l m = grind (arith, common_steps)

-- n bytes put between those before and those behind
pub store_part : (s : List ℕ) (at n v : ℕ) → ((j : ℕ) → get_or s j 0 < 256) → n ≤ 8 → at + n ≤ length s
    → take at s ++ (take n (to_le_bytes w64 v) ++ drop n (drop at s)) ≡ set_bits s (8 * at) (8 * n) v
store_part s at n v b h l =
    let t = take at s ++ (take n (to_le_bytes w64 v) ++ drop n (drop at s)) in
    let g = bit_of v in
    ext_get_or 0 t (set_bits s (8 * at) (8 * n) v) (part_length s (to_le_bytes w64 v) at n l h ∙ sym (with_bits_length s (8 * at) (8 * n) g))
    (λ j q.
    let q2 : j < length s = omega (arith, part_length s (to_le_bytes w64 v) at n l h) in
    lt_cases j at (get_or t j 0 ≡ get_or (set_bits s (8 * at) (8 * n) v) j 0)
    (λ a. part_low s (to_le_bytes w64 v) at n j l a ∙ sym (with_bits_kept s (8 * at) (8 * n) g j q2 (b j) (λ i c d e. omega arith)))
    (λ a. lt_cases j (at + n) (get_or t j 0 ≡ get_or (set_bits s (8 * at) (8 * n) v) j 0)
    (λ d. part_mid s (to_le_bytes w64 v) at n j l h a d
    ∙ le_byte v (j - at) (omega arith)
    ∙ run_ext g (put (bit_at s) (8 * at) (8 * n) g) (8 * (j - at)) (8 * j) 8
    (λ i c. let w : 8 * (j - at) + i ≡ 8 * j + i - 8 * at = omega arith in ap g w ∙ sym (put_in (bit_at s) (8 * at) (8 * n) g (8 * j + i) (omega arith) (omega arith)))
    ∙ sym (with_bits_at s (8 * at) (8 * n) g j q2))
    (λ d. part_high s (to_le_bytes w64 v) at n j l h d ∙ sym (with_bits_kept s (8 * at) (8 * n) g j q2 (b j) (λ i c e f. omega arith)))))

-- n bytes from at on, and what a copy of p to the front of b leaves there
abbrev part : List ℕ → ℕ → ℕ → List ℕ
part s at n = take (at + n - at) (drop at s)

abbrev fronted : List ℕ → List ℕ → List ℕ
fronted p b = take (min (length p) (length b)) p ++ drop (min (length p) (length b)) b

pub store_copied : (s : List ℕ) (at n v : ℕ) (t : List ℕ) → ((j : ℕ) → get_or s j 0 < 256) → n ≤ 8 → at + n ≤ length s
    → t ≡ fronted (take n (to_le_bytes w64 v)) (part s at n) → take at s ++ (t ++ drop (at + n - at) (drop at s)) ≡ set_bits s (8 * at) (8 * n) v
store_copied s at n v t b h l c =
    let k : at + n - at ≡ n = omega arith in
    let e : t ≡ take n (to_le_bytes w64 v) = c ∙ rw k (grind (arith, common_steps)) in
    rw (k, e) (store_part s at n v b h l)

-- n bytes of s, and zeros above them
abbrev zeros : List ℕ
zeros = 0 ∷ 0 ∷ 0 ∷ 0 ∷ 0 ∷ 0 ∷ 0 ∷ 0 ∷ []

abbrev padded : List ℕ → ℕ → ℕ → List ℕ
padded s at n = take n (drop at s) ++ drop n zeros

zeros_at : (i : ℕ) → get_or zeros i 0 ≡ 0
zeros_at i = grind (arith, common_steps)

padded_low : (s : List ℕ) (at n i : ℕ) → at + n ≤ length s → i < n → get_or (padded s at n) i 0 ≡ get_or s (at + i) 0
padded_low s at n i l h = grind (arith, common_steps)

padded_high : (s : List ℕ) (at n i : ℕ) → at + n ≤ length s → n ≤ i → get_or (padded s at n) i 0 ≡ 0
padded_high s at n i l h = grind (arith, common_steps, zeros_at)

padded_length : (s : List ℕ) (at n : ℕ) → at + n ≤ length s → n ≤ 8 → length (padded s at n) ≡ 8
padded_length s at n l h = grind (arith, common_steps)

padded_byte : (s : List ℕ) (at n i : ℕ) → ((j : ℕ) → get_or s j 0 < 256) → at + n ≤ length s → get_or (padded s at n) i 0 < 256
padded_byte s at n i b l =
    lt_cases i n (get_or (padded s at n) i 0 < 256)
    (λ h. rw (padded_low s at n i l h) (b (at + i)))
    (λ h. rw (padded_high s at n i l h) (omega arith))

-- the bits of a number are those of its eight bytes
pub number_bit : (x : ℕ) (t : List ℕ) (i : ℕ) → to_le_bytes w64 x ≡ t → i < 64 → bit_at t i ≡ bit_of x i
unfolding bit_at
number_bit x t i e h =
    let w : 8 * (i / 8) + i % 8 ≡ i = omega arith in
    ap (λ (u : List ℕ). bit_of (get_or u (i / 8) 0) (i % 8)) (sym e)
    ∙ ap (λ (y : ℕ). bit_of y (i % 8)) (le_byte x (i / 8) (omega arith))
    ∙ run_bit (bit_of x) (bit_of_lt x) (8 * (i / 8)) 8 (i % 8) (omega arith) ∙ ap (bit_of x) w

padded_bit : (s : List ℕ) (at n i : ℕ) → at + n ≤ length s → i < 8 * n → bit_at (padded s at n) i ≡ bit_at s (8 * at + i)
unfolding bit_at
padded_bit s at n i l h =
    let e : (8 * at + i) / 8 ≡ at + i / 8 = omega arith in
    let e2 : (8 * at + i) % 8 ≡ i % 8 = omega arith in
    rw (padded_low s at n (i / 8) l (omega arith), e, e2)

padded_none : (s : List ℕ) (at n i : ℕ) → at + n ≤ length s → 8 * n ≤ i → bit_at (padded s at n) i ≡ 0
unfolding bit_at
padded_none s at n i l h = rw (padded_high s at n (i / 8) l (omega arith)) (bit_of_none (i % 8))

pub load_part : (s : List ℕ) (at n x : ℕ) → ((j : ℕ) → get_or s j 0 < 256) → n ≤ 8 → at + n ≤ length s
    → x < 2 ^ 64 → x ≡ from_le_bytes w64 (take n (drop at s) ++ drop n (0 ∷ 0 ∷ 0 ∷ 0 ∷ 0 ∷ 0 ∷ 0 ∷ 0 ∷ [])) → x ≡ run (bit_at s) (8 * at) (8 * n)
load_part s at n x b h l q e =
    let t = padded s at n in
    let f : to_le_bytes w64 x ≡ t = le_bytes_8 t x (padded_length s at n l h) (λ i. padded_byte s at n i b l) e in
    let w : 8 * n + (64 - 8 * n) ≡ 64 = omega arith in
    sym (run_whole x 64 q)
    ∙ run_ext (bit_of x) (bit_at t) 0 0 64 (λ i c. rw (zero-add i) (sym (number_bit x t i f c)))
    ∙ ap (run (bit_at t) 0) (sym w)
    ∙ sym (run_more (bit_at t) 0 (8 * n) (64 - 8 * n) (λ k c. padded_none s at n k l (omega arith)))
    ∙ run_ext (bit_at t) (bit_at s) 0 (8 * at) (8 * n) (λ i c. rw (zero-add i) (padded_bit s at n i l c))

pub load_copied : (s : List ℕ) (at n x : ℕ) (t : List ℕ) → ((j : ℕ) → get_or s j 0 < 256) → n ≤ 8 → at + n ≤ length s
    → x < 2 ^ 64 → t ≡ fronted (part s at n) zeros → x ≡ from_le_bytes w64 t → x ≡ run (bit_at s) (8 * at) (8 * n)
load_copied s at n x t b h l q c e =
    let k : at + n - at ≡ n = omega arith in
    let f : t ≡ padded s at n = c ∙ rw k (grind (arith, common_steps)) in
    load_part s at n x b h l q (e ∙ ap (from_le_bytes w64) f)

-- n bytes by two accesses of w, at both ends
pub load_two : (s : List ℕ) (at n w x y : ℕ) → w ≤ n → n ≤ w + w → n ≤ 8
    → x ≡ run (bit_at s) (8 * at) (8 * w) → y ≡ run (bit_at s) (8 * (at + (n - w))) (8 * w) → bit_or x (y * 2 ^ (8 * (n - w)) % 2 ^ 64) ≡ run (bit_at s) (8 * at) (8 * n)
load_two s at n w x y h q l e d =
    let f : n - w + w ≡ n = sub-add_cancel h in
    rw (e, d) (rw f at (load_law s at w (n - w) w (omega arith) (omega arith) (omega arith)))

pub store_two : (s : List ℕ) (at n w v : ℕ) → w ≤ n → n ≤ w + w
    → set_bits (set_bits s (8 * at) (8 * w) v) (8 * (at + (n - w))) (8 * w) (v / 2 ^ (8 * (n - w))) ≡ set_bits s (8 * at) (8 * n) v
store_two s at n w v h q =
    let e : n - w + w ≡ n = sub-add_cancel h in
    rw e at (store_law s at w (n - w) w v (omega arith) (omega arith))

-- of n bytes those there are: past the end there are zeros to read
pub load_past : (s : List ℕ) (at n : ℕ) → run (bit_at s) (8 * at) (8 * min n (length s - at)) ≡ run (bit_at s) (8 * at) (8 * n)
load_past s at n =
    lt_cases (length s - at) n (run (bit_at s) (8 * at) (8 * min n (length s - at)) ≡ run (bit_at s) (8 * at) (8 * n))
    (λ l.
    let m = min n (length s - at) in
    let w : 8 * m + (8 * n - 8 * m) ≡ 8 * n = omega arith in
    run_more (bit_at s) (8 * at) (8 * m) (8 * n - 8 * m) (λ k p. bit_at_end s k (omega arith)) ∙ ap (run (bit_at s) (8 * at)) w)
    (λ l. let w : 8 * min n (length s - at) ≡ 8 * n = omega arith in ap (run (bit_at s) (8 * at)) w)

-- and nothing to write
pub store_past : (s : List ℕ) (at n v : ℕ) → set_bits s (8 * at) (8 * min n (length s - at)) v ≡ set_bits s (8 * at) (8 * n) v
store_past s at n v =
    let e : 8 * min n (length s - at) ≡ min (8 * n) (8 * (length s - at)) = omega arith in
    rw e (with_bits_end s (8 * at) (8 * n) (8 * (length s - at)) (bit_of v) (omega arith))
