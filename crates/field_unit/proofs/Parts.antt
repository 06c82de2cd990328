-- The field's bits in one unit. What the code makes by shifts and a mask has, bit by bit, the bits that the definition says: a read's bits stand
-- above those held, a write's between those that the rule gives.
-- Assumes nothing.
use mathlib.Core.Path.{◌≡◌, refl, sym, ap, ◌∙◌}
use mathlib.Core.List.{List}
use Prim.Native.Nat.{ℕ, ◌+◌, ◌-◌, ◌*◌, ◌/◌, ◌%◌, ◌^◌, ◌≤◌, ◌<◌, min, max}
use native.Mathlib.Nat.{zero-add, mod-lt}
use native.Mathlib.Omega.{arith}
use lib.Bits.{bit_and, bit_or, bit_xor, or_lt}
use lib.Count.{count_trailing_zeros}
use lib.Pow.{pow_pos, shr_lt}
use Rattle.bits.specs.Bits.{bit_of, run, put, from, set_bits}
use Rattle.bits.proofs.Laws.{lt_cases, bit_of_lt, bit_of_shift, run_below, run_ext, run_bit, run_high, run_eq, put_in, put_below, put_above, put_cases, put_lt}
use Rattle.bits.proofs.With.{with_bits_cong}
use Rattle.bits.proofs.Words.{bit_of_or, bit_of_shl, bit_of_shl_low, low_law, ones_bit, merge_law}
use Rattle.types.proofs.Widths.{Width, of_width}
use Rattle.types.specs.declared.flags.FieldUpdateRule.{FieldUpdateRule}
use Rattle.types.specs.declared.flags.FieldUpdateRule.TheVariants as U
use Rattle.field_unit.specs.Accesses.{Plan, progress, base, lo, hi, gathered, others, merged, act}
use Rattle.field_unit.specs.Calls.{plan_of}
use Rattle.field_unit.specs.declared.access.FieldOp.{FieldOp}
use Rattle.field_unit.specs.declared.access.Access.TheVariants.{Store}

-- ---- a width is a power of two, and whole bytes

pub width_shift : (w : ℕ) → Width w → 2 ^ count_trailing_zeros 64 w ≡ w
unfolding count_trailing_zeros
width_shift w h = of_width (λ (w : ℕ). 2 ^ count_trailing_zeros 64 w ≡ w) w h refl refl refl refl

pub width_shift_small : (w : ℕ) → Width w → count_trailing_zeros 64 w < 64
unfolding count_trailing_zeros
width_shift_small w h = of_width (λ (w : ℕ). count_trailing_zeros 64 w < 64) w h (omega arith) (omega arith) (omega arith) (omega arith)

pub unit_place : (w u : ℕ) → Width w → 8 * (u * w / 8) ≡ u * w
unit_place w u h = of_width (λ (w : ℕ). 8 * (u * w / 8) ≡ u * w) w h (omega arith) (omega arith) (omega arith) (omega arith)

pub unit_size : (w : ℕ) → Width w → 8 * min (w / 8) 8 ≡ w
unit_size w h = of_width (λ (w : ℕ). 8 * min (w / 8) 8 ≡ w) w h refl refl refl refl

pub width_least : (w : ℕ) → Width w → 8 ≤ w
width_least w h = of_width (λ (w : ℕ). 8 ≤ w) w h (omega arith) (omega arith) (omega arith) (omega arith)

pub width_most : (w : ℕ) → Width w → w ≤ 64
width_most w h = of_width (λ (w : ℕ). w ≤ 64) w h (omega arith) (omega arith) (omega arith) (omega arith)

-- ---- a read

-- n bits of x, moved to bit at of a word with nothing else in it
moved : ℕ → ℕ → ℕ → ℕ
moved at n x = x * 2 ^ (64 - n) % 2 ^ 64 / 2 ^ (64 - n - at)

moved_lt : (at n x : ℕ) → at + n ≤ 64 → moved at n x < 2 ^ (at + n)
unfolding moved
moved_lt at n x h =
    let e : at + n + (64 - n - at) ≡ 64 = omega arith in
    shr_lt (at + n) (64 - n - at) (rw e (mod-lt (x * 2 ^ (64 - n)) (pow_pos 64)))

moved_low : (at n x i : ℕ) → at + n ≤ 64 → i < at → bit_of (moved at n x) i ≡ 0
unfolding moved
moved_low at n x i h l =
    bit_of_shift (x * 2 ^ (64 - n) % 2 ^ 64) (64 - n - at) i ∙ bit_of_shl_low x (64 - n) 64 (64 - n - at + i) (omega arith) (omega arith)

moved_in : (at n x i : ℕ) → at + n ≤ 64 → at ≤ i → i < at + n → bit_of (moved at n x) i ≡ bit_of x (i - at)
unfolding moved
moved_in at n x i h l g =
    let e : 64 - n - at + i - (64 - n) ≡ i - at = omega arith in
    bit_of_shift (x * 2 ^ (64 - n) % 2 ^ 64) (64 - n - at) i
    ∙ bit_of_shl x (64 - n) 64 (64 - n - at + i) (omega arith) (omega arith)
    ∙ ap (bit_of x) e

pub above_law : (h at n x : ℕ) → 1 ≤ n → at + n ≤ 64
    → bit_or (bit_and h (1 * 2 ^ at % 2 ^ 64 - 1)) (x * 2 ^ (64 - n) % 2 ^ 64 / 2 ^ (64 - n - at)) ≡ run (put (bit_of h) at n (bit_of x)) 0 (at + n)
unfolding moved
above_law h at n x a l =
    ap (λ (y : ℕ). bit_or y (moved at n x)) (low_law h at (omega arith))
    ∙ run_eq (put (bit_of h) at n (bit_of x)) (bit_or low (moved at n x)) 0 (at + n)
    (or_lt (at + n) low (moved at n x) (run_below (bit_of h) (bit_of_lt h) 0 at (at + n) (omega arith)) (moved_lt at n x l))
    (λ i q. bit_of_or low (moved at n x) i ∙ each i q)
  where
    low : ℕ
    low = run (bit_of h) 0 at

    each : (i : ℕ) → i < at + n → max (bit_of low i) (bit_of (moved at n x) i) ≡ put (bit_of h) at n (bit_of x) (0 + i)
    each i q =
        let z : 0 + i ≡ i = zero-add i in
        lt_cases i at (max (bit_of low i) (bit_of (moved at n x) i) ≡ put (bit_of h) at n (bit_of x) (0 + i))
        (λ p.
        let b = run_bit (bit_of h) (bit_of_lt h) 0 at i p in
        rw z (omega (arith, put_below (bit_of h) at n (bit_of x) i p, rw z at b, moved_low at n x i l p)))
        (λ p. rw z (omega (arith, put_in (bit_of h) at n (bit_of x) i p q, run_high (bit_of h) (bit_of_lt h) 0 at i p, moved_in at n x i l p q)))

-- bits put in place from a number shifted down are those from its bit d on
put_shifted : (f : ℕ → ℕ) (o n v d k : ℕ) → put f o n (bit_of (v / 2 ^ d)) k ≡ put f o n (from (bit_of v) d) k
put_shifted f o n v d k =
    put_cases f o n (bit_of (v / 2 ^ d)) k (λ (y : ℕ). y ≡ put f o n (from (bit_of v) d) k)
    (λ q. sym (put_below f o n (from (bit_of v) d) k q))
    (λ q r. bit_of_shift v d (k - o) ∙ sym (put_in f o n (from (bit_of v) d) k q r))
    (λ q. sym (put_above f o n (from (bit_of v) d) k q))

-- the field's part of a unit: its end, counted from the field's start
part_end : (o n x w : ℕ) → o < x + w → x < o + n → max o x - o + (min (o + n) (x + w) - max o x) ≡ min (o + n) (x + w) - o
part_end o n x w a b = omega arith

pub gathers : (p : Plan) (u h x : ℕ) → p.offset < base p u + p.width → base p u < p.offset + p.size
    → run (put (bit_of h) (lo p u - p.offset) (hi p u - lo p u) (bit_of (x / 2 ^ (lo p u - base p u)))) 0 (lo p u - p.offset + (hi p u - lo p u))
    ≡ gathered p u h x
unfolding gathered
gathers p u h x a b =
    ap (run (put (bit_of h) (lo p u - p.offset) (hi p u - lo p u) (bit_of (x / 2 ^ (lo p u - base p u)))) 0)
    (part_end p.offset p.size (base p u) p.width a b)
    ∙ run_ext (put (bit_of h) (lo p u - p.offset) (hi p u - lo p u) (bit_of (x / 2 ^ (lo p u - base p u))))
    (put (bit_of h) (lo p u - p.offset) (hi p u - lo p u) (from (bit_of x) (lo p u - base p u))) 0 0 (hi p u - p.offset)
    (λ i _. put_shifted (bit_of h) (lo p u - p.offset) (hi p u - lo p u) x (lo p u - base p u) (0 + i))

-- ---- a write

others_lt : (r : FieldUpdateRule) (h k : ℕ) → others r (bit_of h) k < 2
unfolding others
others_lt U.Preserve h k = bit_of_lt h k
others_lt U.WriteAsOnes h k = omega arith
others_lt U.WriteAsZeros h k = omega arith

covered_start : (o n x w : ℕ) → min (o + n) (x + w) - max o x ≡ w → 0 < w → max o x - x ≡ 0
covered_start o n x w e h = omega arith

-- the field covers the unit: nothing is left to the rule
pub merges_all : (p : Plan) (v u h : ℕ) → ((k : ℕ) → p.bits k ≡ bit_of v k) → 0 < p.width → hi p u - lo p u ≡ p.width
    → run (bit_of (v / 2 ^ (lo p u - p.offset))) 0 p.width ≡ merged p u h
unfolding merged
merges_all p v u h b l e =
    let z = covered_start p.offset p.size (base p u) p.width e l in
    run_ext (bit_of (v / 2 ^ (lo p u - p.offset)))
    (put (others p.rule (bit_of h)) (lo p u - base p u) (hi p u - lo p u) (from p.bits (lo p u - p.offset))) 0 0 p.width
    (λ i q.
    let f : lo p u - p.offset + (0 + i) ≡ lo p u - p.offset + (0 + i - (lo p u - base p u)) = omega arith in
    bit_of_shift v (lo p u - p.offset) (0 + i)
    ∙ sym (b (lo p u - p.offset + (0 + i)))
    ∙ ap p.bits f
    ∙ sym (put_in (others p.rule (bit_of h)) (lo p u - base p u) (hi p u - lo p u) (from p.bits (lo p u - p.offset)) (0 + i) (omega arith) (omega arith)))

-- n ones
ones_run : (n : ℕ) → n ≤ 64 → (2 ^ 64 - 1) / 2 ^ (64 - n) ≡ run (bit_of (2 ^ 64 - 1)) 0 n
ones_run n h =
    let e : n + (64 - n) ≡ 64 = omega arith in
    run_eq (bit_of (2 ^ 64 - 1)) ((2 ^ 64 - 1) / 2 ^ (64 - n)) 0 n
    (shr_lt n (64 - n) (rw e (omega (arith, pow_pos 64))))
    (λ i l.
    bit_of_shift (2 ^ 64 - 1) (64 - n) i
    ∙ ones_bit 64 (64 - n + i) (omega arith)
    ∙ sym (ones_bit 64 (0 + i) (omega arith)))

-- one run put into another, by a mask of n ones moved to bit at
pub merge_is : (old at n v : ℕ) → old < 2 ^ 64 → 1 ≤ n → at + n ≤ 64
    → bit_xor old (bit_and (bit_xor old (v * 2 ^ at % 2 ^ 64)) (18446744073709551615 / 2 ^ (64 - n) * 2 ^ at % 2 ^ 64))
    ≡ run (put (bit_of old) at n (bit_of v)) 0 64
merge_is old at n v b h l =
    ap (λ (m : ℕ). bit_xor old (bit_and (bit_xor old (v * 2 ^ at % 2 ^ 64)) (m * 2 ^ at % 2 ^ 64))) (ones_run n (omega arith))
    ∙ merge_law old at n v b (omega arith)

pub merges : (p : Plan) (v u h a : ℕ) → ((k : ℕ) → p.bits k ≡ bit_of v k) → p.width ≤ 64
    → ((k : ℕ) → k < 64 → bit_of a k ≡ others p.rule (bit_of h) k)
    → run (bit_of (run (put (bit_of a) (lo p u - base p u) (hi p u - lo p u) (bit_of (v / 2 ^ (lo p u - p.offset)))) 0 64)) 0 p.width ≡ merged p u h
unfolding merged
merges p v u h a b l e =
    run_ext (bit_of (run g 0 64)) f 0 0 p.width
    (λ i q.
    run_bit g (put_lt (bit_of a) (bit_of_lt a) at n (bit_of (v / 2 ^ d)) (bit_of_lt (v / 2 ^ d))) 0 64 (0 + i) (omega arith)
    ∙ each (0 + (0 + i)) (0 + i) (zero-add (0 + i)) (omega arith))
  where
    at : ℕ
    at = lo p u - base p u

    n : ℕ
    n = hi p u - lo p u

    d : ℕ
    d = lo p u - p.offset

    g : ℕ → ℕ
    g = put (bit_of a) at n (bit_of (v / 2 ^ d))

    f : ℕ → ℕ
    f = put (others p.rule (bit_of h)) at n (from p.bits d)

    each : (j i : ℕ) → j ≡ i → i < 64 → g j ≡ f i
    each j i z q =
        ap g z
        ∙ put_cases (bit_of a) at n (bit_of (v / 2 ^ d)) i (λ (y : ℕ). y ≡ f i)
        (λ r. e i q ∙ sym (put_below (others p.rule (bit_of h)) at n (from p.bits d) i r))
        (λ r s. bit_of_shift v d (i - at) ∙ sym (b (d + (i - at))) ∙ sym (put_in (others p.rule (bit_of h)) at n (from p.bits d) i r s))
        (λ r. e i q ∙ sym (put_above (others p.rule (bit_of h)) at n (from p.bits d) i r))

-- a store takes only the unit's own bits
pub stores : (s : List ℕ) (o w x y : ℕ) → run (bit_of x) 0 w ≡ y → set_bits s o w x ≡ set_bits s o w y
stores s o w x y e =
    with_bits_cong s o w (bit_of x) (bit_of y)
    (λ i l. sym (ap (λ (z : ℕ). bit_of z i) (sym e) ∙ run_bit (bit_of x) (bit_of_lt x) 0 w i l ∙ ap (bit_of x) (zero-add i)))

pub all_ones : (k : ℕ) → k < 64 → bit_of 18446744073709551615 k ≡ 1
all_ones k l = ones_bit 64 k l

-- ---- at the width w that the code holds

module _ (op : FieldOp) (u h w : ℕ) (ew : w ≡ (plan_of op).width) (s : List ℕ) where
  abbrev plan : Plan
  plan = plan_of op

  pub store_puts : (t : List ℕ) (x : ℕ) → t ≡ set_bits s (u * w) w x → run (bit_of x) 0 w ≡ merged plan u h → t ≡ (act plan (Store u) (progress s h)).region
  unfolding act
  store_puts t x e m =
      e
      ∙ stores s (u * w) w x (merged plan u h) m
      ∙ ap (λ (y : ℕ). set_bits s (u * y) y (merged plan u h)) ew
