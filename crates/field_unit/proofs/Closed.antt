-- What a whole read gives and what a whole write leaves, without units: a read is the run of the field's bits; a write is the field's bits
-- replaced in the region, whose touched units have their other bits kept, all one or all zero. Unit after unit the written part grows from the first
-- unit's start up to the end of the last (`grown`), and each unit moves its end by one width.
-- Assumes nothing.
use mathlib.Core.Path.{◌≡◌, refl, sym, ap, ◌∙◌}
use mathlib.Core.Bool.{Bool, true, false, cond}
use mathlib.Core.List.{List, [], ◌∷◌, ◌++◌}
use Prim.Native.Nat.{ℕ, zero, suc, ◌+◌, ◌-◌, ◌*◌, ◌/◌, ◌≤◌, ◌<◌, min, max}
use native.Mathlib.Nat.{zero-add, add-mul, suc-mul, zero-mul, div-mul-le_self, lt-div-mul-add, le-div_iff_mul-le, le_trans}
use native.Mathlib.Omega.{arith}
use lib.Dec.{leb}
use lib.ListN.{length, get_or}
use borrow.Author.Tests.{leb-true}
use Rattle.bits.specs.Bits.{bit_of, bit_at, run, put, from, with_bits, get_bits}
use Rattle.bits.proofs.Laws.{lt_cases, bit_of_lt, bit_at_lt, run_ext, run_bit, put_in, put_below, put_above, put_cases, put_lt, put_cong, bits_eq}
use Rattle.bits.proofs.With.{with_bits_length, with_bits_bit, with_bits_cong, with_bits_none, with_bits_kept, with_bits_bytes}
use Rattle.types.proofs.Tests.{and_both}
use Rattle.types.specs.declared.flags.FieldUpdateRule.{FieldUpdateRule}
use Rattle.types.specs.declared.flags.FieldUpdateRule.TheVariants as U
use Rattle.field_unit.specs.Accesses.{Plan, progress, first, units, base, lo, hi, covered, part_accesses, unit_accesses, accesses_from, accesses, gathered, others, merged, act, acts, whole}
use Rattle.field_unit.specs.declared.access.Access.TheVariants.{Load, Store}
use Rattle.field_unit.proofs.Running.{acts_append}

-- ---- where the units end

module _ (w o n : ℕ) (pos : 0 < w) (some : 1 ≤ n) where
  -- the units from the first to the last reach from before the field's first bit to past its last
  last_end : (o / w * w ≤ o) × (o < o / w * w + w) × (o + n ≤ o / w * w + ((o + n - 1) / w + 1 - o / w) * w) × (o / w * w + ((o + n - 1) / w + 1 - o / w) * w < o + n + w)
  last_end =
      let l = lt-div-mul-add {a = o} pos in
      let d = div-mul-le_self o w in
      let l2 = lt-div-mul-add {a = o + n - 1} pos in
      let d2 = div-mul-le_self (o + n - 1) w in
      let mono : o / w ≤ (o + n - 1) / w = (le-div_iff_mul-le pos).1 (omega arith) in
      let e : (o + n - 1) / w + 1 - o / w + o / w ≡ suc ((o + n - 1) / w) = omega arith in
      let s1 = suc-mul ((o + n - 1) / w) w in
      let s2 = add-mul ((o + n - 1) / w + 1 - o / w) (o / w) w in
      let s3 = ap (λ (x : ℕ). x * w) e in
      (omega arith, omega arith, omega arith, omega arith)

-- ---- the bits around the field

pub others_lt : (r : FieldUpdateRule) (f : ℕ → ℕ) → ((k : ℕ) → f k < 2) → (k : ℕ) → others r f k < 2
unfolding others
others_lt U.Preserve f b k = b k
others_lt U.WriteAsOnes f b k = omega arith
others_lt U.WriteAsZeros f b k = omega arith

-- they go by the bit at their own place
others_at : (r : FieldUpdateRule) (f g : ℕ → ℕ) (i k : ℕ) → f i ≡ g k → others r f i ≡ others r g k
unfolding others
others_at U.Preserve f g i k e = e
others_at U.WriteAsOnes f g i k e = refl
others_at U.WriteAsZeros f g i k e = refl

others_ones : (r : FieldUpdateRule) (f g : ℕ → ℕ) (i k : ℕ) → r ≡ U.WriteAsOnes → others r f i ≡ others r g k
unfolding others
others_ones r f g i k e = rw e

others_zeros : (r : FieldUpdateRule) (f g : ℕ → ℕ) (i k : ℕ) → r ≡ U.WriteAsZeros → others r f i ≡ others r g k
unfolding others
others_zeros r f g i k e = rw e

-- ---- places in a unit: of the field from o on, of n bits, in the unit from x on, of w bits

in_before : (o x k : ℕ) → x ≤ k → k - x < max o x - x → k < o
in_before o x k h q = omega arith

in_from : (o x k : ℕ) → x ≤ k → max o x - x ≤ k - x → o ≤ k
in_from o x k h q = omega arith

in_place : (o x k : ℕ) → x ≤ k → max o x - x ≤ k - x → max o x - o + (k - x - (max o x - x)) ≡ k - o
in_place o x k h q = omega arith

in_to : (o n x w k : ℕ) → x ≤ k → o < x + w → x < o + n → k - x < max o x - x + (min (o + n) (x + w) - max o x) → k < o + n
in_to o n x w k h ow xo q = omega arith

in_behind : (o n x w k : ℕ) → x ≤ k → k < x + w → o < x + w → x < o + n → max o x - x + (min (o + n) (x + w) - max o x) ≤ k - x → o + n ≤ k
in_behind o n x w k h l ow xo q = omega arith

-- ---- the bits of a region written up to y

module _ (f : ℕ → ℕ) (r : FieldUpdateRule) (g : ℕ → ℕ) (a o n : ℕ) (ao : a ≤ o) where
  -- from a up to y the field's bits are g's, and the others go by the rule
  abbrev grown_bit : ℕ → ℕ → ℕ
  grown_bit y k = put (put f a (y - a) (others r (from f a))) o (min (o + n) y - o) g k

  around_bit : (y k : ℕ) → a ≤ k → k < y → put f a (y - a) (others r (from f a)) k ≡ others r f k
  around_bit y k h l =
      let e : a + (k - a) ≡ k = omega arith in
      put_in f a (y - a) (others r (from f a)) k h (omega arith) ∙ others_at r (from f a) f (k - a) k (ap f e)

  grown_in : (y k : ℕ) → o ≤ k → k < o + n → k < y → grown_bit y k ≡ g (k - o)
  grown_in y k h l q = put_in (put f a (y - a) (others r (from f a))) o (min (o + n) y - o) g k h (omega arith)

  grown_before : (y k : ℕ) → a ≤ k → k < y → k < o → grown_bit y k ≡ others r f k
  grown_before y k h l q = put_below (put f a (y - a) (others r (from f a))) o (min (o + n) y - o) g k q ∙ around_bit y k h l

  grown_behind : (y k : ℕ) → a ≤ k → k < y → o + n ≤ k → grown_bit y k ≡ others r f k
  grown_behind y k h l q = put_above (put f a (y - a) (others r (from f a))) o (min (o + n) y - o) g k (omega arith) ∙ around_bit y k h l

  grown_below : (y k : ℕ) → k < a → grown_bit y k ≡ f k
  grown_below y k h =
      put_below (put f a (y - a) (others r (from f a))) o (min (o + n) y - o) g k (omega arith) ∙ put_below f a (y - a) (others r (from f a)) k h

  grown_above : (y k : ℕ) → a ≤ y → y ≤ k → grown_bit y k ≡ f k
  grown_above y k h l =
      put_cases (put f a (y - a) (others r (from f a))) o (min (o + n) y - o) g k (λ (x : ℕ). x ≡ f k)
      (λ _. rest) (λ p q. let no : ⊥ = omega arith in absurd no) (λ _. rest)
    where
      rest : put f a (y - a) (others r (from f a)) k ≡ f k
      rest = put_above f a (y - a) (others r (from f a)) k (omega arith)

  -- a bit written before stays when the end moves on
  grown_stays : (x y k : ℕ) → x ≤ y → k < x → grown_bit x k ≡ grown_bit y k
  grown_stays x y k h l =
      lt_cases k a (grown_bit x k ≡ grown_bit y k) (λ q. grown_below x k q ∙ sym (grown_below y k q))
      (λ q. lt_cases k o (grown_bit x k ≡ grown_bit y k)
      (λ p. grown_before x k q l p ∙ sym (grown_before y k q (omega arith) p))
      (λ p. lt_cases k (o + n) (grown_bit x k ≡ grown_bit y k)
      (λ t. grown_in x k p t l ∙ sym (grown_in y k p t (omega arith)))
      (λ t. grown_behind x k q l t ∙ sym (grown_behind y k q (omega arith) t))))

  module _ (x w : ℕ) (ax : a ≤ x) (ow : o < x + w) (xo : x < o + n) where
    -- the unit at x of a region written up to x
    abbrev unit_bit : ℕ → ℕ
    unit_bit = put (others r (from (grown_bit x) x)) (max o x - x) (min (o + n) (x + w) - max o x) (from g (max o x - o))

    kept : (k : ℕ) → x ≤ k → others r (from (grown_bit x) x) (k - x) ≡ others r f k
    kept k h =
        let e : x + (k - x) ≡ k = omega arith in
        others_at r (from (grown_bit x) x) f (k - x) k (ap (grown_bit x) e ∙ grown_above x k ax h)

    in_unit : (k : ℕ) → x ≤ k → k < x + w → unit_bit (k - x) ≡ grown_bit (x + w) k
    in_unit k h l =
        put_cases (others r (from (grown_bit x) x)) (max o x - x) (min (o + n) (x + w) - max o x) (from g (max o x - o)) (k - x)
        (λ (y : ℕ). y ≡ grown_bit (x + w) k)
        (λ q. kept k h ∙ sym (grown_before (x + w) k (le_trans ax h) l (in_before o x k h q)))
        (λ q t. ap g (in_place o x k h q) ∙ sym (grown_in (x + w) k (in_from o x k h q) (in_to o n x w k h ow xo t) l))
        (λ q. kept k h ∙ sym (grown_behind (x + w) k (le_trans ax h) l (in_behind o n x w k h l ow xo q)))

    grown_unit : (k : ℕ) → put (grown_bit x) x w unit_bit k ≡ grown_bit (x + w) k
    grown_unit k =
        put_cases (grown_bit x) x w unit_bit k (λ (y : ℕ). y ≡ grown_bit (x + w) k)
        (λ q. grown_stays x (x + w) k (omega arith) q)
        (λ q t. in_unit k q t)
        (λ q. grown_above x k ax (omega arith) ∙ sym (grown_above (x + w) k (omega arith) q))

-- ---- one unit, whatever was held before it

module _ (p : Plan) (wr : p.write ≡ true) (bb : (k : ℕ) → p.bits k < 2) where
  -- the unit's bits after it, in a region of these bits
  abbrev unit_after : (ℕ → ℕ) → ℕ → ℕ → ℕ
  unit_after f u = put (others p.rule (from f (base p u))) (lo p u - base p u) (hi p u - lo p u) (from p.bits (lo p u - p.offset))

  -- the unit that is stored holds these bits, where what is held has the region's, or where the rule does not look at it
  stored_bit : (u h i : ℕ) → i < p.width
      → bit_of (merged p u h) i ≡ put (others p.rule (bit_of h)) (lo p u - base p u) (hi p u - lo p u) (from p.bits (lo p u - p.offset)) i
  unfolding merged
  stored_bit u h i l =
      let f = put (others p.rule (bit_of h)) (lo p u - base p u) (hi p u - lo p u) (from p.bits (lo p u - p.offset)) in
      run_bit f (put_lt (others p.rule (bit_of h)) (others_lt p.rule (bit_of h) (bit_of_lt h)) (lo p u - base p u) (hi p u - lo p u)
      (from p.bits (lo p u - p.offset)) (λ k. bb (lo p u - p.offset + k))) 0 p.width i l
      ∙ ap f (zero-add i)

  store_region : (s : List ℕ) (u h : ℕ) → ((i : ℕ) → i < p.width → put (others p.rule (bit_of h)) (lo p u - base p u) (hi p u - lo p u) (from p.bits (lo p u - p.offset)) i ≡ unit_after (bit_at s) u i)
      → (act p (Store u) (progress s h)).region ≡ with_bits s (base p u) p.width (unit_after (bit_at s) u)
  unfolding act
  store_region s u h e = with_bits_cong s (base p u) p.width (bit_of (merged p u h)) (unit_after (bit_at s) u) (λ i l. stored_bit u h i l ∙ e i l)

  -- where the field covers the unit, what was held says nothing
  covers_all : (o n x w i : ℕ) → o ≤ x → x + w ≤ o + n → i < w → (max o x - x ≤ i) × (i < max o x - x + (min (o + n) (x + w) - max o x))
  covers_all o n x w i a b l = (omega arith, omega arith)

  list_covered : (u : ℕ) → covered p u ≡ true → unit_accesses p u ≡ Store u ∷ []
  unfolding unit_accesses
  list_covered u e =
      ap (λ b. cond b (cond (covered p u) (Store u ∷ []) (part_accesses p.rule u)) (Load u ∷ [])) wr
      ∙ ap (λ b. cond b (Store u ∷ []) (part_accesses p.rule u)) e

  list_part : (u : ℕ) (r : FieldUpdateRule) → covered p u ≡ false → p.rule ≡ r → unit_accesses p u ≡ part_accesses r u
  unfolding unit_accesses
  list_part u r e q =
      ap (λ b. cond b (cond (covered p u) (Store u ∷ []) (part_accesses p.rule u)) (Load u ∷ [])) wr
      ∙ ap (λ b. cond b (Store u ∷ []) (part_accesses p.rule u)) e
      ∙ ap (λ x. part_accesses x u) q

  unit_covered : (s : List ℕ) (u h : ℕ) → covered p u ≡ true
      → (acts p (Store u ∷ []) (progress s h)).region ≡ with_bits s (base p u) p.width (unit_after (bit_at s) u)
  unfolding acts
  unit_covered s u h e =
      let t = and_both (leb p.offset (base p u)) (leb (base p u + p.width) (p.offset + p.size)) e in
      let a = leb-true _ _ t.0 in
      let b = leb-true _ _ t.1 in
      store_region s u h
      (λ i l.
      let q = covers_all p.offset p.size (base p u) p.width i a b l in
      put_in (others p.rule (bit_of h)) (lo p u - base p u) (hi p u - lo p u) (from p.bits (lo p u - p.offset)) i q.0 q.1
      ∙ sym (put_in (others p.rule (from (bit_at s) (base p u))) (lo p u - base p u) (hi p u - lo p u) (from p.bits (lo p u - p.offset)) i q.0 q.1))

  load_held : (s : List ℕ) (u h : ℕ) → act p (Load u) (progress s h) ≡ progress s (get_bits s (base p u) p.width)
  unfolding act
  load_held s u h = ap (λ b. progress s (cond b (get_bits s (base p u) p.width) (gathered p u h (get_bits s (base p u) p.width)))) wr

  swapped : (s : List ℕ) (u h i : ℕ) → others p.rule (bit_of h) i ≡ others p.rule (from (bit_at s) (base p u)) i
      → put (others p.rule (bit_of h)) (lo p u - base p u) (hi p u - lo p u) (from p.bits (lo p u - p.offset)) i ≡ unit_after (bit_at s) u i
  swapped s u h i e = put_cong (others p.rule (bit_of h)) (others p.rule (from (bit_at s) (base p u))) (lo p u - base p u) (hi p u - lo p u) (from p.bits (lo p u - p.offset)) i e

  unit_part : (s : List ℕ) (u h : ℕ) (r : FieldUpdateRule) → p.rule ≡ r
      → (acts p (part_accesses r u) (progress s h)).region ≡ with_bits s (base p u) p.width (unit_after (bit_at s) u)
  unfolding acts
  unit_part s u h U.Preserve e =
      ap (λ x. (act p (Store u) x).region) (load_held s u h)
      ∙ store_region s u (get_bits s (base p u) p.width)
      (λ i l. swapped s u (get_bits s (base p u) p.width) i
      (others_at p.rule (bit_of (get_bits s (base p u) p.width)) (from (bit_at s) (base p u)) i i (run_bit (bit_at s) (bit_at_lt s) (base p u) p.width i l)))
  unit_part s u h U.WriteAsOnes e = store_region s u h (λ i l. swapped s u h i (others_ones p.rule (bit_of h) (from (bit_at s) (base p u)) i i e))
  unit_part s u h U.WriteAsZeros e = store_region s u h (λ i l. swapped s u h i (others_zeros p.rule (bit_of h) (from (bit_at s) (base p u)) i i e))

  -- the accesses of a unit write it
  pub unit_written : (s : List ℕ) (u h : ℕ)
      → (acts p (unit_accesses p u) (progress s h)).region ≡ with_bits s (base p u) p.width (unit_after (bit_at s) u)
  unit_written s u h = go (covered p u) refl p.rule refl
    where
      go : (b : Bool) → covered p u ≡ b → (r : FieldUpdateRule) → p.rule ≡ r
          → (acts p (unit_accesses p u) (progress s h)).region ≡ with_bits s (base p u) p.width (unit_after (bit_at s) u)
      go true e r q = ap (λ l. (acts p l (progress s h)).region) (list_covered u e) ∙ unit_covered s u h e
      go false e r q = ap (λ l. (acts p l (progress s h)).region) (list_part u r e q) ∙ unit_part s u h r q

  -- ---- a region written up to bit y

  abbrev start : ℕ
  start = base p (first p)

  -- the units from the first one on up to bit y, their bits around the field by the rule
  abbrev filled : List ℕ → ℕ → List ℕ
  filled s y = with_bits s start (y - start) (others p.rule (from (bit_at s) start))

  abbrev grown : List ℕ → ℕ → List ℕ
  grown s y = with_bits (filled s y) p.offset (min (p.offset + p.size) y - p.offset) p.bits

  start_below : start ≤ p.offset
  start_below = div-mul-le_self p.offset p.width

  abbrev bits_of : List ℕ → ℕ → ℕ → ℕ
  bits_of s = grown_bit (bit_at s) p.rule p.bits start p.offset p.size start_below

  filled_lt : (s : List ℕ) (k : ℕ) → others p.rule (from (bit_at s) start) k < 2
  filled_lt s k = others_lt p.rule (from (bit_at s) start) (λ i. bit_at_lt s (start + i)) k

  grown_length : (s : List ℕ) (y : ℕ) → length (grown s y) ≡ length s
  grown_length s y = with_bits_length (filled s y) p.offset (min (p.offset + p.size) y - p.offset) p.bits ∙ with_bits_length s start (y - start) (others p.rule (from (bit_at s) start))

  grown_bit_lem : (s : List ℕ) (y k : ℕ) → k < 8 * length s → bit_at (grown s y) k ≡ bits_of s y k
  grown_bit_lem s y k h =
      with_bits_bit (filled s y) p.offset (min (p.offset + p.size) y - p.offset) p.bits bb k
      (omega (arith, with_bits_length s start (y - start) (others p.rule (from (bit_at s) start))))
      ∙ put_cong (bit_at (filled s y)) (put (bit_at s) start (y - start) (others p.rule (from (bit_at s) start))) p.offset (min (p.offset + p.size) y - p.offset) p.bits k
      (with_bits_bit s start (y - start) (others p.rule (from (bit_at s) start)) (filled_lt s) k h)

  unit_after_lt : (f : ℕ → ℕ) → ((k : ℕ) → f k < 2) → (u k : ℕ) → unit_after f u k < 2
  unit_after_lt f b u k =
      put_lt (others p.rule (from f (base p u))) (others_lt p.rule (from f (base p u)) (λ i. b (base p u + i))) (lo p u - base p u) (hi p u - lo p u)
      (from p.bits (lo p u - p.offset)) (λ i. bb (lo p u - p.offset + i)) k

  -- the next unit moves the end by one width
  module _ (s : List ℕ) (u : ℕ) (su : start ≤ base p u) (ow : p.offset < base p u + p.width) (xo : base p u < p.offset + p.size) where
    abbrev before : List ℕ
    before = grown s (base p u)

    next_bit : (k : ℕ) → k < 8 * length s
        → put (bit_at before) (base p u) p.width (unit_after (bit_at before) u) k ≡ bits_of s (base p u + p.width) k
    next_bit k h =
        put_cases (bit_at before) (base p u) p.width (unit_after (bit_at before) u) k (λ (x : ℕ). x ≡ put (bits_of s (base p u)) (base p u) p.width (unit_after (bits_of s (base p u)) u) k)
        (λ q. grown_bit_lem s (base p u) k h ∙ sym (put_below (bits_of s (base p u)) (base p u) p.width (unit_after (bits_of s (base p u)) u) k q))
        (λ q t.
        let e : base p u + (k - base p u) ≡ k = omega arith in
        put_cong (others p.rule (from (bit_at before) (base p u))) (others p.rule (from (bits_of s (base p u)) (base p u))) (lo p u - base p u) (hi p u - lo p u) (from p.bits (lo p u - p.offset)) (k - base p u)
        (others_at p.rule (from (bit_at before) (base p u)) (from (bits_of s (base p u)) (base p u)) (k - base p u) (k - base p u)
        (ap (bit_at before) e ∙ grown_bit_lem s (base p u) k h ∙ ap (bits_of s (base p u)) (sym e)))
        ∙ sym (put_in (bits_of s (base p u)) (base p u) p.width (unit_after (bits_of s (base p u)) u) k q t))
        (λ q. grown_bit_lem s (base p u) k h ∙ sym (put_above (bits_of s (base p u)) (base p u) p.width (unit_after (bits_of s (base p u)) u) k q))
        ∙ grown_unit (bit_at s) p.rule p.bits start p.offset p.size start_below (base p u) p.width su ow xo k

    grown_next : with_bits before (base p u) p.width (unit_after (bit_at before) u) ≡ grown s (base p u + p.width)
    grown_next =
        let lb = grown_length s (base p u) in
        let la = grown_length s (base p u + p.width) in
        let lw = with_bits_length before (base p u) p.width (unit_after (bit_at before) u) in
        bits_eq (with_bits before (base p u) p.width (unit_after (bit_at before) u)) (grown s (base p u + p.width))
        (with_bits_bytes before (base p u) p.width (unit_after (bit_at before) u) (unit_after_lt (bit_at before) (bit_at_lt before) u))
        (with_bits_bytes (filled s (base p u + p.width)) p.offset (min (p.offset + p.size) (base p u + p.width) - p.offset) p.bits bb)
        (lw ∙ lb ∙ sym la)
        (λ k h.
        let h2 : k < 8 * length s = omega arith in
        with_bits_bit before (base p u) p.width (unit_after (bit_at before) u) (unit_after_lt (bit_at before) (bit_at_lt before) u) k (omega arith)
        ∙ next_bit k h2
        ∙ sym (grown_bit_lem s (base p u + p.width) k h2))

  -- m units from u on, in a region written up to unit u
  written_from : (s : List ℕ) (m u h : ℕ) → start ≤ base p u → p.offset < base p u + p.width
      → p.offset + p.size ≤ base p u + m * p.width → base p u + m * p.width < p.offset + p.size + p.width
      → (acts p (accesses_from p u m) (progress (grown s (base p u)) h)).region ≡ grown s (base p u + m * p.width)
  unfolding accesses_from acts
  written_from s zero u h su ow a b = ap (grown s) (let z = zero-mul p.width in let e : base p u ≡ base p u + 0 * p.width = omega arith in e)
  written_from s (suc m) u h su ow a b =
      let ms = suc-mul m p.width in
      let us = suc-mul u p.width in
      let in_field : base p u < p.offset + p.size = omega arith in
      let after = acts p (unit_accesses p u) (progress (grown s (base p u)) h) in
      let moved : after.region ≡ grown s (base p (suc u)) =
      unit_written (grown s (base p u)) u h ∙ grown_next s u su ow in_field ∙ ap (grown s) (sym us) in
      let e : base p (suc u) + m * p.width ≡ base p u + suc m * p.width = omega arith in
      ap (λ x. x.region) (acts_append p (unit_accesses p u) (accesses_from p (suc u) m) (progress (grown s (base p u)) h))
      ∙ ap (λ l. (acts p (accesses_from p (suc u) m) (progress l after.held)).region) moved
      ∙ written_from s m (suc u) after.held (omega arith) (omega arith) (omega arith) (omega arith)
      ∙ ap (grown s) e

  -- A WRITE: the field's bits are replaced, and around them the touched units' bits go by the rule.
  pub write_closed : (s : List ℕ) → ((j : ℕ) → get_or s j 0 < 256) → 0 < p.width → 1 ≤ p.size
      → (whole p s).region
      ≡ with_bits (with_bits s (base p (first p)) (units p * p.width) (others p.rule (from (bit_at s) (base p (first p))))) p.offset p.size p.bits
  write_closed s b pos some =
      let r = last_end p.width p.offset p.size pos some in
      let y = start + units p * p.width in
      let z : start - start ≡ 0 = omega arith in
      let z2 : min (p.offset + p.size) start - p.offset ≡ 0 = omega (arith, r.0) in
      let opens : grown s start ≡ s =
      ap (λ k. with_bits (filled s start) p.offset k p.bits) z2
      ∙ with_bits_none (filled s start) p.offset p.bits (with_bits_bytes s start (start - start) (others p.rule (from (bit_at s) start)) (filled_lt s))
      ∙ ap (λ k. with_bits s start k (others p.rule (from (bit_at s) start))) z
      ∙ with_bits_none s start (others p.rule (from (bit_at s) start)) b in
      let e : y - start ≡ units p * p.width = omega arith in
      let e2 : min (p.offset + p.size) y - p.offset ≡ p.size = omega (arith, r.2) in
      ap (λ l. (acts p (accesses p) (progress l 0)).region) (sym opens)
      ∙ written_from s (units p) (first p) 0 (omega arith) r.1 r.2 r.3
      ∙ ap (λ k. with_bits (with_bits s start k (others p.rule (from (bit_at s) start))) p.offset (min (p.offset + p.size) y - p.offset) p.bits) e
      ∙ ap (λ k. with_bits (with_bits s start (units p * p.width) (others p.rule (from (bit_at s) start))) p.offset k p.bits) e2

-- ---- the three rules

-- bits put where they stand already
with_bits_same : (s : List ℕ) (o n : ℕ) → ((j : ℕ) → get_or s j 0 < 256) → with_bits s o n (from (bit_at s) o) ≡ s
with_bits_same s o n b =
    bits_eq (with_bits s o n (from (bit_at s) o)) s (with_bits_bytes s o n (from (bit_at s) o) (λ k. bit_at_lt s (o + k))) b (with_bits_length s o n (from (bit_at s) o))
    (λ k h.
    with_bits_bit s o n (from (bit_at s) o) (λ i. bit_at_lt s (o + i)) k (omega (arith, with_bits_length s o n (from (bit_at s) o)))
    ∙ put_cases (bit_at s) o n (from (bit_at s) o) k (λ (x : ℕ). x ≡ bit_at s k) (λ _. refl)
    (λ q t. let e : o + (k - o) ≡ k = omega arith in ap (bit_at s) e) (λ _. refl))

others_is : (r : FieldUpdateRule) (f : ℕ → ℕ) (k : ℕ) → (r ≡ U.Preserve → others r f k ≡ f k) × (r ≡ U.WriteAsOnes → others r f k ≡ 1) × (r ≡ U.WriteAsZeros → others r f k ≡ 0)
unfolding others
others_is r f k = ((λ e. rw e), (λ e. rw e), (λ e. rw e))

module _ (p : Plan) (wr : p.write ≡ true) (bb : (k : ℕ) → p.bits k < 2) (s : List ℕ) (b : (j : ℕ) → get_or s j 0 < 256) (pos : 0 < p.width) (some : 1 ≤ p.size) where
  abbrev from_start : ℕ → ℕ
  from_start = from (bit_at s) (base p (first p))

  by_rule : (g : ℕ → ℕ) → ((k : ℕ) → others p.rule from_start k ≡ g k)
      → (whole p s).region ≡ with_bits (with_bits s (base p (first p)) (units p * p.width) g) p.offset p.size p.bits
  by_rule g e =
      write_closed p wr bb s b pos some
      ∙ ap (λ l. with_bits l p.offset p.size p.bits) (with_bits_cong s (base p (first p)) (units p * p.width) (others p.rule from_start) g (λ i _. e i))

  -- Under Preserve a write is the field's bits replaced, and nothing else.
  pub write_preserve : p.rule ≡ U.Preserve → (whole p s).region ≡ with_bits s p.offset p.size p.bits
  write_preserve e =
      by_rule from_start (λ k. (others_is p.rule from_start k).0 e)
      ∙ ap (λ l. with_bits l p.offset p.size p.bits) (with_bits_same s (base p (first p)) (units p * p.width) b)

  -- Under WriteAsOnes the rest of the touched units is all one.
  pub write_ones : p.rule ≡ U.WriteAsOnes
      → (whole p s).region ≡ with_bits (with_bits s (base p (first p)) (units p * p.width) (λ _. 1)) p.offset p.size p.bits
  write_ones e = by_rule (λ _. 1) (λ k. (others_is p.rule from_start k).1 e)

  -- Under WriteAsZeros it is all zero.
  pub write_zeros : p.rule ≡ U.WriteAsZeros
      → (whole p s).region ≡ with_bits (with_bits s (base p (first p)) (units p * p.width) (λ _. 0)) p.offset p.size p.bits
  write_zeros e = by_rule (λ _. 0) (λ k. (others_is p.rule from_start k).2 e)

  -- A byte outside the touched units stays.
  pub write_outside : (j : ℕ) → j < length s → ((i : ℕ) → i < 8 → base p (first p) ≤ 8 * j + i → 8 * j + i < base p (first p) + units p * p.width → ⊥)
      → get_or (whole p s).region j 0 ≡ get_or s j 0
  write_outside j l out =
      let r = last_end p.width p.offset p.size pos some in
      let g = others p.rule from_start in
      let t = with_bits s (base p (first p)) (units p * p.width) g in
      let tl = with_bits_length s (base p (first p)) (units p * p.width) g in
      ap (λ l. get_or l j 0) (write_closed p wr bb s b pos some)
      ∙ with_bits_kept t p.offset p.size p.bits j (omega arith)
      (with_bits_bytes s (base p (first p)) (units p * p.width) g (others_lt p.rule from_start (λ i. bit_at_lt s (base p (first p) + i))) j)
      (λ i q h h2. out i q (omega (arith, r.0)) (omega (arith, r.2)))
      ∙ with_bits_kept s (base p (first p)) (units p * p.width) g j l (b j) out

-- ---- reading

module _ (p : Plan) (rd : p.write ≡ false) (s : List ℕ) where
  -- what is held once the units below bit y are loaded
  abbrev so_far : ℕ → ℕ
  so_far y = get_bits s p.offset (min (p.offset + p.size) y - p.offset)

  reads_list : (u : ℕ) → unit_accesses p u ≡ Load u ∷ []
  unfolding unit_accesses
  reads_list u = ap (λ b. cond b (cond (covered p u) (Store u ∷ []) (part_accesses p.rule u)) (Load u ∷ [])) rd

  reads_held : (u h : ℕ) → act p (Load u) (progress s h) ≡ progress s (gathered p u h (get_bits s (base p u) p.width))
  unfolding act
  reads_held u h = ap (λ b. progress s (cond b (get_bits s (base p u) p.width) (gathered p u h (get_bits s (base p u) p.width)))) rd

  module _ (u : ℕ) (ow : p.offset < base p u + p.width) (xo : base p u < p.offset + p.size) where
    abbrev unit_bits : ℕ → ℕ
    unit_bits = from (bit_of (get_bits s (base p u) p.width)) (lo p u - base p u)

    -- a bit of the unit is the region's, at the field's place
    unit_place : (o n x w i : ℕ) → o < x + w → x < o + n → max o x - o ≤ i → i < max o x - o + (min (o + n) (x + w) - max o x)
        → (max o x - x + (i - (max o x - o)) < w) × (x + (max o x - x + (i - (max o x - o))) ≡ o + i)
    unit_place o n x w i ow xo h l = (place_in o n x w i ow xo h l, place_at o x i h)
      where
        place_in : (o n x w i : ℕ) → o < x + w → x < o + n → max o x - o ≤ i → i < max o x - o + (min (o + n) (x + w) - max o x) → max o x - x + (i - (max o x - o)) < w
        place_in o n x w i ow xo h l = omega arith

        place_at : (o x i : ℕ) → max o x - o ≤ i → x + (max o x - x + (i - (max o x - o))) ≡ o + i
        place_at o x i h = omega arith

    gathered_bit : (i : ℕ) → i < hi p u - p.offset
        → put (bit_of (so_far (base p u))) (lo p u - p.offset) (hi p u - lo p u) unit_bits i ≡ bit_at s (p.offset + i)
    gathered_bit i l =
        put_cases (bit_of (so_far (base p u))) (lo p u - p.offset) (hi p u - lo p u) unit_bits i (λ (x : ℕ). x ≡ bit_at s (p.offset + i))
        (λ q. run_bit (bit_at s) (bit_at_lt s) p.offset (min (p.offset + p.size) (base p u) - p.offset) i (below p.offset p.size (base p u) i xo q))
        (λ q t.
        let r = unit_place p.offset p.size (base p u) p.width i ow xo q t in
        run_bit (bit_at s) (bit_at_lt s) (base p u) p.width (lo p u - base p u + (i - (lo p u - p.offset))) r.0 ∙ ap (bit_at s) r.1)
        (λ q. absurd (past p.offset p.size (base p u) p.width i ow xo l q))
      where
        below : (o n x i : ℕ) → x < o + n → i < max o x - o → i < min (o + n) x - o
        below o n x i a b = omega arith

        past : (o n x w i : ℕ) → o < x + w → x < o + n → i < min (o + n) (x + w) - o → max o x - o + (min (o + n) (x + w) - max o x) ≤ i → ⊥
        past o n x w i a b c d = omega arith

    gathered_next : gathered p u (so_far (base p u)) (get_bits s (base p u) p.width) ≡ so_far (base p u + p.width)
    unfolding gathered
    gathered_next =
        run_ext (put (bit_of (so_far (base p u))) (lo p u - p.offset) (hi p u - lo p u) unit_bits) (bit_at s) 0 p.offset (hi p u - p.offset)
        (λ i l. rw (zero-add i) (gathered_bit i l))

  read_none : (o : ℕ) → get_bits s o 0 ≡ 0
  unfolding run
  read_none o = refl

  read_from : (m u : ℕ) → p.offset < base p u + p.width → p.offset + p.size ≤ base p u + m * p.width → base p u + m * p.width < p.offset + p.size + p.width
      → acts p (accesses_from p u m) (progress s (so_far (base p u))) ≡ progress s (so_far (base p u + m * p.width))
  unfolding accesses_from acts
  read_from zero u ow a b = ap (λ y. progress s (so_far y)) (let z = zero-mul p.width in let e : base p u ≡ base p u + 0 * p.width = omega arith in e)
  read_from (suc m) u ow a b =
      let ms = suc-mul m p.width in
      let us = suc-mul u p.width in
      let in_field : base p u < p.offset + p.size = omega arith in
      let e : base p (suc u) + m * p.width ≡ base p u + suc m * p.width = omega arith in
      ap (λ l. acts p (l ++ accesses_from p (suc u) m) (progress s (so_far (base p u)))) (reads_list u)
      ∙ ap (acts p (accesses_from p (suc u) m)) (reads_held u (so_far (base p u)) ∙ ap (progress s) (gathered_next u ow in_field ∙ ap so_far (sym us)))
      ∙ read_from m (suc u) (omega arith) (omega arith) (omega arith)
      ∙ ap (λ y. progress s (so_far y)) e

  -- A READ: the run of the field's bits; the region stays.
  pub read_closed : 0 < p.width → 1 ≤ p.size → whole p s ≡ progress s (get_bits s p.offset p.size)
  read_closed pos some =
      let r = last_end p.width p.offset p.size pos some in
      let z : min (p.offset + p.size) (base p (first p)) - p.offset ≡ 0 = omega (arith, r.0) in
      let e : min (p.offset + p.size) (base p (first p) + units p * p.width) - p.offset ≡ p.size = omega (arith, r.2) in
      ap (λ k. acts p (accesses p) (progress s k)) (sym (ap (λ k. get_bits s p.offset k) z ∙ read_none p.offset))
      ∙ read_from (units p) (first p) r.1 r.2 r.3
      ∙ ap (λ k. progress s (get_bits s p.offset k)) e
