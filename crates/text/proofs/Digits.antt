-- The number that digits say, taken digit by digit: a further digit multiplies by the base and adds, and never makes the number smaller.
-- Assumes nothing.
use mathlib.Core.Path.{◌≡◌, refl, sym, ap, ◌∙◌}
use mathlib.Core.List.{List, [], ◌∷◌}
use mathlib.Core.Bool.{Bool, true, false, cond, ◌&&◌}
use Prim.Native.Nat.{ℕ, ◌+◌, ◌*◌, ◌^◌, ◌≤◌, ◌<◌}
use native.Mathlib.Nat.{le_trans, mul-le-mul_left, mul-one, le_refl}
use native.Mathlib.Numerals.{add-one}
use native.Mathlib.Omega.{arith}
use borrow.Author.Tests.{lt-ltb, le-ltb}
use lib.Dec.{ltb}
use lib.ListN.{length, get_or, drop, drop_of_length-le}
use Rattle.std.proofs.lemmas.Bool.Decides.{nat_tests}
use Rattle.std.specs.Prelude.{Some, None}
use lib.Seq.{drop-cons}
use Rattle.text.specs.Texts.{digit_of, all_digits, value_from, number_of}

pub and_false : (a : Bool) → (a && false) ≡ false
and_false true = refl
and_false false = refl

-- ---- one digit more
module _ (b : ℕ) (s : List ℕ) (i : ℕ) (h : i < length s) where
  pub value_step : (acc : ℕ) → value_from b acc (drop i s) ≡ value_from b (acc * b + digit_of (get_or s i 0)) (drop (i + 1) s)
  unfolding value_from
  value_step acc = rw (add-one, drop-cons s i 0)

  pub digits_step : digit_of (get_or s i 0) < b → all_digits b (drop i s) ≡ all_digits b (drop (i + 1) s)
  unfolding all_digits
  digits_step l = rw (add-one, drop-cons s i 0, lt-ltb _ _ l)

  pub digits_stop : b ≤ digit_of (get_or s i 0) → all_digits b (drop i s) ≡ false
  unfolding all_digits
  digits_stop l = rw (drop-cons s i 0, le-ltb _ _ l)

-- ---- no digit left
pub value_none : (b acc : ℕ) → value_from b acc [] ≡ acc
unfolding value_from
value_none b acc = refl

pub digits_none : (b : ℕ) → all_digits b [] ≡ true
unfolding all_digits
digits_none b = refl

-- more digits say no less
pub value_grows : (b acc : ℕ) (s : List ℕ) → 1 ≤ b → acc ≤ value_from b acc s
unfolding value_from
value_grows b acc [] h = le_refl acc
value_grows b acc (c ∷ s) h = le_trans (omega (arith, mul-le-mul_left acc h, mul-one acc)) (value_grows b (acc * b + digit_of c) s h)

-- ---- the cases of a text
module _ (b : ℕ) (s : List ℕ) where
  pub bad_empty : length s ≡ 0 → number_of b s ≡ None
  unfolding number_of
  bad_empty e = let h : length s ≤ 0 = omega arith in simp (le-ltb _ _ h)

  pub bad_digit : all_digits b s ≡ false → number_of b s ≡ None
  unfolding number_of
  bad_digit e = simp (e, and_false)

  pub bad_large : 2 ^ 64 ≤ value_from b 0 s → number_of b s ≡ None
  unfolding number_of
  bad_large h = simp (le-ltb _ _ h, and_false)

  pub good : 0 < length s → all_digits b s ≡ true → value_from b 0 s < 2 ^ 64 → number_of b s ≡ Some (value_from b 0 s)
  unfolding number_of
  good h e l = simp (lt-ltb _ _ h, e, lt-ltb _ _ l)

-- ---- reading a text: the digits in front of i say acc, and those from i on are left
pub record Reading (b : ℕ) (s : List ℕ) (i acc : ℕ) : Type 0 where
  pub value : value_from b acc (drop i s) ≡ value_from b 0 s
  pub digits : all_digits b (drop i s) ≡ all_digits b s
  pub some : 0 < length s
  pub fits : acc < 2 ^ 64

module _ (b : ℕ) (s : List ℕ) (i acc : ℕ) (r : Reading b s i acc) where
  module _ (h : i < length s) where
    pub reading_more : (n : ℕ) → digit_of (get_or s i 0) < b → n ≡ acc * b + digit_of (get_or s i 0) → n < 2 ^ 64 → Reading b s (i + 1) n
    reading_more n l e f = record {
      value = ap (λ (a : ℕ). value_from b a (drop (i + 1) s)) e ∙ sym (value_step b s i h acc) ∙ r.value;
      digits = sym (digits_step b s i h l) ∙ r.digits;
      some = r.some;
      fits = f;
    }

    pub reading_stops : b ≤ digit_of (get_or s i 0) → number_of b s ≡ None
    reading_stops l = bad_digit b s (sym r.digits ∙ digits_stop b s i h l)

    pub reading_large : 1 ≤ b → 2 ^ 64 ≤ acc * b + digit_of (get_or s i 0) → number_of b s ≡ None
    reading_large p l = bad_large b s (omega (arith, r.value, value_step b s i h acc, value_grows b (acc * b + digit_of (get_or s i 0)) (drop (i + 1) s) p))

  pub reading_ends : length s ≤ i → number_of b s ≡ Some acc
  reading_ends h =
      let e : drop i s ≡ [] = drop_of_length-le s h in
      let n : value_from b 0 s ≡ acc = sym r.value ∙ ap (value_from b acc) e ∙ value_none b acc in
      let d = sym r.digits ∙ ap (all_digits b) e ∙ digits_none b in
      let f = r.fits in
      good b s r.some d (omega arith) ∙ ap Some n

-- ---- what `checked_digit` says
pub no_digit : (d : ℕ) → None ≡ cond (ltb d 16) (Some d) None → 16 ≤ d
no_digit d e = grind (arith, nat_tests)

pub is_digit : (d x : ℕ) → Some x ≡ cond (ltb d 16) (Some d) None → (x ≡ d) × (d < 16)
is_digit d x e = grind (arith, nat_tests)
