-- Decimal digits of a number: those of its tenth, then its last. Reading them gives the number back.
-- Assumes nothing.
use mathlib.Core.Path.{◌≡◌, refl, sym, ap, ◌∙◌}
use mathlib.Core.Bool.{Bool, true, false, cond, ◌&&◌}
use mathlib.Core.List.{List, [], ◌∷◌, ◌++◌, append_assoc, append-nil}
use Prim.Native.Nat.{ℕ, zero, suc, ◌+◌, ◌*◌, ◌/◌, ◌%◌, ◌^◌, ◌≤◌, ◌<◌}
use native.Mathlib.Nat.{div-lt_iff_lt-mul, pow-suc}
use native.Mathlib.Numerals.{add-one}
use native.Mathlib.Omega.{arith}
use borrow.Author.Tests.{lt-ltb, le-ltb, ltb-true}
use lib.Dec.{ltb}
use lib.ListN.{length, set, drop, length-append}
use Rattle.std.specs.Prelude.{Some}
use Rattle.std.proofs.lemmas.Bool.Decides.{nat_tests}
use lib.Seq.{drop-cons, get_or-set_same, drop-set-lt, lt-length-set}
use Rattle.text.specs.Texts.{digit_of, all_digits, value_from, number_of}
use Rattle.text.specs.Written.{decimal_digits, decimal_text}
use Rattle.text.proofs.Digits.{good}

-- ---- how many

digits_most : (k n : ℕ) → length (decimal_digits k n) ≤ k
unfolding decimal_digits
digits_most zero n = omega arith
digits_most (suc k) n = by (ltb n 10) (digits_most k (n / 10))
  where
    by : (b : Bool) → length (decimal_digits k (n / 10)) ≤ k
        → length (cond b ((48 + n) ∷ []) (decimal_digits k (n / 10) ++ ((48 + n % 10) ∷ []))) ≤ suc k
    by true ih = omega arith
    by false ih = omega (arith, length-append (decimal_digits k (n / 10)) ((48 + n % 10) ∷ []))

digits_least : (k n : ℕ) → 1 ≤ length (decimal_digits (suc k) n)
unfolding decimal_digits
digits_least k n = by (ltb n 10)
  where
    by : (b : Bool) → 1 ≤ length (cond b ((48 + n) ∷ []) (decimal_digits k (n / 10) ++ ((48 + n % 10) ∷ [])))
    by true = omega arith
    by false = omega (arith, length-append (decimal_digits k (n / 10)) ((48 + n % 10) ∷ []))

pub decimal_least : (n : ℕ) → 1 ≤ length (decimal_text n)
unfolding decimal_text
decimal_least n = digits_least 19 n

pub decimal_most : (n : ℕ) → length (decimal_text n) ≤ 20
unfolding decimal_text
decimal_most n = digits_most 20 n

-- ---- from the last digit to the first, each to its place in a row

single : (k n : ℕ) → n < 10 → decimal_digits (k + 1) n ≡ (48 + n) ∷ []
unfolding decimal_digits
single k n l = rw (add-one, lt-ltb _ _ l)

many : (k n : ℕ) → 10 ≤ n → decimal_digits (k + 1) n ≡ decimal_digits k (n / 10) ++ ((48 + n % 10) ∷ [])
unfolding decimal_digits
many k n l = rw (add-one, le-ltb _ _ l)

stored : (d : List ℕ) (k x : ℕ) → k < length d → drop k (set d k x) ≡ x ∷ drop (k + 1) d
stored d k x h =
    let e : k < suc k = omega arith in
    rw add-one (drop-cons (set d k x) k 0 (lt-length-set d k x h) ∙ ap (λ (y : ℕ). y ∷ drop (suc k) (set d k x)) (get_or-set_same d k x 0 h) ∙ ap (λ (t : List ℕ). x ∷ t) (drop-set-lt (suc k) d k x e))

module _ (d : List ℕ) (k n : ℕ) (h : k < length d) where
  pub digits_step : 10 ≤ n → decimal_digits k (n / 10) ++ drop k (set d k (48 + n % 10)) ≡ decimal_digits (k + 1) n ++ drop (k + 1) d
  digits_step l =
      ap (λ (t : List ℕ). decimal_digits k (n / 10) ++ t) (stored d k (48 + n % 10) h)
      ∙ sym (append_assoc (decimal_digits k (n / 10)) ((48 + n % 10) ∷ []) (drop (k + 1) d))
      ∙ ap (λ (t : List ℕ). t ++ drop (k + 1) d) (sym (many k n l))

  pub digits_end : n < 10 → drop k (set d k (48 + n)) ≡ decimal_digits (k + 1) n ++ drop (k + 1) d
  digits_end l = stored d k (48 + n) h ∙ ap (λ (t : List ℕ). t ++ drop (k + 1) d) (sym (single k n l))

-- the tenth of a number has one digit less
pub tenth : (k n : ℕ) → n < 10 ^ (k + 1) → n / 10 < 10 ^ k
tenth k n l =
    let p : 10 ^ (k + 1) ≡ 10 ^ k * 10 = rw add-one (pow-suc 10 k) in
    (div-lt_iff_lt-mul {k = 10} (omega arith)).1 (omega arith)

-- a row of 20 with nothing in it yet
pub digits_begin : (n : ℕ) → decimal_digits 20 n ++ [] ≡ decimal_text n
unfolding decimal_text
digits_begin n = append-nil (decimal_digits 20 n)

-- ---- reading them

value_last : (b acc : ℕ) (s : List ℕ) (c : ℕ) → value_from b acc (s ++ (c ∷ [])) ≡ value_from b acc s * b + digit_of c
unfolding value_from
value_last b acc [] c = refl
value_last b acc (x ∷ s) c = value_last b (acc * b + digit_of x) s c

all_last : (b : ℕ) (s : List ℕ) (c : ℕ) → digit_of c < b → all_digits b (s ++ (c ∷ [])) ≡ all_digits b s
unfolding all_digits
all_last b [] c h = rw (lt-ltb _ _ h)
all_last b (x ∷ s) c h = ap (λ (t : Bool). ltb (digit_of x) b && t) (all_last b s c h)

written_digit : (d : ℕ) → d < 10 → digit_of (48 + d) ≡ d
unfolding digit_of
written_digit d h = grind (arith, nat_tests)

digits_value : (k n : ℕ) → n < 10 ^ k → value_from 10 0 (decimal_digits k n) ≡ n
unfolding decimal_digits value_from
digits_value zero n h = omega arith
digits_value (suc k) n h = by (ltb n 10) refl (digits_value k (n / 10))
  where
    by : (b : Bool) → ltb n 10 ≡ b → (n / 10 < 10 ^ k → value_from 10 0 (decimal_digits k (n / 10)) ≡ n / 10)
        → value_from 10 0 (cond b ((48 + n) ∷ []) (decimal_digits k (n / 10) ++ ((48 + n % 10) ∷ []))) ≡ n
    by true f ih = omega (arith, written_digit n (ltb-true n 10 f))
    by false f ih =
        let p : 10 ^ suc k ≡ 10 ^ k * 10 = pow-suc 10 k in
        let q = ih ((div-lt_iff_lt-mul {k = 10} (omega arith)).1 (omega arith)) in
        let d = written_digit (n % 10) (omega arith) in
        value_last 10 0 (decimal_digits k (n / 10)) (48 + n % 10) ∙ omega arith

digits_all : (k n : ℕ) → all_digits 10 (decimal_digits k n) ≡ true
unfolding decimal_digits all_digits
digits_all zero n = refl
digits_all (suc k) n = by (ltb n 10) refl (digits_all k (n / 10))
  where
    by : (b : Bool) → ltb n 10 ≡ b → all_digits 10 (decimal_digits k (n / 10)) ≡ true
        → all_digits 10 (cond b ((48 + n) ∷ []) (decimal_digits k (n / 10) ++ ((48 + n % 10) ∷ []))) ≡ true
    by true f ih =
        let l = ltb-true n 10 f in
        all_last 10 [] (48 + n) (omega (arith, written_digit n l))
    by false f ih = all_last 10 (decimal_digits k (n / 10)) (48 + n % 10) (omega (arith, written_digit (n % 10) (omega arith))) ∙ ih

text_value : (n : ℕ) → n < 10 ^ 20 → value_from 10 0 (decimal_text n) ≡ n
unfolding decimal_text
text_value n h = digits_value 20 n h

text_all : (n : ℕ) → all_digits 10 (decimal_text n) ≡ true
unfolding decimal_text
text_all n = digits_all 20 n

-- a written number reads as itself
pub decimal_read : (n : ℕ) → n < 2 ^ 64 → number_of 10 (decimal_text n) ≡ Some n
decimal_read n h =
    let e : value_from 10 0 (decimal_text n) ≡ n = text_value n (omega arith) in
    good 10 (decimal_text n) (omega (arith, decimal_least n)) (text_all n) (omega arith) ∙ ap Some e
