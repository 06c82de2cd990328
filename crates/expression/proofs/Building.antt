-- Building a buffer: 27, the size's refusals, 11, 20, then the initial bytes and zeros.
-- Assumes nothing.
use Rattle.std.proofs.Common.{◌≡◌, ℕ, ◌-◌, ◌<◌, ◌≤◌, List, ◌++◌, length, take, drop, replicate, sym, ap, ◌∙◌, arith, length-drop, length-take, le-ltb, lt-ltb}
use borrow.Rule.Slice.PartMut.{put_mid}
use Rattle.types.specs.Refusals.{first_of}
use Rattle.types.specs.declared.refusal.Refusal.{Refusal}
use Rattle.types.specs.declared.refusal.Refusal.TheVariants as R
use Rattle.types.specs.declared.value.AmlValue.{AmlValue}
use Rattle.value.specs.Conversions.{as_integer, given}
use Rattle.std.specs.Prelude.{Result, Ok, Err}
use Rattle.value.proofs.Giving.{into_length}
use Rattle.expression.specs.Numbers.{and_then}
use Rattle.expression.specs.Build.{built, build_buffer}
use Rattle.expression.proofs.Lent.{lent_then, both_first, both_second}
use Rattle.expression.proofs.Filling.{copied, behind}

module _ (v : AmlValue) (s initial out : List ℕ) where
  pub build_long : 65536 < length initial → given (Err R.TooManyBytes) out ≡ build_buffer v s initial out
  unfolding build_buffer
  build_long h = sym (both_second s initial _ (λ r. given (Err r) out) h)

  module _ (h : length initial ≤ 65536) (number : Result ℕ Refusal) (e : number ≡ as_integer v s) where
    made : and_then number (λ n. built n initial out) (λ r. given (Err r) out) ≡ build_buffer v s initial out
    unfolding build_buffer
    made = sym (both_first s initial _ (λ r. given (Err r) out) h ∙ rw (lent_then _ (λ r. given (Err r) out) v s, e))

    pub build_refused : (q : Refusal) → number ≡ Err q
        → given (Err q) out ≡ build_buffer v s initial out
    build_refused q l = rw (← made, l)

    module _ (n : ℕ) (l : number ≡ Ok n) where
      pub build_below : n < length initial → given (Err R.MalformedBuffer) out ≡ build_buffer v s initial out
      unfolding first_of
      build_below b = rw (← made, l, lt-ltb n (length initial) b)

      pub build_no_room : length initial ≤ n → length out < n → given (Err R.OutputTooShort) out ≡ build_buffer v s initial out
      unfolding first_of
      build_no_room b f = rw (← made, l, le-ltb n (length initial) b, lt-ltb (length out) n f)

      build_all : length initial ≤ n → n ≤ length out → (t : List ℕ) → t ≡ initial ++ (replicate (n - length initial) 0 ++ drop n out)
          → given (Ok n) t ≡ build_buffer v s initial out
      unfolding first_of
      build_all b f t g = rw (← made, l, le-ltb n (length initial) b, le-ltb (length out) n f, g)

      -- the initial bytes are copied, then the bytes behind them cleared
      pub build_done : length initial ≤ n → n ≤ length out → (at : ℕ) → at ≡ length initial
          → (t : List ℕ) → t ≡ take (length initial) initial ++ drop (length initial) out
          → (ys : List ℕ) → ys ≡ replicate (length (take (n - at) (drop at t))) 0
          → given (Ok n) (put_mid at (n - at) t ys) ≡ build_buffer v s initial out
      build_done b f at a t c ys z =
          let i = copied initial out t c in
          let m : length t ≡ length out = ap length i ∙ into_length initial out (omega arith) in
          let k : length (take (n - at) (drop at t)) ≡ n - length initial = simp (length-take, length-drop) (omega arith) in
          build_all b f _ (behind initial out t i at n a b ys ∙ rw (z, k))
