-- Bytes given at the front of an output: 20 where they do not fit, and behind them the output is as it was.
-- Assumes nothing.
use mathlib.Core.Path.{◌≡◌, refl, sym, ap, ◌∙◌}
use mathlib.Core.List.{List, ◌++◌}
use Prim.Native.Nat.{ℕ, ◌+◌, ◌-◌, ◌*◌, ◌≤◌, ◌<◌, min}
use native.Mathlib.Omega.{arith}
use lib.ListN.{length, get_or, take, drop, length-append, length-drop, get_or-append}
use lib.Seq.{take-length, ext_get_or, get_or-append-add, get_or-drop}
use borrow.Author.Tests.{lt-ltb, le-ltb}
use Rattle.bits.specs.Bits.{bit_at, bytes, put, with_bits}
use Rattle.bits.proofs.Laws.{lt_cases, run_ext, put_in, bytes_length, bytes_at}
use Rattle.bits.proofs.With.{with_bits_length, with_bits_at, with_bits_kept}
use Rattle.types.specs.Refusals.{first_of}
use Rattle.types.specs.declared.refusal.Refusal.{Refusal}
use Rattle.types.specs.declared.refusal.Refusal.TheVariants as R
use Rattle.value.specs.Conversions.{Bytes, these, none, given, giving, into}
use Rattle.std.specs.Prelude.{Ok, Err}

-- ---- the bytes, with what the output has behind them
module _ (l out : List ℕ) where
  pub into_length : length l ≤ length out → length (into l out) ≡ length out
  into_length h = simp (length-append, length-drop) (omega arith)

  pub into_front : (i : ℕ) → i < length l → get_or (into l out) i 0 ≡ get_or l i 0
  into_front i h = get_or-append l (drop (length l) out) 0 i h

  pub into_kept : (i : ℕ) → length l ≤ i → get_or (into l out) i 0 ≡ get_or out i 0
  into_kept i h =
      let e : length l + (i - length l) ≡ i = omega arith in
      ap (λ (k : ℕ). get_or (into l out) k 0) (sym e)
      ∙ get_or-append-add l (drop (length l) out) (i - length l) 0
      ∙ get_or-drop (length l) out (i - length l) 0
      ∙ ap (λ (k : ℕ). get_or out k 0) e

  pub copied : take (length l) l ++ drop (length l) out ≡ into l out
  copied = ap (λ (x : List ℕ). x ++ drop (length l) out) (take-length l)

  -- where there is room, as many bytes as there is room for are all
  pub fitted : length l ≤ length out → take (min (length l) (length out)) l ++ drop (min (length l) (length out)) out ≡ take (length l) l ++ drop (length l) out
  fitted h =
      let e : min (length l) (length out) ≡ length l = omega arith in
      rw e

-- whole bytes of bits written over the front are those bytes given there
pub bits_into : (out : List ℕ) (m : ℕ) (g : ℕ → ℕ) → ((j : ℕ) → get_or out j 0 < 256) → m ≤ length out
    → with_bits out 0 (8 * m) g ≡ into (bytes g 0 m) out
bits_into out m g b h =
    let l : length (bytes g 0 m) ≡ m = bytes_length g 0 m in
    ext_get_or 0 (with_bits out 0 (8 * m) g) (into (bytes g 0 m) out)
    (with_bits_length out 0 (8 * m) g ∙ sym (into_length (bytes g 0 m) out (omega arith)))
    (λ j q.
    let q2 : j < length out = omega (arith, with_bits_length out 0 (8 * m) g) in
    lt_cases j m (get_or (with_bits out 0 (8 * m) g) j 0 ≡ get_or (into (bytes g 0 m) out) j 0)
    (λ p.
    with_bits_at out 0 (8 * m) g j q2
    ∙ run_ext (put (bit_at out) 0 (8 * m) g) g (8 * j) (0 + 8 * j) 8
    (λ i r.
    let e : 8 * j + i - 0 ≡ 0 + 8 * j + i = omega arith in
    put_in (bit_at out) 0 (8 * m) g (8 * j + i) (omega arith) (omega arith) ∙ ap g e)
    ∙ sym (into_front (bytes g 0 m) out j (omega arith) ∙ bytes_at g 0 m j p))
    (λ p. with_bits_kept out 0 (8 * m) g j q2 (b j) (λ i r x y. omega arith) ∙ sym (into_kept (bytes g 0 m) out j (omega arith))))

-- ---- the answer
pub giving_none : (r : Refusal) (out : List ℕ) → giving (none r) out ≡ given (Err r) out
unfolding giving
giving_none r out = refl

module _ (l out : List ℕ) where
  pub giving_short : length out < length l → giving (these l) out ≡ given (Err R.OutputTooShort) out
  unfolding giving first_of
  giving_short h = rw (lt-ltb (length out) (length l) h)

  pub giving_these : length l ≤ length out → giving (these l) out ≡ given (Ok (length l)) (into l out)
  unfolding giving first_of
  giving_these h = rw (le-ltb (length out) (length l) h)

-- an output stays as long as it is
pub giving_length : (b : Bytes) (out : List ℕ) → length (giving b out).out ≡ length out
giving_length (none r) out = rw (giving_none r out)
giving_length (these l) out =
    lt_cases (length out) (length l) (length (giving (these l) out).out ≡ length out)
    (λ h. rw (giving_short l out h))
    (λ h. rw (giving_these l out h) (into_length l out h))
