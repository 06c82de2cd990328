-- What a field gives where it is read: a BufferField by its bounds and its length, a FieldUnit by its own call.
-- Of a BufferField over 64 bits the first 64 are the number, since its Buffer has the field's bits in their order.
-- Assumes nothing.
use mathlib.Core.Path.{◌≡◌, refl, sym, ap, ◌∙◌}
use mathlib.Core.Bool.{true, false}
use mathlib.Core.List.{List}
use Prim.Native.Nat.{ℕ, ◌+◌, ◌-◌, ◌*◌, ◌≤◌, ◌<◌, min}
use native.Mathlib.Omega.{arith}
use lib.ListN.{length, get_or}
use borrow.Author.Tests.{lt-ltb, le-ltb, lt-leb, le-leb}
use Rattle.bits.specs.Bits.{bit_at, bytes, from, get_bits, run_bits, with_bits, bytes_for}
use Rattle.bits.proofs.Laws.{lt_cases, bit_at_lt, bit_at_bytes, run_ext, put_in, put_lt, bytes_length}
use Rattle.types.specs.Refusals.{first_of}
use Rattle.types.specs.declared.refusal.Refusal.{Refusal}
use Rattle.types.specs.declared.refusal.Refusal.TheVariants as R
use Rattle.field_unit.specs.declared.whole.UnitRead.{UnitRead}
use Rattle.std.specs.Prelude.{Result, Ok, Err}
use Rattle.types.specs.declared.value.AmlType.TheVariants as T
use Rattle.buffer_field.specs.BufferFields.{bounds_checks}
use Rattle.buffer_field.proofs.Bounds.{bounds_outside, bounds_done}
use Rattle.value.specs.Conversions.{Content, Bytes, these, number, bytes_read, refusal, buffer_field_content, unit_content, unit_refusal, content_integer, none, content_buffer, content_string, given, giving, into}
use Rattle.value.specs.Lengths.{length_of}
use Rattle.value.proofs.Giving.{bits_into, giving_none, giving_short, giving_these}

run_bits_lt : (s : List ℕ) (o n k : ℕ) → run_bits s o n k < 2
run_bits_lt s o n = put_lt (λ _. 0) (λ _. omega arith) 0 n (from (bit_at s) o) (λ k. bit_at_lt s (o + k))

-- the number of a long field's Buffer
pub long_number : (s : List ℕ) (o n : ℕ) → 64 < n → get_bits (bytes (run_bits s o n) 0 (bytes_for n)) 0 64 ≡ get_bits s o 64
long_number s o n h =
    run_ext (bit_at (bytes (run_bits s o n) 0 (bytes_for n))) (bit_at s) 0 o 64
    (λ i l.
    let z : 0 + i ≡ i = omega arith in
    let e : i - 0 ≡ i = omega arith in
    rw z
    (bit_at_bytes (run_bits s o n) (run_bits_lt s o n) (bytes_for n) i (omega arith)
    ∙ put_in (λ _. 0) 0 n (from (bit_at s) o) i (omega arith) (omega arith)
    ∙ ap (λ (k : ℕ). bit_at s (o + k)) e))

module _ (o n : ℕ) (s : List ℕ) where
  pub content_outside : 8 * length s < o + n → buffer_field_content o n s ≡ refusal R.BufferFieldIndexesOutOfBounds
  unfolding buffer_field_content first_of
  content_outside h = rw (lt-ltb (8 * length s) (o + n) h)

  module _ (h : o + n ≤ 8 * length s) where
    pub content_number : n ≤ 64 → buffer_field_content o n s ≡ number (get_bits s o n)
    unfolding buffer_field_content first_of
    content_number short = rw (le-ltb (8 * length s) (o + n) h, le-leb n 64 short)

    pub content_bytes : 64 < n → buffer_field_content o n s ≡ bytes_read (bytes (run_bits s o n) 0 (bytes_for n))
    unfolding buffer_field_content first_of
    content_bytes long = rw (le-ltb (8 * length s) (o + n) h, lt-leb n 64 long)

    -- to integer: the field's bits, of more than 64 the first 64
    pub content_integer_lem : content_integer (buffer_field_content o n s) ≡ Ok (get_bits s o (min n 64))
    content_integer_lem =
        lt_cases 64 n (content_integer (buffer_field_content o n s) ≡ Ok (get_bits s o (min n 64)))
        (λ long. let m : min n 64 ≡ 64 = omega arith in rw (content_bytes long, m) (ap Ok (long_number s o n long)))
        (λ short. let m : min n 64 ≡ n = omega arith in rw (content_number short, m))

  -- by what checking the bounds answered
  module _ (l : length s ≤ 65536) where
    pub checked_inside : first_of (bounds_checks (length s) o n) ≡ Ok tt → o + n ≤ 8 * length s
    checked_inside d =
        lt_cases (8 * length s) (o + n) (o + n ≤ 8 * length s)
        (λ h.
        let z : ◌≡◌ {A = ℕ} 0 1 = cc (d, bounds_outside (length s) o n true l (sym (lt-ltb (8 * length s) (o + n) h)) refl) in
        absurd (omega arith))
        (λ h. h)

    pub checked_refused : (r : Refusal) → first_of (bounds_checks (length s) o n) ≡ Err r → buffer_field_content o n s ≡ refusal r
    checked_refused r d =
        lt_cases (8 * length s) (o + n) (buffer_field_content o n s ≡ refusal r)
        (λ h.
        let e : R.BufferFieldIndexesOutOfBounds ≡ r = cc (d, bounds_outside (length s) o n true l (sym (lt-ltb (8 * length s) (o + n) h)) refl) in
        content_outside h ∙ ap refusal e)
        (λ h.
        let z : ◌≡◌ {A = ℕ} 0 1 = cc (d, bounds_done (length s) o n false l (sym (le-ltb (8 * length s) (o + n) h)) refl) in
        absurd (omega arith))

-- ---- to buffer

-- by what counting its bytes answered
module _ (s : List ℕ) (o n : ℕ) (out : List ℕ) (a : Result ℕ Refusal) (e : a ≡ length_of (content_buffer (buffer_field_content o n s))) where
  pub counted_refused : (r : Refusal) → a ≡ Err r → given a out ≡ giving (content_buffer (buffer_field_content o n s)) out
  counted_refused r d = ap (λ (x : Result ℕ Refusal). given x out) d ∙ go (content_buffer (buffer_field_content o n s)) (sym e ∙ d)
    where
      go : (b : Bytes) → length_of b ≡ Err r → given (Err r) out ≡ giving b out
      go (none q) p = ap (λ (x : Result ℕ Refusal). given x out) (sym p) ∙ sym (giving_none q out)
      go (these l) p = let z : ◌≡◌ {A = ℕ} 0 1 = cc p in absurd (omega arith)

  module _ (m : ℕ) (d : a ≡ Ok m) where
    these_bytes : content_buffer (buffer_field_content o n s) ≡ these (bytes (run_bits s o n) 0 (bytes_for n))
    these_bytes =
        lt_cases (8 * length s) (o + n) (content_buffer (buffer_field_content o n s) ≡ these (bytes (run_bits s o n) 0 (bytes_for n)))
        (λ h. not_counted (content_outside o n s h))
        (λ h.
        lt_cases 64 n (content_buffer (buffer_field_content o n s) ≡ these (bytes (run_bits s o n) 0 (bytes_for n)))
        (λ long. ap content_buffer (content_bytes o n s h long))
        (λ short. not_number (content_number o n s h short)))
      where
        counted : length_of (content_buffer (buffer_field_content o n s)) ≡ Ok m
        counted = sym e ∙ d

        not_counted : {r : Refusal} {A : Type 0} → buffer_field_content o n s ≡ refusal r → A
        not_counted q = let z : ◌≡◌ {A = ℕ} 0 1 = cc (sym (ap (λ (c : Content). length_of (content_buffer c)) q) ∙ counted) in absurd (omega arith)

        not_number : {x : ℕ} {A : Type 0} → buffer_field_content o n s ≡ number x → A
        not_number q = let z : ◌≡◌ {A = ℕ} 0 1 = cc (sym (ap (λ (c : Content). length_of (content_buffer c)) q) ∙ counted) in absurd (omega arith)

    counted_length : m ≡ bytes_for n
    counted_length =
        let q : Ok m ≡ Ok (length (bytes (run_bits s o n) 0 (bytes_for n))) = sym d ∙ e ∙ ap length_of these_bytes in
        let p : m ≡ length (bytes (run_bits s o n) 0 (bytes_for n)) = cc q in
        p ∙ bytes_length (run_bits s o n) 0 (bytes_for n)

    pub counted_short : length out < m → given (Err R.OutputTooShort) out ≡ giving (content_buffer (buffer_field_content o n s)) out
    counted_short h =
        let w = counted_length in
        let k = bytes_length (run_bits s o n) 0 (bytes_for n) in
        rw these_bytes (sym (giving_short (bytes (run_bits s o n) 0 (bytes_for n)) out (omega arith)))

    pub counted_given : m ≤ length out → ((j : ℕ) → get_or out j 0 < 256) → (t : List ℕ) → t ≡ with_bits out 0 (8 * bytes_for n) (run_bits s o n)
        → given (Ok m) t ≡ giving (content_buffer (buffer_field_content o n s)) out
    counted_given h b t q =
        let w = counted_length in
        let k = bytes_length (run_bits s o n) 0 (bytes_for n) in
        rw (these_bytes, giving_these (bytes (run_bits s o n) 0 (bytes_for n)) out (omega arith), q, bits_into out (bytes_for n) (run_bits s o n) b (omega arith))
        (ap (λ (x : ℕ). given (Ok x) (into (bytes (run_bits s o n) 0 (bytes_for n)) out)) (w ∙ sym k))

-- ---- a FieldUnit gives an Integer or its own refusal: neither a Buffer nor a String comes of it
pub unit_no_buffer : (u : Result UnitRead Refusal) → content_buffer (unit_content u) ≡ none (unit_refusal (unit_content u) T.Buffer)
unit_no_buffer (Ok u) = refl
unit_no_buffer (Err r) = refl

pub unit_no_string : (u : Result UnitRead Refusal) → content_string (unit_content u) ≡ none (unit_refusal (unit_content u) T.String)
unit_no_string (Ok u) = refl
unit_no_string (Err r) = refl
