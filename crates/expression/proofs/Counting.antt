-- What a length tells of the bytes that were counted: a refusal is the conversion's; a length is that of bytes, which are the lent ones of a Buffer or a
-- String, or those of a BufferField that lies inside its buffer and is over 64 bits.
-- Assumes nothing.
use Rattle.std.proofs.Common.{◌≡◌, ℕ, ◌+◌, ◌*◌, ◌<◌, ◌≤◌, List, [], ◌∷◌, length, sym, refl, ap, ◌∙◌, arith}
use denote.Enum.Declared.{tag_of}
use types.Run.{OneOf, miss}
use Rattle.bits.specs.Bits.{bytes, run_bits, bytes_for}
use Rattle.bits.proofs.Laws.{lt_cases, bytes_length}
use Rattle.types.specs.declared.refusal.Refusal.{Refusal}
use Rattle.types.specs.declared.value.AmlValue.{AmlValue}
use Rattle.types.specs.declared.value.AmlValue.TheVariants as Val
use Rattle.types.specs.contracts.value.AmlValue.{the_type}
use Rattle.field_unit.specs.Calls.{read_field}
use Rattle.value.specs.Conversions.{held_by, buffer_field_content, content_buffer, to_buffer, to_string, Bytes, these, none}
use Rattle.value.specs.Lengths.{length_of, buffer_length}
use Rattle.std.specs.Prelude.{Result, Ok, Err}
use Rattle.value.proofs.Fields.{content_outside, content_number, content_bytes, unit_no_buffer, unit_no_string}
use Rattle.value.proofs.Lengths.{buffer_counted}
use Rattle.expression.specs.Concat.{text_bytes}

pub counted_these : (b : Bytes) (n : ℕ) → length_of b ≡ Ok n → b ≡ these (text_bytes b)
counted_these (these l) n e = refl
counted_these (none r) n e = cc

pub counted_length : (b : Bytes) (n : ℕ) → length_of b ≡ Ok n → n ≡ length (text_bytes b)
counted_length (these l) n e = cc
counted_length (none r) n e = cc

pub counted_none : (b : Bytes) (q : Refusal) → length_of b ≡ Err q → b ≡ none q
counted_none (these l) q e = cc
counted_none (none r) q e = cc

-- of no bytes no length comes
no_bytes : {A : Type 0} (b : Bytes) (q : Refusal) (n : ℕ) → b ≡ none q → length_of b ≡ Ok n → A
no_bytes b q n e f = let z : ◌≡◌ {A = ℕ} 0 1 = cc (ap length_of e) in absurd (omega arith)

-- only a String is bytes as a string
pub only_string : (v : AmlValue) (t : List ℕ) (n : ℕ) → length_of (to_string (held_by v t)) ≡ Ok n → to_string (held_by v t) ≡ these t
unfolding to_string
only_string Val.String t n e = refl
only_string (Val.Field f) t n e = no_bytes _ _ n (unit_no_string (read_field t f)) e
only_string (Val.Boolean b) t n e = no_bytes _ _ n refl e
only_string (Val.Integer x) t n e = no_bytes _ _ n refl e
only_string Val.Buffer t n e = no_bytes _ _ n refl e
only_string (Val.BufferField o m) t n e = no_bytes _ _ n refl e
only_string Val.OpRegion t n e = no_bytes _ _ n refl e
only_string Val.Device t n e = no_bytes _ _ n refl e
only_string Val.Method t n e = no_bytes _ _ n refl e
only_string Val.Processor t n e = no_bytes _ _ n refl e
only_string Val.Mutex t n e = no_bytes _ _ n refl e
only_string Val.Package t n e = no_bytes _ _ n refl e
only_string Val.PowerResource t n e = no_bytes _ _ n refl e
only_string Val.ThermalZone t n e = no_bytes _ _ n refl e

-- all but a BufferField, 4
abbrev pub not_field : List ℕ
not_field = 0 ∷ 1 ∷ 2 ∷ 3 ∷ 5 ∷ 6 ∷ 7 ∷ 8 ∷ 9 ∷ 10 ∷ 11 ∷ 12 ∷ 13 ∷ []

-- of these only a Buffer is bytes as a buffer
pub only_buffer : (v : AmlValue) (t : List ℕ) (n : ℕ) → OneOf not_field (tag_of the_type v) → length_of (to_buffer (held_by v t)) ≡ Ok n → to_buffer (held_by v t) ≡ these t
unfolding to_buffer
only_buffer Val.Buffer t n k e = refl
only_buffer (Val.BufferField o m) t n k e = absurd (miss not_field 4 tt k)
only_buffer (Val.Field f) t n k e = no_bytes _ _ n (unit_no_buffer (read_field t f)) e
only_buffer (Val.Boolean b) t n k e = no_bytes _ _ n refl e
only_buffer (Val.Integer x) t n k e = no_bytes _ _ n refl e
only_buffer Val.String t n k e = no_bytes _ _ n refl e
only_buffer Val.OpRegion t n k e = no_bytes _ _ n refl e
only_buffer Val.Device t n k e = no_bytes _ _ n refl e
only_buffer Val.Method t n k e = no_bytes _ _ n refl e
only_buffer Val.Processor t n k e = no_bytes _ _ n refl e
only_buffer Val.Mutex t n k e = no_bytes _ _ n refl e
only_buffer Val.Package t n k e = no_bytes _ _ n refl e
only_buffer Val.PowerResource t n k e = no_bytes _ _ n refl e
only_buffer Val.ThermalZone t n k e = no_bytes _ _ n refl e

-- a BufferField that is bytes lies inside its buffer and is over 64 bits
pub field_long : (o n m : ℕ) (t : List ℕ) → length_of (content_buffer (buffer_field_content o n t)) ≡ Ok m → (o + n ≤ 8 * length t) × (64 < n)
field_long o n m t e =
    lt_cases (8 * length t) (o + n) ((o + n ≤ 8 * length t) × (64 < n))
    (λ h. let z : ◌≡◌ {A = ℕ} 0 1 = cc (rw (content_outside o n t h) at e) in absurd (omega arith))
    (λ h.
    lt_cases 64 n ((o + n ≤ 8 * length t) × (64 < n))
    (λ l. (h, l))
    (λ l. let z : ◌≡◌ {A = ℕ} 0 1 = cc (rw (content_number o n t h l) at e) in absurd (omega arith)))

-- no more bytes than were lent
fewer : (v : AmlValue) (s : List ℕ) (n : ℕ) → length_of (to_buffer (held_by v s)) ≡ Ok n → n ≤ length s
unfolding to_buffer
fewer Val.Buffer s n e = let k : length s ≡ n = cc in omega arith
fewer (Val.BufferField o m) s n e =
    let b = field_long o m n s e in
    let c : Ok (length (bytes (run_bits s o m) 0 (bytes_for m))) ≡ Ok n = rw (content_bytes o m s b.0 b.1) at e in
    let f : length (bytes (run_bits s o m) 0 (bytes_for m)) ≡ n = cc in
    omega (arith, bytes_length (run_bits s o m) 0 (bytes_for m), b.0)
fewer (Val.Field f) s n e = no_bytes _ _ n (unit_no_buffer (read_field s f)) e
fewer (Val.Boolean b) s n e = no_bytes _ _ n refl e
fewer (Val.Integer x) s n e = no_bytes _ _ n refl e
fewer Val.String s n e = no_bytes _ _ n refl e
fewer Val.OpRegion s n e = no_bytes _ _ n refl e
fewer Val.Device s n e = no_bytes _ _ n refl e
fewer Val.Method s n e = no_bytes _ _ n refl e
fewer Val.Processor s n e = no_bytes _ _ n refl e
fewer Val.Mutex s n e = no_bytes _ _ n refl e
fewer Val.Package s n e = no_bytes _ _ n refl e
fewer Val.PowerResource s n e = no_bytes _ _ n refl e
fewer Val.ThermalZone s n e = no_bytes _ _ n refl e

pub bounded : (v : AmlValue) (s : List ℕ) (n : ℕ) (counted : Result ℕ Refusal) → length s ≤ 65536 → counted ≡ buffer_length v s → counted ≡ Ok n → n ≤ 65536
bounded v s n counted h e d = let k = fewer v s n (buffer_counted v s h ∙ sym e ∙ d) in omega arith
