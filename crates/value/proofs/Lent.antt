-- 27 comes first: of lent bytes that are too many nothing else is asked, and of all others a call is its conversion.
-- Assumes nothing.
use mathlib.Core.Path.{◌≡◌}
use mathlib.Core.List.{List}
use Prim.Native.Nat.{ℕ, ◌≤◌, ◌<◌}
use lib.ListN.{length}
use borrow.Author.Tests.{lt-ltb, le-ltb}
use Rattle.types.specs.Refusals.{first_of}
use Rattle.types.specs.Values.{type_of}
use Rattle.types.specs.declared.refusal.Refusal.{Refusal}
use Rattle.types.specs.declared.refusal.Refusal.TheVariants as R
use Rattle.types.specs.declared.value.AmlType.{AmlType}
use Rattle.types.specs.declared.value.AmlValue.{AmlValue}
use mathlib.Core.Bool.{cond}
use Rattle.value.specs.Conversions.{held_by, lent, to_integer, as_integer, to_bool, as_bool, to_buffer, as_buffer, to_string, as_string, given, giving, given_type, to_type, same_type, as_type}
use Rattle.value.specs.Integers.{parsed, def_to_integer}
use Rattle.value.specs.Status.{to_status, as_status}
use Rattle.std.specs.Prelude.{Ok, Err}
use Rattle.value.specs.declared.convert.Converted.TheVariants as Co

module _ {A : Type 0} (s : List ℕ) (a : A) (f : Refusal → A) where
  pub lent_long : 65536 < length s → lent s a f ≡ f R.TooManyBytes
  unfolding first_of
  lent_long l = rw (lt-ltb 65536 (length s) l)

  pub lent_short : length s ≤ 65536 → lent s a f ≡ a
  unfolding first_of
  lent_short l = rw (le-ltb 65536 (length s) l)

-- ---- too many bytes
module _ (v : AmlValue) (s : List ℕ) (l : 65536 < length s) where
  pub as_integer_long : as_integer v s ≡ Err R.TooManyBytes
  unfolding as_integer
  as_integer_long = lent_long s (to_integer (held_by v s)) Err l

  pub as_bool_long : as_bool v s ≡ Err R.TooManyBytes
  unfolding as_bool
  as_bool_long = lent_long s (to_bool (held_by v s)) Err l

  pub as_buffer_long : (out : List ℕ) → as_buffer v s out ≡ given (Err R.TooManyBytes) out
  unfolding as_buffer
  as_buffer_long out = lent_long s (giving (to_buffer (held_by v s)) out) (λ r. given (Err r) out) l

  pub as_string_long : (out : List ℕ) → as_string v s out ≡ given (Err R.TooManyBytes) out
  unfolding as_string
  as_string_long out = lent_long s (giving (to_string (held_by v s)) out) (λ r. given (Err r) out) l

  pub as_type_long : (wanted : AmlType) (out : List ℕ) → as_type v s wanted out ≡ given_type (Err R.TooManyBytes) out
  unfolding as_type
  as_type_long wanted out =
      lent_long s (cond (same_type (type_of v) wanted) (given_type (Ok Co.Same) out) (to_type (type_of v) wanted (held_by v s) out))
      (λ r. given_type (Err r) out) l

  pub def_to_integer_long : def_to_integer v s ≡ Err R.TooManyBytes
  unfolding def_to_integer
  def_to_integer_long = lent_long s (parsed (held_by v s)) Err l

  pub as_status_long : as_status v s ≡ Err R.TooManyBytes
  unfolding as_status
  as_status_long = lent_long s (to_status (held_by v s)) Err l

-- ---- no more than that
module _ (v : AmlValue) (s : List ℕ) (l : length s ≤ 65536) where
  pub as_integer_short : as_integer v s ≡ to_integer (held_by v s)
  unfolding as_integer
  as_integer_short = lent_short s (to_integer (held_by v s)) Err l

  pub as_bool_short : as_bool v s ≡ to_bool (held_by v s)
  unfolding as_bool
  as_bool_short = lent_short s (to_bool (held_by v s)) Err l

  pub as_buffer_short : (out : List ℕ) → as_buffer v s out ≡ giving (to_buffer (held_by v s)) out
  unfolding as_buffer
  as_buffer_short out = lent_short s (giving (to_buffer (held_by v s)) out) (λ r. given (Err r) out) l

  pub as_string_short : (out : List ℕ) → as_string v s out ≡ giving (to_string (held_by v s)) out
  unfolding as_string
  as_string_short out = lent_short s (giving (to_string (held_by v s)) out) (λ r. given (Err r) out) l

  pub as_type_short : (wanted : AmlType) (out : List ℕ)
      → as_type v s wanted out ≡ cond (same_type (type_of v) wanted) (given_type (Ok Co.Same) out) (to_type (type_of v) wanted (held_by v s) out)
  unfolding as_type
  as_type_short wanted out =
      lent_short s (cond (same_type (type_of v) wanted) (given_type (Ok Co.Same) out) (to_type (type_of v) wanted (held_by v s) out))
      (λ r. given_type (Err r) out) l

  pub def_to_integer_short : def_to_integer v s ≡ parsed (held_by v s)
  unfolding def_to_integer
  def_to_integer_short = lent_short s (parsed (held_by v s)) Err l

  pub as_status_short : as_status v s ≡ to_status (held_by v s)
  unfolding as_status
  as_status_short = lent_short s (to_status (held_by v s)) Err l
