-- What reading a field gives, in each case of its checks: the checks before it do not hold, and its own does.
-- Assumes nothing.
use mathlib.Core.Path.{◌≡◌, sym, refl}
use mathlib.Core.Bool.{◌&&◌}
use mathlib.Core.List.{List, [], ◌∷◌}
use Prim.Native.Nat.{ℕ, ◌*◌, ◌≤◌, ◌<◌, min}
use native.Mathlib.Omega.{arith}
use lib.Dec.{ltb}
use lib.ListN.{length}
use borrow.Author.Tests.{lt-ltb, le-ltb, le-leb, lt-leb}
use Rattle.bits.specs.Bits.{get_bits, run_bits, with_bits, bytes_for}
use Rattle.types.specs.Refusals.{Checks, first_of}
use Rattle.types.proofs.Judging.{behind_refused, behind_passed}
use Rattle.types.specs.declared.refusal.Refusal.{Refusal}
use Rattle.types.specs.declared.refusal.Refusal.TheVariants as R
use Rattle.buffer_field.specs.declared.FieldValue.TheVariants as V
use Rattle.std.specs.Prelude.{Ok, Err}
use Rattle.buffer_field.specs.BufferFields.{bounds_checks, read, read_checks, read_value}

module _ (s : List ℕ) (o n : ℕ) (out : List ℕ) where
  -- 20 stands behind 27 and 2
  no_room : Checks
  no_room = (ltb 64 n && ltb (length out) (bytes_for n), R.OutputTooShort) ∷ []

  pub read_refused : (r : Refusal) → first_of (bounds_checks (length s) o n) ≡ Err r → record { answer = Err r; out = out } ≡ read s o n out
  unfolding read read_checks bounds_checks no_room
  read_refused r d = rw (← behind_refused (bounds_checks (length s) o n) no_room r (sym d) refl)

  module _ (d : first_of (bounds_checks (length s) o n) ≡ Ok tt) where
    left : first_of (read_checks s o n out) ≡ first_of no_room
    unfolding read_checks bounds_checks no_room
    left = sym (behind_passed (bounds_checks (length s) o n) no_room refl d)

    pub read_integer : n ≤ 64 → (x : ℕ) → x ≡ get_bits s o (min n 64) → record { answer = Ok (V.Integer x); out = out } ≡ read s o n out
    unfolding read read_value first_of no_room
    read_integer short x g =
        let m : min n 64 ≡ n = omega arith in
        rw (left, le-ltb 64 n short, le-leb n 64 short, g, m)

    pub read_no_room : 64 < n → length out < bytes_for n → record { answer = Err R.OutputTooShort; out = out } ≡ read s o n out
    unfolding read first_of no_room
    read_no_room long few = rw (left, lt-ltb 64 n long, lt-ltb (length out) (bytes_for n) few)

    pub read_buffer : 64 < n → bytes_for n ≤ length out → (t : List ℕ) → t ≡ with_bits out 0 (8 * bytes_for n) (run_bits s o n)
        → record { answer = Ok (V.Buffer (bytes_for n)); out = t } ≡ read s o n out
    unfolding read read_value first_of no_room
    read_buffer long room t g = rw (left, lt-ltb 64 n long, le-ltb (length out) (bytes_for n) room, lt-leb n 64 long, g)
