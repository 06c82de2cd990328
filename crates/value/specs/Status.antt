-- Document 01, "Conversions": "Status: bits 0 to 4 are present, enabled, shown in the interface, functional, battery present; a device without
-- a status has all five true." 10: "not an Integer (Boolean included), or a bit from 5 up set".
-- Assumes nothing.
use Rattle.std.specs.Prelude.{ℕ, ◌+◌, ◌^◌, Bool, true, cond, List, eqb, ltb}
use Rattle.bits.specs.Bits.{bit_of}
use Rattle.types.specs.declared.refusal.Refusal.TheVariants as R
use Rattle.types.specs.declared.value.AmlValue.{AmlValue}
use Rattle.value.specs.Conversions.{Held, boolean, integer, string, buffer, buffer_field, field_unit, kind, held_by, lent}
use Rattle.value.specs.declared.status.StatusObject.{StatusObject}
use Rattle.std.specs.Prelude.{Result, Ok, Err}
use Rattle.types.specs.declared.refusal.Refusal.{Refusal}

abbrev pub set? : ℕ → ℕ → Bool
set? n k = eqb (bit_of n k) 1

abbrev pub status_of : ℕ → StatusObject
status_of n = record { present = set? n 0; enabled = set? n 1; show_in_ui = set? n 2; functional = set? n 3; battery_present = set? n 4 }

abbrev pub default_status : StatusObject
default_status = record { present = true; enabled = true; show_in_ui = true; functional = true; battery_present = true }

-- "Status: bits 0 to 4 are present, enabled, shown in the interface, functional, battery present"
abbrev pub status_number : StatusObject → ℕ
status_number s =
    cond s.present 1 0 + cond s.enabled 2 0 + cond s.show_in_ui 4 0 + cond s.functional 8 0 + cond s.battery_present 16 0

unfoldable pub to_status : Held → Result StatusObject Refusal
to_status (integer n) = cond (ltb n (2 ^ 5)) (Ok (status_of n)) (Err R.InvalidStatusObject)
to_status (boolean b) = Err R.InvalidStatusObject
to_status (string s) = Err R.InvalidStatusObject
to_status (buffer s) = Err R.InvalidStatusObject
to_status (buffer_field o n s) = Err R.InvalidStatusObject
to_status (field_unit f s) = Err R.InvalidStatusObject
to_status (kind t) = Err R.InvalidStatusObject

unfoldable pub as_status : AmlValue → List ℕ → Result StatusObject Refusal
as_status v s = lent s (to_status (held_by v s)) Err
