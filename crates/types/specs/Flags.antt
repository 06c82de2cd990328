-- Document 01, "Field units": "Flags: bits 0 to 3 access, 4 lock rule, 5 and 6 update rule (0 Preserve, 1 WriteAsOnes, 2 WriteAsZeros),
-- 7 ignored. The access widths for types 0 to 5 are 8, 8, 16, 32, 64, 8 bits."
-- Assumes nothing.
use Rattle.std.specs.Prelude.{ℕ, ◌/◌, ◌%◌, Bool, List, [], ◌∷◌, eqb, get_or, Result, Ok, Err}
use Rattle.types.specs.declared.refusal.Refusal.{Refusal}
use Rattle.types.specs.declared.refusal.Refusal.TheVariants as R
use Rattle.types.specs.declared.flags.FieldAccessType.{FieldAccessType}
use Rattle.types.specs.declared.flags.FieldAccessType.TheVariants as A
use Rattle.types.specs.declared.flags.FieldUpdateRule.{FieldUpdateRule}
use Rattle.types.specs.declared.flags.FieldUpdateRule.TheVariants as U

abbrev pub access_bits : ℕ → ℕ
access_bits flags = flags % 16

abbrev pub rule_bits : ℕ → ℕ
rule_bits flags = flags / 32 % 4

abbrev pub lock_rule : ℕ → Bool
lock_rule flags = eqb (flags / 16 % 2) 1

-- the widths in bits for access types 0 to 5
abbrev pub widths : List ℕ
widths = 8 ∷ 8 ∷ 16 ∷ 32 ∷ 64 ∷ 8 ∷ []

-- the width that a flags byte says; 0 for types 6 to 15, which have none
unfoldable pub access_width : ℕ → ℕ
access_width flags = get_or widths (access_bits flags) 0

abbrev pub access_types : List (Result FieldAccessType Refusal)
access_types = Ok A.Any ∷ Ok A.Byte ∷ Ok A.Word ∷ Ok A.DWord ∷ Ok A.QWord ∷ Ok A.Buffer ∷ []

abbrev pub update_rules : List (Result FieldUpdateRule Refusal)
update_rules = Ok U.Preserve ∷ Ok U.WriteAsOnes ∷ Ok U.WriteAsZeros ∷ []

-- the access type that a flags byte says, or 9
unfoldable pub access_type : ℕ → Result FieldAccessType Refusal
access_type flags = get_or access_types (access_bits flags) (Err R.InvalidFieldFlags)

-- the update rule that it says, or 9
unfoldable pub update_rule : ℕ → Result FieldUpdateRule Refusal
update_rule flags = get_or update_rules (rule_bits flags) (Err R.InvalidFieldFlags)
