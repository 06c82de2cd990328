-- Document 01, "Refusal numbers": the number of each refusal and the types it carries; the first check that holds gives the refusal.
-- Assumes nothing.
use Rattle.std.specs.Prelude.{ℕ, Bool, cond, List, [], ◌∷◌, ⊤, Result, Ok, Err}
use Rattle.types.specs.declared.refusal.Refusal.{Refusal}
use Rattle.types.specs.declared.refusal.Refusal.TheVariants as R
use Rattle.types.specs.declared.refusal.Types.{Types}
use Rattle.types.specs.declared.refusal.Types.TheVariants as T

abbrev pub number_of : Refusal → ℕ
number_of (R.IncompatibleValueConversion a b) = 1
number_of R.BufferFieldIndexesOutOfBounds = 2
number_of (R.TypeCannotBeWrittenToBufferField t) = 3
number_of (R.TypeCannotBeCompared t) = 4
number_of (R.TypeCannotBeSliced t) = 5
number_of R.ResourceDescriptorTooShort = 6
number_of R.InvalidShiftLeft = 7
number_of R.InvalidShiftRight = 8
number_of R.InvalidFieldFlags = 9
number_of R.InvalidStatusObject = 10
number_of R.MalformedBuffer = 11
number_of R.OutputTooShort = 20
number_of R.FieldUnitLength = 21
number_of R.FieldUnitOutsideRegion = 22
number_of R.LockHeld = 23
number_of R.NoSuchTask = 24
number_of R.TaskBusy = 25
number_of R.TaskIdle = 26
number_of R.TooManyBytes = 27
number_of R.UnsupportedRegionSpace = 28
number_of R.QWordAccessInSpace = 29
number_of R.RegionLengthDiffers = 30
number_of R.MalformedTable = 31
number_of R.MalformedJob = 40

-- "1 adds the present and wanted types; 3, 4, 5 the type met"
abbrev pub types_of : Refusal → Types
types_of (R.IncompatibleValueConversion a b) = T.Conversion a b
types_of (R.TypeCannotBeWrittenToBufferField t) = T.Met t
types_of (R.TypeCannotBeCompared t) = T.Met t
types_of (R.TypeCannotBeSliced t) = T.Met t
types_of R.BufferFieldIndexesOutOfBounds = T.Nothing
types_of R.ResourceDescriptorTooShort = T.Nothing
types_of R.InvalidShiftLeft = T.Nothing
types_of R.InvalidShiftRight = T.Nothing
types_of R.InvalidFieldFlags = T.Nothing
types_of R.InvalidStatusObject = T.Nothing
types_of R.MalformedBuffer = T.Nothing
types_of R.OutputTooShort = T.Nothing
types_of R.FieldUnitLength = T.Nothing
types_of R.FieldUnitOutsideRegion = T.Nothing
types_of R.LockHeld = T.Nothing
types_of R.NoSuchTask = T.Nothing
types_of R.TaskBusy = T.Nothing
types_of R.TaskIdle = T.Nothing
types_of R.TooManyBytes = T.Nothing
types_of R.UnsupportedRegionSpace = T.Nothing
types_of R.QWordAccessInSpace = T.Nothing
types_of R.RegionLengthDiffers = T.Nothing
types_of R.MalformedTable = T.Nothing
types_of R.MalformedJob = T.Nothing

-- "Order": each line of it is a list of checks, and the first that holds gives its refusal
abbrev pub Checks : Type 0
Checks = List (Bool × Refusal)

unfoldable pub first_of : Checks → Result ⊤ Refusal
first_of [] = Ok tt
first_of (c ∷ cs) = cond c.0 (Err c.1) (first_of cs)

-- what is answered where no check holds, and where one does
abbrev pub judged : {A : Type 0} → Result ⊤ Refusal → A → (Refusal → A) → A
judged (Ok tt) a f = a
judged (Err r) a f = f r
