-- A refusal that is none of 1, 3, 4 and 5 carries no type. True of each case by its line in the definition.
-- Assumes nothing.
use mathlib.Core.Path.{◌≡◌, refl}
use mathlib.Core.List.{List, [], ◌∷◌}
use Prim.Native.Nat.{ℕ}
use types.Run.{OneOf, miss}
use Rattle.types.specs.declared.refusal.Refusal.{Refusal}
use Rattle.types.specs.declared.refusal.Refusal.TheVariants as R
use Rattle.types.specs.declared.refusal.Types.TheVariants as T
use Rattle.types.specs.Refusals.{types_of}
use Rattle.types.specs.contracts.refusal.Refusal.{the_type}
use denote.Enum.Declared.{tag_of}

-- the places in the enum of the refusals that carry nothing: all but 0, 2, 3, 4
abbrev pub bare : List ℕ
bare = 1 ∷ 5 ∷ 6 ∷ 7 ∷ 8 ∷ 9 ∷ 10 ∷ 11 ∷ 12 ∷ 13 ∷ 14 ∷ 15 ∷ 16 ∷ 17 ∷ 18 ∷ 19 ∷ 20 ∷ 21 ∷ 22 ∷ 23 ∷ []

pub carries_nothing : (r : Refusal) → OneOf bare (tag_of the_type r) → T.Nothing ≡ types_of r
carries_nothing (R.IncompatibleValueConversion a b) k = absurd (miss bare 0 tt k)
carries_nothing (R.TypeCannotBeWrittenToBufferField t) k = absurd (miss bare 2 tt k)
carries_nothing (R.TypeCannotBeCompared t) k = absurd (miss bare 3 tt k)
carries_nothing (R.TypeCannotBeSliced t) k = absurd (miss bare 4 tt k)
carries_nothing R.BufferFieldIndexesOutOfBounds k = refl
carries_nothing R.ResourceDescriptorTooShort k = refl
carries_nothing R.InvalidShiftLeft k = refl
carries_nothing R.InvalidShiftRight k = refl
carries_nothing R.InvalidFieldFlags k = refl
carries_nothing R.InvalidStatusObject k = refl
carries_nothing R.MalformedBuffer k = refl
carries_nothing R.OutputTooShort k = refl
carries_nothing R.FieldUnitLength k = refl
carries_nothing R.FieldUnitOutsideRegion k = refl
carries_nothing R.LockHeld k = refl
carries_nothing R.NoSuchTask k = refl
carries_nothing R.TaskBusy k = refl
carries_nothing R.TaskIdle k = refl
carries_nothing R.TooManyBytes k = refl
carries_nothing R.UnsupportedRegionSpace k = refl
carries_nothing R.QWordAccessInSpace k = refl
carries_nothing R.RegionLengthDiffers k = refl
carries_nothing R.MalformedTable k = refl
carries_nothing R.MalformedJob k = refl
