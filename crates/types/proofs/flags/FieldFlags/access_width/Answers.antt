-- `types::flags::FieldFlags::access_width` meets its contract: the code's table says what the definition's list says, at each of its sixteen entries.
-- Assumes nothing.
-- the code's table
use mathlib.Core.Path.{◌∙◌}
use mathlib.Core.List.{List, [], ◌∷◌}
use Prim.Native.Nat.{ℕ, ◌%◌}
use borrow.Author.Rules.{rules}
use Rattle.types.specs.Flags.{access_width}
use Rattle.types.proofs.Widths.{same, table_width}
use Rattle.types.proofs.flags.FieldFlags.access_width.Goals as goal

abbrev table : List ℕ
table = 8 ∷ 8 ∷ 16 ∷ 32 ∷ 64 ∷ 8 ∷ 0 ∷ 0 ∷ 0 ∷ 0 ∷ 0 ∷ 0 ∷ 0 ∷ 0 ∷ 0 ∷ 0 ∷ []

pub returns : goal.returns
unfolding access_width same
returns c = c.from.ensures ∙ table_width table tt (c.args.self.0 % 16) (search rules)
