-- An operand, by its first character.
-- Assumes nothing.
use mathlib.Core.Path.{◌≡◌, refl}
use mathlib.Core.List.{List, [], ◌∷◌}
use Prim.Native.Nat.{ℕ, ◌≤◌, ◌<◌}
use native.Mathlib.Omega.{arith}
use borrow.Author.Tests.{ne_eqb}
use lib.ListN.{length, take}
use Rattle.types.specs.declared.value.AmlValue.{AmlValue}
use Rattle.types.specs.declared.value.AmlValue.TheVariants as Val
use Rattle.text.specs.Texts.{number_of}
use Rattle.std.specs.Prelude.{Option, Some, None, true, false}
use Rattle.text.specs.Pairs.{pairs, none, pairs_of, within, filled, pairs_into}
use Rattle.text.proofs.HexPairs.{pairs_is, pairs_room, pairs_bad, pairs_output}
use Rattle.script.specs.Operands.{number_operand, bytes_operand, alone, operand_of}
use Rattle.script.specs.Steps.{read_as, count_of, alone_as, number_as}
use Rattle.script.specs.declared.operand.Operand.{Operand}
use Rattle.script.specs.declared.operand.Operand.TheVariants as Vs

-- ---- a character that stands alone
pub not_alone : (l : List ℕ) (a : Option Operand) → 0 < length l → None ≡ alone_as l a
not_alone [] a h = absurd (omega arith)
not_alone (c ∷ l) a h = refl

pub stands_alone : (l : List ℕ) (a : Option Operand) → length l ≤ 0 → a ≡ alone_as l a
stands_alone [] a h = refl
stands_alone (c ∷ l) a h = absurd (omega arith)

alone_read : (l w : List ℕ) (a : Option Operand) → read_as (alone_as l a) w ≡ alone l (read_as a w)
alone_read [] w a = refl
alone_read (c ∷ l) w a = refl

alone_count : (l : List ℕ) (a : Option Operand) → count_of a ≤ 256 → count_of (alone_as l a) ≤ 256
alone_count [] a h = h
alone_count (c ∷ l) a h = omega arith

-- ---- numbers and hex pairs
number_read : (m : Option ℕ) (w : List ℕ) → read_as (number_as m) w ≡ number_operand m
number_read (Some n) w = refl
number_read None w = refl

number_count : (m : Option ℕ) → count_of (number_as m) ≤ 256
number_count (Some n) = omega arith
number_count None = omega arith

module _ (v : AmlValue) (s out o : List ℕ) (m : length out ≡ 256) where
  pub pairs_read : (n : ℕ) → filled (Some n) o ≡ pairs_into (pairs_of s) out → (read_as (Some (Vs.Value v n)) o ≡ bytes_operand v (within 256 (pairs_of s))) × (n ≤ 256)
  pairs_read n e =
      let w : within 256 (pairs_of s) ≡ pairs (take n o) = rw m at (pairs_is s out o (Some n) e n refl) in
      (rw w, omega (arith, pairs_room s out o (Some n) e n refl, pairs_output s out o (Some n) e))

  pub pairs_not : filled None o ≡ pairs_into (pairs_of s) out → (read_as None o ≡ bytes_operand v (within 256 (pairs_of s))) × (count_of None ≤ 256)
  pairs_not e = let w : within 256 (pairs_of s) ≡ none = rw m at (pairs_bad s out o None e refl) in (rw w, omega arith)

-- ---- by the first character

pub no_text : (s w : List ℕ) → length s ≡ 0 → (read_as None w ≡ operand_of s) × (count_of None ≤ 256)
unfolding operand_of
no_text [] w h = (refl, omega arith)
no_text (c ∷ l) w h = absurd (omega arith)

module _ (l w : List ℕ) (r : Option Operand) where
  pub dash : r ≡ alone_as l (Some Vs.Unused) → (read_as r w ≡ operand_of (45 ∷ l)) × (count_of r ≤ 256)
  unfolding operand_of
  dash e = (rw e (alone_read l w (Some Vs.Unused)), rw e (alone_count l (Some Vs.Unused) (omega arith)))

  pub true_text : r ≡ alone_as l (Some (Vs.Value (Val.Boolean true) 0)) → (read_as r w ≡ operand_of (116 ∷ l)) × (count_of r ≤ 256)
  unfolding operand_of
  true_text e = (rw e (alone_read l w (Some (Vs.Value (Val.Boolean true) 0))), rw e (alone_count l (Some (Vs.Value (Val.Boolean true) 0)) (omega arith)))

  pub false_text : r ≡ alone_as l (Some (Vs.Value (Val.Boolean false) 0)) → (read_as r w ≡ operand_of (102 ∷ l)) × (count_of r ≤ 256)
  unfolding operand_of
  false_text e = (rw e (alone_read l w (Some (Vs.Value (Val.Boolean false) 0))), rw e (alone_count l (Some (Vs.Value (Val.Boolean false) 0)) (omega arith)))

pub buffer_text : (l : List ℕ) → bytes_operand Val.Buffer (within 256 (pairs_of l)) ≡ operand_of (120 ∷ l)
unfolding operand_of
buffer_text l = refl

pub string_text : (l : List ℕ) → bytes_operand Val.String (within 256 (pairs_of l)) ≡ operand_of (115 ∷ l)
unfolding operand_of
string_text l = refl

module _ (c : ℕ) (l w : List ℕ) (r : Option Operand) where
  pub number_text : (c ≡ 45 → ⊥) → (c ≡ 116 → ⊥) → (c ≡ 102 → ⊥) → (c ≡ 120 → ⊥) → (c ≡ 115 → ⊥) → r ≡ number_as (number_of 10 (c ∷ l))
      → (read_as r w ≡ operand_of (c ∷ l)) × (count_of r ≤ 256)
  unfolding operand_of
  number_text n₁ n₂ n₃ n₄ n₅ e =
      (rw (e, ne_eqb c 45 n₁, ne_eqb c 116 n₂, ne_eqb c 102 n₃, ne_eqb c 120 n₄, ne_eqb c 115 n₅) (number_read (number_of 10 (c ∷ l)) w), rw e (number_count (number_of 10 (c ∷ l))))
