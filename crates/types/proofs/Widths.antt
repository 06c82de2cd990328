-- The access widths, by one computed test over their table: for access types 0 to 5 the width is 8, 16, 32 or 64, for 6 to 15 it is 0.
-- Assumes nothing.
use mathlib.Core.Path.{◌≡◌, refl}
use mathlib.Core.Bool.{Bool, true, false, ◌||◌}
use mathlib.Core.Logic.{◌⊎◌, inl, inr, ⊎_elim}
use mathlib.Core.List.{List}
use Prim.Native.Nat.{ℕ, ◌*◌, ◌/◌, ◌≤◌, ◌<◌}
use native.Mathlib.Omega.{arith}
use lib.Dec.{T, eqb, eqb→eq}
use lib.ListN.{length, get_or, get_or-eq_default}
use Rattle.types.specs.Flags.{access_bits, access_width, widths}
use Rattle.types.proofs.Table.{at, every}

-- a width of 1, 2, 4 or 8 bytes
abbrev pub Width : ℕ → Type 0
Width w = (w ≡ 8) ⊎ (w ≡ 16) ⊎ (w ≡ 32) ⊎ (w ≡ 64)

is_width : ℕ → ℕ → Bool
is_width k w = eqb w 8 || (eqb w 16 || (eqb w 32 || eqb w 64))

either : (a b : Bool) → T (a || b) → T a ⊎ T b
either true b t = inl tt
either false b t = inr t

known : (w : ℕ) → T (is_width 0 w) → Width w
unfolding is_width
known w t =
    ⊎_elim (λ a. inl (eqb→eq w 8 a))
    (λ b. ⊎_elim (λ a. inr (inl (eqb→eq w 16 a)))
    (λ b. ⊎_elim (λ a. inr (inr (inl (eqb→eq w 32 a)))) (λ b. inr (inr (inr (eqb→eq w 64 b)))) (either (eqb w 32) (eqb w 64) b))
    (either (eqb w 16) (eqb w 32 || eqb w 64) b))
    (either (eqb w 8) (eqb w 16 || (eqb w 32 || eqb w 64)) t)

pub width_is : (flags : ℕ) → access_bits flags < 6 → Width (access_width flags)
unfolding access_width is_width
width_is flags h = known (get_or widths (access_bits flags) 0) (at is_width widths tt (access_bits flags) h)

-- of each of the four: what holds of them all holds of the width
pub of_width : (P : ℕ → Type 0) (w : ℕ) → Width w → P 8 → P 16 → P 32 → P 64 → P w
of_width P w (inl e) a b c d = rw e a
of_width P w (inr (inl e)) a b c d = rw e b
of_width P w (inr (inr (inl e))) a b c d = rw e c
of_width P w (inr (inr (inr e))) a b c d = rw e d

pub width_bounds : (flags : ℕ) → access_bits flags < 6 → (8 ≤ access_width flags) × (access_width flags ≤ 64)
width_bounds flags h =
    of_width (λ (w : ℕ). (8 ≤ w) × (w ≤ 64)) (access_width flags) (width_is flags h) (omega arith) (omega arith) (omega arith) (omega arith)

-- a width is whole bytes
pub width_bytes : (flags : ℕ) → access_bits flags < 6 → 8 * (access_width flags / 8) ≡ access_width flags
width_bytes flags h = of_width (λ (w : ℕ). 8 * (w / 8) ≡ w) (access_width flags) (width_is flags h) refl refl refl refl

-- 1, 2, 4 or 8 of them
pub width_byte_count : (flags : ℕ) → access_bits flags < 6
    → (access_width flags / 8 ≡ 1) ⊎ (access_width flags / 8 ≡ 2) ⊎ (access_width flags / 8 ≡ 4) ⊎ (access_width flags / 8 ≡ 8)
width_byte_count flags h =
    of_width (λ (w : ℕ). (w / 8 ≡ 1) ⊎ (w / 8 ≡ 2) ⊎ (w / 8 ≡ 4) ⊎ (w / 8 ≡ 8)) (access_width flags) (width_is flags h)
    (inl refl)
    (inr (inl refl))
    (inr (inr (inl refl)))
    (inr (inr (inr refl)))

-- access types 6 to 15 have no width
pub width_none : (flags : ℕ) → 6 ≤ access_bits flags → access_width flags ≡ 0
unfolding access_width
width_none flags h = get_or-eq_default widths 0 h

-- a table of as many entries as one likes says the same as the definition, with a 0 for each access type that has no width
unfoldable pub same : ℕ → ℕ → Bool
same k w = eqb w (get_or widths k 0)

pub table_width : (table : List ℕ) → T (every same 0 table) → (k : ℕ) → k < length table → get_or table k 0 ≡ get_or widths k 0
unfolding same
table_width table t k h = eqb→eq (get_or table k 0) (get_or widths k 0) (at same table t k h)
