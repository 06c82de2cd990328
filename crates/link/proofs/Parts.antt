-- Mid's part has at most 65,536 bytes, so their count fits its place in an answer.
-- Assumes nothing.
use Prim.Native.Nat.{ℕ, ◌≤◌}
use native.Mathlib.Omega.{arith}
use mathlib.Core.Path.{◌≡◌, refl, ap, ◌∙◌}
use mathlib.Core.List.{List}
use lib.ListN.{length}
use Rattle.types.specs.declared.value.AmlValue.{AmlValue}
use Rattle.value.specs.Conversions.{Bytes, these, none}
use Rattle.expression.specs.Mid.{mid, mid_part, placed, mid_place}
use Rattle.expression.specs.declared.mid.Part.{Part}
use Rattle.std.specs.Prelude.{Result}
use Rattle.types.specs.declared.refusal.Refusal.{Refusal}
use Rattle.expression.proofs.Slicing.{part_most}
use Rattle.link.specs.Answers.{place_count}

counted : (b : Bytes) (at : ℕ) → place_count (placed b at) ≡ length (mid_part b)
counted (these l) at = refl
counted (none r) at = refl

pub mid_count : (v : AmlValue) (s : List ℕ) (i : AmlValue) (is : List ℕ) (n : AmlValue) (ns : List ℕ) {r : Result Part Refusal} → r ≡ mid_place v s i is n ns → place_count r ≤ 65536
mid_count v s i is n ns e = omega (arith, ap place_count e ∙ counted (mid v s i is n ns) _, part_most v s i is n ns)
