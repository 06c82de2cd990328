-- Document 01, "Operators": "Building a buffer answers as many bytes as the size, converted to integer, says: the initial bytes, then zeros."
-- 11: "buffer built with a size below its initial bytes"; 20 last.
-- Assumes nothing.
use Rattle.std.specs.Prelude.{ℕ, ◌-◌, List, [], ◌∷◌, ◌++◌, length, drop, replicate, nat_lt}
use Rattle.types.specs.Refusals.{first_of, judged}
use Rattle.types.specs.declared.refusal.Refusal.TheVariants as R
use Rattle.types.specs.declared.value.AmlValue.{AmlValue}
use Rattle.value.specs.Conversions.{held_by, to_integer, Given, given}
use Rattle.std.specs.Prelude.{Ok, Err}
use Rattle.expression.specs.Numbers.{and_then, both_lent}

-- of n bytes, with these at their front
abbrev pub built : ℕ → List ℕ → List ℕ → Given
built n initial out =
    judged (first_of ((nat_lt n (length initial), R.MalformedBuffer) ∷ (nat_lt (length out) n, R.OutputTooShort) ∷ []))
    (given (Ok n) (initial ++ (replicate (n - length initial) 0 ++ drop n out)))
    (λ r. given (Err r) out)

-- the size with its bytes, and the initial bytes
unfoldable pub build_buffer : AmlValue → List ℕ → List ℕ → List ℕ → Given
build_buffer v s initial out =
    both_lent s initial (and_then (to_integer (held_by v s)) (λ n. built n initial out) (λ r. given (Err r) out)) (λ r. given (Err r) out)
