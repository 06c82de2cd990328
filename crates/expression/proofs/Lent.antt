-- 27 before all else, and what is then made of a converted operand: one test on a length decides each side of an equation alike.
-- Assumes nothing.
use Rattle.std.proofs.Common.{◌≡◌, ℕ, ◌<◌, ◌≤◌, Bool, true, false, ◌||◌, ltb, List, [], ◌∷◌, length, refl, ◌∙◌, le-ltb, lt-ltb}
use Rattle.types.specs.Refusals.{first_of, judged}
use Rattle.types.specs.declared.refusal.Refusal.{Refusal}
use Rattle.types.specs.declared.refusal.Refusal.TheVariants as R
use Rattle.types.specs.declared.value.AmlValue.{AmlValue}
use Rattle.value.proofs.Lent.{lent_short}
use Rattle.value.specs.Conversions.{lent, held_by, to_integer, as_integer}
use Rattle.std.specs.Prelude.{Err}
use Rattle.expression.specs.Numbers.{and_then, both_lent}

module _ {A : Type 0} (s t : List ℕ) (a : A) (f : Refusal → A) where
  -- of two, where the second is not too long, the first decides
  pub both_first : length t ≤ 65536 → both_lent s t a f ≡ lent s a f
  unfolding first_of
  both_first h = rw (le-ltb 65536 (length t) h) (either (ltb 65536 (length s)))
    where
      either : (b : Bool) → judged (first_of ((b || false, R.TooManyBytes) ∷ [])) a f ≡ judged (first_of ((b, R.TooManyBytes) ∷ [])) a f
      either true = refl
      either false = refl

  pub both_long : 65536 < length s → both_lent s t a f ≡ f R.TooManyBytes
  unfolding first_of
  both_long h = rw (lt-ltb 65536 (length s) h)

  pub both_second : 65536 < length t → both_lent s t a f ≡ f R.TooManyBytes
  unfolding first_of
  both_second h = rw (lt-ltb 65536 (length t) h) (either (ltb 65536 (length s)))
    where
      either : (b : Bool) → judged (first_of ((b || true, R.TooManyBytes) ∷ [])) a f ≡ f R.TooManyBytes
      either true = refl
      either false = refl

  pub both_short : length s ≤ 65536 → length t ≤ 65536 → both_lent s t a f ≡ a
  both_short h l = both_first l ∙ lent_short s a f h

-- what is made of an operand is made of its conversion's answer
module _ {A : Type 0} (g : ℕ → A) (f : Refusal → A) where
  pub lent_then : (v : AmlValue) (s : List ℕ) → lent s (and_then (to_integer (held_by v s)) g f) f ≡ and_then (as_integer v s) g f
  unfolding first_of as_integer
  lent_then v s = either (ltb 65536 (length s))
    where
      either : (b : Bool)
          → judged (first_of ((b, R.TooManyBytes) ∷ [])) (and_then (to_integer (held_by v s)) g f) f
          ≡ and_then (judged (first_of ((b, R.TooManyBytes) ∷ [])) (to_integer (held_by v s)) Err) g f
      either true = refl
      either false = refl
