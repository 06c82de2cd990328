-- A list of checks is judged from its front: a check that holds gives its refusal, one that does not is passed. Lists one behind the other, and what
-- it means that no check holds.
-- Assumes nothing.
use mathlib.Core.Path.{◌≡◌, refl, sym, ap, ◌∙◌}
use mathlib.Core.Bool.{Bool, true, false, true≢false}
use mathlib.Core.List.{[], ◌∷◌, ◌++◌}
use Rattle.std.specs.Prelude.{⊤, Result, Ok, Err}
use Rattle.types.specs.Refusals.{Checks, first_of, judged}
use Rattle.types.specs.declared.refusal.Refusal.{Refusal}

pub refused : (b : Bool) (r : Refusal) (cs : Checks) → b ≡ true → Err r ≡ first_of ((b, r) ∷ cs)
unfolding first_of
refused b r cs e = rw e refl

pub passed : (b : Bool) (r : Refusal) (cs : Checks) → b ≡ false → first_of cs ≡ first_of ((b, r) ∷ cs)
unfolding first_of
passed b r cs e = rw e refl

pub none : (Ok tt) ≡ first_of []
unfolding first_of
none = refl

-- ---- a list behind another

pub behind : (a b : Checks) → first_of (a ++ b) ≡ judged (first_of a) (first_of b) Err
unfolding first_of
behind [] b = refl
behind ((true, r) ∷ a) b = refl
behind ((false, r) ∷ a) b = behind a b

pub behind_passed : (a b : Checks) {x : Result ⊤ Refusal} → x ≡ first_of a → x ≡ Ok tt → first_of b ≡ first_of (a ++ b)
behind_passed a b p h = sym (behind a b ∙ ap (λ o. judged o (first_of b) Err) (sym p ∙ h))

pub behind_refused : (a b : Checks) (r : Refusal) {x : Result ⊤ Refusal} → x ≡ first_of a → x ≡ Err r → Err r ≡ first_of (a ++ b)
behind_refused a b r p h = sym (behind a b ∙ ap (λ o. judged o (first_of b) Err) (sym p ∙ h))

-- a last check that does not hold decides nothing
pub drop_last : (a : Checks) (c : Bool × Refusal) → c.0 ≡ false → first_of (a ++ (c ∷ [])) ≡ first_of a
unfolding first_of
drop_last [] c e = rw e refl
drop_last ((true, r) ∷ a) c e = refl
drop_last ((false, r) ∷ a) c e = drop_last a c e

-- ---- no check holds

abbrev is_done : Result ⊤ Refusal → Bool
is_done (Ok tt) = true
is_done (Err r) = false

abbrev pub NoneHolds : Checks → Type 0
NoneHolds [] = Unit {0}
NoneHolds (c ∷ cs) = (c.0 ≡ false) × NoneHolds cs

pub none_holds : (cs : Checks) → first_of cs ≡ Ok tt → NoneHolds cs
unfolding first_of
none_holds [] e = tt
none_holds ((true, r) ∷ cs) e = absurd (true≢false (sym (ap is_done e)))
none_holds ((false, r) ∷ cs) e = (refl, none_holds cs e)

-- and the other way round
pub none_gives : (cs : Checks) → NoneHolds cs → first_of cs ≡ Ok tt
unfolding first_of
none_gives [] h = refl
none_gives (c ∷ cs) h = rw h.0 (none_gives cs h.1)
