-- What checking and counting a field unit's accesses say together, and that the next access of an accepted operation is made.
-- Assumes nothing.
use Prim.Native.Nat.{ℕ, ◌≤◌, ◌<◌}
use mathlib.Core.Path.{◌≡◌, refl, sym, ap, ◌∙◌}
use mathlib.Core.Bool.{Bool, true, false, cond}
use mathlib.Core.List.{List}
use lib.Dec.{ltb}
use lib.ListN.{length}
use borrow.Author.Tests.{ltb-true, ltb-false}
use Rattle.types.specs.Refusals.{judged}
use Rattle.types.specs.declared.refusal.Refusal.{Refusal}
use Rattle.std.specs.Prelude.{⊤, Result, Ok, Err, Option, Some, None}
use Rattle.field_unit.specs.Accesses.{Progress, progress, act}
use Rattle.field_unit.specs.Calls.{plan_of, count_of, checked, Accepted, count, access_at, Stepped, stepped, held, next_access}
use Rattle.field_unit.specs.declared.access.FieldOp.{FieldOp}

-- ---- counting

module _ (o : FieldOp) (size : ℕ) {x : Result ℕ Refusal} (p : x ≡ count o size) where
  pub counted_accepted : (n : ℕ) → x ≡ Ok n → Accepted o size
  unfolding count
  counted_accepted n h = go (checked o size) refl
    where
      go : (c : Result ⊤ Refusal) → checked o size ≡ c → Accepted o size
      go (Ok tt) e = e
      go (Err r) e =
          let q : Ok n ≡ Err r = sym h ∙ p ∙ ap (λ c. judged c (Ok (count_of o)) Err) e in cc

  pub counted_refused : (r : Refusal) → x ≡ Err r → checked o size ≡ Err r
  unfolding count
  counted_refused r h = go (checked o size) refl
    where
      go : (c : Result ⊤ Refusal) → checked o size ≡ c → c ≡ Err r
      go (Ok tt) e =
          let q : Err r ≡ Ok (count_of o) = sym h ∙ p ∙ ap (λ c. judged c (Ok (count_of o)) Err) e in cc
      go (Err s) e =
          let q : Err r ≡ Err s = sym h ∙ p ∙ ap (λ c. judged c (Ok (count_of o)) Err) e in cc

  pub counted_number : (n : ℕ) → x ≡ Ok n → n ≡ count_of o
  unfolding count
  counted_number n h =
      let q : Ok n ≡ Ok (count_of o) =
      sym h ∙ p ∙ ap (λ c. judged c (Ok (count_of o)) Err) (counted_accepted n h) in
      cc

-- ---- the next access, of an operation that is accepted: made, or none left

abbrev next : FieldOp → ℕ → ℕ → List ℕ → Progress
next o k h s = act (plan_of o) (access_at o k) (progress s h)

module _ (s : List ℕ) (o : FieldOp) (k h : ℕ) {a : Result (Option ℕ) Refusal} {s' : List ℕ} (p : stepped a s' ≡ next_access s o k h) (ok : Accepted o (length s)) where
  abbrev pub Left : Bool → Stepped
  Left b = cond b (held (next o k h s)) (stepped (Ok None) s)

  by_left : (b : Bool) → ltb k (count_of o) ≡ b → stepped a s' ≡ Left b
  unfolding next_access
  by_left b e = p ∙ ap (λ c. judged c (Left (ltb k (count_of o))) (λ r. stepped (Err r) s)) ok ∙ ap Left e

  pub not_refused : (r : Refusal) → a ≡ Err r → ⊥
  not_refused r e = go (ltb k (count_of o)) refl
    where
      go : (b : Bool) → ltb k (count_of o) ≡ b → ⊥
      go true q = let z = ap (λ (z : Stepped). z.answer) (by_left true q) in cc
      go false q = let z = ap (λ (z : Stepped). z.answer) (by_left false q) in cc

  pub none_left : a ≡ Ok None → (count_of o ≤ k) × (s' ≡ s)
  none_left e = go (ltb k (count_of o)) refl
    where
      go : (b : Bool) → ltb k (count_of o) ≡ b → (count_of o ≤ k) × (s' ≡ s)
      go true q = let z = ap (λ (z : Stepped). z.answer) (by_left true q) in cc
      go false q = (ltb-false _ _ q, ap (λ (z : Stepped). z.region) (by_left false q))

  pub one_made : (x : ℕ) → a ≡ Ok (Some x) → (k < count_of o) × (x ≡ (next o k h s).held) × (s' ≡ (next o k h s).region)
  one_made x e = go (ltb k (count_of o)) refl
    where
      go : (b : Bool) → ltb k (count_of o) ≡ b → (k < count_of o) × (x ≡ (next o k h s).held) × (s' ≡ (next o k h s).region)
      go false q = let z = ap (λ (z : Stepped). z.answer) (by_left false q) in cc
      go true q =
          let z = ap (λ (z : Stepped). z.answer) (by_left true q) in
          (ltb-true _ _ q, cc, ap (λ (z : Stepped). z.region) (by_left true q))
