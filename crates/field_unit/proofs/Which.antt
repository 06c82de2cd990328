-- How many accesses an accepted operation makes and which comes k-th, as the code finds them: from the first and the last unit and whether each
-- takes two. These are the laws of the list, at the numbers that the code holds.
-- Assumes nothing.
use mathlib.Core.Path.{◌≡◌, refl, sym, ap, ◌∙◌}
use mathlib.Core.Bool.{Bool, true, false}
use Prim.Native.Nat.{ℕ, ◌+◌, ◌-◌, ◌≤◌, ◌<◌}
use native.Mathlib.Omega.{arith}
use mir.Val.{bool_byte}
use Rattle.field_unit.specs.Accesses.{Plan, first, last, partly, unit_of}
use Rattle.field_unit.specs.Calls.{plan_of, Touches, count_of, access_at}
use Rattle.field_unit.specs.declared.checked.Checked.{Checked}
use Rattle.field_unit.specs.declared.access.Access.TheVariants.{Load, Store}
use Rattle.field_unit.proofs.Kept.{ordered}
use Rattle.field_unit.proofs.Bounds.{most_of}
use Rattle.field_unit.proofs.Units.{extra, byte_is}
use Rattle.field_unit.proofs.Listing.{count_one, count_many, count_read, nth_read, nth_lead, nth_store, nth_last_load, nth_last_store, nth_unit}

module _ (c : Checked) where
  abbrev plan : Plan
  plan = plan_of c.op

  wide : 0 < plan.width
  wide = rw (← c.width_is) (omega (arith, c.wide))

  some : 1 ≤ plan.size
  some = c.fits.0

  pub count_few : count_of c.op ≤ 11
  count_few = most_of plan (rw (← c.width_is) c.wide.0) some c.fits.1

  -- the unit of access k is one of the field's
  pub unit_of_lem : (k : ℕ) → k < count_of c.op → Touches c.op (unit_of (access_at c.op k))
  unit_of_lem k l = nth_unit plan k wide some l

  module _ {fi la : ℕ} (ef : fi ≡ first plan) (el : la ≡ last plan) where
    pub read_count : c.op.write ≡ false → la - fi + 1 ≡ count_of c.op
    read_count w = let e = count_read plan wide some w in omega arith

    pub at_read : (k : ℕ) → c.op.write ≡ false → k < count_of c.op → Load (fi + k) ≡ access_at c.op k
    at_read k w l = ap (λ (x : ℕ). Load (x + k)) ef ∙ sym (nth_read plan k wide some w l)

    module _ {b : Bool} {lead : ℕ} (eb : b ≡ partly plan fi) (ld : lead ≡ bool_byte b) where
      lead_is : lead ≡ extra (partly plan (first plan))
      lead_is = ld ∙ byte_is b ∙ ap extra (eb ∙ ap (partly plan) ef)

      pub total_one : fi ≡ la → la - fi + 1 + lead ≡ count_of c.op
      total_one e = let q = lead_is in let r = count_one plan (sym ef ∙ e ∙ el) in omega arith

      pub total_many : {d : Bool} {more : ℕ} → (fi ≡ la → ⊥) → d ≡ partly plan la → more ≡ bool_byte d → la - fi + 1 + lead + more ≡ count_of c.op
      total_many {d} {more} n ed em =
          let q = lead_is in
          let o = ordered c in
          let lt : first plan < last plan = strictly (first plan) (last plan) o (λ z. n (ef ∙ z ∙ sym el)) in
          let m : more ≡ extra (partly plan (last plan)) = em ∙ byte_is d ∙ ap extra (ed ∙ ap (partly plan) el) in
          let r = count_many plan wide some lt in
          omega arith
        where
          strictly : (x y : ℕ) → x ≤ y → (x ≡ y → ⊥) → x < y
          strictly x y h z = omega arith

      module _ (k : ℕ) where
        pub at_lead : k < lead → Load fi ≡ access_at c.op k
        at_lead l = go (partly plan (first plan)) refl
          where
            go : (t : Bool) → partly plan (first plan) ≡ t → Load fi ≡ access_at c.op k
            go true e =
                let z : k ≡ 0 = (let q = lead_is ∙ ap extra e in omega arith) in
                ap Load ef ∙ sym (ap (access_at c.op) z ∙ nth_lead plan (ordered c) e)
            go false e = let q = lead_is ∙ ap extra e in let no : ⊥ = omega arith in absurd no

        module _ (w : c.op.write ≡ true) (l : lead ≤ k) where
          place : fi + (k - lead) ≡ first plan + (k - extra (partly plan (first plan)))
          place = let q = lead_is in omega arith

          led : extra (partly plan (first plan)) ≤ k
          led = let q = lead_is in omega arith

          pub at_last_store : k < count_of c.op → la < fi + (k - lead) → Store la ≡ access_at c.op k
          at_last_store l2 h = ap Store el ∙ sym (nth_last_store plan wide some w k led l2 (let q = place in omega arith))

          pub at_last_load : {d : Bool} → fi + (k - lead) ≡ la → fi < la → d ≡ partly plan la → d ≡ true → Load la ≡ access_at c.op k
          at_last_load {d} h o ed t =
              ap Load el ∙ sym (nth_last_load plan wide some w k led (sym place ∙ h ∙ el) (omega arith) (ap (partly plan) (sym el) ∙ sym ed ∙ t))

          -- a store that no load comes before: not at the last unit, or that is the first, or it takes no load
          at_store : fi + (k - lead) ≤ la → (first plan + (k - extra (partly plan (first plan))) ≡ last plan → first plan < last plan → partly plan (last plan) ≡ false)
              → Store (fi + (k - lead)) ≡ access_at c.op k
          at_store h n = ap Store place ∙ sym (nth_store plan wide some w k led (let q = place in omega arith) n)

          pub at_covered : {d : Bool} → fi + (k - lead) ≡ la → d ≡ partly plan la → d ≡ false → Store (fi + (k - lead)) ≡ access_at c.op k
          at_covered {d} h ed t = at_store (omega arith) (λ _ _. ap (partly plan) (sym el) ∙ sym ed ∙ t)

          pub at_only : fi + (k - lead) ≡ la → la ≤ fi → Store (fi + (k - lead)) ≡ access_at c.op k
          at_only h o = at_store (omega arith) (λ _ q. absurd (no q))
            where
              no : first plan < last plan → ⊥
              no q = omega arith

          pub at_middle : fi + (k - lead) ≤ la → (fi + (k - lead) ≡ la → ⊥) → Store (fi + (k - lead)) ≡ access_at c.op k
          at_middle h n = at_store h (λ q _. absurd (n (place ∙ q ∙ sym el)))
