-- What a host's value is decides what a call answers: of a kind that there is, what the call makes of it; and else that there is none.
-- Assumes nothing.
use Prim.Native.Nat.{ℕ}
use native.Mathlib.Omega.{arith}
use mathlib.Core.Path.{◌≡◌, refl, sym, ap, ◌∙◌}
use mathlib.Core.Bool.{Bool, true, false, cond, ◌&&◌}
use Rattle.types.specs.declared.value.AmlType.{AmlType}
use Rattle.types.specs.declared.value.AmlValue.{AmlValue}
use Rattle.types.specs.Values.{is_type, type_named, type_at}
use Rattle.types.specs.declared.value.NoType.{NoType}
use Rattle.link.specs.Values.{is_kind, value_of, with_value, with_both, with_type}
use Rattle.std.specs.Prelude.{Option, Some, None, Result, Ok, Err}
use Rattle.link.specs.declared.given.HostValue.{HostValue}

-- ---- a look

-- what is told of cond b (a value) (no kind) holds of what is made of it
module _ {A : Type 0} (f : AmlValue → A) (z : A) (v : AmlValue) where
  told_no : (b : Bool) → cond b (Some v) None ≡ None → cond b (f v) z ≡ z
  told_no true e = absurd (let no : ◌≡◌ {A = ℕ} 0 1 = cc in omega arith)
  told_no false e = refl

  told_yes : (b : Bool) {w : AmlValue} → cond b (Some v) None ≡ Some w → cond b (f v) z ≡ f w
  told_yes true {w} e = let same : v ≡ w = cc in ap f same
  told_yes false e = absurd (let no : ◌≡◌ {A = ℕ} 0 1 = cc in omega arith)

module _ {A : Type 0} (f : AmlType → A) (z : A) (n : ℕ) where
  type_no : (b : Bool) {r : NoType} → cond {A = Result AmlType NoType} b (Ok (type_named n)) (Err (record { 0 = n })) ≡ Err r → cond b (f (type_named n)) z ≡ z
  type_no true e = absurd (let no : ◌≡◌ {A = ℕ} 0 1 = cc in omega arith)
  type_no false e = refl

  type_yes : (b : Bool) {t : AmlType} → cond {A = Result AmlType NoType} b (Ok (type_named n)) (Err (record { 0 = n })) ≡ Ok t → cond b (f (type_named n)) z ≡ f t
  type_yes true {t} e = let same : type_named n ≡ t = cc in ap f same
  type_yes false e = absurd (let no : ◌≡◌ {A = ℕ} 0 1 = cc in omega arith)

-- two tests in turn
in_turn : {A : Type 0} (a b : Bool) (t z : A) → cond (a && b) t z ≡ cond a (cond b t z) z
in_turn true b t z = refl
in_turn false b t z = refl

-- ---- one value

module _ {A : Type 0} (h : HostValue) (f : AmlValue → A) (z : A) {g : Option AmlValue} (e : g ≡ with_value h Some None) where
  pub no_value : g ≡ None → with_value h f z ≡ z
  unfolding with_value
  no_value p = told_no f z (value_of h) (is_kind h.kind) (sym e ∙ p)

  pub is_value : {v : AmlValue} → g ≡ Some v → with_value h f z ≡ f v
  unfolding with_value
  is_value p = told_yes f z (value_of h) (is_kind h.kind) (sym e ∙ p)

-- ---- two

module _ {A : Type 0} (l r : HostValue) (f : AmlValue → AmlValue → A) (z : A) where
  both_in_turn : with_both l r f z ≡ with_value l (λ v. with_value r (f v) z) z
  unfolding with_value with_both
  both_in_turn = in_turn (is_kind l.kind) (is_kind r.kind) (f (value_of l) (value_of r)) z

  module _ {g : Option AmlValue} (e : g ≡ with_value l Some None) where
    pub no_left : g ≡ None → with_both l r f z ≡ z
    no_left p = both_in_turn ∙ no_value l (λ v. with_value r (f v) z) z e p

    module _ {v : AmlValue} (p : g ≡ Some v) {k : Option AmlValue} (d : k ≡ with_value r Some None) where
      pub no_right : k ≡ None → with_both l r f z ≡ z
      no_right q = both_in_turn ∙ is_value l (λ v. with_value r (f v) z) z e p ∙ no_value r (f v) z d q

      pub are_values : {w : AmlValue} → k ≡ Some w → with_both l r f z ≡ f v w
      are_values q = both_in_turn ∙ is_value l (λ v. with_value r (f v) z) z e p ∙ is_value r (f v) z d q

-- ---- a value and a type

module _ {A : Type 0} (h : HostValue) (n : ℕ) (f : AmlValue → AmlType → A) (z : A) {g : Option AmlValue} (e : g ≡ with_value h Some None) where
  abbrev typed : AmlValue → A
  typed v = cond (is_type n) (f v (type_named n)) z

  type_in_turn : with_type h n f z ≡ with_value h typed z
  unfolding with_value with_type
  type_in_turn = in_turn (is_kind h.kind) (is_type n) (f (value_of h) (type_named n)) z

  pub no_kind : g ≡ None → with_type h n f z ≡ z
  no_kind p = type_in_turn ∙ no_value h typed z e p

  module _ {v : AmlValue} (p : g ≡ Some v) {k : Result AmlType NoType} (d : k ≡ type_at n) where
    pub no_type : {r : NoType} → k ≡ Err r → with_type h n f z ≡ z
    no_type q = type_in_turn ∙ is_value h typed z e p ∙ type_no (f v) z n (is_type n) (sym d ∙ q)

    pub is_named : {t : AmlType} → k ≡ Ok t → with_type h n f z ≡ f v t
    is_named q = type_in_turn ∙ is_value h typed z e p ∙ type_yes (f v) z n (is_type n) (sym d ∙ q)
