-- After any number of calls the state is the ended operations run whole, then the stores of those under way. A cell belongs to at most one write with
-- an access made: there its stores, put in place after the ended operations, leave what the state has (over_mine). Every other cell is as the ended
-- operations left it (over_clear).
-- Assumes nothing.
use Prim.Native.Nat.{ℕ, zero, suc, ◌<◌, ◌≤◌}
use native.Mathlib.Omega.{arith}
use native.Mathlib.Decide.{ℕ_discrete, dec_lt}
use mathlib.Core.Path.{◌≡◌, refl, sym, ap, ◌∙◌, subst}
use mathlib.Core.Logic.Dec
use mathlib.Core.Logic.{◌⊎◌, inl, inr}
use mathlib.Core.Bool.{Bool, true, false, cond, true≢false, Bool-discrete}
use mathlib.Core.List.{List}
use Rattle.together.specs.System.{System, Laws, Agree, put_all, Slot, Ended, Active, ops_of, Apart, overlay, AtEveryMoment, OnceAllEnded}
use Rattle.together.proofs.Alone.{stores_of, stored, put_all_keeps, put_all_good, stores_frame, stores_quiet, first_local, stores_local, whole_keeps, whole_good}
use Rattle.together.proofs.Invariant.{Slots, Fine, Mine, after, Inv, by_made, inv_run}

module _ (S : System) (L : Laws S) where
  open S use {State, Cell, at, shape, Good, Touch, Writes}

  module _ (ρ : State) (gρ : Good ρ) (t : Slots S) (s : State) (l : List (Ended S)) (v : Inv S ρ t s l) (apart : Apart S t) where
    abbrev ended : State
    ended = after S ρ l

    -- ---- one task's stores

    over_one_good : (x : Slot S) (τ : State) → Good τ → Good (cond x.busy (put_all S x.done τ) τ)
    over_one_good x τ g = go x.busy
      where
        go : (b : Bool) → Good (cond b (put_all S x.done τ) τ)
        go true = put_all_good S L x.done τ g
        go false = g

    -- they change only its own cells
    over_one : (x : Slot S) → Fine S ended s x → (τ : State) → Good τ → (c : Cell) → (Mine S x c → ⊥)
        → at (cond x.busy (put_all S x.done τ) τ) c ≡ at τ c
    over_one x f τ g c n = go x.busy refl
      where
        on : Active S x → Dec (Writes x.op) → at (put_all S (stores_of S x.op x.made ended) τ) c ≡ at τ c
        on a (yes w) = stores_frame S L x.op ended x.made τ g c (λ p. n (a, (w, p)))
        on a (no w) = ap (λ xs. at (put_all S xs τ) c) (stores_quiet S L x.op ended x.made w)

        go : (b : Bool) → x.busy ≡ b → at (cond x.busy (put_all S x.done τ) τ) c ≡ at τ c
        go false e = rw e refl
        go true e =
            rw (e, f.done e)
            (by_made S _ x e (λ z. ap (λ k. at (put_all S (stores_of S x.op k ended) τ) c) z) (λ a. on a (L.writes? x.op)))

    -- ---- those of the first n tasks

    over_good : (n : ℕ) → Good (overlay S t n ended)
    over_good zero = whole_good S L (ops_of S l) ρ gρ
    over_good (suc n) = over_one_good (t n) (overlay S t n ended) (over_good n)

    over_keeps : (n : ℕ) → shape (overlay S t n ended) ≡ shape ended
    over_keeps zero = refl
    over_keeps (suc n) = go (t n).busy ∙ over_keeps n
      where
        go : (b : Bool) → shape (cond b (put_all S (t n).done (overlay S t n ended)) (overlay S t n ended)) ≡ shape (overlay S t n ended)
        go false = refl
        go true = put_all_keeps S L (t n).done (overlay S t n ended)

    over_clear : (n : ℕ) (x : Cell) → ((j : ℕ) → j < n → Mine S (t j) x → ⊥) → at (overlay S t n ended) x ≡ at ended x
    over_clear zero x h = refl
    over_clear (suc n) x h = over_one (t n) (v.fine n) _ (over_good n) x (h n (omega arith)) ∙ over_clear n x (λ j p. h j (omega arith))

    -- two tasks with an access made, one of them writing, share no cell
    disjoint : (i j : ℕ) → (i ≡ j → ⊥) → (x : Cell) → Mine S (t i) x → Active S (t j) → Touch (t j).op x → ⊥
    disjoint i j n x y b q = let k = apart i j n y.0.0 b.0 x y.1.1 q (inl y.1.0) in v.one i j n (y.0, k.0) (b, k.1)

    -- a write's own cells are as the state has them
    over_mine : (n : ℕ) (x : Cell) → Mine S (t n) x → at (overlay S t (suc n) ended) x ≡ at s x
    over_mine n x (a, (w, p)) =
        rw (a.0, (v.fine n).done a.0, stores_local S L (t n).op (t n).made ended (overlay S t n ended) agree, stored S (t n).op (t n).made (overlay S t n ended))
        (sym ((first_local S L (t n).op (t n).made ended (overlay S t n ended) agree).1.on x p) ∙ sym (((v.fine n).seen a).on x p))
      where
        agree : Agree S (t n).op ended (overlay S t n ended)
        agree = record { same = sym (over_keeps n); on = λ y q. sym (over_clear n y (λ j b c. disjoint j n (λ e. omega arith) y c a q)) }

    mine? : (y : Slot S) (x : Cell) → Dec (Mine S y x)
    mine? y x = Dec.and (Dec.and (Bool-discrete y.busy true) (dec_lt 0 y.made)) (Dec.and (L.writes? y.op) (L.touch? y.op x))

    abbrev Clear : ℕ → Cell → Type 0
    Clear n x = (j : ℕ) → j < n → Mine S (t j) x → ⊥

    over : (n : ℕ) (x : Cell) → Clear n x ⊎ (at (overlay S t n ended) x ≡ at s x)
    over zero x = inl (λ j p. absurd (omega arith))
    over (suc n) x = go (mine? (t n) x) (over n x)
      where
        go : Dec (Mine S (t n) x) → Clear n x ⊎ (at (overlay S t n ended) x ≡ at s x) → Clear (suc n) x ⊎ (at (overlay S t (suc n) ended) x ≡ at s x)
        go (yes m) r = inr (over_mine n x m)
        go (no f) (inl h) = inl (λ j p. below j p (ℕ_discrete j n))
          where
            below : (j : ℕ) → j < suc n → Dec (j ≡ n) → Mine S (t j) x → ⊥
            below j p (yes e) m = f (subst (λ k. Mine S (t k) x) e m)
            below j p (no e) m = h j (omega arith) m
        go (no f) (inr e) = inr (over_one (t n) (v.fine n) _ (over_good n) x f ∙ e)

    state_is : (n : ℕ) → ((j : ℕ) → n ≤ j → (t j).busy ≡ false) → s ≡ overlay S t n ended
    state_is n idle =
        L.ext s _ v.good (over_good n) (v.shaped ∙ sym (whole_keeps S L (ops_of S l) ρ) ∙ sym (over_keeps n)) (λ x. go x (over n x))
      where
        go : (x : Cell) → Clear n x ⊎ (at (overlay S t n ended) x ≡ at s x) → at s x ≡ at (overlay S t n ended) x
        go x (inr e) = sym e
        go x (inl h) = v.rest x (λ j y. clear j y (dec_lt j n)) ∙ sym (over_clear n x h)
          where
            clear : (j : ℕ) → Mine S (t j) x → Dec (j < n) → ⊥
            clear j y (yes q) = h j q y
            clear j y (no q) = true≢false (sym y.0.0 ∙ idle j (omega arith))

  -- ---- the theorems

  pub at_every_moment : AtEveryMoment S
  at_every_moment n c d g f r idle =
      let (v, a) = inv_run S L c d g f r in
      (state_is c.state g d.slots d.state d.log v a n idle, v.answers)

  pub once_all_ended : OnceAllEnded S
  once_all_ended c d g f r idle = at_every_moment 0 c d g f r (λ j p. idle j)
