-- The loop over a write's units: what is left of the list of accesses, run from here, is the whole list run from the start.
-- Assumes nothing.
use mathlib.Core.Path.{◌≡◌, sym, ap, ◌∙◌}
use mathlib.Core.Bool.{Bool, true, false, cond}
use mathlib.Core.List.{List, []}
use Prim.Native.Nat.{ℕ, ◌+◌, ◌-◌, ◌≤◌, ◌<◌}
use native.Mathlib.Omega.{arith}
use lib.ListN.{length, length-append}
use Rattle.bits.specs.Bits.{get_bits}
use Rattle.field_unit.specs.Accesses.{Plan, Progress, progress, opening, base, last, partly, unit_accesses, accesses_from, accesses, gathered, act, acts, whole}
use Rattle.field_unit.specs.declared.access.Access.{Access}
use Rattle.field_unit.specs.declared.access.Access.TheVariants.{Load, Store}
use Rattle.field_unit.proofs.Running.{acts_append}
use Rattle.field_unit.proofs.Units.{extra, unit_partly, unit_stored, unit_count}
use Rattle.field_unit.proofs.Listing.{from_over, from_step}

abbrev pub left : Plan → ℕ → List Access
left p u = accesses_from p u (last p + 1 - u)

-- a unit's accesses: what is stored goes by what its load holds, if it has one
unit_done : (p : Plan) (u h : ℕ) (s t : List ℕ) (b : Bool) → p.write ≡ true → b ≡ partly p u
    → h ≡ cond b (get_bits s (base p u) p.width) 0 → t ≡ (act p (Store u) (progress s h)).region
    → acts p (unit_accesses p u) (opening s) ≡ opening t
unfolding act acts
unit_done p u h s t true w b k e =
    ap (λ (l : List Access). acts p l (opening s)) (unit_partly p u (sym b))
    ∙ ap (λ (v : Bool). act p (Store u) (progress s (cond v (get_bits s (base p u) p.width) (gathered p u 0 (get_bits s (base p u) p.width))))) w
    ∙ ap (λ (x : ℕ). act p (Store u) (progress s x)) (sym k)
    ∙ ap opening (sym e)
unit_done p u h s t false w b k e =
    ap (λ (l : List Access). acts p l (opening s)) (unit_stored p u w (sym b))
    ∙ ap (λ (x : ℕ). act p (Store u) (progress s x)) (sym k)
    ∙ ap opening (sym e)

-- what a write's load leaves: the region as it was, and the unit held
pub loaded : (p : Plan) (u h x : ℕ) (s t : List ℕ) → p.write ≡ true → progress t x ≡ act p (Load u) (progress s h) → (t ≡ s) × (x ≡ get_bits s (base p u) p.width)
unfolding act
loaded p u h x s t w e =
    let g = get_bits s (base p u) p.width in
    (ap (λ (y : Progress). y.region) e, ap (λ (y : Progress). y.held) e ∙ ap (λ (v : Bool). cond v g (gathered p u h g)) w)

-- of a write of region s the loop stands at unit u, with region t; n are the stores of all units and the loads made
pub record Writing (p : Plan) (s t : List ℕ) (u n : ℕ) : Type 0 where
  pub rest : acts p (left p u) (opening t) ≡ whole p s
  pub counted : n + length (left p u) ≡ length (accesses p) + (last p + 1 - u)

module _ (p : Plan) (s t : List ℕ) (u n : ℕ) (i : Writing p s t u n) where
  pub writing_next : (r : List ℕ) (h m : ℕ) (b : Bool) → p.write ≡ true → u ≤ last p → b ≡ partly p u
      → h ≡ cond b (get_bits t (base p u) p.width) 0 → m ≡ n + extra b → r ≡ (act p (Store u) (progress t h)).region
      → Writing p s r (u + 1) m
  writing_next r h m b w l eb eh em er =
      let q = from_step p u (last p) l in
      record {
        rest =
            ap (acts p (left p (u + 1))) (sym (unit_done p u h t r b w eb eh er))
            ∙ sym (acts_append p (unit_accesses p u) (left p (u + 1)) (opening t))
            ∙ ap (λ (x : List Access). acts p x (opening t)) (sym q)
            ∙ i.rest;
        counted = omega (arith, i.counted, ap length q, length-append (unit_accesses p u) (left p (u + 1)), unit_count p u, ap extra eb);
      }

  pub writing_over : last p < u → (n ≡ length (accesses p)) × (t ≡ (whole p s).region)
  unfolding acts
  writing_over l =
      let q : left p u ≡ [] = from_over p u (last p) l in (
        omega (arith, i.counted, ap length q),
        ap (λ (y : Progress). y.region) (ap (λ (y : List Access). acts p y (opening t)) (sym q) ∙ i.rest),
      )
