-- The list of accesses from a unit on. Every unit gives one access; one more stands before the first unit's, and one before the last unit's,
-- where a write loads it first. So the count is a sum of three, and the k-th access is found without walking the list.
-- Assumes nothing.
use mathlib.Core.Path.{◌≡◌, refl, sym, ap, ◌∙◌}
use mathlib.Core.Bool.{Bool, true, false}
use mathlib.Core.List.{List, [], ◌∷◌, ◌++◌}
use Prim.Native.Nat.{ℕ, zero, suc, ◌+◌, ◌-◌, ◌≤◌, ◌<◌}
use native.Mathlib.Omega.{arith}
use lib.ListN.{length, get_or, length-append, get_or-append}
use lib.Seq.{get_or-append-add}
use Rattle.bits.proofs.Laws.{eq_cases, lt_cases}
use Rattle.field_unit.specs.Accesses.{Plan, first, last, units, unit_of, unit_accesses, partly, accesses_from, accesses}
use Rattle.field_unit.specs.declared.access.Access.{Access}
use Rattle.field_unit.specs.declared.access.Access.TheVariants.{Load, Store}
use Rattle.field_unit.proofs.Accepted.{first_last}
use Rattle.field_unit.proofs.Units.{extra, unit_read, unit_partly, unit_stored, unit_count, partly_read, middle_stored}

-- ---- one unit on

pub from_none : (p : Plan) (u : ℕ) → accesses_from p u 0 ≡ []
unfolding accesses_from
from_none p u = refl

from_one : (p : Plan) (u m : ℕ) → accesses_from p u (suc m) ≡ unit_accesses p u ++ accesses_from p (suc u) m
unfolding accesses_from
from_one p u m = refl

-- past unit l there is none
pub from_over : (p : Plan) (u l : ℕ) → l < u → accesses_from p u (l + 1 - u) ≡ []
from_over p u l h = let e : l + 1 - u ≡ 0 = omega arith in ap (accesses_from p u) e ∙ from_none p u

pub from_step : (p : Plan) (u l : ℕ) → u ≤ l → accesses_from p u (l + 1 - u) ≡ unit_accesses p u ++ accesses_from p (u + 1) (l + 1 - (u + 1))
from_step p u l h =
    let e : l + 1 - u ≡ suc (l + 1 - (u + 1)) = omega arith in
    let f : suc u ≡ u + 1 = omega arith in
    ap (accesses_from p u) e
    ∙ from_one p u (l + 1 - (u + 1))
    ∙ ap (λ (x : ℕ). unit_accesses p u ++ accesses_from p x (l + 1 - (u + 1))) f

-- ---- how many

pub from_count : (p : Plan) (u l : ℕ) → u ≤ l
    → length (accesses_from p u (l + 1 - u)) ≡ 1 + extra (partly p u) + length (accesses_from p (u + 1) (l + 1 - (u + 1)))
from_count p u l h =
    ap length (from_step p u l h)
    ∙ length-append (unit_accesses p u) (accesses_from p (u + 1) (l + 1 - (u + 1)))
    ∙ ap (λ (n : ℕ). n + length (accesses_from p (u + 1) (l + 1 - (u + 1)))) (unit_count p u)

-- m units past the first, the last among them
tail_count : (p : Plan) (m u : ℕ) → 0 < p.width → 1 ≤ p.size → first p < u → u + m ≡ last p → length (accesses_from p u (suc m)) ≡ suc m + extra (partly p (last p))
tail_count p zero u h g a e =
    ap length (from_one p u 0)
    ∙ length-append (unit_accesses p u) (accesses_from p (suc u) 0)
    ∙ (let l : u ≡ last p = omega arith in
    omega (arith, unit_count p u, ap length (from_none p (suc u)), ap (λ (v : ℕ). extra (partly p v)) l))
tail_count p (suc m) u h g a e =
    ap length (from_one p u (suc m))
    ∙ length-append (unit_accesses p u) (accesses_from p (suc u) (suc m))
    ∙ omega (arith, unit_count p u, ap extra (middle_stored p u h g a (omega arith)), tail_count p m (suc u) h g (omega arith) (omega arith))

pub count_one : (p : Plan) → first p ≡ last p → length (accesses p) ≡ 1 + extra (partly p (first p))
count_one p e =
    from_count p (first p) (last p) (omega arith)
    ∙ (let z : length (accesses_from p (first p + 1) (last p + 1 - (first p + 1))) ≡ 0 = ap length (from_over p (first p + 1) (last p) (omega arith)) in omega arith)

pub count_many : (p : Plan) → 0 < p.width → 1 ≤ p.size → first p < last p
    → length (accesses p) ≡ last p - first p + 1 + extra (partly p (first p)) + extra (partly p (last p))
count_many p h g e =
    from_count p (first p) (last p) (omega arith)
    ∙ (let m : last p + 1 - (first p + 1) ≡ suc (last p - (first p + 1)) = omega arith in
    omega (arith, ap (λ (k : ℕ). length (accesses_from p (first p + 1) k)) m, tail_count p (last p - (first p + 1)) (first p + 1) h g (omega arith) (omega arith)))

-- a read loads each unit once
pub count_read : (p : Plan) → 0 < p.width → 1 ≤ p.size → p.write ≡ false → length (accesses p) ≡ last p - first p + 1
count_read p h g w =
    let a = ap extra (partly_read p (first p) w) in
    let b = ap extra (partly_read p (last p) w) in
    let l = first_last p.width p.offset p.size h g in
    eq_cases (first p) (last p) _ (λ e. omega (arith, count_one p e)) (λ d. omega (arith, count_many p h g (omega arith)))

-- ---- which is the k-th

-- the default: it stands nowhere in the list
abbrev pub nth : List Access → ℕ → Access
nth l k = get_or l k (Load 0)

read_from : (p : Plan) (m u k : ℕ) → p.write ≡ false → k < m → nth (accesses_from p u m) k ≡ Load (u + k)
read_from p zero u k w h = let no : ⊥ = omega arith in absurd no
read_from p (suc m) u zero w h =
    ap (λ (l : List Access). nth l 0) (from_one p u m ∙ ap (λ (l : List Access). l ++ accesses_from p (suc u) m) (unit_read p u w))
    ∙ ap Load (let e : u ≡ u + 0 = omega arith in e)
read_from p (suc m) u (suc k) w h =
    ap (λ (l : List Access). nth l (suc k)) (from_one p u m ∙ ap (λ (l : List Access). l ++ accesses_from p (suc u) m) (unit_read p u w))
    ∙ read_from p m (suc u) k w (omega arith)
    ∙ ap Load (let e : suc u + k ≡ u + suc k = omega arith in e)

pub nth_read : (p : Plan) (k : ℕ) → 0 < p.width → 1 ≤ p.size → p.write ≡ false → k < length (accesses p) → nth (accesses p) k ≡ Load (first p + k)
nth_read p k h g w l =
    read_from p (units p) (first p) k w (omega (arith, count_read p h g w, first_last p.width p.offset p.size h g))

-- a write's first unit: a load where it is partly covered, then its store
pub nth_lead : (p : Plan) → first p ≤ last p → partly p (first p) ≡ true → nth (accesses p) 0 ≡ Load (first p)
nth_lead p h e =
    ap (λ (l : List Access). nth l 0)
    (from_step p (first p) (last p) h ∙ ap (λ (l : List Access). l ++ accesses_from p (first p + 1) (last p + 1 - (first p + 1))) (unit_partly p (first p) e))

-- what follows that load
after_lead : (p : Plan) (k : ℕ) → first p ≤ last p → p.write ≡ true → extra (partly p (first p)) ≤ k
    → nth (accesses p) k ≡ nth (Store (first p) ∷ accesses_from p (first p + 1) (last p + 1 - (first p + 1))) (k - extra (partly p (first p)))
after_lead p k h w l =
    ap (λ (x : List Access). nth x k) (from_step p (first p) (last p) h) ∙ go (partly p (first p)) refl
  where
    rest : List Access
    rest = accesses_from p (first p + 1) (last p + 1 - (first p + 1))

    loaded : (k : ℕ) → 1 ≤ k → nth (Load (first p) ∷ Store (first p) ∷ rest) k ≡ nth (Store (first p) ∷ rest) (k - 1)
    loaded zero h = let no : ⊥ = omega arith in absurd no
    loaded (suc k) h = ap (nth (Store (first p) ∷ rest)) (let e : k ≡ suc k - 1 = omega arith in e)

    go : (t : Bool) → partly p (first p) ≡ t → nth (unit_accesses p (first p) ++ rest) k ≡ nth (Store (first p) ∷ rest) (k - extra (partly p (first p)))
    go true e =
        let one : extra (partly p (first p)) ≡ 1 = ap extra e in
        ap (λ (x : List Access). nth (x ++ rest) k) (unit_partly p (first p) e)
        ∙ loaded k (omega arith)
        ∙ ap (λ (i : ℕ). nth (Store (first p) ∷ rest) (k - i)) (sym one)
    go false e =
        let none : k ≡ k - extra (partly p (first p)) = omega (arith, ap extra e) in
        ap (λ (x : List Access). nth (x ++ rest) k) (unit_stored p (first p) w e)
        ∙ ap (nth (Store (first p) ∷ rest)) none

-- past the first unit, the units of a write follow each other; m of them, then the last
module _ (p : Plan) (h : 0 < p.width) (g : 1 ≤ p.size) (w : p.write ≡ true) where
  tail_next : (m u k : ℕ) → first p < u → u + suc m ≡ last p → nth (accesses_from p u (suc (suc m))) (suc k) ≡ nth (accesses_from p (suc u) (suc m)) k
  tail_next m u k a e =
      ap (λ (l : List Access). nth l (suc k))
      (from_one p u (suc m)
      ∙ ap (λ (l : List Access). l ++ accesses_from p (suc u) (suc m)) (unit_stored p u w (middle_stored p u h g a (omega arith))))

  tail_here : (m u : ℕ) → partly p u ≡ false → nth (accesses_from p u (suc m)) 0 ≡ Store u
  tail_here m u e = ap (λ (l : List Access). nth l 0) (from_one p u m ∙ ap (λ (l : List Access). l ++ accesses_from p (suc u) m) (unit_stored p u w e))

  tail_store : (m u k : ℕ) → first p < u → u + m ≡ last p → k ≤ m → (u + k ≡ last p → partly p (last p) ≡ false)
      → nth (accesses_from p u (suc m)) k ≡ Store (u + k)
  tail_store m u zero a e l s =
      let z : u ≡ u + 0 = omega arith in
      tail_here m u
      (eq_cases u (last p) (partly p u ≡ false) (λ q. ap (partly p) q ∙ s (omega arith)) (λ d. middle_stored p u h g a (omega arith)))
      ∙ ap Store z
  tail_store zero u (suc k) a e l s = let no : ⊥ = omega arith in absurd no
  tail_store (suc m) u (suc k) a e l s =
      let f : suc u + k ≡ u + suc k = omega arith in
      tail_next m u k a e
      ∙ tail_store m (suc u) k (omega arith) (omega arith) (omega arith) (λ q. s (omega arith))
      ∙ ap Store f

  -- a last unit that is loaded first
  tail_last : (m u i : ℕ) → first p < u → u + m ≡ last p → partly p (last p) ≡ true
      → nth (accesses_from p u (suc m)) (m + i) ≡ nth (Load (last p) ∷ Store (last p) ∷ []) i
  tail_last zero u i a e s =
      let q : u ≡ last p = omega arith in
      let z : 0 + i ≡ i = omega arith in
      ap (nth (accesses_from p u 1)) z
      ∙ ap (λ (v : ℕ). nth (accesses_from p v 1) i) q
      ∙ ap (λ (l : List Access). nth l i)
      (from_one p (last p) 0
      ∙ ap (λ (l : List Access). l ++ accesses_from p (suc (last p)) 0) (unit_partly p (last p) s)
      ∙ ap (λ (l : List Access). Load (last p) ∷ Store (last p) ∷ l) (from_none p (suc (last p))))
  tail_last (suc m) u i a e s =
      let z : suc m + i ≡ suc (m + i) = omega arith in
      ap (nth (accesses_from p u (suc (suc m)))) z
      ∙ tail_next m u (m + i) a e
      ∙ tail_last m (suc u) i (omega arith) (omega arith) s

  -- access k stands at unit first + (k - extra), where no second access of the first unit came before it
  body : (k : ℕ) → extra (partly p (first p)) ≤ k
      → nth (accesses p) k ≡ nth (Store (first p) ∷ accesses_from p (first p + 1) (last p + 1 - (first p + 1))) (k - extra (partly p (first p)))
  body k l = after_lead p k (first_last p.width p.offset p.size h g) w l

  pub nth_store : (k : ℕ) → extra (partly p (first p)) ≤ k → first p + (k - extra (partly p (first p))) ≤ last p
      → (first p + (k - extra (partly p (first p))) ≡ last p → first p < last p → partly p (last p) ≡ false)
      → nth (accesses p) k ≡ Store (first p + (k - extra (partly p (first p))))
  nth_store k l b s = body k l ∙ go (k - extra (partly p (first p))) b s
    where
      go : (i : ℕ) → first p + i ≤ last p → (first p + i ≡ last p → first p < last p → partly p (last p) ≡ false)
          → nth (Store (first p) ∷ accesses_from p (first p + 1) (last p + 1 - (first p + 1))) i ≡ Store (first p + i)
      go zero b s = let z : first p ≡ first p + 0 = omega arith in ap Store z
      go (suc i) b s =
          let m : last p + 1 - (first p + 1) ≡ suc (last p - (first p + 1)) = omega arith in
          let f : first p + 1 + i ≡ first p + suc i = omega arith in
          ap (λ (n : ℕ). nth (accesses_from p (first p + 1) n) i) m
          ∙ tail_store (last p - (first p + 1)) (first p + 1) i (omega arith) (omega arith) (omega arith) (λ q. s (omega arith) (omega arith))
          ∙ ap Store f

  last_two : (k i : ℕ) → extra (partly p (first p)) ≤ k → k - extra (partly p (first p)) ≡ last p - first p + i → first p < last p → partly p (last p) ≡ true
      → nth (accesses p) k ≡ nth (Load (last p) ∷ Store (last p) ∷ []) i
  last_two k i l q f s =
      let z : k - extra (partly p (first p)) ≡ suc (last p - (first p + 1) + i) = omega arith in
      let m : last p + 1 - (first p + 1) ≡ suc (last p - (first p + 1)) = omega arith in
      body k l
      ∙ ap (nth (Store (first p) ∷ accesses_from p (first p + 1) (last p + 1 - (first p + 1)))) z
      ∙ ap (λ (n : ℕ). nth (accesses_from p (first p + 1) n) (last p - (first p + 1) + i)) m
      ∙ tail_last (last p - (first p + 1)) (first p + 1) i (omega arith) (omega arith) s

  pub nth_last_load : (k : ℕ) → extra (partly p (first p)) ≤ k → first p + (k - extra (partly p (first p))) ≡ last p → first p < last p → partly p (last p) ≡ true
      → nth (accesses p) k ≡ Load (last p)
  nth_last_load k l q f s = last_two k 0 l (omega arith) f s

  -- one past the last unit there is the last unit's store
  pub nth_last_store : (k : ℕ) → extra (partly p (first p)) ≤ k → k < length (accesses p) → last p < first p + (k - extra (partly p (first p)))
      → nth (accesses p) k ≡ Store (last p)
  nth_last_store k l c b = eq_cases (first p) (last p) _ (λ e. let no : ⊥ = omega (arith, count_one p e) in absurd no) (λ d. go (partly p (last p)) refl (omega (arith, first_last p.width p.offset p.size h g)))
    where
      go : (t : Bool) → partly p (last p) ≡ t → first p < last p → nth (accesses p) k ≡ Store (last p)
      go true e f = last_two k 1 l (omega (arith, count_many p h g f, ap extra e)) f e
      go false e f = let no : ⊥ = omega (arith, count_many p h g f, ap extra e) in absurd no

-- ---- where each stands

of_unit : (p : Plan) (u k : ℕ) → k < length (unit_accesses p u) → unit_of (nth (unit_accesses p u) k) ≡ u
of_unit p u k h = by_write p.write refl
  where
    two : (k : ℕ) → k < 2 → unit_of (nth (Load u ∷ Store u ∷ []) k) ≡ u
    two zero h = refl
    two (suc zero) h = refl
    two (suc (suc k)) h = let no : ⊥ = omega arith in absurd no

    one : (a : Access) → unit_of a ≡ u → (k : ℕ) → k < 1 → unit_of (nth (a ∷ []) k) ≡ u
    one a e zero h = e
    one a e (suc k) h = let no : ⊥ = omega arith in absurd no

    alone : (a : Access) → unit_of a ≡ u → unit_accesses p u ≡ a ∷ [] → unit_of (nth (unit_accesses p u) k) ≡ u
    alone a e q = ap (λ (l : List Access). unit_of (nth l k)) q ∙ one a e k (omega (arith, ap length q))

    by_partly : (t : Bool) → partly p u ≡ t → p.write ≡ true → unit_of (nth (unit_accesses p u) k) ≡ u
    by_partly true e w =
        ap (λ (l : List Access). unit_of (nth l k)) (unit_partly p u e) ∙ two k (omega (arith, ap length (unit_partly p u e)))
    by_partly false e w = alone (Store u) refl (unit_stored p u w e)

    by_write : (t : Bool) → p.write ≡ t → unit_of (nth (unit_accesses p u) k) ≡ u
    by_write true w = by_partly (partly p u) refl w
    by_write false w = alone (Load u) refl (unit_read p u w)

from_inside : (p : Plan) (m u k : ℕ) → k < length (accesses_from p u m)
    → (u ≤ unit_of (nth (accesses_from p u m) k)) × (unit_of (nth (accesses_from p u m) k) < u + m)
from_inside p zero u k h = let no : ⊥ = omega (arith, ap length (from_none p u)) in absurd no
from_inside p (suc m) u k h =
    let n = length (unit_accesses p u) in
    let c = ap length (from_one p u m) ∙ length-append (unit_accesses p u) (accesses_from p (suc u) m) in
    lt_cases k n _
    (λ l.
    let e = ap (λ (x : List Access). unit_of (nth x k)) (from_one p u m)
    ∙ ap unit_of (get_or-append (unit_accesses p u) (accesses_from p (suc u) m) (Load 0) k l)
    ∙ of_unit p u k l in
    (omega arith, omega arith))
    (λ l.
    let i : k ≡ n + (k - n) = omega arith in
    let e = ap (λ (x : List Access). unit_of (nth x k)) (from_one p u m)
    ∙ ap (λ (j : ℕ). unit_of (nth (unit_accesses p u ++ accesses_from p (suc u) m) j)) i
    ∙ ap unit_of (get_or-append-add (unit_accesses p u) (accesses_from p (suc u) m) (k - n) (Load 0)) in
    let r = from_inside p m (suc u) (k - n) (omega arith) in
    (omega arith, omega arith))

-- every access is of a unit of the field
pub nth_unit : (p : Plan) (k : ℕ) → 0 < p.width → 1 ≤ p.size → k < length (accesses p)
    → (first p ≤ unit_of (nth (accesses p) k)) × (unit_of (nth (accesses p) k) ≤ last p)
nth_unit p k h g l =
    let r = from_inside p (units p) (first p) k l in
    let f = first_last p.width p.offset p.size h g in
    (r.0, omega arith)
