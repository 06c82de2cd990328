-- "Held bits that no load gave count as 0": a read's load puts its bits above those that earlier loads gave and cuts what stands higher; a write's load
-- replaces what is held; a store goes by what is held only where the unit was loaded just before, and there by the unit's bits.
-- Assumes nothing.
use Prim.Native.Nat.{ℕ, zero, suc, ◌+◌, ◌-◌, ◌*◌, ◌/◌, ◌%◌, ◌^◌, ◌≤◌, ◌<◌, min, max}
use native.Mathlib.Omega.{arith}
use native.Mathlib.Nat.{zero-add, add-zero, mul-zero, suc-add, add-suc, mul-le-mul_right, div-mul-le_self, lt-div-mul-add, div-lt_iff_lt-mul, le-div_iff_mul-le}
use mathlib.Core.Path.{◌≡◌, refl, sym, ap, ◌∙◌, subst}
use mathlib.Core.Bool.{Bool, true, false, cond, ◌&&◌, not, true≢false}
use mathlib.Core.List.{List, [], ◌∷◌, ◌++◌}
use lib.Dec.{leb}
use lib.ListN.{length, get_or}
use borrow.Author.Tests.{leb-true}
use Rattle.bits.specs.Bits.{bit_of, put, from, get_bits, set_bits}
use Rattle.bits.proofs.Laws.{lt_cases, bit_of_lt, run_ext, run_bit, run_mod, put_in, put_below, put_cases, put_cong}
use Rattle.types.specs.declared.flags.FieldUpdateRule.{FieldUpdateRule}
use Rattle.types.specs.declared.flags.FieldUpdateRule.TheVariants as U
use Rattle.field_unit.specs.Accesses.{Plan, progress, first, last, units, base, lo, hi, covered, keeps, part_accesses, unit_accesses, accesses_from, gathered, others, merged, act}
use Rattle.field_unit.specs.Calls.{plan_of, count_of, access_at}
use Rattle.field_unit.specs.declared.access.Access.{Access}
use Rattle.field_unit.specs.declared.access.Access.TheVariants.{Load, Store}
use Rattle.field_unit.specs.declared.access.FieldOp.{FieldOp}
use Rattle.task.specs.Held.{Given, OnlyGivenBitsCount}
use Rattle.types.proofs.Tests.{and_both}

-- ---- how many of the held bits an access goes by

-- the unit is loaded before it is stored
abbrev loaded_first : Plan → ℕ → Bool
loaded_first p u = keeps p.rule && not (covered p u)

abbrev pub given : Plan → Access → ℕ
given p (Load u) = cond p.write 0 (lo p u - p.offset)
given p (Store u) = cond (loaded_first p u) p.width 0

-- ---- a load

no_gap : (o l h i : ℕ) → o ≤ l → l - o + (h - l) ≤ i → i < h - o → ⊥
no_gap o l h i a b c = omega arith

gathered_below : (p : Plan) (u h g x : ℕ) → ((i : ℕ) → i < lo p u - p.offset → bit_of h i ≡ bit_of g i) → gathered p u h x ≡ gathered p u g x
unfolding gathered
gathered_below p u h g x e =
    let f = from (bit_of x) (lo p u - base p u) in
    let a = lo p u - p.offset in
    let n = hi p u - lo p u in
    run_ext (put (bit_of h) a n f) (put (bit_of g) a n f) 0 0 (hi p u - p.offset)
    (λ i l. rw (zero-add i)
    (put_cases (bit_of h) a n f i (λ (y : ℕ). y ≡ put (bit_of g) a n f i)
    (λ q. e i q ∙ sym (put_below (bit_of g) a n f i q))
    (λ q r. sym (put_in (bit_of g) a n f i q r))
    (λ q. absurd (no_gap p.offset (lo p u) (hi p u) i (omega arith) q l))))

load_below : (p : Plan) (w : Bool) (u h g x : ℕ) → ((i : ℕ) → i < cond w 0 (lo p u - p.offset) → bit_of h i ≡ bit_of g i)
    → cond w x (gathered p u h x) ≡ cond w x (gathered p u g x)
load_below p true u h g x e = refl
load_below p false u h g x e = gathered_below p u h g x e

-- ---- a store

others_same : (r : FieldUpdateRule) (f g : ℕ → ℕ) (i : ℕ) → f i ≡ g i → others r f i ≡ others r g i
unfolding others
others_same U.Preserve f g i e = e
others_same U.WriteAsOnes f g i e = refl
others_same U.WriteAsZeros f g i e = refl

others_any : (r : FieldUpdateRule) (f g : ℕ → ℕ) (i : ℕ) → keeps r ≡ false → others r f i ≡ others r g i
unfolding others
others_any U.Preserve f g i e = absurd (true≢false e)
others_any U.WriteAsOnes f g i e = refl
others_any U.WriteAsZeros f g i e = refl

-- the field covers the unit from x on, of w bits
covers : (o n x w i : ℕ) → o ≤ x → x + w ≤ o + n → i < w → (max o x - x ≤ i) × (i < max o x - x + (min (o + n) (x + w) - max o x))
covers o n x w i a b l = (omega arith, omega arith)

not_first : (k c : Bool) → (k && not c) ≡ false → k ≡ true → c ≡ true
not_first true true e q = refl
not_first true false e q = sym e
not_first false c e q = absurd (true≢false (sym q))

module _ (p : Plan) (u h g : ℕ) (e : (i : ℕ) → i < given p (Store u) → bit_of h i ≡ bit_of g i) where
  -- the unit that is stored, with x held
  abbrev unit_bit : ℕ → ℕ → ℕ
  unit_bit x = put (others p.rule (bit_of x)) (lo p u - base p u) (hi p u - lo p u) (from p.bits (lo p u - p.offset))

  same_around : (i : ℕ) → others p.rule (bit_of h) i ≡ others p.rule (bit_of g) i → unit_bit h i ≡ unit_bit g i
  same_around i q = put_cong _ _ (lo p u - base p u) (hi p u - lo p u) (from p.bits (lo p u - p.offset)) i q

  loaded_bit : (i : ℕ) → i < p.width → loaded_first p u ≡ true → unit_bit h i ≡ unit_bit g i
  loaded_bit i l q = same_around i (others_same p.rule (bit_of h) (bit_of g) i (e i (rw q l)))

  covered_bit : (i : ℕ) → i < p.width → covered p u ≡ true → unit_bit h i ≡ unit_bit g i
  covered_bit i l q =
      let (a, b) = and_both (leb p.offset (base p u)) _ q in
      let (c, d) = covers p.offset p.size (base p u) p.width i (leb-true _ _ a) (leb-true _ _ b) l in
      put_in _ (lo p u - base p u) (hi p u - lo p u) (from p.bits (lo p u - p.offset)) i c d
      ∙ sym (put_in _ (lo p u - base p u) (hi p u - lo p u) (from p.bits (lo p u - p.offset)) i c d)

  unit_bit_lem : (i : ℕ) → i < p.width → unit_bit h i ≡ unit_bit g i
  unit_bit_lem i l = go (loaded_first p u) refl (keeps p.rule) refl
    where
      go : (b : Bool) → loaded_first p u ≡ b → (c : Bool) → keeps p.rule ≡ c → unit_bit h i ≡ unit_bit g i
      go true q c r = loaded_bit i l q
      go false q false r = same_around i (others_any p.rule (bit_of h) (bit_of g) i r)
      go false q true r = covered_bit i l (not_first (keeps p.rule) (covered p u) q r)

  merged_below : merged p u h ≡ merged p u g
  unfolding merged
  merged_below = run_ext (unit_bit h) (unit_bit g) 0 0 p.width (λ i l. rw (zero-add i) (unit_bit_lem i l))

-- an access goes only by that many of the held bits
pub held_below : (p : Plan) (a : Access) (s : List ℕ) (h g : ℕ) → ((i : ℕ) → i < given p a → bit_of h i ≡ bit_of g i)
    → act p a (progress s h) ≡ act p a (progress s g)
unfolding act
held_below p (Load u) s h g e = ap (λ x. progress s x) (load_below p p.write u h g (get_bits s (base p u) p.width) e)
held_below p (Store u) s h g e = ap (λ x. progress (set_bits s (base p u) p.width x) 0) (merged_below p u h g e)

-- so the others count as 0
pub held_zero : (p : Plan) (a : Access) (s : List ℕ) (h : ℕ) → act p a (progress s h) ≡ act p a (progress s (h % 2 ^ given p a))
held_zero p a s h =
    held_below p a s h (h % 2 ^ given p a)
    (λ i l. sym (ap (λ (x : ℕ). bit_of x i) (sym (run_mod h (given p a))) ∙ run_bit (bit_of h) (bit_of_lt h) 0 (given p a) i l ∙ ap (bit_of h) (zero-add i)))

-- ---- those bits were given by loads

-- the accesses of a read: one load a unit
module _ (p : Plan) (r : p.write ≡ false) where
  read_unit : (u : ℕ) → unit_accesses p u ≡ Load u ∷ []
  unfolding unit_accesses
  read_unit u = ap (λ b. cond b (cond (covered p u) (Store u ∷ []) (part_accesses p.rule u)) (Load u ∷ [])) r

  read_length : (u m : ℕ) → length (accesses_from p u m) ≡ m
  unfolding accesses_from
  read_length u zero = refl
  read_length u (suc m) = rw (read_unit u) (ap suc (read_length (suc u) m))

  read_at : (u m k : ℕ) → k < m → get_or (accesses_from p u m) k (Load 0) ≡ Load (u + k)
  unfolding accesses_from
  read_at u zero k l = absurd (omega arith)
  read_at u (suc m) zero l = rw (read_unit u, add-zero u) refl
  read_at u (suc m) (suc k) l = rw (read_unit u) (read_at (suc u) m k (omega arith) ∙ ap Load (suc-add u k ∙ sym (add-suc u k)))

module _ (w o n k i : ℕ) (inside : o / w + k ≤ (o + n - 1) / w) (h : i < max o ((o / w + k) * w) - o) where
  -- field bit i lies before unit k of the field: in which unit it lies
  behind : o + i < (o / w + k) * w
  behind = omega arith

  wide : 0 < w
  wide =
      lt_cases 0 w (0 < w) (λ l. l)
      (λ l.
      let z : w ≡ 0 = omega arith in
      let e : (o / w + k) * w ≡ 0 = ap (λ (x : ℕ). (o / w + k) * x) z ∙ mul-zero (o / w + k) in
      absurd (omega (arith, behind)))

  in_field : o + i < o + n
  in_field =
      let a : (o / w + k) * w ≤ (o + n - 1) / w * w = mul-le-mul_right w inside in
      omega (arith, behind, div-mul-le_self (o + n - 1) w)

  unit_early : (o + i) / w < o / w + k
  unit_early = (div-lt_iff_lt-mul wide).1 behind

  unit_late : o / w ≤ (o + i) / w
  unit_late = (le-div_iff_mul-le wide).1 (omega (arith, div-mul-le_self o w))

module _ (o : FieldOp) (r : o.write ≡ false) (k : ℕ) (l : k < count_of o) where
  abbrev p : Plan
  p = plan_of o

  read_access : (j : ℕ) → j < count_of o → access_at o j ≡ Load (first p + j)
  read_access j h = read_at p r (first p) (units p) j (omega (arith, read_length p r (first p) (units p)))

  read_given : (i : ℕ) → i < lo p (first p + k) - p.offset → Given o k i
  read_given i h =
      record {
        by = j;
        before = early;
        gives = rw (read_access j (omega (arith, early)), unit_is) (rw r (below, above));
        since = λ n a b. rw (read_access n (omega arith)) tt;
      }
    where
      x : ℕ
      x = (p.offset + i) / p.width

      j : ℕ
      j = x - first p

      inside : first p + k ≤ last p
      inside = omega (arith, l, read_length p r (first p) (units p))

      unit_is : first p + j ≡ x
      unit_is = omega (arith, unit_late p.width p.offset p.size k i inside h)

      early : j < k
      early = omega (arith, unit_early p.width p.offset p.size k i inside h, unit_is)

      below : lo p x ≤ p.offset + i
      below = omega (arith, div-mul-le_self (p.offset + i) p.width)

      above : p.offset + i < hi p x
      above =
          let f = in_field p.width p.offset p.size k i inside h in
          omega (arith, f, lt-div-mul-add {a = p.offset + i} (wide p.width p.offset p.size k i inside h))

-- where a store looks at what is held, the access before it loads the unit
module _ (p : Plan) (wr : p.write ≡ true) where
  data UnitList (u : ℕ) : List Access → Type 0 where
    stored : loaded_first p u ≡ false → UnitList u (Store u ∷ [])
    loaded_stored : UnitList u (Load u ∷ Store u ∷ [])

  and_false : (b : Bool) → (b && false) ≡ false
  and_false true = refl
  and_false false = refl

  unit_list : (u : ℕ) → UnitList u (unit_accesses p u)
  unfolding unit_accesses
  unit_list u =
      subst (λ w. UnitList u (cond w (cond (covered p u) (Store u ∷ []) (part_accesses p.rule u)) (Load u ∷ []))) (sym wr)
      (go (covered p u) refl p.rule refl)
    where
      go : (c : Bool) → covered p u ≡ c → (r : FieldUpdateRule) → p.rule ≡ r → UnitList u (cond c (Store u ∷ []) (part_accesses r u))
      go true e r q = stored (ap (λ b. keeps p.rule && not b) e ∙ and_false (keeps p.rule))
      go false e U.Preserve q = loaded_stored
      go false e U.WriteAsOnes q = stored (ap (λ x. keeps x && not (covered p u)) q)
      go false e U.WriteAsZeros q = stored (ap (λ x. keeps x && not (covered p u)) q)

  record Before (l : List Access) (k v : ℕ) : Type 0 where
    by : ℕ
    next : k ≡ suc by
    load : get_or l by (Load 0) ≡ Load v

  abbrev Paired : List Access → Type 0
  Paired l = (k v : ℕ) → get_or l k (Load 0) ≡ Store v → loaded_first p v ≡ true → Before l k v

  later : (a : Access) (l : List Access) (k v : ℕ) → Before l k v → Before (a ∷ l) (suc k) v
  later a l k v b = record { by = suc b.by; next = ap suc b.next; load = b.load }

  paired_unit : (u : ℕ) (l m : List Access) → UnitList u l → Paired m → Paired (l ++ m)
  paired_unit u l m (stored e) q zero v f h = let same : u ≡ v = cc in absurd (true≢false (sym h ∙ ap (loaded_first p) (sym same) ∙ e))
  paired_unit u l m (stored e) q (suc k) v f h = later (Store u) m k v (q k v f h)
  paired_unit u l m loaded_stored q zero v f h = let z : ◌≡◌ {A = ℕ} 0 1 = cc in absurd (omega arith)
  paired_unit u l m loaded_stored q (suc zero) v f h = record { by = 0; next = refl; load = cc }
  paired_unit u l m loaded_stored q (suc (suc k)) v f h = later (Load u) (Store u ∷ m) (suc k) v (later (Store u) m k v (q k v f h))

  paired : (u m : ℕ) → Paired (accesses_from p u m)
  unfolding accesses_from
  paired u zero = λ k v f h. let z : ◌≡◌ {A = ℕ} 0 1 = cc in absurd (omega arith)
  paired u (suc m) = paired_unit u (unit_accesses p u) (accesses_from p (suc u) m) (unit_list u) (paired (suc u) m)

write_given : (o : FieldOp) → o.write ≡ true → (k i : ℕ) (a : Access) → access_at o k ≡ a → i < given (plan_of o) a → Given o k i
write_given o w k i (Load u) e h =
    let z : i < 0 = subst (λ b. i < cond b 0 (lo (plan_of o) u - (plan_of o).offset)) w h in
    absurd (omega arith)
write_given o w k i (Store u) e h = go (loaded_first (plan_of o) u) refl
  where
    go : (b : Bool) → loaded_first (plan_of o) u ≡ b → Given o k i
    go false q = let z : i < 0 = subst (λ b. i < cond b (plan_of o).width 0) q h in absurd (omega arith)
    go true q =
        let b = paired (plan_of o) w (first (plan_of o)) (units (plan_of o)) k u e q in
        let z : i < (plan_of o).width = subst (λ c. i < cond c (plan_of o).width 0) q h in
        record {
          by = b.by;
          before = omega (arith, b.next);
          gives = rw b.load
              (subst (λ c. cond c (i < (plan_of o).width) ((lo (plan_of o) u ≤ (plan_of o).offset + i) × ((plan_of o).offset + i < hi (plan_of o) u))) (sym w) z);
          since = λ n x y. absurd (omega (arith, b.next));
        }

given_by : (o : FieldOp) (k : ℕ) → k < count_of o → (i : ℕ) → i < given (plan_of o) (access_at o k) → Given o k i
given_by o k l i h = go o.write refl
  where
    go : (b : Bool) → o.write ≡ b → Given o k i
    go true w = write_given o w k i (access_at o k) refl h
    go false r =
        let a : i < given (plan_of o) (Load (first (plan_of o) + k)) = subst (λ x. i < given (plan_of o) x) (read_access o r k l k l) h in
        read_given o r k l i (subst (λ b. i < cond b 0 (lo (plan_of o) (first (plan_of o) + k) - (plan_of o).offset)) r a)

pub only_given : OnlyGivenBitsCount
only_given o k l s h g e = held_below (plan_of o) (access_at o k) s h g (λ i q. e i (given_by o k l i q))
