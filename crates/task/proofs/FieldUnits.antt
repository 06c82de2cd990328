-- Field units meet the laws of footprints: each access goes to a unit from the field's first to its last (proper), a unit is whole bytes, and a store of a
-- unit keeps every byte outside it. One access after the other they are document 01's list run in order (first_whole).
-- Assumes nothing.
use Prim.Native.Nat.{ℕ, zero, suc, ◌+◌, ◌*◌, ◌/◌, ◌%◌, ◌≤◌, ◌<◌}
use native.Mathlib.Omega.{arith}
use native.Mathlib.Decide.{dec_le, dec_lt}
use native.Mathlib.Nat.{mul-le-mul_right, suc-mul, mul_assoc, mul_comm}
use mathlib.Core.Path.{◌≡◌, refl, sym, ap, ◌∙◌}
use mathlib.Core.Logic.Dec
use mathlib.Core.Bool.{Bool, true, false, cond, Bool-discrete}
use mathlib.Core.List.{List, [], ◌∷◌, ◌++◌}
use lib.Dec.{ltb}
use lib.ListN.{length, get_or, take, get_or-eq_default}
use lib.Seq.{ext_get_or, take-suc, take-length}
use borrow.Author.Tests.{ltb-true, lt-ltb}
use Rattle.bits.specs.Bits.{bit_of, bit_at, get_bits, set_bits}
use Rattle.bits.proofs.Laws.{lt_cases, bit_of_lt, bit_at_byte, run_ext, put_cong}
use Rattle.bits.proofs.With.{with_bits_length, with_bits_at, with_bits_kept, with_bits_bytes}
use Rattle.types.specs.Flags.{access_width, access_bits, widths}
use Rattle.types.specs.declared.flags.FieldUpdateRule.{FieldUpdateRule}
use Rattle.types.specs.declared.flags.FieldUpdateRule.TheVariants as U
use Rattle.field_unit.specs.Accesses.{Plan, progress, opening, base, units, covered, unit_accesses, part_accesses, accesses_from, accesses, gathered, merged, act, acts, whole}
use Rattle.field_unit.specs.Accesses as F
use Rattle.field_unit.specs.Calls.{plan_of, count_of, access_at}
use Rattle.field_unit.proofs.Running.{acts_append}
use Rattle.field_unit.specs.declared.access.Access.{Access}
use Rattle.field_unit.specs.declared.access.Access.TheVariants.{Load, Store}
use Rattle.field_unit.specs.declared.access.FieldOp.{FieldOp}
use Rattle.together.specs.System.{System, Laws, put_all, first}
use Rattle.task.specs.Tasks.{carries_lock}
use Rattle.task.specs.Runs.{StoreMade, store_of, Touches}
use Rattle.std.specs.Prelude.{Result, Ok}
use Rattle.task.specs.declared.table.Step.TheVariants as St
use Rattle.task.specs.declared.table.Step.{Step}
use Rattle.types.specs.declared.refusal.Refusal.{Refusal}

-- ---- the system

abbrev pub Bytes : List ℕ → Type 0
Bytes s = (j : ℕ) → get_or s j 0 < 256

-- access k, where there is one: what is held after it, and the store it makes
abbrev pub load_at : FieldOp → ℕ → ℕ → List ℕ → ℕ
load_at o k h s = cond (ltb k (count_of o)) (act (plan_of o) (access_at o k) (progress s h)).held h

abbrev pub stores_at : FieldOp → ℕ → ℕ → List StoreMade
stores_at o k h = cond (ltb k (count_of o)) (store_of (plan_of o) (access_at o k) h) []

-- "answers done (a read with its value)"
abbrev pub last_answer : FieldOp → ℕ → Result Step Refusal
last_answer o h = cond o.write (Ok St.Done) (Ok (St.Value h))

abbrev pub fields : System
fields =
    record {
      State = List ℕ;
      Cell = ℕ;
      Byte = ℕ;
      Shape = ℕ;
      Op = FieldOp;
      Held = ℕ;
      Answer = Result Step Refusal;
      Store = StoreMade;
      at = λ s c. get_or s c 0;
      shape = λ s. length s;
      Good = Bytes;
      total = count_of;
      nothing = 0;
      load = load_at;
      stores = stores_at;
      put = λ x s. set_bits s x.from x.width x.number;
      answer = last_answer;
      Touch = Touches;
      Writes = λ o. o.write ≡ true;
      Lock = λ o. carries_lock o ≡ true;
    }

-- ---- which accesses there are

module _ (p : Plan) where
  -- an access of a unit of the field; a read makes no store
  data Proper : Access → Type 0 where
    is_load : (u : ℕ) → F.first p ≤ u → u ≤ F.last p → Proper (Load u)
    is_store : (u : ℕ) → F.first p ≤ u → u ≤ F.last p → p.write ≡ true → Proper (Store u)

  abbrev All : List Access → Type 0
  All [] = Unit {0}
  All (a ∷ l) = Proper a × All l

  all_append : (l m : List Access) → All l → All m → All (l ++ m)
  all_append [] m p q = q
  all_append (a ∷ l) m p q = (p.0, all_append l m p.1 q)

  all_at : (l : List Access) (k : ℕ) (d : Access) → k < length l → All l → Proper (get_or l k d)
  all_at [] k d h q = absurd (omega arith)
  all_at (a ∷ l) zero d h q = q.0
  all_at (a ∷ l) (suc k) d h q = all_at l k d (omega arith) q.1

  unit_proper : (u : ℕ) → F.first p ≤ u → u ≤ F.last p → All (unit_accesses p u)
  unfolding unit_accesses
  unit_proper u a b = go p.write refl (covered p u) p.rule
    where
      go : (w : Bool) → p.write ≡ w → (c : Bool) (r : FieldUpdateRule) → All (cond w (cond c (Store u ∷ []) (part_accesses r u)) (Load u ∷ []))
      go false e c r = (is_load u a b, tt)
      go true e true r = (is_store u a b e, tt)
      go true e false U.Preserve = (is_load u a b, (is_store u a b e, tt))
      go true e false U.WriteAsOnes = (is_store u a b e, tt)
      go true e false U.WriteAsZeros = (is_store u a b e, tt)

  from_proper : (u m : ℕ) → F.first p ≤ u → u + m ≤ F.last p + 1 → All (accesses_from p u m)
  unfolding accesses_from
  from_proper u zero a b = tt
  from_proper u (suc m) a b =
      all_append (unit_accesses p u) (accesses_from p (suc u) m) (unit_proper u a (omega arith)) (from_proper (suc u) m (omega arith) (omega arith))

  all_proper : All (accesses p)
  unfolding accesses_from
  all_proper =
      lt_cases (F.last p + 1) (F.first p) (All (accesses p))
      (λ h. let e : units p ≡ 0 = omega arith in rw e tt)
      (λ h. from_proper (F.first p) (units p) (omega arith) (omega arith))

proper : (o : FieldOp) (k : ℕ) → k < count_of o → Proper (plan_of o) (access_at o k)
proper o k h = all_at (plan_of o) (accesses (plan_of o)) k (Load 0) h (all_proper (plan_of o))

-- ---- a unit is whole bytes

width_bytes : (flags : ℕ) → access_width flags ≡ 8 * (access_width flags / 8)
unfolding access_width
width_bytes flags = go (access_bits flags)
  where
    go : (a : ℕ) → get_or widths a 0 ≡ 8 * (get_or widths a 0 / 8)
    go zero = refl
    go (suc zero) = refl
    go (suc (suc zero)) = refl
    go (suc (suc (suc zero))) = refl
    go (suc (suc (suc (suc zero)))) = refl
    go (suc (suc (suc (suc (suc zero))))) = refl
    go (suc (suc (suc (suc (suc (suc a)))))) = refl

-- of units of 8 * b bits, unit u starts at byte u * b
unit_start : (u w b : ℕ) → w ≡ 8 * b → u * w ≡ 8 * (u * b)
unit_start u w b e = ap (λ (x : ℕ). u * x) e ∙ sym (mul_assoc u 8 b) ∙ ap (λ (x : ℕ). x * b) (mul_comm u 8) ∙ mul_assoc 8 u b

-- a byte with a bit in a unit of the field is touched
inside : (o : FieldOp) (u : ℕ) → F.first (plan_of o) ≤ u → u ≤ F.last (plan_of o) → (c i : ℕ) → i < 8
    → base (plan_of o) u ≤ 8 * c + i → 8 * c + i < base (plan_of o) u + (plan_of o).width → Touches o c
inside o u p q c i l a b =
    let w = access_width o.field.flags.0 in
    let e : u * w ≡ 8 * (u * (w / 8)) = unit_start u w (w / 8) (width_bytes o.field.flags.0) in
    let below : F.first (plan_of o) * w ≤ u * w = mul-le-mul_right w p in
    let above : suc u * w ≤ (F.last (plan_of o) + 1) * w = mul-le-mul_right w (omega arith) in
    (omega arith, omega (arith, suc-mul u w))

-- ---- a store of a unit, byte by byte

-- a byte outside it is kept
store_keeps : (s : List ℕ) (f n v c : ℕ) → Bytes s → ((i : ℕ) → i < 8 → f ≤ 8 * c + i → 8 * c + i < f + n → ⊥)
    → get_or (set_bits s f n v) c 0 ≡ get_or s c 0
store_keeps s f n v c b out =
    lt_cases c (length s) (get_or (set_bits s f n v) c 0 ≡ get_or s c 0)
    (λ l. with_bits_kept s f n (bit_of v) c l (b c) out)
    (λ l.
    let e = with_bits_length s f n (bit_of v) in
    let l2 : length (set_bits s f n v) ≤ c = omega arith in
    get_or-eq_default (set_bits s f n v) 0 {n = c} l2 ∙ sym (get_or-eq_default s 0 {n = c} l))

same_bit : (s t : List ℕ) (k : ℕ) → get_or s (k / 8) 0 ≡ get_or t (k / 8) 0 → bit_at s k ≡ bit_at t k
unfolding bit_at
same_bit s t k e = ap (λ (x : ℕ). bit_of x (k % 8)) e

-- what stands in a byte after it goes by what stood there
store_agrees : (s t : List ℕ) (f n v c : ℕ) → length s ≡ length t → get_or s c 0 ≡ get_or t c 0
    → get_or (set_bits s f n v) c 0 ≡ get_or (set_bits t f n v) c 0
store_agrees s t f n v c e h =
    lt_cases c (length s) (get_or (set_bits s f n v) c 0 ≡ get_or (set_bits t f n v) c 0)
    (λ l.
    with_bits_at s f n (bit_of v) c l
    ∙ run_ext _ _ (8 * c) (8 * c) 8
    (λ i q.
    put_cong (bit_at s) (bit_at t) f n (bit_of v) (8 * c + i)
    (bit_at_byte s c i q ∙ ap (λ (x : ℕ). bit_of x i) h ∙ sym (bit_at_byte t c i q)))
    ∙ sym (with_bits_at t f n (bit_of v) c (omega arith)))
    (λ l.
    let a = with_bits_length s f n (bit_of v) in
    let b = with_bits_length t f n (bit_of v) in
    let l2 : length (set_bits s f n v) ≤ c = omega arith in
    let l3 : length (set_bits t f n v) ≤ c = omega arith in
    get_or-eq_default (set_bits s f n v) 0 {n = c} l2 ∙ sym (get_or-eq_default (set_bits t f n v) 0 {n = c} l3))

-- ---- the laws

module _ (o : FieldOp) where
  abbrev p : Plan
  p = plan_of o

  frame_at : (a : Access) → Proper p a → (h : ℕ) (s : List ℕ) → Bytes s → (c : ℕ) → (Touches o c → ⊥)
      → get_or (put_all fields (store_of p a h) s) c 0 ≡ get_or s c 0
  frame_at a (is_load u q r) h s b c n = refl
  frame_at a (is_store u q r w) h s b c n = store_keeps s (base p u) p.width (merged p u h) c b (λ i l x y. n (inside o u q r c i l x y))

  quiet_at : (a : Access) → Proper p a → (h : ℕ) → (o.write ≡ true → ⊥) → store_of p a h ≡ []
  quiet_at a (is_load u q r) h n = refl
  quiet_at a (is_store u q r w) h n = absurd (n w)

  held_at : (a : Access) → Proper p a → (h : ℕ) (s t : List ℕ) → ((c : ℕ) → Touches o c → get_or s c 0 ≡ get_or t c 0)
      → (act p a (progress s h)).held ≡ (act p a (progress t h)).held
  unfolding act
  held_at a (is_load u q r) h s t g =
      let e : get_bits s (base p u) p.width ≡ get_bits t (base p u) p.width =
      run_ext (bit_at s) (bit_at t) (base p u) (base p u) p.width
      (λ i l.
      let k = base p u + i in
      same_bit s t k (g (k / 8) (inside o u q r (k / 8) (k % 8) (omega arith) (omega arith) (omega arith)))) in
      ap (λ x. cond p.write x (gathered p u h x)) e
  held_at a (is_store u q r w) h s t g = refl

  after_at : (a : Access) (h : ℕ) (s t : List ℕ) (c : ℕ) → length s ≡ length t → get_or s c 0 ≡ get_or t c 0
      → get_or (put_all fields (store_of p a h) s) c 0 ≡ get_or (put_all fields (store_of p a h) t) c 0
  after_at (Load u) h s t c e g = g
  after_at (Store u) h s t c e g = store_agrees s t (base p u) p.width (merged p u h) c e g

-- past the last access nothing is loaded or stored
module _ (o : FieldOp) (k h : ℕ) where
  frame_law : (s : List ℕ) → Bytes s → (c : ℕ) → (Touches o c → ⊥) → get_or (put_all fields (stores_at o k h) s) c 0 ≡ get_or s c 0
  frame_law s b c n = go (ltb k (count_of o)) refl
    where
      go : (y : Bool) → ltb k (count_of o) ≡ y → get_or (put_all fields (cond y (store_of (plan_of o) (access_at o k) h) []) s) c 0 ≡ get_or s c 0
      go true e = frame_at o (access_at o k) (proper o k (ltb-true k (count_of o) e)) h s b c n
      go false e = refl

  quiet_law : (o.write ≡ true → ⊥) → stores_at o k h ≡ []
  quiet_law n = go (ltb k (count_of o)) refl
    where
      go : (y : Bool) → ltb k (count_of o) ≡ y → cond y (store_of (plan_of o) (access_at o k) h) [] ≡ []
      go true e = quiet_at o (access_at o k) (proper o k (ltb-true k (count_of o) e)) h n
      go false e = refl

  held_law : (s t : List ℕ) → ((c : ℕ) → Touches o c → get_or s c 0 ≡ get_or t c 0) → load_at o k h s ≡ load_at o k h t
  held_law s t g = go (ltb k (count_of o)) refl
    where
      go : (y : Bool) → ltb k (count_of o) ≡ y
          → cond y (act (plan_of o) (access_at o k) (progress s h)).held h ≡ cond y (act (plan_of o) (access_at o k) (progress t h)).held h
      go true e = held_at o (access_at o k) (proper o k (ltb-true k (count_of o) e)) h s t g
      go false e = refl

  after_law : (s t : List ℕ) (c : ℕ) → length s ≡ length t → get_or s c 0 ≡ get_or t c 0
      → get_or (put_all fields (stores_at o k h) s) c 0 ≡ get_or (put_all fields (stores_at o k h) t) c 0
  after_law s t c e g = go (ltb k (count_of o))
    where
      go : (y : Bool)
          → get_or (put_all fields (cond y (store_of (plan_of o) (access_at o k) h) []) s) c 0 ≡ get_or (put_all fields (cond y (store_of (plan_of o) (access_at o k) h) []) t) c 0
      go true = after_at o (access_at o k) h s t c e g
      go false = g

pub field_laws : Laws fields
field_laws =
    record {
      ext = λ s t a b e h. ext_get_or 0 s t e (λ i p. h i);
      touch? = λ o c. Dec.and (dec_le _ _) (dec_lt _ _);
      writes? = λ o. Bool-discrete o.write true;
      keeps = λ x s. with_bits_length s x.from x.width (bit_of x.number);
      good = λ x s b. with_bits_bytes s x.from x.width (bit_of x.number) (bit_of_lt x.number);
      frame = frame_law;
      quiet = quiet_law;
      local_held = λ o k h s t a. held_law o k h s t a.on;
      local_at = λ o k h s t a c p. after_law o k h s t c a.same (a.on c p);
    }

-- ---- one access after the other is the list run in order

act_parts : (p : Plan) (a : Access) (s : List ℕ) (h : ℕ) → act p a (progress s h) ≡ progress (put_all fields (store_of p a h) s) (act p a (progress s h)).held
unfolding act
act_parts p (Load u) s h = refl
act_parts p (Store u) s h = refl

-- access k, where there is one
pub region_at : (o : FieldOp) (k h : ℕ) (s : List ℕ) → k < count_of o
    → (act (plan_of o) (access_at o k) (progress s h)).region ≡ put_all fields (stores_at o k h) s
region_at o k h s l =
    ap (λ x. x.region) (act_parts (plan_of o) (access_at o k) s h)
    ∙ sym (ap (λ y. put_all fields (cond y (store_of (plan_of o) (access_at o k) h) []) s) (lt-ltb k (count_of o) l))

pub held_after : (o : FieldOp) (k h : ℕ) (s : List ℕ) → k < count_of o → (act (plan_of o) (access_at o k) (progress s h)).held ≡ load_at o k h s
held_after o k h s l = sym (ap (λ y. cond y (act (plan_of o) (access_at o k) (progress s h)).held h) (lt-ltb k (count_of o) l))

first_acts : (o : FieldOp) (k : ℕ) (s : List ℕ) → k ≤ count_of o
    → acts (plan_of o) (take k (accesses (plan_of o))) (opening s) ≡ progress (first fields o k s).1 (first fields o k s).0
unfolding acts
first_acts o zero s h = refl
first_acts o (suc k) s h =
    let l : k < count_of o = omega arith in
    let p = plan_of o in
    let x = first fields o k s in
    ap (λ q. acts p q (opening s)) (take-suc (accesses p) k (Load 0) l)
    ∙ acts_append p (take k (accesses p)) (access_at o k ∷ []) (opening s)
    ∙ ap (λ q. act p (access_at o k) q) (first_acts o k s (omega arith))
    ∙ (λ i. progress (region_at o k x.0 x.1 l i) (held_after o k x.0 x.1 l i))

pub first_whole : (o : FieldOp) (s : List ℕ) → whole (plan_of o) s ≡ progress (first fields o (count_of o) s).1 (first fields o (count_of o) s).0
first_whole o s =
    ap (λ q. acts (plan_of o) q (opening s)) (sym (take-length (accesses (plan_of o)))) ∙ first_acts o (count_of o) s (omega arith)
