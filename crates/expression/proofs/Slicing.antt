-- Mid: 27 of the source first; then what the index and the length convert to goes to the source, and their refusal is Mid's.
-- The bytes at the part's place are the part, and they lie in the source.
-- Assumes nothing.
use Rattle.std.proofs.Common.{◌≡◌, ℕ, zero, suc, ◌+◌, ◌-◌, ◌<◌, ◌≤◌, min, Bool, true, false, ◌||◌, ltb, leb, List, [], ◌∷◌, length, take, drop, sym, refl, ap, ◌∙◌, arith, length-drop, drop_of_length-le, length-take, ltb-false, ltb-true, le-ltb, lt-ltb, leb-false, leb-true}
use mathlib.Core.Logic.{◌⊎◌, inl, inr}
use denote.Enum.Declared.{tag_of}
use types.Run.{OneOf, miss}
use lib.Seq.{take-nil}
use Rattle.types.specs.Refusals.{first_of, judged}
use Rattle.types.specs.Values.{type_of}
use Rattle.types.specs.declared.refusal.Refusal.{Refusal}
use Rattle.types.specs.declared.refusal.Refusal.TheVariants as R
use Rattle.expression.specs.declared.mid.Part.{Part}
use Rattle.std.specs.Prelude.{Result, Ok, Err}
use Rattle.types.specs.declared.value.AmlType.{AmlType}
use Rattle.types.specs.declared.value.AmlValue.{AmlValue}
use Rattle.types.specs.declared.value.AmlValue.TheVariants as Val
use Rattle.types.specs.contracts.value.AmlValue.{the_type}
use Rattle.buffer_field.specs.BufferFields.{too_long}
use Rattle.value.specs.Conversions.{Held, held_by, to_integer, as_integer, Bytes, these, none}
use Rattle.expression.specs.Numbers.{and_then, operands}
use Rattle.expression.specs.Mid.{part, source, mid, mid_outcome, mid_part, place_of, placed, mid_place, PartIsThePart}

-- ---- the part of a list

-- its length, by its place: at the index, or at the end
part_length : (s : List ℕ) (i n : ℕ) → min n (length s - min i (length s)) ≡ length (part s i n)
part_length s i n = omega (arith, length-take n (drop i s), length-drop i s)

-- the part again, by its length and its place
cut_again : (n : ℕ) (l : List ℕ) → take (length (take n l)) l ≡ take n l
cut_again zero l = refl
cut_again (suc n) [] = refl
cut_again (suc n) (x ∷ l) = ap (λ (r : List ℕ). x ∷ r) (cut_again n l)

again : (s : List ℕ) (i n : ℕ) → take (length (part s i n)) (drop (min i (length s)) s) ≡ part s i n
again s i n = go (leb i (length s)) refl
  where
    go : (b : Bool) → leb i (length s) ≡ b → take (length (part s i n)) (drop (min i (length s)) s) ≡ part s i n
    go true e =
        let m : min i (length s) ≡ i = omega (arith, leb-true i (length s) e) in
        rw m (cut_again n (drop i s))
    go false e =
        let past : length s ≤ i = omega (arith, leb-false i (length s) e) in
        let nothing : part s i n ≡ [] = ap (take n) (drop_of_length-le s past) ∙ take-nil n in
        rw nothing refl

-- ---- the operands, then the source

-- what is made of the operands' answer
abbrev sliced : Held → Result (ℕ × ℕ) Refusal → Bytes
sliced h (Ok p) = source h p.0 p.1
sliced h (Err r) = none r

each : (h : Held) (b : Bool) (x y : Result ℕ Refusal)
    → judged (first_of ((b, R.TooManyBytes) ∷ [])) (and_then x (λ i. and_then y (λ n. source h i n) none) none) none
    ≡ sliced h (judged (first_of ((b, R.TooManyBytes) ∷ [])) (and_then x (λ i. and_then y (λ n. Ok (i, n)) Err) Err) Err)
unfolding first_of
each h true x y = refl
each h false (Err r) y = refl
each h false (Ok i) (Err r) = refl
each h false (Ok i) (Ok n) = refl

-- the places in the enum of the values that have no bytes to slice: all but 2 String and 3 Buffer
abbrev pub unsliced : List ℕ
unsliced = 0 ∷ 1 ∷ 4 ∷ 5 ∷ 6 ∷ 7 ∷ 8 ∷ 9 ∷ 10 ∷ 11 ∷ 12 ∷ 13 ∷ []

pub cannot_slice : (v : AmlValue) (s : List ℕ) (i n : ℕ) → OneOf unsliced (tag_of the_type v) → source (held_by v s) i n ≡ none (R.TypeCannotBeSliced (type_of v))
cannot_slice (Val.Boolean b) s i n k = refl
cannot_slice (Val.Integer x) s i n k = refl
cannot_slice Val.String s i n k = absurd (miss unsliced 2 tt k)
cannot_slice Val.Buffer s i n k = absurd (miss unsliced 3 tt k)
cannot_slice (Val.BufferField p m) s i n k = refl
cannot_slice (Val.Field f) s i n k = refl
cannot_slice Val.OpRegion s i n k = refl
cannot_slice Val.Device s i n k = refl
cannot_slice Val.Method s i n k = refl
cannot_slice Val.Processor s i n k = refl
cannot_slice Val.Mutex s i n k = refl
cannot_slice Val.Package s i n k = refl
cannot_slice Val.PowerResource s i n k = refl
cannot_slice Val.ThermalZone s i n k = refl

-- of a source: what cannot be sliced has no part
source_again : (v : AmlValue) (s : List ℕ) (a n : ℕ)
    → take (length (mid_part (source (held_by v s) a n))) (drop (min a (length s)) s) ≡ mid_part (source (held_by v s) a n)
source_again (Val.Boolean b) s a n = refl
source_again (Val.Integer x) s a n = refl
source_again Val.String s a n = again s a n
source_again Val.Buffer s a n = again s a n
source_again (Val.BufferField p m) s a n = refl
source_again (Val.Field f) s a n = refl
source_again Val.OpRegion s a n = refl
source_again Val.Device s a n = refl
source_again Val.Method s a n = refl
source_again Val.Processor s a n = refl
source_again Val.Mutex s a n = refl
source_again Val.Package s a n = refl
source_again Val.PowerResource s a n = refl
source_again Val.ThermalZone s a n = refl

-- operands that are two numbers: the first is the index's
first_of_lem : (b c : Bool) (p q : Result ℕ Refusal) (x y : ℕ)
    → judged (first_of ((b || c, R.TooManyBytes) ∷ [])) (and_then {A = Result (ℕ × ℕ) Refusal} p (λ i. and_then q (λ n. Ok (i, n)) Err) Err) Err ≡ Ok (x, y)
    → judged (first_of ((b, R.TooManyBytes) ∷ [])) p Err ≡ Ok x
unfolding first_of
first_of_lem true c p q x y e = cc
first_of_lem false true p q x y e = cc
first_of_lem false false (Err r) q x y e = cc
first_of_lem false false (Ok i) (Err r) x y e = cc
first_of_lem false false (Ok i) (Ok n) x y e = let same : (i, n) ≡ (x, y) = cc in ap (λ (p : ℕ × ℕ). Ok p.0) same

index_of : (i : AmlValue) (is : List ℕ) (n : AmlValue) (ns : List ℕ) (x y : ℕ) → operands i is n ns ≡ Ok (x, y) → as_integer i is ≡ Ok x
unfolding operands as_integer
index_of i is n ns x y e = first_of_lem (too_long is) (too_long ns) (to_integer (held_by i is)) (to_integer (held_by n ns)) x y e

-- ---- the place of Mid's part

module _ (v : AmlValue) (s : List ℕ) (i : AmlValue) (is : List ℕ) (n : AmlValue) (ns : List ℕ) where
  long : 65536 < length s → none R.TooManyBytes ≡ mid v s i is n ns
  unfolding mid first_of
  long h = rw (lt-ltb 65536 (length s) h)

  pub place_long : 65536 < length s → Err R.TooManyBytes ≡ mid_place v s i is n ns
  place_long h = ap (λ (b : Bytes). placed b (place_of (as_integer i is) (length s))) (long h)

  module _ (h : length s ≤ 65536) (both : Result (ℕ × ℕ) Refusal) (e : both ≡ operands i is n ns) where
    made : sliced (held_by v s) both ≡ mid v s i is n ns
    unfolding mid operands
    made = rw (le-ltb 65536 (length s) h, e) (sym (each (held_by v s) (ltb 65536 (length is) || ltb 65536 (length ns)) (to_integer (held_by i is)) (to_integer (held_by n ns))))

    pub place_refused : (q : Refusal) → both ≡ Err q → Err q ≡ mid_place v s i is n ns
    place_refused q r = rw (← made, r)

    module _ (x y : ℕ) (t : both ≡ Ok (x, y)) where
      -- of a source that can be sliced
      place_sliced : source (held_by v s) x y ≡ these (part s x y) → (r : Result Part Refusal) → r ≡ Ok (record { at = min x (length s); count = min y (length s - min x (length s)) }) → r ≡ mid_place v s i is n ns
      place_sliced k r g = rw (g, ← made, t, k, index_of i is n ns x y (sym e ∙ t), part_length s x y)

      sliced_part : source (held_by v s) x y ≡ these (part s x y)
          → (q : Part) → q ≡ record { at = min x (length s); count = min y (length s - min x (length s)) } → Ok q ≡ mid_place v s i is n ns
      sliced_part k q g = place_sliced k (Ok q) (ap Ok g)

      pub place_sliced_by : (v ≡ Val.String) ⊎ (v ≡ Val.Buffer)
          → (q : Part) → q ≡ record { at = min x (length s); count = min y (length s - min x (length s)) } → Ok q ≡ mid_place v s i is n ns
      place_sliced_by (inl k) = sliced_part (rw k)
      place_sliced_by (inr k) = sliced_part (rw k)

      pub place_other : (m : AmlType) → m ≡ type_of v → OneOf unsliced (tag_of the_type v) → Err (R.TypeCannotBeSliced m) ≡ mid_place v s i is n ns
      place_other m g k = rw (← made, t, cannot_slice v s x y k, g)

  -- ---- the part by its place

  again_by : (o : Result (ℕ × ℕ) Refusal) → operands i is n ns ≡ o
      → take (length (mid_part (sliced (held_by v s) o))) (drop (place_of (as_integer i is) (length s)) s) ≡ mid_part (sliced (held_by v s) o)
  again_by (Err r) e = refl
  again_by (Ok p) e = rw (index_of i is n ns p.0 p.1 e) (source_again v s p.0 p.1)

pub part_is_the_part : PartIsThePart
part_is_the_part v s i is n ns = go (ltb 65536 (length s)) refl
  where
    go : (b : Bool) → ltb 65536 (length s) ≡ b
        → take (length (mid_part (mid v s i is n ns))) (drop (place_of (as_integer i is) (length s)) s) ≡ mid_part (mid v s i is n ns)
    go true e = rw (← long v s i is n ns (ltb-true 65536 (length s) e)) refl
    go false e =
        rw (← made v s i is n ns (ltb-false 65536 (length s) e) (operands i is n ns) refl) (again_by v s i is n ns (operands i is n ns) refl)

-- no part begins past the end
place_most : (a : Result ℕ Refusal) (size : ℕ) → place_of a size ≤ size
place_most (Ok x) size = omega arith
place_most (Err r) size = omega arith

module _ (v : AmlValue) (s : List ℕ) (i : AmlValue) (is : List ℕ) (n : AmlValue) (ns : List ℕ) where
  -- and none ends past it
  pub part_within : place_of (as_integer i is) (length s) + length (mid_part (mid v s i is n ns)) ≤ length s
  part_within =
      let l = length (mid_part (mid v s i is n ns)) in
      let at = place_of (as_integer i is) (length s) in
      omega
      (arith, place_most (as_integer i is) (length s), ap length (part_is_the_part v s i is n ns), length-take l (drop at s), length-drop at s)

  -- a source of more bytes is refused
  pub part_most : length (mid_part (mid v s i is n ns)) ≤ 65536
  part_most = go (ltb 65536 (length s)) refl
    where
      go : (b : Bool) → ltb 65536 (length s) ≡ b → length (mid_part (mid v s i is n ns)) ≤ 65536
      go true e = rw (← long v s i is n ns (ltb-true 65536 (length s) e)) (omega arith)
      go false e = omega (arith, part_within, ltb-false 65536 (length s) e)

-- ---- what an answered place says

module _ (b : Bytes) (p : ℕ) (r : Result Part Refusal) (e : r ≡ placed b p) where
  placed_refused : (q : Refusal) → r ≡ Err q → b ≡ none q
  placed_refused q k = go b e
    where
      go : (b : Bytes) → r ≡ placed b p → b ≡ none q
      go (these l) e = cc
      go (none q') e = cc

  module _ (x : Part) (k : r ≡ Ok x) where
    pub placed_done : Ok tt ≡ mid_outcome b
    placed_done = go b e
      where
        go : (b : Bytes) → r ≡ placed b p → Ok tt ≡ mid_outcome b
        go (these l) e = refl
        go (none q) e = cc

    pub placed_at : (p ≡ x.at) × (length (mid_part b) ≡ x.count)
    placed_at = go b e
      where
        go : (b : Bytes) → r ≡ placed b p → (p ≡ x.at) × (length (mid_part b) ≡ x.count)
        go (these l) e =
            let same : (record { at = p; count = length l }) ≡ x = cc in
            (ap (λ (y : Part). y.at) same, ap (λ (y : Part). y.count) same)
        go (none q) e = (cc, cc)

  pub outcome_refused : (q : Refusal) → r ≡ Err q → Err q ≡ mid_outcome b
  outcome_refused q k = sym (ap mid_outcome (placed_refused q k))

  pub part_refused : (q : Refusal) → r ≡ Err q → [] ≡ mid_part b
  part_refused q k = sym (ap mid_part (placed_refused q k))

module _ (v : AmlValue) (s : List ℕ) (i : AmlValue) (is : List ℕ) (n : AmlValue) (ns : List ℕ) (r : Result Part Refusal) (e : r ≡ mid_place v s i is n ns)
    (x : Part) (k : r ≡ Ok x) where
  both_said : (place_of (as_integer i is) (length s) ≡ x.at) × (length (mid_part (mid v s i is n ns)) ≡ x.count)
  both_said = placed_at (mid v s i is n ns) (place_of (as_integer i is) (length s)) r e x k

  pub place_within : x.at + x.count ≤ length s
  place_within = rw (both_said.0, both_said.1) at (part_within v s i is n ns)

  pub place_part : take x.count (drop x.at s) ≡ mid_part (mid v s i is n ns)
  place_part = rw (both_said.0, both_said.1) at (part_is_the_part v s i is n ns)
