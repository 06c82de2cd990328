-- Comparing: bytes one by one, where what is left of both sides decides as the whole does; numbers by size; and the right side by what it converts to.
-- Assumes nothing.
use Rattle.std.proofs.Common.{◌≡◌, ℕ, zero, suc, ◌+◌, ◌-◌, ◌*◌, ◌<◌, ◌≤◌, min, Bool, List, [], ◌∷◌, length, get_or, drop, sym, refl, ap, ◌∙◌, add-one, arith, drop_of_length-le, drop-cons, le-ltb, lt-ltb, eq-eqb, ne_eqb}
use mathlib.Core.Logic.{◌⊎◌, inl, inr}
use denote.Enum.Declared.{tag_of}
use types.Run.{OneOf, miss}
use Rattle.bits.specs.Bits.{bit_of, bit_at, run, get_bits, run_bits, bytes, bytes_for, from}
use Rattle.bits.proofs.Laws.{lt_cases, bit_at_lt, run_bit, run_byte, run_more, run_ext, put_in, put_above, bytes_at, bytes_length}
use Rattle.types.specs.Values.{type_of}
use Rattle.types.specs.declared.refusal.Refusal.{Refusal}
use Rattle.types.specs.declared.refusal.Refusal.TheVariants as R
use Rattle.types.specs.declared.value.AmlType.{AmlType}
use Rattle.types.specs.declared.value.AmlValue.{AmlValue}
use Rattle.types.specs.declared.value.AmlValue.TheVariants as Val
use Rattle.types.specs.contracts.value.AmlValue.{the_type}
use Rattle.types.specs.declared.value.FieldUnit.{FieldUnit}
use Rattle.field_unit.specs.Calls.{read_field}
use Rattle.std.specs.declared.cmp.Ordering.TheVariants as Or
use Rattle.std.specs.declared.cmp.Ordering.{Ordering}
use Rattle.field_unit.specs.declared.whole.UnitRead.{UnitRead}
use Rattle.std.specs.Prelude.{Result, Ok, Err}
use Rattle.std.specs.Ordering.{nat_cmp, is_ne}
use Rattle.std.specs.Cmp.Lexicographic.{slice_cmp}
use mathlib.Core.Bool.{true, false, true≢false}
use Rattle.value.specs.Conversions.{Held, held_by, unit_content, content_integer, content_buffer, buffer_field_content, to_integer, to_buffer, to_string}
use Rattle.value.specs.Lengths.{length_of, buffer_length, string_length}
use Rattle.value.proofs.ByKind.{buffer_of_buffer_field}
use Rattle.value.proofs.Fields.{content_bytes}
use Rattle.value.proofs.Lengths.{buffer_counted, string_counted}
use Rattle.expression.specs.Numbers.{and_then, operands}
use Rattle.expression.specs.Compare.{compare_numbers, compare_bytes, compared_operands, numbers, texts, contents, compared, compare}
use Rattle.expression.proofs.Counting.{counted_none, only_string, only_buffer, not_field, field_long}
use Rattle.expression.proofs.Lent.{both_long, both_second, both_short}
use Rattle.expression.proofs.Numbers.{operands_short}

-- ---- bytes

-- i bytes are passed: what is left decides
abbrev pub Undecided : List ℕ → List ℕ → ℕ → Type 0
Undecided l r i = compare_bytes (drop i l) (drop i r) ≡ compare_bytes l r

module _ (l r : List ℕ) (i : ℕ) (u : Undecided l r i) where
  module _ (h : i < length l) where
    pub right_ends : length r ≤ i → (Ok Or.Greater) ≡ compare_bytes l r
    unfolding compare_bytes
    right_ends g = rw (drop-cons l i 0 h, drop_of_length-le r g) at u

    module _ (g : i < length r) (x y : ℕ) (p : x ≡ get_or l i 0) (q : y ≡ get_or r i 0) where
      heads : compare_bytes (get_or l i 0 ∷ drop (suc i) l) (get_or r i 0 ∷ drop (suc i) r) ≡ compare_bytes l r
      heads = rw (drop-cons l i 0 h, drop-cons r i 0 g) at u

      pub byte_less : x < y → (Ok Or.Less) ≡ compare_bytes l r
      unfolding compare_bytes
      byte_less b = let k : get_or l i 0 < get_or r i 0 = omega arith in rw (lt-ltb (get_or l i 0) (get_or r i 0) k) at heads

      pub byte_greater : y < x → (Ok Or.Greater) ≡ compare_bytes l r
      unfolding compare_bytes
      byte_greater b =
          let k : get_or r i 0 < get_or l i 0 = omega arith in
          let n : get_or r i 0 ≤ get_or l i 0 = omega arith in
          rw (le-ltb (get_or l i 0) (get_or r i 0) n, lt-ltb (get_or r i 0) (get_or l i 0) k) at heads

      pub byte_same : y ≤ x → x ≤ y → Undecided l r (i + 1)
      unfolding compare_bytes
      byte_same b c =
          let n : get_or r i 0 ≤ get_or l i 0 = omega arith in
          let m : get_or l i 0 ≤ get_or r i 0 = omega arith in
          rw add-one (rw (le-ltb (get_or l i 0) (get_or r i 0) n, le-ltb (get_or r i 0) (get_or l i 0) m) at heads)

      -- by what the machine's comparison of the two says
      pub byte_decides : (o : Ordering) → o ≡ nat_cmp x y → is_ne o ≡ true → Ok o ≡ compare_bytes l r
      byte_decides o e d =
          lt_cases x y (Ok o ≡ compare_bytes l r)
          (λ b. let k : nat_cmp x y ≡ Or.Less = rw (lt-ltb x y b) in ap Ok (e ∙ k) ∙ byte_less b)
          (λ c.
          lt_cases y x (Ok o ≡ compare_bytes l r)
          (λ b. let k : nat_cmp x y ≡ Or.Greater = rw (le-ltb x y c, ne_eqb x y (λ q. omega arith)) in ap Ok (e ∙ k) ∙ byte_greater b)
          (λ b. let k : nat_cmp x y ≡ Or.Equal = rw (le-ltb x y c, eq-eqb x y (omega arith)) in let z : false ≡ true = rw (e ∙ k) at d in absurd (true≢false (sym z))))

      pub byte_alike : (o : Ordering) → o ≡ nat_cmp x y → is_ne o ≡ false → Undecided l r (i + 1)
      byte_alike o e d =
          lt_cases x y (Undecided l r (i + 1))
          (λ b. let k : nat_cmp x y ≡ Or.Less = rw (lt-ltb x y b) in let z : true ≡ false = rw (e ∙ k) at d in absurd (true≢false z))
          (λ c.
          lt_cases y x (Undecided l r (i + 1))
          (λ b.
          let k : nat_cmp x y ≡ Or.Greater = rw (le-ltb x y c, ne_eqb x y (λ q. omega arith)) in
          let z : true ≡ false = rw (e ∙ k) at d in absurd (true≢false z))
          (λ b. byte_same c b))

  module _ (h : length l ≤ i) where
    pub left_ends : i < length r → (Ok Or.Less) ≡ compare_bytes l r
    unfolding compare_bytes
    left_ends g = rw (drop_of_length-le l h, drop-cons r i 0 g) at u

    pub both_end : length r ≤ i → (Ok Or.Equal) ≡ compare_bytes l r
    unfolding compare_bytes
    both_end g = rw (drop_of_length-le l h, drop_of_length-le r g) at u

    -- where the right side is no shorter than what was passed
    pub lengths_decide : length l ≡ i → i ≤ length r → Ok (nat_cmp (length l) (length r)) ≡ compare_bytes l r
    lengths_decide e g =
        lt_cases (length l) (length r) (Ok (nat_cmp (length l) (length r)) ≡ compare_bytes l r)
        (λ b. let k : nat_cmp (length l) (length r) ≡ Or.Less = rw (lt-ltb (length l) (length r) b) in ap Ok k ∙ left_ends (omega arith))
        (λ c.
        let k : nat_cmp (length l) (length r) ≡ Or.Equal = rw (le-ltb (length l) (length r) c, eq-eqb (length l) (length r) (omega arith)) in
        ap Ok k ∙ both_end (omega arith))

-- where the shorter side ends, the lengths decide
pub ends_decide : (l r : List ℕ) (i : ℕ) → Undecided l r i → min (length l) (length r) ≤ i → i ≤ length l → i ≤ length r
    → Ok (nat_cmp (length l) (length r)) ≡ compare_bytes l r
ends_decide l r i u h a b =
    lt_cases i (length l) (Ok (nat_cmp (length l) (length r)) ≡ compare_bytes l r)
    (λ c.
    let k : nat_cmp (length l) (length r) ≡ Or.Greater = rw (le-ltb (length l) (length r) (omega arith), ne_eqb (length l) (length r) (λ q. omega arith)) in
    ap Ok k ∙ right_ends l r i u c (omega arith))
    (λ c. lengths_decide l r i u c (omega arith) b)

-- the order of the library's slices
pub in_order : (s t : List ℕ) → Ok (slice_cmp nat_cmp s t) ≡ compare_bytes s t
unfolding compare_bytes
in_order [] [] = refl
in_order [] (y ∷ t) = refl
in_order (x ∷ s) [] = refl
in_order (x ∷ s) (y ∷ t) =
    lt_cases x y (Ok (slice_cmp nat_cmp (x ∷ s) (y ∷ t)) ≡ compare_bytes (x ∷ s) (y ∷ t))
    (λ h. rw (lt-ltb x y h))
    (λ l.
    lt_cases y x (Ok (slice_cmp nat_cmp (x ∷ s) (y ∷ t)) ≡ compare_bytes (x ∷ s) (y ∷ t))
    (λ g. rw (le-ltb x y l, lt-ltb y x g, ne_eqb x y (λ e. omega arith)))
    (λ m. rw (le-ltb x y l, le-ltb y x m, eq-eqb x y (omega arith)) (in_order s t)))

-- ---- eight bytes

module _ (l r : List ℕ) (i : ℕ) (bl : (j : ℕ) → get_or l j 0 < 256) (br : (j : ℕ) → get_or r j 0 < 256) (x y : ℕ)
    (p : x ≡ get_bits l (8 * i) 64) (q : y ≡ get_bits r (8 * i) 64) (e : x ≡ y) where
  bit_of_both : (k m : ℕ) → k < 8 → m < 8 → bit_at l (8 * (i + k) + m) ≡ bit_at r (8 * (i + k) + m)
  bit_of_both k m h g =
      let z : 8 * (i + k) + m ≡ 8 * i + (8 * k + m) = omega arith in
      ap (bit_at l) z
      ∙ sym (run_bit (bit_at l) (bit_at_lt l) (8 * i) 64 (8 * k + m) (omega arith))
      ∙ ap (λ (v : ℕ). bit_of v (8 * k + m)) (sym p ∙ e ∙ q)
      ∙ run_bit (bit_at r) (bit_at_lt r) (8 * i) 64 (8 * k + m) (omega arith)
      ∙ ap (bit_at r) (sym z)

  byte_of_both : (k : ℕ) → k < 8 → get_or l (i + k) 0 ≡ get_or r (i + k) 0
  byte_of_both k h =
      sym (run_byte l (i + k) (bl (i + k)))
      ∙ run_ext (bit_at l) (bit_at r) (8 * (i + k)) (8 * (i + k)) 8 (λ m g. bit_of_both k m h g)
      ∙ run_byte r (i + k) (br (i + k))

  module _ (u : Undecided l r i) (h : i + 8 ≤ length l) (g : i + 8 ≤ length r) where
    passed : (k : ℕ) → k ≤ 8 → Undecided l r (i + k)
    passed zero c = let z : i + zero ≡ i = omega arith in rw z u
    passed (suc k) c =
        let b = byte_of_both k (omega arith) in
        let z : i + k + 1 ≡ i + suc k = omega arith in
        rw z at (byte_same l r (i + k) (passed k (omega arith)) (omega arith) (omega arith) (get_or l (i + k) 0) (get_or r (i + k) 0) refl refl (omega arith) (omega arith))

    pub words_same : Undecided l r (i + 8)
    words_same = passed 8 (omega arith)

-- ---- byte i of a BufferField's Buffer: the field's bits there, zeros above them
module _ (t : List ℕ) (o n i : ℕ) where
  field_bits : (m : ℕ) → 8 * i + m ≤ n → get_bits t (o + 8 * i) m ≡ run (run_bits t o n) (0 + 8 * i) m
  field_bits m h =
      run_ext (bit_at t) (run_bits t o n) (o + 8 * i) (0 + 8 * i) m
      (λ k l.
      let d : o + (0 + 8 * i + k - 0) ≡ o + 8 * i + k = omega arith in
      sym (put_in (λ _. 0) 0 n (from (bit_at t) o) (0 + 8 * i + k) (omega arith) (omega arith) ∙ ap (bit_at t) d))

  pub byte_of_field : 8 * i < n → (r : ℕ) → r ≡ get_bits t (o + 8 * i) (min 8 (n - 8 * i)) → r ≡ get_or (bytes (run_bits t o n) 0 (bytes_for n)) i 0
  byte_of_field h r g =
      g
      ∙ lt_cases (n - 8 * i) 8 (get_bits t (o + 8 * i) (min 8 (n - 8 * i)) ≡ run (run_bits t o n) (0 + 8 * i) 8)
      (λ few.
      let e : min 8 (n - 8 * i) ≡ n - 8 * i = omega arith in
      let f : n - 8 * i + (8 - (n - 8 * i)) ≡ 8 = omega arith in
      rw e (field_bits (n - 8 * i) (omega arith))
      ∙ run_more (run_bits t o n) (0 + 8 * i) (n - 8 * i) (8 - (n - 8 * i)) (λ k l. put_above (λ _. 0) 0 n (from (bit_at t) o) k (omega arith))
      ∙ ap (run (run_bits t o n) (0 + 8 * i)) f)
      (λ many. let e : min 8 (n - 8 * i) ≡ 8 = omega arith in rw e (field_bits 8 (omega arith)))
      ∙ sym (bytes_at (run_bits t o n) 0 (bytes_for n) i (omega arith))

-- as it is read: the bits that are left, where these are fewer than eight
pub few_bits : (t : List ℕ) (o n r : ℕ) → n < 8 → r ≡ get_bits t o (min n 64) → r ≡ get_bits t o (min 8 n)
few_bits t o n r h e = let m : min n 64 ≡ min 8 n = omega arith in e ∙ ap (get_bits t o) m

pub eight_bits : (t : List ℕ) (o n r : ℕ) → 8 ≤ n → r ≡ get_bits t o (min 8 64) → r ≡ get_bits t o (min 8 n)
eight_bits t o n r h e = let m : min 8 64 ≡ min 8 n = omega arith in e ∙ ap (get_bits t o) m

-- ---- numbers: the order of the machine
pub ordered : (x y : ℕ) → Ok (nat_cmp x y) ≡ compare_numbers x y
ordered x y =
    lt_cases x y (Ok (nat_cmp x y) ≡ compare_numbers x y)
    (λ h. rw (lt-ltb x y h))
    (λ l.
    lt_cases y x (Ok (nat_cmp x y) ≡ compare_numbers x y)
    (λ g. rw (le-ltb x y l, lt-ltb y x g, ne_eqb x y (λ e. omega arith)))
    (λ m. rw (le-ltb x y l, le-ltb y x m, eq-eqb x y (omega arith))))

-- ---- the right side's conversion, by its length

module _ (l : List ℕ) (v : AmlValue) (t : List ℕ) (h : length t ≤ 65536) (counted : Result ℕ Refusal) where
  module _ (e : counted ≡ string_length v t) where
    pub string_refused : (q : Refusal) → counted ≡ Err q
        → Err q ≡ texts l (to_string (held_by v t))
    string_refused q d = rw (counted_none (to_string (held_by v t)) q (string_counted v t h ∙ sym e ∙ d))

    pub string_compared : (n : ℕ) → counted ≡ Ok n → (r : Result Ordering Refusal) → r ≡ compare_bytes l t → r ≡ texts l (to_string (held_by v t))
    string_compared n d r g = g ∙ rw (only_string v t n (string_counted v t h ∙ sym e ∙ d))

  module _ (e : counted ≡ buffer_length v t) where
    pub buffer_refused : (q : Refusal) → counted ≡ Err q
        → Err q ≡ texts l (to_buffer (held_by v t))
    buffer_refused q d = rw (counted_none (to_buffer (held_by v t)) q (buffer_counted v t h ∙ sym e ∙ d))

    module _ (n : ℕ) (d : counted ≡ Ok n) where
      pub buffer_compared : OneOf not_field (tag_of the_type v) → (r : Result Ordering Refusal) → r ≡ compare_bytes l t → r ≡ texts l (to_buffer (held_by v t))
      buffer_compared k r g = g ∙ rw (only_buffer v t n k (buffer_counted v t h ∙ sym e ∙ d))

      module _ (o m : ℕ) (k : v ≡ Val.BufferField o m) where
        held : length_of (content_buffer (buffer_field_content o m t)) ≡ Ok n
        held = rw (k, buffer_of_buffer_field) at (buffer_counted v t h ∙ sym e ∙ d)

        pub field_inside : (o + m ≤ 8 * length t) × (length t ≤ 65536) × (n ≡ bytes_for m)
        field_inside =
            let b = field_long o m n t held in
            let c : Ok (length (bytes (run_bits t o m) 0 (bytes_for m))) ≡ Ok n = rw (content_bytes o m t b.0 b.1) at held in
            let f : length (bytes (run_bits t o m) 0 (bytes_for m)) ≡ n = cc in
            (b.0, h, omega (arith, bytes_length (run_bits t o m) 0 (bytes_for m)))

        pub field_compared : (r : Result Ordering Refusal) → r ≡ compare_bytes l (bytes (run_bits t o m) 0 (bytes_for m)) → r ≡ texts l (to_buffer (held_by v t))
        field_compared r g = let b = field_long o m n t held in g ∙ rw (k, buffer_of_buffer_field, content_bytes o m t b.0 b.1)

-- ---- by the left side

-- a left side that counts as its integer, against the right
abbrev counts : Held → Held → Result Ordering Refusal
counts a b = and_then (to_integer a) (λ x. numbers x b) Err

by_operands : (x y : Result ℕ Refusal)
    → compared_operands (and_then x (λ i. and_then y (λ n. Ok (i, n)) Err) Err) ≡ and_then x (λ i. and_then y (compare_numbers i) Err) Err
by_operands (Err r) y = refl
by_operands (Ok i) (Err r) = refl
by_operands (Ok i) (Ok n) = refl

by_unit : (u : Result UnitRead Refusal) (b : Held) → contents (unit_content u) b ≡ and_then (content_integer (unit_content u)) (λ x. numbers x b) Err
by_unit (Ok u) b = refl
by_unit (Err r) b = refl

-- all but Boolean, Integer, String, Buffer, Field
abbrev pub uncompared : List ℕ
uncompared = 4 ∷ 6 ∷ 7 ∷ 8 ∷ 9 ∷ 10 ∷ 11 ∷ 12 ∷ 13 ∷ []

cannot_compare : (v : AmlValue) (s : List ℕ) (b : Held) → OneOf uncompared (tag_of the_type v) → compared (held_by v s) b ≡ Err (R.TypeCannotBeCompared (type_of v))
unfolding compared
cannot_compare (Val.Boolean x) s b k = absurd (miss uncompared 0 tt k)
cannot_compare (Val.Integer x) s b k = absurd (miss uncompared 1 tt k)
cannot_compare Val.String s b k = absurd (miss uncompared 2 tt k)
cannot_compare Val.Buffer s b k = absurd (miss uncompared 3 tt k)
cannot_compare (Val.Field f) s b k = absurd (miss uncompared 5 tt k)
cannot_compare (Val.BufferField o m) s b k = refl
cannot_compare Val.OpRegion s b k = refl
cannot_compare Val.Device s b k = refl
cannot_compare Val.Method s b k = refl
cannot_compare Val.Processor s b k = refl
cannot_compare Val.Mutex s b k = refl
cannot_compare Val.Package s b k = refl
cannot_compare Val.PowerResource s b k = refl
cannot_compare Val.ThermalZone s b k = refl

module _ (a : AmlValue) (s : List ℕ) (b : AmlValue) (t : List ℕ) where
  pub left_long : 65536 < length s → Err R.TooManyBytes ≡ compare a s b t
  unfolding compare
  left_long h = sym (both_long s t _ Err h)

  pub right_long : 65536 < length t → Err R.TooManyBytes ≡ compare a s b t
  unfolding compare
  right_long h = sym (both_second s t _ Err h)

  module _ (h : length s ≤ 65536) (g : length t ≤ 65536) where
    by_left : compared (held_by a s) (held_by b t) ≡ compare a s b t
    unfolding compare
    by_left = sym (both_short s t _ Err h g)

    pub left_string : a ≡ Val.String → (r : Result Ordering Refusal) → r ≡ texts s (to_string (held_by b t)) → r ≡ compare a s b t
    unfolding compared
    left_string k r e = e ∙ rw (← by_left, k)

    pub left_buffer : a ≡ Val.Buffer → (r : Result Ordering Refusal) → r ≡ texts s (to_buffer (held_by b t)) → r ≡ compare a s b t
    unfolding compared
    left_buffer k r e = e ∙ rw (← by_left, k)

    pub left_other : OneOf uncompared (tag_of the_type a) → (m : AmlType) → m ≡ type_of a → Err (R.TypeCannotBeCompared m) ≡ compare a s b t
    left_other k m e = rw (e, ← by_left) (sym (cannot_compare a s (held_by b t) k))

    module _ (both : Result (ℕ × ℕ) Refusal) (e : both ≡ operands a s b t) (r : Result Ordering Refusal) (c : r ≡ compared_operands both) where
      by_number : compared (held_by a s) (held_by b t) ≡ counts (held_by a s) (held_by b t) → r ≡ compare a s b t
      by_number n = c ∙ rw (e, operands_short a s b t h g) (by_operands (to_integer (held_by a s)) (to_integer (held_by b t))) ∙ sym n ∙ by_left

      pub left_number : ((x : Bool) × (a ≡ Val.Boolean x)) ⊎ (((x : ℕ) × (a ≡ Val.Integer x)) ⊎ ((f : FieldUnit) × (a ≡ Val.Field f)))
          → r ≡ compare a s b t
      unfolding compared to_integer
      left_number (inl k) = by_number (rw k.1)
      left_number (inr (inl k)) = by_number (rw k.1)
      left_number (inr (inr k)) = by_number (rw k.1 (by_unit (read_field s k.0) (held_by b t)))
