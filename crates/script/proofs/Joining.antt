-- Concat, ConcatRes and Mid of operands of at most 256 bytes: their bytes fit 512, so what is at the front of a room of 512 bytes is what they answer.
-- Assumes nothing.
use mathlib.Core.Path.{◌≡◌, refl, sym, ap, ◌∙◌}
use mathlib.Core.Bool.{Bool, true, false, ◌||◌}
use mathlib.Core.List.{List, [], ◌∷◌, ◌++◌}
use Prim.Native.Nat.{ℕ, ◌+◌, ◌-◌, ◌*◌, ◌≤◌}
use native.Mathlib.Nat.{le_refl}
use native.Mathlib.Omega.{arith}
use lib.Dec.{eqb}
use lib.ListN.{length, take, drop, length-append, length-take, length-drop}
use lib.Seq.{take-append_seam}
use Rattle.bits.specs.Bits.{bit_of, run_bits, bytes_for}
use Rattle.bits.proofs.Laws.{lt_cases, bytes_length}
use Rattle.types.specs.Refusals.{first_of, judged}
use Rattle.types.specs.declared.refusal.Refusal.{Refusal}
use Rattle.types.specs.declared.refusal.Refusal.TheVariants as R
use Rattle.expression.specs.declared.concat.ConcatValue.TheVariants as Cv
use Rattle.expression.specs.declared.concat.ConcatValue.{ConcatValue}
use Rattle.std.specs.Prelude.{⊤, Result, Ok, Err}
use Rattle.types.specs.declared.value.AmlValue.{AmlValue}
use Rattle.types.specs.declared.value.AmlValue.TheVariants as Val
use Rattle.buffer_field.specs.BufferFields.{too_long}
use Rattle.script.specs.Ops.{buffer_letter, letter_of}
use Rattle.field_unit.specs.Calls.{read_field}
use Rattle.value.specs.Conversions.{held_by, to_integer, to_buffer, Bytes, these, none, Given, given, giving, into, truth_number}
use Rattle.value.proofs.Fields.{content_outside, content_number, content_bytes, unit_no_buffer}
use Rattle.value.proofs.Giving.{giving_short, giving_these, giving_none}
use Rattle.expression.specs.Numbers.{and_then}
use Rattle.expression.specs.Mid.{source, mid, mid_outcome, mid_part}
use Rattle.types.specs.declared.value.AmlType.TheVariants as T
use Rattle.expression.specs.Concat.{name_of, Joined, a_buffer, a_string, refused, number_bytes, join_buffers, join_texts, joined, text_of, text_bytes, Concatenated, concatenated, delivered, concat, body, ended, join_resources, concat_res}
use Rattle.expression.proofs.Lent.{both_short}

-- two answers that differ
no : {A : Type 0} → ◌≡◌ {A = ℕ} 0 1 → A
no z = absurd (omega (arith, z))

-- ---- how long the bytes are

abbrev pub joined_bytes : Joined → List ℕ
joined_bytes (a_buffer l) = l
joined_bytes (a_string l) = l
joined_bytes (refused r) = []

buffer_most : (v : AmlValue) (t : List ℕ) → length (text_bytes (to_buffer (held_by v t))) ≤ length t
unfolding to_buffer
buffer_most Val.Buffer t = le_refl (length t)
buffer_most (Val.BufferField o n) t =
    lt_cases (8 * length t) (o + n) _
    (λ h. rw (content_outside o n t h) (omega arith))
    (λ h.
    lt_cases 64 n _
    (λ l. rw (content_bytes o n t h l) (omega (arith, bytes_length (run_bits t o n) 0 (bytes_for n))))
    (λ l. rw (content_number o n t h l) (omega arith)))
buffer_most (Val.Field f) t = rw (unit_no_buffer (read_field t f)) (omega arith)
buffer_most (Val.Boolean b) t = omega arith
buffer_most (Val.Integer x) t = omega arith
buffer_most Val.String t = omega arith
buffer_most Val.OpRegion t = omega arith
buffer_most Val.Device t = omega arith
buffer_most Val.Method t = omega arith
buffer_most Val.Processor t = omega arith
buffer_most Val.Mutex t = omega arith
buffer_most Val.Package t = omega arith
buffer_most Val.PowerResource t = omega arith
buffer_most Val.ThermalZone t = omega arith

ended_length : (l : List ℕ) → length (ended l) ≡ length l + 2
ended_length l = length-append l _

-- k and m: as many bytes as the operands have, or a name has
module _ (k : ℕ) (h : 18 ≤ k) where
  text_most : (v : AmlValue) (t : List ℕ) → length t ≤ k → length (text_bytes (text_of (held_by v t))) ≤ k
  text_most Val.String t l = omega arith
  text_most Val.Buffer t l = omega arith
  text_most (Val.BufferField o n) t l = omega arith
  text_most (Val.Field f) t l = omega arith
  text_most (Val.Boolean b) t l = omega arith
  text_most (Val.Integer x) t l = omega arith
  text_most Val.OpRegion t l = omega arith
  text_most Val.Device t l = omega arith
  text_most Val.Method t l = omega arith
  text_most Val.Processor t l = omega arith
  text_most Val.Mutex t l = omega arith
  text_most Val.Package t l = omega arith
  text_most Val.PowerResource t l = omega arith
  text_most Val.ThermalZone t l = omega arith

module _ (k m : ℕ) (h : 18 ≤ k) (g : 18 ≤ m) where
  numbers_most : (x : ℕ) (i : Result ℕ Refusal) → length (joined_bytes (and_then i (λ y. a_buffer (number_bytes x ++ number_bytes y)) refused)) ≤ k + m
  numbers_most x (Ok y) = omega (arith, length-append (number_bytes x) (number_bytes y), bytes_length (bit_of x) 0 8, bytes_length (bit_of y) 0 8)
  numbers_most x (Err r) = omega arith

  buffers_most : (l : List ℕ) (b : Bytes) → length l ≤ k → length (text_bytes b) ≤ m → length (joined_bytes (join_buffers l b)) ≤ k + m
  buffers_most l (these r) p q = omega (arith, length-append l r)
  buffers_most l (none r) p q = omega arith

  texts_most : (l : List ℕ) (b : Bytes) → length l ≤ k → length (text_bytes b) ≤ m → length (joined_bytes (join_texts l b)) ≤ k + m
  texts_most l (these r) p q = omega (arith, length-append l r)
  texts_most l (none r) p q = omega arith

  pub joined_most : (a : AmlValue) (s : List ℕ) (b : AmlValue) (t : List ℕ) → length s ≤ k → length t ≤ m → length (joined_bytes (joined (held_by a s) (held_by b t))) ≤ k + m
  unfolding joined
  joined_most (Val.Boolean x) s b t p q = numbers_most (truth_number x) (to_integer (held_by b t))
  joined_most (Val.Integer x) s b t p q = numbers_most x (to_integer (held_by b t))
  joined_most Val.Buffer s b t p q = let l = buffer_most b t in buffers_most s (to_buffer (held_by b t)) p (omega arith)
  joined_most Val.String s b t p q = texts_most s (text_of (held_by b t)) p (text_most m g b t q)
  joined_most (Val.BufferField o n) s b t p q = texts_most (name_of T.BufferField) (text_of (held_by b t)) (omega arith) (text_most m g b t q)
  joined_most (Val.Field f) s b t p q = texts_most (name_of T.FieldUnit) (text_of (held_by b t)) (omega arith) (text_most m g b t q)
  joined_most Val.OpRegion s b t p q = texts_most (name_of T.OpRegion) (text_of (held_by b t)) (omega arith) (text_most m g b t q)
  joined_most Val.Device s b t p q = texts_most (name_of T.Device) (text_of (held_by b t)) (omega arith) (text_most m g b t q)
  joined_most Val.Method s b t p q = texts_most (name_of T.Method) (text_of (held_by b t)) (omega arith) (text_most m g b t q)
  joined_most Val.Processor s b t p q = texts_most (name_of T.Processor) (text_of (held_by b t)) (omega arith) (text_most m g b t q)
  joined_most Val.Mutex s b t p q = texts_most (name_of T.Mutex) (text_of (held_by b t)) (omega arith) (text_most m g b t q)
  joined_most Val.Package s b t p q = texts_most (name_of T.Package) (text_of (held_by b t)) (omega arith) (text_most m g b t q)
  joined_most Val.PowerResource s b t p q = texts_most (name_of T.PowerResource) (text_of (held_by b t)) (omega arith) (text_most m g b t q)
  joined_most Val.ThermalZone s b t p q = texts_most (name_of T.ThermalZone) (text_of (held_by b t)) (omega arith) (text_most m g b t q)

  judged_most : (c : Bool) (l r : List ℕ) → length l ≤ k → length r ≤ m
      → length (text_bytes (judged (first_of ((c, R.ResourceDescriptorTooShort) ∷ [])) (these (ended (body l ++ body r))) none)) ≤ k + m
  unfolding first_of
  judged_most true l r p q = omega arith
  judged_most false l r p q =
      let e : length (ended (body l ++ body r)) ≤ k + m
      = omega (arith, ended_length (body l ++ body r), length-append (body l) (body r), length-take (length l - 2) l, length-take (length r - 2) r) in
      e

  resources_most : (x y : Bytes) → length (text_bytes x) ≤ k → length (text_bytes y) ≤ m → length (text_bytes (join_resources x y)) ≤ k + m
  resources_most (these l) (these r) p q = judged_most (eqb (length l) 1 || eqb (length r) 1) l r p q
  resources_most (these l) (none r) p q = omega arith
  resources_most (none r) y p q = omega arith

  pub ended_most : (a : AmlValue) (s : List ℕ) (b : AmlValue) (t : List ℕ) → length s ≤ k → length t ≤ m
      → length (text_bytes (join_resources (to_buffer (held_by a s)) (to_buffer (held_by b t)))) ≤ k + m
  ended_most a s b t p q =
      let x = buffer_most a s in
      let y = buffer_most b t in
      resources_most (to_buffer (held_by a s)) (to_buffer (held_by b t)) (omega arith) (omega arith)

-- ---- bytes given at the front of a room

module _ (room after : List ℕ) where
  front : (l : List ℕ) (n : ℕ) → n ≡ length l → after ≡ into l room → l ≡ take n after
  front l n e f = rw (e, f) (sym (take-append_seam l (drop (length l) room)))

  given_bytes : (b : Bytes) (n : ℕ) → given (Ok n) after ≡ giving b room → (b ≡ these (take n after)) × (n ≤ length room) × (n ≤ length after)
  given_bytes (none r) n e = no (cc (ap (λ (g : Given). g.answer) e, giving_none r room))
  given_bytes (these l) n e =
      lt_cases (length room) (length l) _
      (λ h. no (cc (ap (λ (g : Given). g.answer) (e ∙ giving_short l room h))))
      (λ h.
      let a : Ok n ≡ Ok (length l) = ap (λ (g : Given). g.answer) (e ∙ giving_these l room h) in
      let n≡ : n ≡ length l = cc in
      let f : l ≡ take n after = front l n n≡ (ap (λ (g : Given). g.out) (e ∙ giving_these l room h)) in
      (ap these f, omega arith, omega (arith, ap length f, length-take n after)))

  given_none : (b : Bytes) (q : Refusal) → length (text_bytes b) ≤ length room → given (Err q) after ≡ giving b room → b ≡ none q
  given_none (none r) q m e = let a : Err q ≡ Err r = ap (λ (g : Given). g.answer) (e ∙ giving_none r room) in cc
  given_none (these l) q m e = no (cc (ap (λ (g : Given). g.answer) (e ∙ giving_these l room m)))

  delivered_buffer : (j : Joined) (n : ℕ) → concatenated (Ok (Cv.Buffer n)) after ≡ delivered j room → (j ≡ a_buffer (take n after)) × (n ≤ length room) × (n ≤ length after)
  delivered_buffer (refused r) n e = no (cc (ap (λ (g : Concatenated). g.answer) e))
  delivered_buffer (a_string l) n e =
      lt_cases (length room) (length l) _
      (λ h. no (cc (ap (λ (g : Concatenated). g.answer) (rw (giving_short l room h) at e))))
      (λ h. no (cc (ap (λ (g : Concatenated). g.answer) (rw (giving_these l room h) at e))))
  delivered_buffer (a_buffer l) n e =
      lt_cases (length room) (length l) _
      (λ h. no (cc (ap (λ (g : Concatenated). g.answer) (rw (giving_short l room h) at e))))
      (λ h.
      let d : concatenated (Ok (Cv.Buffer n)) after ≡ concatenated (Ok (Cv.Buffer (length l))) (into l room) = rw (giving_these l room h) at e in
      let a : Ok (Cv.Buffer n) ≡ Ok (Cv.Buffer (length l)) = ap (λ (g : Concatenated). g.answer) d in
      let n≡ : n ≡ length l = cc in
      let f : l ≡ take n after = front l n n≡ (ap (λ (g : Concatenated). g.out) d) in
      (ap a_buffer f, omega arith, omega (arith, ap length f, length-take n after)))

  delivered_string : (j : Joined) (n : ℕ) → concatenated (Ok (Cv.String n)) after ≡ delivered j room → (j ≡ a_string (take n after)) × (n ≤ length room) × (n ≤ length after)
  delivered_string (refused r) n e = no (cc (ap (λ (g : Concatenated). g.answer) e))
  delivered_string (a_buffer l) n e =
      lt_cases (length room) (length l) _
      (λ h. no (cc (ap (λ (g : Concatenated). g.answer) (rw (giving_short l room h) at e))))
      (λ h. no (cc (ap (λ (g : Concatenated). g.answer) (rw (giving_these l room h) at e))))
  delivered_string (a_string l) n e =
      lt_cases (length room) (length l) _
      (λ h. no (cc (ap (λ (g : Concatenated). g.answer) (rw (giving_short l room h) at e))))
      (λ h.
      let d : concatenated (Ok (Cv.String n)) after ≡ concatenated (Ok (Cv.String (length l))) (into l room) = rw (giving_these l room h) at e in
      let a : Ok (Cv.String n) ≡ Ok (Cv.String (length l)) = ap (λ (g : Concatenated). g.answer) d in
      let n≡ : n ≡ length l = cc in
      let f : l ≡ take n after = front l n n≡ (ap (λ (g : Concatenated). g.out) d) in
      (ap a_string f, omega arith, omega (arith, ap length f, length-take n after)))

  delivered_none : (j : Joined) (q : Refusal) → length (joined_bytes j) ≤ length room → concatenated (Err q) after ≡ delivered j room → j ≡ refused q
  delivered_none (refused r) q m e = let a : Err q ≡ Err r = ap (λ (g : Concatenated). g.answer) e in cc
  delivered_none (a_buffer l) q m e = no (cc (ap (λ (g : Concatenated). g.answer) (rw (giving_these l room m) at e)))
  delivered_none (a_string l) q m e = no (cc (ap (λ (g : Concatenated). g.answer) (rw (giving_these l room m) at e)))

-- ---- the operators, in a room of 512 bytes
module _ (a : AmlValue) (s : List ℕ) (b : AmlValue) (t : List ℕ) (h : length s ≤ 256) (k : length t ≤ 256) (room after : List ℕ) (m : length room ≡ 512) where
  module _ (r : Result ConcatValue Refusal) (e : concatenated r after ≡ concat a s b t room) where
    gave : (x : Result ConcatValue Refusal) → r ≡ x → concatenated x after ≡ delivered (joined (held_by a s) (held_by b t)) room
    unfolding concat
    gave x d = ap (λ (y : Result ConcatValue Refusal). concatenated y after) (sym d) ∙ e ∙ both_short s t _ (λ q. concatenated (Err q) room) (omega arith) (omega arith)

    pub concat_buffer : (n : ℕ) → r ≡ Ok (Cv.Buffer n) → (joined (held_by a s) (held_by b t) ≡ a_buffer (take n after)) × (n ≤ 512) × (n ≤ length after)
    concat_buffer n d = rw m at (delivered_buffer room after (joined (held_by a s) (held_by b t)) n (gave (Ok (Cv.Buffer n)) d))

    pub concat_string : (n : ℕ) → r ≡ Ok (Cv.String n) → (joined (held_by a s) (held_by b t) ≡ a_string (take n after)) × (n ≤ 512) × (n ≤ length after)
    concat_string n d = rw m at (delivered_string room after (joined (held_by a s) (held_by b t)) n (gave (Ok (Cv.String n)) d))

    pub concat_refused : (q : Refusal) → r ≡ Err q → joined (held_by a s) (held_by b t) ≡ refused q
    concat_refused q d = delivered_none room after _ q (rw m (joined_most 256 256 (omega arith) (omega arith) a s b t h k)) (gave (Err q) d)

  module _ (r : Result ℕ Refusal) (e : given r after ≡ concat_res a s b t room) where
    resources_gave : (x : Result ℕ Refusal) → r ≡ x → given x after ≡ giving (join_resources (to_buffer (held_by a s)) (to_buffer (held_by b t))) room
    unfolding concat_res
    resources_gave x d = ap (λ (y : Result ℕ Refusal). given y after) (sym d) ∙ e ∙ both_short s t _ (λ q. given (Err q) room) (omega arith) (omega arith)

    pub resources_bytes : (n : ℕ) → r ≡ Ok n → (join_resources (to_buffer (held_by a s)) (to_buffer (held_by b t)) ≡ these (take n after)) × (n ≤ 512) × (n ≤ length after)
    resources_bytes n d = rw m at (given_bytes room after (join_resources (to_buffer (held_by a s)) (to_buffer (held_by b t))) n (resources_gave (Ok n) d))

    pub resources_refused : (q : Refusal) → r ≡ Err q → join_resources (to_buffer (held_by a s)) (to_buffer (held_by b t)) ≡ none q
    resources_refused q d = given_none room after _ q (rw m (ended_most 256 256 (omega arith) (omega arith) a s b t h k)) (resources_gave (Err q) d)

-- ---- Mid, in two calls: a part is no longer than its source
source_most : (v : AmlValue) (s : List ℕ) (i n : ℕ) → length (mid_part (source (held_by v s) i n)) ≤ length s
source_most Val.String s i n = simp (length-take, length-drop) (omega arith)
source_most Val.Buffer s i n = simp (length-take, length-drop) (omega arith)
source_most (Val.BufferField o m) s i n = omega arith
source_most (Val.Field f) s i n = omega arith
source_most (Val.Boolean b) s i n = omega arith
source_most (Val.Integer x) s i n = omega arith
source_most Val.OpRegion s i n = omega arith
source_most Val.Device s i n = omega arith
source_most Val.Method s i n = omega arith
source_most Val.Processor s i n = omega arith
source_most Val.Mutex s i n = omega arith
source_most Val.Package s i n = omega arith
source_most Val.PowerResource s i n = omega arith
source_most Val.ThermalZone s i n = omega arith

part_most : (v : AmlValue) (s : List ℕ) (c : Bool) (x y : Result ℕ Refusal)
    → length (mid_part (judged (first_of ((c, R.TooManyBytes) ∷ [])) (and_then x (λ i. and_then y (λ n. source (held_by v s) i n) none) none) none)) ≤ length s
unfolding first_of
part_most v s true x y = omega arith
part_most v s false (Err r) y = omega arith
part_most v s false (Ok i) (Err r) = omega arith
part_most v s false (Ok i) (Ok n) = source_most v s i n

pub mid_most : (v : AmlValue) (s : List ℕ) (i : AmlValue) (is : List ℕ) (n : AmlValue) (ns : List ℕ) → length (mid_part (mid v s i is n ns)) ≤ length s
unfolding mid
mid_most v s i is n ns = part_most v s (too_long s || (too_long is || too_long ns)) (to_integer (held_by i is)) (to_integer (held_by n ns))

module _ (p : Bytes) (o : Result ⊤ Refusal) (e : o ≡ mid_outcome p) where
  pub mid_refused : (q : Refusal) → o ≡ Err q → p ≡ none q
  mid_refused q d = of p (sym d ∙ e)
    where
      of : (x : Bytes) → Err q ≡ mid_outcome x → x ≡ none q
      of (these l) f = cc
      of (none r) f = cc

  pub mid_part_lem : o ≡ Ok tt → (l : List ℕ) → l ≡ mid_part p → p ≡ these l
  mid_part_lem d l g = of p (sym d ∙ e) g
    where
      of : (x : Bytes) → Ok tt ≡ mid_outcome x → l ≡ mid_part x → x ≡ these l
      of (these k) f i = ap these (sym i)
      of (none r) f i = cc

-- all but String
pub other_letter : (v : AmlValue) → (v ≡ Val.String → ⊥) → letter_of v ≡ buffer_letter
other_letter Val.String k = absurd (k refl)
other_letter Val.Buffer k = refl
other_letter (Val.BufferField o n) k = refl
other_letter (Val.Field f) k = refl
other_letter (Val.Boolean b) k = refl
other_letter (Val.Integer x) k = refl
other_letter Val.OpRegion k = refl
other_letter Val.Device k = refl
other_letter Val.Method k = refl
other_letter Val.Processor k = refl
other_letter Val.Mutex k = refl
other_letter Val.Package k = refl
other_letter Val.PowerResource k = refl
other_letter Val.ThermalZone k = refl
