-- Concat: two texts, buffers or numbers one behind the other at the front of the output, or the first refusal; 20 last.
-- Assumes nothing.
use Rattle.std.proofs.Common.{◌≡◌, ℕ, ◌+◌, ◌-◌, ◌<◌, ◌≤◌, Bool, List, [], ◌∷◌, ◌++◌, length, get_or, take, drop, sym, refl, ap, ◌∙◌, arith, length-append, length-drop, get_or-drop}
use mathlib.Core.Logic.{◌⊎◌, inl, inr}
use denote.Enum.Declared.{tag_of}
use types.Run.{OneOf, miss}
use borrow.Rule.Slice.PartMut.{put_mid}
use Rattle.bits.specs.Bits.{bit_of, set_bits}
use Rattle.bits.proofs.Laws.{bytes_length}
use Rattle.types.specs.declared.refusal.Refusal.{Refusal}
use Rattle.types.specs.declared.refusal.Refusal.TheVariants as R
use Rattle.types.specs.declared.value.AmlValue.{AmlValue}
use Rattle.types.specs.declared.value.AmlValue.TheVariants as Val
use Rattle.types.specs.contracts.value.AmlValue as AmlValue
use Rattle.value.specs.Conversions.{Held, held_by, to_integer, to_buffer, Bytes, these, Given, given, giving, into, as_buffer}
use Rattle.value.specs.Lengths.{length_of, buffer_length}
use Rattle.expression.specs.declared.concat.ConcatValue.TheVariants as Cv
use Rattle.expression.specs.declared.concat.ConcatValue.{ConcatValue}
use Rattle.std.specs.Prelude.{Result, Ok, Err}
use Rattle.value.proofs.Giving.{bits_into, giving_short, giving_these}
use Rattle.value.proofs.Lengths.{buffer_counted}
use Rattle.value.proofs.Lent.{as_buffer_short}
use Rattle.expression.specs.Numbers.{and_then, operands}
use Rattle.expression.specs.Concat.{text_of, text_bytes, Joined, a_buffer, a_string, refused, number_bytes, join_numbers, join_operands, join_buffers, join_texts, join_both, joined, concatenated, delivered, concat}
use Rattle.expression.proofs.Lent.{both_long, both_second, both_short}
use Rattle.expression.proofs.Numbers.{operands_short}
use Rattle.expression.proofs.Counting.{counted_these, counted_length, counted_none}
use Rattle.expression.proofs.Filling.{copied, rest, pieces}

-- ---- two lists and an output
module _ (l r out : List ℕ) where
  no_room_left : length out < length l → giving (these (l ++ r)) out ≡ given (Err R.OutputTooShort) out
  no_room_left h = giving_short (l ++ r) out (omega (arith, length-append l r))

  no_room_right : length out - length l < length r → giving (these (l ++ r)) out ≡ given (Err R.OutputTooShort) out
  no_room_right h = giving_short (l ++ r) out (omega (arith, length-append l r))

  room : length l ≤ length out → length r ≤ length out - length l → giving (these (l ++ r)) out ≡ given (Ok (length l + length r)) (into (l ++ r) out)
  room h g = giving_these (l ++ r) out (omega (arith, length-append l r)) ∙ ap (λ (n : ℕ). given (Ok n) (into (l ++ r) out)) (length-append l r)

-- ---- numbers

eight : (x : ℕ) → length (number_bytes x) ≡ 8
eight x = bytes_length (bit_of x) 0 8

module _ (x y : ℕ) (out : List ℕ) where
  pub numbers_no_room : length out < 16 → concatenated (Err R.OutputTooShort) out ≡ delivered (join_operands (Ok (x, y))) out
  numbers_no_room h =
      rw (giving_short (number_bytes x ++ number_bytes y) out (omega (arith, length-append (number_bytes x) (number_bytes y), eight x, eight y)))

  pub numbers_done : 16 ≤ length out → ((j : ℕ) → get_or out j 0 < 256) → (t : List ℕ) → t ≡ set_bits out 0 64 x
      → (ys : List ℕ) → ys ≡ set_bits (take (length t - 8) (drop 8 t)) 0 64 y
      → concatenated (Ok (Cv.Buffer 16)) (put_mid 8 (length t - 8) t ys) ≡ delivered (join_operands (Ok (x, y))) out
  numbers_done h b t p ys q =
      let f = p ∙ bits_into out 8 (bit_of x) b (omega arith) in
      let s = rest (number_bytes x) (number_bytes y) out t f (omega (arith, eight x)) 8 (sym (eight x)) in
      let g : ys ≡ into (number_bytes y) (take (length t - 8) (drop 8 t)) =
      q ∙ rw s (bits_into (drop 8 out) 8 (bit_of y) (λ j. rw get_or-drop (b (8 + j))) (omega (arith, length-drop 8 out))) in
      rw (
        pieces (number_bytes x) (number_bytes y) out t f (omega (arith, eight x)) 8 (sym (eight x)) ys g,
        room (number_bytes x) (number_bytes y) out (omega (arith, eight x)) (omega (arith, eight x, eight y)),
        eight x,
        eight y,
      )

-- ---- texts
module _ (a b : Bytes) (out : List ℕ) (first : Result ℕ Refusal) (e : first ≡ length_of a) where
  pub texts_left : (q : Refusal) → first ≡ Err q
      → concatenated (Err q) out ≡ delivered (join_both a b) out
  texts_left q d = rw (counted_none a q (sym e ∙ d))

  module _ (n : ℕ) (d : first ≡ Ok n) (second : Result ℕ Refusal) (f : second ≡ length_of b) where
    pub texts_right : (q : Refusal) → second ≡ Err q
        → concatenated (Err q) out ≡ delivered (join_both a b) out
    texts_right q k = rw (counted_these a n (sym e ∙ d), counted_none b q (sym f ∙ k))

    module _ (m : ℕ) (k : second ≡ Ok m) where
      texts : join_both a b ≡ a_string (text_bytes a ++ text_bytes b)
      texts = ap (λ (x : Bytes). join_both x b) (counted_these a n (sym e ∙ d)) ∙ ap (join_texts (text_bytes a)) (counted_these b m (sym f ∙ k))

      pub texts_short : length out < n → concatenated (Err R.OutputTooShort) out ≡ delivered (join_both a b) out
      texts_short h = rw (texts, no_room_left (text_bytes a) (text_bytes b) out (omega (arith, counted_length a n (sym e ∙ d))))

      pub texts_shorter : length out - n < m → concatenated (Err R.OutputTooShort) out ≡ delivered (join_both a b) out
      texts_shorter h =
          rw (texts, no_room_right (text_bytes a) (text_bytes b) out (omega (arith, counted_length a n (sym e ∙ d), counted_length b m (sym f ∙ k))))

      module _ (h : n ≤ length out) (g : m ≤ length out - n) where
        pub texts_fit : length (text_bytes a) ≤ length out
        texts_fit = omega (arith, counted_length a n (sym e ∙ d))

        module _ (t : List ℕ) (p : t ≡ into (text_bytes a) out) where
          pub texts_fit_behind : length (text_bytes b) ≤ length (take (length t - n) (drop n t))
          texts_fit_behind =
              rw (rest (text_bytes a) (text_bytes b) out t p texts_fit n (counted_length a n (sym e ∙ d)))
              (omega (arith, length-drop n out, counted_length b m (sym f ∙ k)))

          pub texts_done : (ys : List ℕ) → ys ≡ into (text_bytes b) (take (length t - n) (drop n t))
              → concatenated (Ok (Cv.String (n + m))) (put_mid n (length t - n) t ys) ≡ delivered (join_both a b) out
          texts_done ys q =
              let i = counted_length a n (sym e ∙ d) in
              let j = counted_length b m (sym f ∙ k) in
              rw (
                pieces (text_bytes a) (text_bytes b) out t p texts_fit n i ys q,
                texts,
                room (text_bytes a) (text_bytes b) out texts_fit (omega arith),
                i,
                j,
              )

-- ---- buffers
module _ (l : List ℕ) (v : AmlValue) (s out : List ℕ) (h : length s ≤ 65536) (counted : Result ℕ Refusal) (e : counted ≡ buffer_length v s) where
  pub buffers_refused : (q : Refusal) → counted ≡ Err q
      → concatenated (Err q) out ≡ delivered (join_buffers l (to_buffer (held_by v s))) out
  buffers_refused q d = rw (counted_none (to_buffer (held_by v s)) q (buffer_counted v s h ∙ sym e ∙ d))

  module _ (n : ℕ) (d : counted ≡ Ok n) where
    abbrev right : List ℕ
    right = text_bytes (to_buffer (held_by v s))

    held : to_buffer (held_by v s) ≡ these right
    held = counted_these (to_buffer (held_by v s)) n (buffer_counted v s h ∙ sym e ∙ d)

    long : n ≡ length right
    long = counted_length (to_buffer (held_by v s)) n (buffer_counted v s h ∙ sym e ∙ d)

    buffers : join_buffers l (to_buffer (held_by v s)) ≡ a_buffer (l ++ right)
    buffers = ap (join_buffers l) held

    pub buffers_short : length out < length l → concatenated (Err R.OutputTooShort) out ≡ delivered (join_buffers l (to_buffer (held_by v s))) out
    buffers_short k = rw (buffers, no_room_left l right out k)

    pub buffers_shorter : length out - length l < n → concatenated (Err R.OutputTooShort) out ≡ delivered (join_buffers l (to_buffer (held_by v s))) out
    buffers_shorter k = rw (buffers, no_room_right l right out (omega (arith, long)))

    pub buffers_done : length l ≤ length out → n ≤ length out - length l → (at : ℕ) → at ≡ length l
        → (t : List ℕ) → t ≡ take (length l) l ++ drop (length l) out
        → (r : Result ℕ Refusal) (ys : List ℕ) → given r ys ≡ as_buffer v s (take (length t - at) (drop at t))
        → concatenated (Ok (Cv.Buffer (at + n))) (put_mid at (length t - at) t ys) ≡ delivered (join_buffers l (to_buffer (held_by v s))) out
    buffers_done k g at f t p r ys q =
        let i = copied l out t p in
        let b = take (length t - at) (drop at t) in
        let w : length right ≤ length b = rw (rest l right out t i k at f) (omega (arith, length-drop at out, long)) in
        let y : given r ys ≡ given (Ok (length right)) (into right b) =
        q ∙ as_buffer_short v s h b ∙ ap (λ (x : Bytes). giving x b) held ∙ giving_these right b w in
        rw (pieces l right out t i k at f ys (ap (λ (x : Given). x.out) y), buffers, room l right out k (omega (arith, long)), f, long)

-- ---- the whole

joined_numbers : (x y : Result ℕ Refusal)
    → join_operands (and_then x (λ i. and_then y (λ n. Ok (i, n)) Err) Err)
    ≡ and_then x (λ i. and_then y (λ n. a_buffer (number_bytes i ++ number_bytes n)) refused) refused
joined_numbers (Err r) y = refl
joined_numbers (Ok i) (Err r) = refl
joined_numbers (Ok i) (Ok n) = refl

-- all but Boolean, Integer, Buffer
abbrev pub texty : List ℕ
texty = 2 ∷ 4 ∷ 5 ∷ 6 ∷ 7 ∷ 8 ∷ 9 ∷ 10 ∷ 11 ∷ 12 ∷ 13 ∷ []

joined_texts : (v : AmlValue) (s : List ℕ) (b : Held) → OneOf texty (tag_of AmlValue.the_type v) → join_both (text_of (held_by v s)) (text_of b) ≡ joined (held_by v s) b
unfolding joined
joined_texts (Val.Boolean x) s b k = absurd (miss texty 0 tt k)
joined_texts (Val.Integer x) s b k = absurd (miss texty 1 tt k)
joined_texts Val.Buffer s b k = absurd (miss texty 3 tt k)
joined_texts Val.String s b k = refl
joined_texts (Val.BufferField o n) s b k = refl
joined_texts (Val.Field f) s b k = refl
joined_texts Val.OpRegion s b k = refl
joined_texts Val.Device s b k = refl
joined_texts Val.Method s b k = refl
joined_texts Val.Processor s b k = refl
joined_texts Val.Mutex s b k = refl
joined_texts Val.Package s b k = refl
joined_texts Val.PowerResource s b k = refl
joined_texts Val.ThermalZone s b k = refl

module _ (a : AmlValue) (s : List ℕ) (b : AmlValue) (t out : List ℕ) where
  pub concat_left_long : 65536 < length s → concatenated (Err R.TooManyBytes) out ≡ concat a s b t out
  unfolding concat
  concat_left_long h = sym (both_long s t _ (λ r. concatenated (Err r) out) h)

  pub concat_right_long : 65536 < length t → concatenated (Err R.TooManyBytes) out ≡ concat a s b t out
  unfolding concat
  concat_right_long h = sym (both_second s t _ (λ r. concatenated (Err r) out) h)

  module _ (h : length s ≤ 65536) (g : length t ≤ 65536) (r : Result ConcatValue Refusal) (w : List ℕ) where
    by_left : (j : Joined) → j ≡ joined (held_by a s) (held_by b t) → concatenated r w ≡ delivered j out → concatenated r w ≡ concat a s b t out
    unfolding concat
    by_left j e f = f ∙ ap (λ (x : Joined). delivered x out) e ∙ sym (both_short s t _ (λ q. concatenated (Err q) out) h g)

    pub concat_buffer : a ≡ Val.Buffer → concatenated r w ≡ delivered (join_buffers s (to_buffer (held_by b t))) out → concatenated r w ≡ concat a s b t out
    unfolding joined
    concat_buffer k f = by_left (join_buffers s (to_buffer (held_by b t))) (rw k) f

    pub concat_text : OneOf texty (tag_of AmlValue.the_type a)
        → concatenated r w ≡ delivered (join_both (text_of (held_by a s)) (text_of (held_by b t))) out → concatenated r w ≡ concat a s b t out
    concat_text k f = by_left (join_both (text_of (held_by a s)) (text_of (held_by b t))) (joined_texts a s (held_by b t) k) f

    module _ (both : Result (ℕ × ℕ) Refusal) (e : both ≡ operands a s b t) (f : concatenated r w ≡ delivered (join_operands both) out) where
      by_number : join_operands both ≡ and_then (to_integer (held_by a s)) (λ x. join_numbers x (held_by b t)) refused
      by_number = rw (e, operands_short a s b t h g) (joined_numbers (to_integer (held_by a s)) (to_integer (held_by b t)))

      pub concat_number : ((x : Bool) × (a ≡ Val.Boolean x)) ⊎ ((x : ℕ) × (a ≡ Val.Integer x)) → concatenated r w ≡ concat a s b t out
      unfolding joined to_integer
      concat_number (inl k) = by_left (join_operands both) (by_number ∙ rw k.1) f
      concat_number (inr k) = by_left (join_operands both) (by_number ∙ rw k.1) f
