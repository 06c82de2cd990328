-- ConcatRes: a sum that wraps at eight bits goes over the bytes one by one; both operands are copied whole, so that each one's last two bytes are
-- overwritten by what follows; and the two bytes of the end make the sum 0.
-- Assumes nothing.
use Rattle.std.proofs.Common.{◌≡◌, ℕ, suc, ◌+◌, ◌-◌, ◌%◌, ◌^◌, ◌<◌, ◌≤◌, Bool, true, false, ◌||◌, eqb, List, [], ◌∷◌, ◌++◌, length, get_or, take, drop, set, sym, ap, ◌∙◌, append_assoc, append-nil, add-one, arith, length-append, length-drop, drop_of_length-le, length-take, take_all, drop-cons, drop-drop}
use lib.Seq.{set_split, set_at, drop-append-add, take-append-add, take-append-le}
use borrow.Rule.Slice.PartMut.{put_mid, same_len_mid}
use Rattle.types.specs.Refusals.{first_of}
use Rattle.types.specs.declared.refusal.Refusal.{Refusal}
use Rattle.types.specs.declared.refusal.Refusal.TheVariants as R
use Rattle.types.specs.declared.value.AmlValue.{AmlValue}
use Rattle.value.specs.Conversions.{held_by, to_buffer, Bytes, these, Given, given, giving, into, as_buffer}
use Rattle.value.specs.Lengths.{buffer_length}
use Rattle.std.specs.Prelude.{Result, Ok, Err}
use Rattle.value.proofs.Giving.{into_length, giving_none, giving_short, giving_these}
use Rattle.value.proofs.Lengths.{buffer_counted}
use Rattle.value.proofs.Lent.{as_buffer_short}
use Rattle.expression.specs.Concat.{text_bytes, sum, body, ended, resources, join_resources, concat_res}
use Rattle.expression.proofs.Lent.{both_long, both_second, both_short}
use Rattle.expression.proofs.Filling.{kept}
use Rattle.expression.proofs.Counting.{counted_these, counted_length, counted_none}

-- ---- the sum

-- what is summed so far, with what is left, is the sum of all
abbrev pub Summing : List ℕ → ℕ → ℕ → Type 0
Summing l total i = (total + sum (drop i l)) % 256 ≡ sum l % 256

sum_cons : (l : List ℕ) (i : ℕ) → i < length l → sum (drop i l) ≡ get_or l i 0 + sum (drop (i + 1) l)
unfolding sum
sum_cons l i h = rw (add-one, drop-cons l i 0)

wrap : (t x y z : ℕ) → y ≡ (t + x) % 2 ^ 8 → (y + z) % 256 ≡ (t + (x + z)) % 256
wrap t x y z e = omega arith

pub sum_start : (l : List ℕ) → Summing l 0 0
sum_start l = let e : 0 + sum l ≡ sum l = omega arith in ap (λ (n : ℕ). n % 256) e

pub sum_more : (l : List ℕ) (total i r : ℕ) → i < length l → r ≡ (total + get_or l i 0) % 2 ^ 8 → Summing l total i → Summing l r (i + 1)
sum_more l total i r h e u = wrap total (get_or l i 0) r (sum (drop (i + 1) l)) e ∙ rw (sum_cons l i h) at u

pub sum_end : (l : List ℕ) (total i : ℕ) → length l ≤ i → total < 256 → Summing l total i → total ≡ sum l % 256
unfolding sum
sum_end l total i h b u =
    let z : sum (drop i l) ≡ 0 = rw (drop_of_length-le l h) in
    let e : (total + sum (drop i l)) % 256 ≡ total = omega arith in
    sym e ∙ u

-- ---- the end

last : (s t c : ℕ) → t ≡ (s % 256 + 0x79) % 2 ^ 8 → (c + t) % 2 ^ 8 ≡ 0 → c < 256 → c ≡ (256 - (s + 0x79) % 256) % 256
last s t c e f b = omega arith

pub end_done : (out : List ℕ) (n s t c : ℕ) → n + 2 ≤ length out → s ≡ sum (take n out) % 256 → t ≡ (s + 0x79) % 2 ^ 8 → (c + t) % 2 ^ 8 ≡ 0 → c < 256
    → set (set out n 0x79) (n + 1) c ≡ into (ended (take n out)) out
end_done out n s t c h e f g b =
    let p = take n out in
    let l : length p ≡ n = simp length-take (omega arith) in
    let q : length (p ++ (0x79 ∷ [])) ≡ n + 1 = length-append p (0x79 ∷ []) ∙ omega arith in
    let m : length (ended p) ≡ suc (suc n) = length-append p (0x79 ∷ (256 - (sum p + 0x79) % 256) % 256 ∷ []) ∙ omega arith in
    let k : c ≡ (256 - (sum p + 0x79) % 256) % 256 = last (sum p) t c (f ∙ ap (λ (x : ℕ). (x + 0x79) % 2 ^ 8) e) g b in
    ap (λ (x : List ℕ). set x (n + 1) c)
    (set_split out n 0x79 (omega arith) ∙ ap (λ (x : List ℕ). p ++ (0x79 ∷ x)) (drop-cons out (suc n) 0 (omega arith))
    ∙ sym (append_assoc p (0x79 ∷ []) (get_or out (suc n) 0 ∷ drop (suc (suc n)) out)))
    ∙ set_at (p ++ (0x79 ∷ [])) (get_or out (suc n) 0) (drop (suc (suc n)) out) c (n + 1) q
    ∙ append_assoc p (0x79 ∷ []) (c ∷ drop (suc (suc n)) out)
    ∙ ap (λ (x : ℕ). p ++ (0x79 ∷ x ∷ drop (suc (suc n)) out)) k
    ∙ sym (append_assoc p (0x79 ∷ (256 - (sum p + 0x79) % 256) % 256 ∷ []) (drop (suc (suc n)) out))
    ∙ ap (λ (x : ℕ). ended p ++ drop x out) (sym m)

-- ---- both operands one behind the other

-- l whole, then r whole from the end of l's body on
module _ (l r out t : List ℕ) (at end : ℕ) (a : at ≡ length l - 2) (b : end ≡ at + (length r - 2)) (room : end + 2 ≤ length out) (e : t ≡ into l out) where
  size : length t ≡ length out
  size = ap length e ∙ into_length l out (omega arith)

  behind : take (length t - at) (drop at t) ≡ drop at t
  behind = take_all (length t - at) (drop at t) (omega (arith, length-drop at t))

  pub right_fits : length r ≤ length (take (length t - at) (drop at t))
  right_fits = rw behind (omega (arith, length-drop at t, size))

  module _ (ys : List ℕ) (f : ys ≡ into r (take (length t - at) (drop at t))) where
    abbrev both : List ℕ
    both = put_mid at (length t - at) t ys

    whole : both ≡ body l ++ into r (drop at t)
    whole =
        let i : take at t ≡ body l = rw (e, a) (take-append-le (length l - 2) l (drop (length l) out) (omega arith)) in
        let z : drop (length t - at) (drop at t) ≡ [] = drop_of_length-le (drop at t) {i = length t - at} (omega (arith, length-drop at t)) in
        rw (i, z, append-nil, f, behind)

    pub both_length : length both ≡ length out
    both_length = same_len_mid at (length t - at) t ys (ap length f ∙ into_length r (take (length t - at) (drop at t)) right_fits) ∙ size

    front : length (body l) ≡ at
    front = simp length-take (omega arith)

    -- up to the end of r's body: both bodies
    bodies : take end both ≡ body l ++ body r
    bodies =
        let k : length (body l) + (length r - 2) ≡ end = omega (arith, front) in
        rw (whole, ← k, take-append-add (body l) (into r (drop at t)) (length r - 2), take-append-le (length r - 2) r (drop (length r) (drop at t)) (omega arith))

    -- from the end of the result on: what was there
    beyond : drop (end + 2) both ≡ drop (end + 2) out
    beyond =
        let q = length r - 2 + 2 in
        let k : length (body l) + q ≡ end + 2 = omega (arith, front) in
        let m : at + q ≡ end + 2 = omega arith in
        ap (λ (x : List ℕ). drop (end + 2) x) whole
        ∙ ap (λ (x : ℕ). drop x (body l ++ into r (drop at t))) (sym k)
        ∙ drop-append-add (body l) (into r (drop at t)) q
        ∙ kept r (drop at t) q (omega arith)
        ∙ drop-drop q at t
        ∙ ap (λ (x : ℕ). drop x t) m
        ∙ rw e (kept l out (end + 2) (omega arith))

    tagged : length (ended (body l ++ body r)) ≡ end + 2
    tagged =
        let c = body l ++ body r in
        let g : length (body r) ≡ length r - 2 = simp length-take (omega arith) in
        length-append c (0x79 ∷ (256 - (sum c + 0x79) % 256) % 256 ∷ []) ∙ omega (arith, length-append (body l) (body r), front)

    pub resources_put : (w : List ℕ) → w ≡ into (ended (take end both)) both → w ≡ into (ended (body l ++ body r)) out
    resources_put w g = g ∙ rw (bodies, tagged, beyond)

-- ---- the whole
module _ (a : AmlValue) (s : List ℕ) (b : AmlValue) (t out : List ℕ) where
  pub res_left_long : 65536 < length s → given (Err R.TooManyBytes) out ≡ concat_res a s b t out
  unfolding concat_res
  res_left_long h = sym (both_long s t _ (λ r. given (Err r) out) h)

  pub res_right_long : 65536 < length t → given (Err R.TooManyBytes) out ≡ concat_res a s b t out
  unfolding concat_res
  res_right_long h = sym (both_second s t _ (λ r. given (Err r) out) h)

  module _ (h : length s ≤ 65536) (g : length t ≤ 65536) (first : Result ℕ Refusal) (e : first ≡ buffer_length a s) where
    by_operands : giving (join_resources (to_buffer (held_by a s)) (to_buffer (held_by b t))) out ≡ concat_res a s b t out
    unfolding concat_res
    by_operands = sym (both_short s t _ (λ r. given (Err r) out) h g)

    pub res_left : (q : Refusal) → first ≡ Err q → given (Err q) out ≡ concat_res a s b t out
    res_left q d = rw (← by_operands, counted_none (to_buffer (held_by a s)) q (buffer_counted a s h ∙ sym e ∙ d)) (sym (giving_none q out))

    module _ (n : ℕ) (d : first ≡ Ok n) (second : Result ℕ Refusal) (f : second ≡ buffer_length b t) where
      abbrev left : List ℕ
      left = text_bytes (to_buffer (held_by a s))

      abbrev right : List ℕ
      right = text_bytes (to_buffer (held_by b t))

      left_is : to_buffer (held_by a s) ≡ these left
      left_is = counted_these (to_buffer (held_by a s)) n (buffer_counted a s h ∙ sym e ∙ d)

      left_length : n ≡ length left
      left_length = counted_length (to_buffer (held_by a s)) n (buffer_counted a s h ∙ sym e ∙ d)

      pub res_right : (q : Refusal) → second ≡ Err q → given (Err q) out ≡ concat_res a s b t out
      res_right q k =
          rw (← by_operands, left_is, counted_none (to_buffer (held_by b t)) q (buffer_counted b t g ∙ sym f ∙ k)) (sym (giving_none q out))

      module _ (m : ℕ) (k : second ≡ Ok m) where
        right_is : to_buffer (held_by b t) ≡ these right
        right_is = counted_these (to_buffer (held_by b t)) m (buffer_counted b t g ∙ sym f ∙ k)

        right_length : m ≡ length right
        right_length = counted_length (to_buffer (held_by b t)) m (buffer_counted b t g ∙ sym f ∙ k)

        by_bytes : giving (resources left right) out ≡ concat_res a s b t out
        by_bytes = rw (left_is, right_is) at by_operands

        module _ (few : Bool) (o : few ≡ (eqb n 1 || eqb m 1)) where
          judged_lengths : few ≡ (eqb (length left) 1 || eqb (length right) 1)
          judged_lengths = rw (← left_length, ← right_length) o

          pub res_too_short : few ≡ true → given (Err R.ResourceDescriptorTooShort) out ≡ concat_res a s b t out
          unfolding first_of
          res_too_short x = rw (← by_bytes, ← judged_lengths, x) (sym (giving_none R.ResourceDescriptorTooShort out))

          module _ (more : few ≡ false) (at : ℕ) (i : at ≡ n - 2) (j : ℕ) (l : j ≡ m - 2) where
            made : giving (these (ended (body left ++ body right))) out ≡ concat_res a s b t out
            unfolding first_of
            made = rw (← judged_lengths, more) at by_bytes

            made_length : length (ended (body left ++ body right)) ≡ at + j + 2
            made_length =
                let c = body left ++ body right in
                let x : length (body left) ≡ at = simp length-take (omega (arith, left_length)) in
                let y : length (body right) ≡ j = simp length-take (omega (arith, right_length)) in
                length-append c (0x79 ∷ (256 - (sum c + 0x79) % 256) % 256 ∷ []) ∙ omega (arith, length-append (body left) (body right))

            pub res_no_room : length out < at + j + 2 → given (Err R.OutputTooShort) out ≡ concat_res a s b t out
            res_no_room o = rw (← made) (sym (giving_short (ended (body left ++ body right)) out (omega (arith, made_length))))

            module _ (room : at + j + 2 ≤ length out) (r : Result ℕ Refusal) (u : List ℕ) (x : given r u ≡ as_buffer a s out) where
              copied_left : u ≡ into left out
              copied_left =
                  ap (λ (z : Given). z.out) (x ∙ as_buffer_short a s h out ∙ ap (λ (z : Bytes). giving z out) left_is ∙ giving_these left out (omega (arith, left_length)))

              module _ (v : Result ℕ Refusal) (ys : List ℕ) (y : given v ys ≡ as_buffer b t (take (length u - at) (drop at u))) where
                start : at ≡ length left - 2
                start = omega (arith, left_length)

                stop : at + j ≡ at + (length right - 2)
                stop = omega (arith, right_length)

                copied_right : ys ≡ into right (take (length u - at) (drop at u))
                copied_right =
                    ap (λ (z : Given). z.out)
                    (y ∙ as_buffer_short b t g (take (length u - at) (drop at u)) ∙ ap (λ (z : Bytes). giving z (take (length u - at) (drop at u))) right_is
                    ∙ giving_these right (take (length u - at) (drop at u)) (right_fits left right out u at (at + j) start stop room copied_left))

                pub res_length : length (put_mid at (length u - at) u ys) ≡ length out
                res_length = both_length left right out u at (at + j) start stop room copied_left ys copied_right

                pub res_done : (w : List ℕ) → w ≡ into (ended (take (at + j) (put_mid at (length u - at) u ys))) (put_mid at (length u - at) u ys)
                    → given (Ok (at + j + 2)) w ≡ concat_res a s b t out
                res_done w z =
                    let p = resources_put left right out u at (at + j) start stop room copied_left ys copied_right w z in
                    rw (p, ← made_length) (sym (giving_these (ended (body left ++ body right)) out (omega (arith, made_length))) ∙ made)
