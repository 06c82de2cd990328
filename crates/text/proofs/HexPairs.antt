-- Hex pairs, taken pair by pair: two digits are a byte, and the others follow.
-- Assumes nothing.
use mathlib.Core.Path.{◌≡◌, refl, sym, ap, ◌∙◌}
use mathlib.Core.Bool.{Bool, true, false, cond, ◌&&◌}
use mathlib.Core.List.{List, [], ◌∷◌, ◌++◌}
use Prim.Native.Nat.{ℕ, zero, suc, ◌+◌, ◌*◌, ◌/◌, ◌%◌, ◌≤◌, ◌<◌}
use native.Mathlib.Numerals.{add-one}
use native.Mathlib.Omega.{arith}
use borrow.Author.Tests.{lt-ltb, le-ltb, ltb-true, ltb-false, le-leb, lt-leb, leb-true}
use lib.Dec.{ltb, leb}
use lib.ListN.{length, get_or, set, take, drop, length-append, length-drop, drop_of_length-le}
use Rattle.std.specs.Prelude.{Option, Some, None}
use Rattle.std.specs.List.{list_all}
use Rattle.std.specs.Simd.{first_chunks}
use native.Mathlib.Nat.{add-zero, zero-add}
use lib.Seq.{drop-cons, take-append_seam}
use Rattle.std.proofs.lemmas.Bool.Decides.{nat_tests}
use Rattle.std.proofs.lemmas.List.{get_or-take, get_or-drop}
use Rattle.text.specs.Texts.{digit_of}
use Rattle.text.specs.Written.{over, hex_digit, hex_text}
use Rattle.text.specs.Pairs.{Pairs, pairs, none, behind, pairs_of, within, are_pairs, bytes_of, Filled, filled, filling, pairs_into}
use Rattle.text.proofs.Digits.{and_false}
use Rattle.text.proofs.Over.{over_none, over_cons, over_front}

empty : pairs_of [] ≡ pairs []
unfolding pairs_of
empty = refl

-- ---- two digits in front

are_behind : (x : ℕ) (p : Pairs) → are_pairs (behind x p) ≡ are_pairs p
are_behind x (pairs b) = refl
are_behind x none = refl

bytes_behind : (x : ℕ) (p : Pairs) → are_pairs p ≡ true → bytes_of (behind x p) ≡ x ∷ bytes_of p
bytes_behind x (pairs b) e = refl
bytes_behind x none e = let z : ◌≡◌ {A = ℕ} 0 1 = cc in absurd (omega arith)

module _ (h l : ℕ) (s : List ℕ) where
  high_none : 16 ≤ digit_of h → pairs_of (h ∷ l ∷ s) ≡ none
  unfolding pairs_of
  high_none d = rw (le-ltb _ _ d)

  low_none : 16 ≤ digit_of l → pairs_of (h ∷ l ∷ s) ≡ none
  unfolding pairs_of
  low_none d = rw (le-ltb _ _ d, and_false)

  two_digits : digit_of h < 16 → digit_of l < 16 → pairs_of (h ∷ l ∷ s) ≡ behind (digit_of h * 16 + digit_of l) (pairs_of s)
  unfolding pairs_of
  two_digits u v = rw (lt-ltb _ _ u, lt-ltb _ _ v)

  module _ (e : are_pairs (pairs_of (h ∷ l ∷ s)) ≡ true) where
    both_digits : (digit_of h < 16) × (digit_of l < 16)
    both_digits = by (ltb (digit_of h) 16) refl (ltb (digit_of l) 16) refl
      where
        by : (a : Bool) → ltb (digit_of h) 16 ≡ a → (b : Bool) → ltb (digit_of l) 16 ≡ b → (digit_of h < 16) × (digit_of l < 16)
        by true f true g = (ltb-true (digit_of h) 16 f, ltb-true (digit_of l) 16 g)
        by true f false g =
            let n = low_none (ltb-false (digit_of l) 16 g) in
            let z : ◌≡◌ {A = ℕ} 0 1 = cc in absurd (omega arith)
        by false f b g =
            let n = high_none (ltb-false (digit_of h) 16 f) in
            let z : ◌≡◌ {A = ℕ} 0 1 = cc in absurd (omega arith)

    two_next : pairs_of (h ∷ l ∷ s) ≡ behind (digit_of h * 16 + digit_of l) (pairs_of s)
    two_next = two_digits both_digits.0 both_digits.1

    rest_pairs : are_pairs (pairs_of s) ≡ true
    rest_pairs = sym (ap are_pairs two_next ∙ are_behind (digit_of h * 16 + digit_of l) (pairs_of s)) ∙ e

    two_bytes : bytes_of (pairs_of (h ∷ l ∷ s)) ≡ (digit_of h * 16 + digit_of l) ∷ bytes_of (pairs_of s)
    two_bytes = ap bytes_of two_next ∙ bytes_behind (digit_of h * 16 + digit_of l) (pairs_of s) rest_pairs

-- ---- lengths

pub even : (s : List ℕ) → are_pairs (pairs_of s) ≡ true → length s ≡ 2 * length (bytes_of (pairs_of s))
unfolding pairs_of
even [] e = refl
even (h ∷ []) e = let z : ◌≡◌ {A = ℕ} 0 1 = cc in absurd (omega arith)
even (h ∷ l ∷ s) e = omega (arith, even s (rest_pairs h l s e), ap length (two_bytes h l s e))

pub pairs_length : (l b : List ℕ) → pairs_of l ≡ pairs b → length l ≡ 2 * length b
pairs_length l b e = even l (ap are_pairs e) ∙ ap (λ (p : Pairs). 2 * length (bytes_of p)) e

pub within_length : (n : ℕ) (p : Pairs) (b : List ℕ) → within n p ≡ pairs b → length b ≤ n
unfolding within
within_length n none b e = let z : ◌≡◌ {A = ℕ} 0 1 = cc in absurd (omega arith)
within_length n (pairs a) b e = by (leb (length a) n) refl e
  where
    by : (t : Bool) → leb (length a) n ≡ t → cond t (pairs a) none ≡ pairs b → length b ≤ n
    by true f g = let k : a ≡ b = cc in omega (arith, ap length k, leb-true (length a) n f)
    by false f g = let z : ◌≡◌ {A = ℕ} 0 1 = cc in absurd (omega arith)

-- ---- an even number of digits

abbrev pub is_hex : ℕ → Bool
is_hex c = ltb (digit_of c) 16

pub pairs_all : (s : List ℕ) → length s % 2 ≡ 0 → list_all is_hex s ≡ are_pairs (pairs_of s)
unfolding pairs_of
pairs_all [] e = refl
pairs_all (h ∷ []) e = absurd (omega arith)
pairs_all (h ∷ l ∷ s) e = by (is_hex h) (is_hex l) (pairs_all s (omega arith))
  where
    by : (a b : Bool) → list_all is_hex s ≡ are_pairs (pairs_of s)
        → (a && (b && list_all is_hex s)) ≡ are_pairs (cond (a && b) (behind (digit_of h * 16 + digit_of l) (pairs_of s)) none)
    by true true d = d ∙ sym (are_behind (digit_of h * 16 + digit_of l) (pairs_of s))
    by true false d = refl
    by false b d = refl

pub pairs_odd : (s : List ℕ) → 0 < length s % 2 → false ≡ are_pairs (pairs_of s)
pairs_odd s h = by (are_pairs (pairs_of s)) refl
  where
    by : (b : Bool) → are_pairs (pairs_of s) ≡ b → false ≡ b
    by true e = absurd (omega (arith, even s e))
    by false e = refl

-- ---- one pair more of a text

-- the two characters of a chunk
two_at : (k : ℕ) (s : List ℕ) (i j : ℕ) → i < k → j < 2 → get_or (get_or (first_chunks 2 k s) i []) j 0 ≡ get_or s (2 * i + j) 0
two_at zero s i j h g = absurd (omega arith)
two_at (suc k) s zero j h g = get_or-take 2 s j 0 g ∙ ap (λ (n : ℕ). get_or s n 0) (sym (zero-add j))
two_at (suc k) s (suc i) j h g =
    let e : 2 + (2 * i + j) ≡ 2 * suc i + j = omega arith in
    two_at k (drop 2 s) i j (omega arith) g ∙ get_or-drop 2 s (2 * i + j) 0 ∙ ap (λ (n : ℕ). get_or s n 0) e

module _ (s : List ℕ) (i : ℕ) where
  two : 2 * i + 1 < length s → drop (2 * i) s ≡ get_or s (2 * i + 0) 0 ∷ get_or s (2 * i + 1) 0 ∷ drop (2 * (i + 1)) s
  two h =
      let k : suc (2 * i) < length s = omega arith in
      let e : 2 * (i + 1) ≡ suc (suc (2 * i)) = omega arith in
      let m : 2 * i < length s = omega arith in
      rw (e, add-zero, add-one (2 * i)) (drop-cons s (2 * i) 0 m ∙ ap (λ (t : List ℕ). get_or s (2 * i) 0 ∷ t) (drop-cons s (suc (2 * i)) 0 k))

  done : length s ≤ 2 * i → pairs_of (drop (2 * i) s) ≡ pairs []
  unfolding pairs_of
  done h = rw (drop_of_length-le s h)

-- ---- filling an output: the bytes of the pairs in front of the i-th stand in o, those from there on are left
pub record Filling (s o out : List ℕ) (i : ℕ) : Type 0 where
  pub pairs : are_pairs (pairs_of (drop (2 * i) s)) ≡ true
  pub bytes : over o i (bytes_of (pairs_of (drop (2 * i) s))) ≡ over out 0 (bytes_of (pairs_of s))

module _ (s o out : List ℕ) (i : ℕ) (r : Filling s o out i) where
  module _ (front : List (List ℕ)) (f : front ≡ first_chunks 2 (length s / 2) s) (k : i < length s / 2) where
    chunk : List ℕ
    chunk = get_or front i []

    next : drop (2 * i) s ≡ get_or chunk 0 0 ∷ get_or chunk 1 0 ∷ drop (2 * (i + 1)) s
    unfolding chunk
    next = rw (f, two_at (length s / 2) s i 0 k (omega arith), two_at (length s / 2) s i 1 k (omega arith)) (two s i (omega arith))

    here : are_pairs (pairs_of (get_or chunk 0 0 ∷ get_or chunk 1 0 ∷ drop (2 * (i + 1)) s)) ≡ true
    here = ap (λ (t : List ℕ). are_pairs (pairs_of t)) (sym next) ∙ r.pairs

    pub filling_digits : (digit_of (get_or (get_or front i []) 0 0) < 16) × (digit_of (get_or (get_or front i []) 1 0) < 16)
    unfolding chunk
    filling_digits = both_digits (get_or chunk 0 0) (get_or chunk 1 0) (drop (2 * (i + 1)) s) here

    pub filling_more : (x : ℕ) → x ≡ digit_of (get_or (get_or front i []) 0 0) * 16 + digit_of (get_or (get_or front i []) 1 0) → Filling s (set o i x) out (i + 1)
    unfolding chunk
    filling_more x e = record {
      pairs = rest_pairs (get_or chunk 0 0) (get_or chunk 1 0) (drop (2 * (i + 1)) s) here;
      bytes =
          rw e
          (sym
          (ap (λ (t : List ℕ). over o i (bytes_of (pairs_of t))) next
          ∙ ap (over o i) (two_bytes (get_or chunk 0 0) (get_or chunk 1 0) (drop (2 * (i + 1)) s) here)
          ∙ over_cons o i (digit_of (get_or chunk 0 0) * 16 + digit_of (get_or chunk 1 0)) (bytes_of (pairs_of (drop (2 * (i + 1)) s))))
          ∙ r.bytes);
    }

  pub filling_ends : length s ≤ 2 * i → length (bytes_of (pairs_of s)) ≤ length out → o ≡ bytes_of (pairs_of s) ++ drop (length (bytes_of (pairs_of s))) out
  filling_ends h l =
      let d : over o i (bytes_of (pairs_of (drop (2 * i) s))) ≡ o = rw (done s i h) (over_none o i) in
      sym d ∙ r.bytes ∙ over_front out (bytes_of (pairs_of s)) l

-- ---- the output

pub into_none : (p : Pairs) (out : List ℕ) → are_pairs p ≡ false → filled None out ≡ pairs_into p out
unfolding pairs_into within
into_none none out e = refl
into_none (pairs b) out e = let z : ◌≡◌ {A = ℕ} 0 1 = cc in absurd (omega arith)

pub into_short : (p : Pairs) (out : List ℕ) → are_pairs p ≡ true → length out < length (bytes_of p) → filled None out ≡ pairs_into p out
unfolding pairs_into within
into_short none out e h = refl
into_short (pairs b) out e h = rw (lt-leb (length b) (length out) h)

pub into_held : (p : Pairs) (out o : List ℕ) (n : ℕ) → are_pairs p ≡ true → length (bytes_of p) ≤ length out → n ≡ length (bytes_of p)
    → o ≡ bytes_of p ++ drop (length (bytes_of p)) out → filled (Some n) o ≡ pairs_into p out
unfolding pairs_into within
into_held none out o n e h f g = let z : ◌≡◌ {A = ℕ} 0 1 = cc in absurd (omega arith)
into_held (pairs b) out o n e h f g = rw (le-leb (length b) (length out) h, f, g)

-- what the answer says of the text
module _ (s out o : List ℕ) (r : Option ℕ) (e : filled r o ≡ pairs_into (pairs_of s) out) where
  is_pairs : (q : Pairs) → within (length out) (pairs_of s) ≡ q → filled r o ≡ filling q out → (n : ℕ) → r ≡ Some n → (q ≡ pairs (take n o)) × (n ≤ length o)
  is_pairs none k f n g =
      let a : r ≡ None = ap (λ (x : Filled). x.answer) f in
      let z : ◌≡◌ {A = ℕ} 0 1 = cc in absurd (omega arith)
  is_pairs (pairs b) k f n g =
      let a : r ≡ Some (length b) = ap (λ (x : Filled). x.answer) f in
      let m : n ≡ length b = cc in
      let c : o ≡ b ++ drop (length b) out = ap (λ (x : Filled). x.out) f in
      let t : take n o ≡ b = rw (m, c) (take-append_seam b (drop (length b) out)) in
      (ap pairs (sym t), omega (arith, ap length c, length-append b (drop (length b) out)))

  is_bad : (q : Pairs) → filled r o ≡ filling q out → r ≡ None → (q ≡ none) × (o ≡ out)
  is_bad none f g = (refl, ap (λ (x : Filled). x.out) f)
  is_bad (pairs b) f g =
      let a : r ≡ Some (length b) = ap (λ (x : Filled). x.answer) f in
      let z : ◌≡◌ {A = ℕ} 0 1 = cc in absurd (omega arith)

  whole : (q : Pairs) → within (length out) (pairs_of s) ≡ q → filled r o ≡ filling q out → length o ≡ length out
  whole none k f = ap (λ (x : Filled). length x.out) f
  whole (pairs b) k f =
      let h = within_length (length out) (pairs_of s) b k in
      ap (λ (x : Filled). length x.out) f ∙ simp (length-append, length-drop) (omega arith)

  made : filled r o ≡ filling (within (length out) (pairs_of s)) out
  unfolding pairs_into
  made = e

  pub pairs_is : (n : ℕ) → r ≡ Some n → within (length out) (pairs_of s) ≡ pairs (take n o)
  pairs_is n f = (is_pairs (within (length out) (pairs_of s)) refl made n f).0

  pub pairs_room : (n : ℕ) → r ≡ Some n → n ≤ length o
  pairs_room n f = (is_pairs (within (length out) (pairs_of s)) refl made n f).1

  pub pairs_bad : r ≡ None → within (length out) (pairs_of s) ≡ none
  pairs_bad f = (is_bad (within (length out) (pairs_of s)) made f).0

  pub pairs_kept : r ≡ None → o ≡ out
  pairs_kept f = (is_bad (within (length out) (pairs_of s)) made f).1

  pub pairs_output : length o ≡ length out
  pairs_output = whole (within (length out) (pairs_of s)) refl made

-- ---- written bytes read as themselves

written_hex : (d : ℕ) → d < 16 → digit_of (hex_digit d) ≡ d
unfolding digit_of hex_digit
written_hex d h = grind (arith, nat_tests)

pub hex_read : (b : List ℕ) → ((i : ℕ) → get_or b i 0 < 256) → pairs_of (hex_text b) ≡ pairs b
unfolding hex_text
hex_read [] h = empty
hex_read (x ∷ b) h =
    let l : x < 256 = h 0 in
    let u = written_hex (x / 16) (omega arith) in
    let v = written_hex (x % 16) (omega arith) in
    let e : digit_of (hex_digit (x / 16)) * 16 + digit_of (hex_digit (x % 16)) ≡ x = omega arith in
    two_digits (hex_digit (x / 16)) (hex_digit (x % 16)) (hex_text b) (omega arith) (omega arith)
    ∙ ap (λ (p : Pairs). behind (digit_of (hex_digit (x / 16)) * 16 + digit_of (hex_digit (x % 16))) p) (hex_read b (λ i. h (suc i)))
    ∙ ap (λ (y : ℕ). pairs (y ∷ b)) e
