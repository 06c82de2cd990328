-- The first line of a text, found character by character, and what stands around it.
-- Assumes nothing.
use mathlib.Core.Path.{◌≡◌, refl, sym, ap, ◌∙◌}
use mathlib.Core.Bool.{Bool, true, false, cond, ◌&&◌}
use mathlib.Core.List.{List, [], ◌∷◌, ◌++◌}
use Prim.Native.Nat.{ℕ, ◌+◌, ◌≤◌, ◌<◌}
use native.Mathlib.Nat.{add-zero, zero-add}
use native.Mathlib.Omega.{arith}
use borrow.Author.Tests.{eqb-true}
use lib.Dec.{eqb}
use lib.ListN.{length, take, drop, length-append}
use Rattle.std.specs.Prelude.{Option, Some, None}
use Rattle.std.specs.List.{position, position_from, starts_with}
use lib.Seq.{take-append_seam, drop-append-add}
use Rattle.std.proofs.lemmas.Iterator.Adapters.{position_from-zero}
use Rattle.text.specs.Lines.{Line, line, missing, longer, line_of, length_of, begins}

-- ---- what stands around the line

pub line_text : (s l rest : List ℕ) → line_of s ≡ line l rest → s ≡ l ++ 10 ∷ rest
unfolding line_of
line_text [] l rest e = let z : ◌≡◌ {A = ℕ} 0 1 = cc in absurd (omega arith)
line_text (c ∷ s) l rest e = by (eqb c 10) refl e (line_of s) refl (λ k r f. line_text s k r f)
  where
    before : (m : Line) → line_of s ≡ m → longer c m ≡ line l rest → ((k r : List ℕ) → line_of s ≡ line k r → s ≡ k ++ 10 ∷ r) → c ∷ s ≡ l ++ 10 ∷ rest
    before missing f g ih = let z : ◌≡◌ {A = ℕ} 0 1 = cc in absurd (omega arith)
    before (line k r) f g ih =
        let a : c ∷ k ≡ l = cc in
        let b : r ≡ rest = cc in
        rw (← a, ← b) (ap (λ (t : List ℕ). c ∷ t) (ih k r f))

    by : (b : Bool) → eqb c 10 ≡ b → cond b (line [] s) (longer c (line_of s)) ≡ line l rest
        → (m : Line) → line_of s ≡ m → ((k r : List ℕ) → line_of s ≡ line k r → s ≡ k ++ 10 ∷ r) → c ∷ s ≡ l ++ 10 ∷ rest
    by true f g m k ih =
        let a : [] ≡ l = cc in
        let b : s ≡ rest = cc in
        rw (← a, ← b) (ap (λ (x : ℕ). x ∷ s) (eqb-true c 10 f))
    by false f g m k ih = before m k (ap (longer c) (sym k) ∙ g) ih

pub line_length : (s l rest : List ℕ) → line_of s ≡ line l rest → length s ≡ length l + 1 + length rest
line_length s l rest e = omega (arith, ap length (line_text s l rest e), length-append l (10 ∷ rest))

-- ---- from the length that was found

module _ (s : List ℕ) where
  is_at : (m : Line) → line_of s ≡ m → (n : ℕ) → length_of m ≡ Some n → line_of s ≡ line (take n s) (drop (n + 1) s)
  is_at missing f n g = let z : ◌≡◌ {A = ℕ} 0 1 = cc in absurd (omega arith)
  is_at (line l rest) f n g =
      let t = line_text s l rest f in
      let k : n ≡ length l = cc in
      let a : take n s ≡ l = rw (t, k) (take-append_seam l (10 ∷ rest)) in
      let b : drop (n + 1) s ≡ rest = rw (t, k) (drop-append-add l (10 ∷ rest) 1) in
      rw (a, b) f

  is_inside : (m : Line) → line_of s ≡ m → (n : ℕ) → length_of m ≡ Some n → n < length s
  is_inside missing f n g = let z : ◌≡◌ {A = ℕ} 0 1 = cc in absurd (omega arith)
  is_inside (line l rest) f n g =
      let k : n ≡ length l = cc in
      omega (arith, line_length s l rest f)

  is_missing : (m : Line) → line_of s ≡ m → length_of m ≡ None → line_of s ≡ missing
  is_missing missing f g = f
  is_missing (line l rest) f g = let z : ◌≡◌ {A = ℕ} 0 1 = cc in absurd (omega arith)

  module _ (r : Option ℕ) (e : r ≡ length_of (line_of s)) where
    pub line_is : (n : ℕ) → r ≡ Some n → line_of s ≡ line (take n s) (drop (n + 1) s)
    line_is n f = is_at (line_of s) refl n (sym e ∙ f)

    pub line_inside : (n : ℕ) → r ≡ Some n → n < length s
    line_inside n f = is_inside (line_of s) refl n (sym e ∙ f)

    pub line_missing : r ≡ None → line_of s ≡ missing
    line_missing f = is_missing (line_of s) refl (sym e ∙ f)

-- ---- finding it: the characters passed add to the length of what is left

abbrev pub passed : ℕ → Option ℕ → Option ℕ
passed i (Some n) = Some (i + n)
passed i None = None

passed_more : (i : ℕ) (c : ℕ) (m : Line) → passed (i + 1) (length_of m) ≡ passed i (length_of (longer c m))
passed_more i c missing = refl
passed_more i c (line l rest) = let e : i + 1 + length l ≡ i + length (c ∷ l) = omega arith in ap Some e

-- the place of the first line feed, where i characters were passed
line_from : (i : ℕ) (s : List ℕ) → position_from (λ c. eqb c 10) i s ≡ passed i (length_of (line_of s))
unfolding line_of
line_from i [] = refl
line_from i (c ∷ s) = by (eqb c 10) (line_from (i + 1) s)
  where
    by : (b : Bool) → position_from (λ x. eqb x 10) (i + 1) s ≡ passed (i + 1) (length_of (line_of s))
        → cond b (Some i) (position_from (λ x. eqb x 10) (i + 1) s) ≡ passed i (length_of (cond b (line [] s) (longer c (line_of s))))
    by true ih = ap Some (sym (add-zero i))
    by false ih = ih ∙ passed_more i c (line_of s)

pub line_all : (s : List ℕ) → passed 0 (length_of (line_of s)) ≡ length_of (line_of s)
line_all s = each (length_of (line_of s))
  where
    each : (a : Option ℕ) → passed 0 a ≡ a
    each (Some n) = ap Some (zero-add n)
    each None = refl

pub line_position : (s : List ℕ) → position (λ c. eqb c 10) s ≡ length_of (line_of s)
line_position s = position_from-zero (λ c. eqb c 10) s ∙ line_from 0 s ∙ line_all s

-- ---- names

pub begins_name : (name l : List ℕ) → begins name l ≡ true → l ≡ name ++ drop (length name) l
unfolding begins
begins_name [] l e = refl
begins_name (c ∷ name) [] e = let z : ◌≡◌ {A = ℕ} 0 1 = cc in absurd (omega arith)
begins_name (c ∷ name) (d ∷ l) e = by (eqb c d) refl e (begins_name name l)
  where
    by : (b : Bool) → eqb c d ≡ b → (b && begins name l) ≡ true → (begins name l ≡ true → l ≡ name ++ drop (length name) l) → d ∷ l ≡ c ∷ (name ++ drop (length name) l)
    by true f g ih = rw (eqb-true c d f) (ap (λ (t : List ℕ). d ∷ t) (ih g))
    by false f g ih = let z : ◌≡◌ {A = ℕ} 0 1 = cc in absurd (omega arith)

pub begins_length : (name l : List ℕ) → begins name l ≡ true → length name ≤ length l
begins_length name l e = omega (arith, ap length (begins_name name l e), length-append name (drop (length name) l))

pub begins_starts : (name l : List ℕ) → starts_with eqb l name ≡ begins name l
unfolding begins
begins_starts [] l = refl
begins_starts (c ∷ name) [] = refl
begins_starts (c ∷ name) (d ∷ l) = ap (λ (b : Bool). eqb c d && b) (begins_starts name l)
