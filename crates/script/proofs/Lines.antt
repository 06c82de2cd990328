-- A line with its name: where the first line begins with the name, what is behind the name and what follows the line are parts of the text;
-- what follows is shorter than the text.
-- Assumes nothing.
use mathlib.Core.Path.{◌≡◌, refl, sym, ap, ◌∙◌}
use mathlib.Core.Bool.{Bool, true, false, cond, not}
use mathlib.Core.List.{List, []}
use Prim.Native.Nat.{ℕ, ◌+◌, ◌-◌, ◌≤◌}
use native.Mathlib.Omega.{arith}
use borrow.Author.Tests.{not-true, not-false}
use lib.ListN.{length, take, drop, length-take, length-drop}
use lib.Seq.{take-add, take_all, drop_at, length-take-le}
use Rattle.text.specs.Lines.{Line, line, missing, line_of, length_of, begins}
use Rattle.text.proofs.FirstLines.{line_is, line_inside, line_missing, line_length, begins_length}
use Rattle.script.specs.Runs.{Named, named, no, named_line, next}
use Rattle.script.specs.Steps.{line_as, Inside}
use Rattle.std.specs.Prelude.{Option, Some, None}

-- a part of a text from a place on is what is behind the place
pub rest_of_lem : (s : List ℕ) (n : ℕ) → take (length s - n) (drop n s) ≡ drop n s
rest_of_lem s n = take_all (length s - n) (drop n s) (omega (arith, length-drop n s))

-- what is behind the first m of the first n
behind : (s : List ℕ) (m n : ℕ) → m ≤ n → m ≤ length s → take (n - m) (drop m s) ≡ drop m (take n s)
behind s m n h k =
    let e : m + (n - m) ≡ n = omega arith in
    sym (drop_at (take m s) (take (n - m) (drop m s)) m (length-take-le m s k)) ∙ ap (drop m) (sym (take-add m (n - m) s) ∙ ap (λ (i : ℕ). take i s) e)

module _ (s name : List ℕ) (r : Option ℕ) (e : r ≡ length_of (line_of s)) where
  pub no_line : r ≡ None → (line_as None (length name) s ≡ next name s) × Inside None (length name) (length s)
  no_line d = (rw (line_missing s r e d), omega arith)

  module _ (n : ℕ) (d : r ≡ Some n) (b : Bool) (f : b ≡ begins name (take n s)) where
    pub misnamed : not b ≡ true → (line_as None (length name) s ≡ next name s) × Inside None (length name) (length s)
    misnamed g = (rw (line_is s r e n d, ← f, not-true b g), omega arith)

    pub well_named : not b ≡ false → (line_as (Some n) (length name) s ≡ next name s) × Inside (Some n) (length name) (length s)
    well_named g =
        let i = line_inside s r e n d in
        let t : begins name (take n s) ≡ true = sym f ∙ not-false b g in
        let m = begins_length name (take n s) t in
        let k : length name ≤ n = omega (arith, m, length-take n s) in
        (rw (line_is s r e n d, t, behind s (length name) n k (omega arith)), (k, i))

-- ---- what follows is shorter

abbrev pub rest_of : Named → List ℕ
rest_of (named l rest) = rest
rest_of no = []

shorter_named : (name l rest : List ℕ) (b : Bool) → length (rest_of (cond b (named (drop (length name) l) rest) no)) ≤ length rest
shorter_named name l rest true = omega arith
shorter_named name l rest false = omega arith

shorter_line : (name s : List ℕ) (x : Line) → line_of s ≡ x → length (rest_of (named_line name x)) ≤ length s - 1
shorter_line name s missing e = omega arith
shorter_line name s (line l rest) e = omega (arith, shorter_named name l rest (begins name l), line_length s l rest e)

pub shorter_next : (name s : List ℕ) → length (rest_of (next name s)) ≤ length s - 1
shorter_next name s = shorter_line name s (line_of s) refl
