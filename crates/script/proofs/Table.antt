-- The table of ops, row by row: the first row whose name it is.
-- Assumes nothing.
use mathlib.Core.Path.{◌≡◌, refl, sym, ◌∙◌}
use mathlib.Core.Bool.{Bool, true, false, cond, ◌&&◌}
use mathlib.Core.List.{List, [], ◌∷◌}
use Prim.Native.Nat.{ℕ, suc, ◌+◌, ◌≤◌, ◌<◌}
use Rattle.std.proofs.Common.{add-one}
use Rattle.std.proofs.Math.Dec.{eqb-suc-suc, eqb-suc-zero, eqb-zero-suc}
use denote.Bor.{Bor}
use lib.Dec.{eqb}
use lib.ListN.{length, get_or, drop, drop_of_length-le}
use Rattle.std.proofs.Math.Seq.{drop-cons}
use Rattle.std.specs.Prelude.{Option, Some, None}
use Rattle.std.specs.Cmp.Lexicographic.{pointwise}
use Rattle.text.specs.Lines.{begins}
use Rattle.script.specs.Ops.{Row, row, same, row_of}
use Rattle.script.specs.declared.op.Op.{Op}

-- the code's rows
abbrev pub Item : Type 0
Item = Bor (List ℕ) × Op × ℕ

abbrev pub as_rows : List Item → List Row
as_rows [] = []
as_rows (x ∷ xs) = row x.0.now x.1 x.2 ∷ as_rows xs

same_is : (name l : List ℕ) → pointwise eqb name l ≡ same name l
unfolding begins
same_is [] [] = refl
same_is [] (d ∷ l) = rw (eqb-suc-zero (length l))
same_is (c ∷ name) [] = rw (eqb-zero-suc (length name))
same_is (c ∷ name) (d ∷ l) = rw (eqb-suc-suc (length l) (length name)) (both (eqb (length l) (length name)) (eqb c d) (pointwise eqb name l) (begins name l) (same_is name l))
  where
    both : (a b p q : Bool) → p ≡ (a && q) → (b && p) ≡ (a && (b && q))
    both true true p q e = e
    both true false p q e = refl
    both false true p q e = e
    both false false p q e = refl

module _ (xs : List Item) (s : List ℕ) (i : ℕ) (d : Item) (h : i < length xs) (b : Bool) (e : b ≡ pointwise eqb (get_or xs i d).0.now s) where
  this_row : row_of (as_rows (drop i xs)) s ≡ cond b (Some ((get_or xs i d).1, (get_or xs i d).2)) (row_of (as_rows (drop (suc i) xs)) s)
  unfolding row_of
  this_row = rw (drop-cons xs i d h, e, same_is) refl

  module _ (found : Option (Op × ℕ)) (l : row_of (as_rows (drop i xs)) s ≡ found) where
    pub row_found : b ≡ true → Some ((get_or xs i d).1, (get_or xs i d).2) ≡ found
    row_found f = sym (rw f at this_row) ∙ l

    pub row_next : b ≡ false → row_of (as_rows (drop (i + 1) xs)) s ≡ found
    row_next f = rw add-one (sym (rw f at this_row) ∙ l)

pub no_row : (xs : List Item) (s : List ℕ) (i : ℕ) (found : Option (Op × ℕ)) → row_of (as_rows (drop i xs)) s ≡ found → length xs ≤ i → None ≡ found
unfolding row_of
no_row xs s i found l h = rw (drop_of_length-le xs h) at l
