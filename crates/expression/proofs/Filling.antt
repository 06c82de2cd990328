-- Bytes at the front of an output, one piece behind the other: what was there stays behind the last piece.
-- Assumes nothing.
use Rattle.std.proofs.Common.{◌≡◌, ℕ, ◌+◌, ◌-◌, ◌≤◌, List, [], ◌++◌, length, take, drop, replicate, sym, ap, ◌∙◌, append_assoc, append-nil, arith, length-append, length-drop, take_all, drop-drop}
use lib.ListN.{length-replicate}
use lib.Seq.{drop-append-add, drop-length, take-append_seam, drop-append_seam}
use borrow.Rule.Slice.PartMut.{put_mid}
use Rattle.value.specs.Conversions.{into}
use Rattle.value.proofs.Giving.{into_length, copied as copy_into}

-- i bytes of one value, then what stood behind them
pub filled_length : (d : List ℕ) (v i : ℕ) → i ≤ length d → length (replicate i v ++ drop i d) ≡ length d
filled_length d v i h = simp (length-append, length-replicate, length-drop) (omega arith)

-- all of them
pub filled : (d : List ℕ) (v i : ℕ) → length d ≤ i → i ≤ length d → replicate i v ++ drop i d ≡ replicate (length d) v
filled d v i h l =
    let e : i ≡ length d = omega arith in
    rw (e, drop-length) (append-nil (replicate (length d) v))

-- ---- one list at the front, and something else behind it

-- what stands behind the list is as it was
pub kept : (l out : List ℕ) (p : ℕ) → length l ≤ p → drop p (into l out) ≡ drop p out
kept l out p h =
    let e : length l + (p - length l) ≡ p = omega arith in
    ap (λ (k : ℕ). drop k (into l out)) (sym e)
    ∙ drop-append-add l (drop (length l) out) (p - length l)
    ∙ drop-drop (p - length l) (length l) out
    ∙ ap (λ (k : ℕ). drop k out) e

pub copied : (l out t : List ℕ) → t ≡ take (length l) l ++ drop (length l) out → t ≡ into l out
copied l out t e = e ∙ copy_into l out

-- the bytes from the end of the first list on become ys: the first list, then ys, then what stood there
module _ (l out t : List ℕ) (e : t ≡ into l out) where
  pub behind : (at n : ℕ) → at ≡ length l → length l ≤ n → (ys : List ℕ)
      → put_mid at (n - at) t ys ≡ l ++ (ys ++ drop n out)
  behind at n f h ys =
      let a : take at t ≡ l = rw (e, f) (take-append_seam l (drop (length l) out)) in
      let d : drop at t ≡ drop (length l) out = rw (e, f) (drop-append_seam l (drop (length l) out)) in
      let m : length l + (n - length l) ≡ n = omega arith in
      rw (a, d, f, drop-drop, m)

-- ---- two lists, one behind the other: the second goes to the front of what the first leaves
module _ (l r out t : List ℕ) (e : t ≡ into l out) (h : length l ≤ length out) (n : ℕ) (f : n ≡ length l) where
  pub rest : take (length t - n) (drop n t) ≡ drop n out
  rest =
      let d : drop n t ≡ drop n out = rw e (kept l out n (omega arith)) in
      let m : length t ≡ length out = ap length e ∙ into_length l out h in
      rw d (take_all (length t - n) (drop n out) (omega (arith, length-drop n out)))

  pub pieces : (ys : List ℕ) → ys ≡ into r (take (length t - n) (drop n t)) → put_mid n (length t - n) t ys ≡ into (l ++ r) out
  pieces ys g =
      let m : length t ≡ length out = ap length e ∙ into_length l out h in
      let z : drop (length t) out ≡ [] = rw m (drop-length out) in
      behind l out t e n (length t) f (omega arith) ys
      ∙ rw (z, g, rest, f, drop-drop (length r) (length l) out, append-nil, length-append)
      (sym (append_assoc l r (drop (length l + length r) out)))
