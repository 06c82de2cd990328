use Rattle.std.proofs.Common.{◌≡◌, ℕ, ◌+◌, ◌≤◌, List, ◌++◌, Option, rules, arith, length, take, drop, sym, ap, ◌∙◌, subst, le_refl, drop_at, length-take-le}
use Rattle.std.proofs.lemmas.Slice.{take-put_mid_below}
use Rattle.std.specs.Io.KnownBytes.{Consumes}
use Rattle.std.proofs.KnownBytes.{Consumes-trans}
use borrow.Rule.Slice.PartMut.{put_mid, post_of}
use lib.Seq.{take-add, take-append-le}
use Rattle.input.proofs.read_full.Goals as goal

-- a part that is written leaves what is before it, and its first n bytes come next
take_part : (a k n : ℕ) (xs ys : List ℕ) → a ≤ length xs → n ≤ length ys → take (a + n) (put_mid a k xs ys) ≡ take a xs ++ take n ys
take_part a k n xs ys within fits =
    take-add a n (put_mid a k xs ys)
    ∙ ap (λ (l : List ℕ). l ++ take n (drop a (put_mid a k xs ys))) (take-put_mid_below a k xs ys a (le_refl a) within)
    ∙ ap (λ (l : List ℕ). take a xs ++ take n l) (drop_at (take a xs) (ys ++ post_of a k xs) a (length-take-le a xs within))
    ∙ ap (λ (l : List ℕ). take a xs ++ l) (take-append-le n ys (post_of a k xs) fits)

-- what came before, and then n bytes more
came_next : (x y z : Option (List ℕ)) (a k n m : ℕ) (xs ys : List ℕ) → a ≤ length xs → n ≤ length ys → m ≡ a + n
    → Consumes x y (take a xs) → Consumes y z (take n ys) → Consumes x z (take m (put_mid a k xs ys))
came_next x y z a k n m xs ys within fits e before more =
    subst (Consumes x z) (sym (ap (λ (i : ℕ). take i (put_mid a k xs ys)) e ∙ take_part a k n xs ys within fits)) (Consumes-trans x y z (take a xs) (take n ys) before more)

pub loop-n-preserved : goal.loop-n-preserved
loop-n-preserved g c =
    let b = c.in_ok-more.ensures in
    record {
      inside = search rules;
      came = came_next _ _ _ c.loop-n.n _ c.in_ok-more.more _ _ _ c.loop-n.invariant.inside b.bound.0 (search rules) c.loop-n.invariant.came b.bytes.0;
    }

pub returns-then-more-eq0-clause-bytes : goal.returns-then-more-eq0-clause-bytes
returns-then-more-eq0-clause-bytes g c =
    let b = c.in_ok-more.ensures in
    came_next _ _ _ c.loop-n.n _ c.in_ok-more.more _ _ _ c.loop-n.invariant.inside b.bound.0 (omega arith) c.loop-n.invariant.came b.bytes.0
