use mathlib.Core.Path.{◌≡◌, sym, refl, ◌∙◌}
use mathlib.Core.Bool.{true}
use native.Mathlib.Omega.{arith}
use Rattle.text.specs.Pairs.{pairs_of, are_pairs}
use Rattle.text.proofs.HexPairs.{even, into_none, into_short, into_held, filling_digits, filling_more, filling_ends}
use Rattle.text.proofs.lines.pairs.Goals as goal

pub returns-then-not-are_pairs : goal.returns-then-not-are_pairs
returns-then-not-are_pairs c = into_none (pairs_of c.args.s.now) c.args.out.now (sym c.are_pairs.ensures ∙ c.if-not-are_pairs.true)

pub returns-then-out-pairs : goal.returns-then-out-pairs
returns-then-out-pairs c =
    let e : are_pairs (pairs_of c.args.s.now) ≡ true = sym c.are_pairs.ensures ∙ c.if-not-are_pairs.false in
    into_short (pairs_of c.args.s.now) c.args.out.now e (omega (arith, even c.args.s.now e))

pub loop-i-init : goal.loop-i-init
loop-i-init c = record { pairs = sym c.are_pairs.ensures ∙ c.if-not-are_pairs.false; bytes = refl }

pub pair_byte-requires : goal.pair_byte-requires
pair_byte-requires c = filling_digits _ _ _ _ c.loop-i.invariant _ c.as_chunks.ensures.front (omega arith)

pub loop-i-preserved : goal.loop-i-preserved
loop-i-preserved c = filling_more _ _ _ _ c.loop-i.invariant _ c.as_chunks.ensures.front (omega arith) _ c.pair_byte.ensures

pub returns : goal.returns
returns c =
    let e : are_pairs (pairs_of c.args.s.now) ≡ true = sym c.are_pairs.ensures ∙ c.if-not-are_pairs.false in
    let n = even c.args.s.now e in
    into_held (pairs_of c.args.s.now) c.args.out.now c.loop-i.out _ e (omega arith) (omega arith) (filling_ends _ _ _ _ c.loop-i.invariant (omega arith) (omega arith))
