-- `compare::compare_field` meets its contract: as `compare_bytes`, with the bytes of the field on the right.
-- Assumes nothing.
use Rattle.std.proofs.Common.{◌≡◌, Ok, length, sym, refl, ap, ◌∙◌, arith, rules}
use Rattle.bits.specs.Bits.{bytes, run_bits, bytes_for}
use Rattle.bits.proofs.Laws.{bytes_length}
use Rattle.expression.proofs.Comparing.{right_ends, byte_decides, byte_alike, lengths_decide, byte_of_field}
use Rattle.expression.proofs.compare.compare_field.Goals as goal

pub loop-i-init : goal.loop-i-init
loop-i-init c =
    (search rules, refl)

pub returns-then-n-i : goal.returns-then-n-i
returns-then-n-i c =
    let a = c.args in
    let n = c.requires.2 in
    let h = bytes_length (run_bits a.t.now a.offset a.length) 0 (bytes_for a.length) in
    right_ends _ _ _ c.loop-i.invariant.1 c.loop-i-test.true (omega arith)

pub field_byte-y-requires : goal.field_byte-y-requires
field_byte-y-requires c =
    (omega arith, omega arith)

pub returns-then-is_ne : goal.returns-then-is_ne
returns-then-is_ne c =
    let a = c.args in
    let n = c.requires.2 in
    let h = bytes_length (run_bits a.t.now a.offset a.length) 0 (bytes_for a.length) in
    byte_decides _ _ _ c.loop-i.invariant.1 c.loop-i-test.true (omega arith) _ _ c.from.ensures
    (byte_of_field a.t.now a.offset a.length _ (omega arith) _ c.field_byte-y.ensures) _ c.cmp-order.ensures (sym c.is_ne.ensures ∙ c.if-is_ne.true)

pub loop-i-preserved : goal.loop-i-preserved
loop-i-preserved c =
    let a = c.args in
    let n = c.requires.2 in
    let h = bytes_length (run_bits a.t.now a.offset a.length) 0 (bytes_for a.length) in (
      omega arith,
      byte_alike _ _ _ c.loop-i.invariant.1 c.loop-i-test.true (omega arith) _ _ c.from.ensures
          (byte_of_field a.t.now a.offset a.length _ (omega arith) _ c.field_byte-y.ensures) _ c.cmp-order.ensures (sym c.is_ne.ensures ∙ c.if-is_ne.false),
    )

pub returns : goal.returns
returns c =
    let a = c.args in
    let n = c.requires.2 in
    let h = bytes_length (run_bits a.t.now a.offset a.length) 0 (bytes_for a.length) in
    let k : length (bytes (run_bits a.t.now a.offset a.length) 0 (bytes_for a.length)) ≡ a.n = h ∙ sym n in
    ap Ok c.cmp.ensures ∙ rw (← k) (lengths_decide _ _ _ c.loop-i.invariant.1 c.loop-i-test.false (omega arith) (omega arith))
