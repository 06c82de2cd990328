use Rattle.script.proofs.Running.{left_begin, left_step, left_end}
use borrow.Author.Rules.{rules}
use lib.ListN.{length, drop, length-take, length-drop}
use native.Mathlib.Omega.{arith}
use Prim.Native.Nat.{◌-◌}
use mathlib.Core.Path.{◌∙◌, refl}
use Rattle.script.proofs.run.answer_jobs.Goals as goal

pub loop-from-init : goal.loop-from-init
loop-from-init c = record { in_input = search rules; at_most = omega (arith, c.requires.1); same = refl; left = rw c.requires.1 (left_begin c.args.input.now c.args.answers.now.out.now) }

pub answer_job-from-requires : goal.answer_job-from-requires
answer_job-from-requires c =
    let n = length c.args.input.now in
    let i = c.loop-from.from in
    (omega (arith, c.loop-from.invariant.in_input, c.loop-from.invariant.at_most, c.loop-from-test.true, c.requires.0), omega (arith, c.requires.0, length-take (n - i) (drop i c.args.input.now)))

pub overflow_add-from : goal.overflow_add-from
overflow_add-from c =
    let n = length c.args.input.now in
    let i = c.loop-from.from in
    omega (arith, c.answer_job-from.ensures.most, length-take (n - i) (drop i c.args.input.now), c.requires.0, c.loop-from.invariant.in_input)

pub loop-from-smaller : goal.loop-from-smaller
loop-from-smaller c =
    let n = length c.args.input.now in
    let i = c.loop-from.from in
    omega (arith, c.answer_job-from.ensures.some, c.loop-from-test.true, length-take (n - i) (drop i c.args.input.now), length-drop i c.args.input.now)

pub loop-from-preserved : goal.loop-from-preserved
loop-from-preserved c =
    let n = length c.args.input.now in
    let i = c.loop-from.from in
    let l = length-take (n - i) (drop i c.args.input.now) in
    let d = length-drop i c.args.input.now in
    record {
      in_input = omega (arith, c.answer_job-from.ensures.most, l, d, c.loop-from.invariant.in_input);
      at_most = omega (arith, c.answer_job-from.ensures.some, c.answer_job-from.ensures.bound, l, d, c.loop-from.invariant.at_most, c.loop-from-test.true);
      same = c.answer_job-from.ensures.puts.same ∙ c.loop-from.invariant.same;
      left = left_step _ _ _ _ c.loop-from.invariant.left c.loop-from-test.true _ _ c.answer_job-from.ensures;
    }

pub returns : goal.returns
returns c = record { same = c.loop-from.invariant.same; put = rw c.requires.1 (left_end _ _ c.loop-from.answers _ c.loop-from.invariant.left c.loop-from-test.false) }
