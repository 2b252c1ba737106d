-- `carv_register_image::steps` meets its contract. Assumes nothing.
use Rattle.std.proofs.Common.{arith, sym, ◌∙◌}
use Rattle.std.specs.Prelude.{◌≡◌, ◌+◌, ◌-◌}
use Rattle.carv_register_image.proofs.Laws.Image.{after_none, so_far, one_more}
use Rattle.carv_register_image.proofs.steps.Goals as goal

pub loop-k-init : goal.loop-k-init
loop-k-init c =
    (omega arith, omega arith, sym (after_none c.args.image.now))

pub step-requires-clause-final_before : goal.step-requires-clause-final_before
step-requires-clause-final_before c =
    let at = c.loop-k in
    so_far at.k (omega arith) (omega arith) c.args.image.now at.image at.invariant.2

pub loop-k-preserved : goal.loop-k-preserved
loop-k-preserved c =
    let at = c.loop-k in
    let e : (at.k + 1) - 1 ≡ at.k = omega arith in
    (omega arith, omega arith, rw e (c.step.ensures ∙ one_more at.k (omega arith) (omega arith) c.args.image.now at.image at.invariant.2))

pub returns : goal.returns
returns c =
    let e : c.loop-k.k - 1 ≡ c.args.n = omega arith in
    rw e at c.loop-k.invariant.2

pub returns-2 : goal.returns-2
returns-2 c =
    let at = c.loop-k in
    let e : at.k ≡ c.args.n = omega arith in
    rw e at (c.step.ensures ∙ one_more at.k (omega arith) (omega arith) c.args.image.now at.image at.invariant.2)
