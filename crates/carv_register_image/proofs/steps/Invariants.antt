-- The loop's invariant in `carv_register_image::steps` is document 02's sentence: after step k - 1 its first bytes are final and the others as lent. Assumes nothing.
use Rattle.std.specs.Prelude.{◌≡◌, ◌+◌, ◌-◌, ◌≤◌}
use Rattle.carv_register_image.specs.Image.{after_step}
use Rattle.carv_register_image.proofs.steps.Given as goal

abbrev pub invariant-loop-k : goal.invariant-loop-k
invariant-loop-k l = (1 ≤ l.k) × (l.k ≤ l.n + 1) × (l.image ≡ after_step (l.k - 1) l.initial.image)
