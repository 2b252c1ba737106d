-- `carv_register_image::step` meets its contract. Assumes nothing.
use mathlib.Core.Path.{◌∙◌}
use Rattle.carv_register_image.proofs.Laws.Image.{step_is}
use Rattle.carv_register_image.proofs.step.Goals as goal

pub returns : goal.returns
returns c =
    c.write_eight.ensures ∙ step_is c.args.k c.requires.is_step.0 c.requires.is_step.1 c.args.image.now c.requires.final_before
