-- `carv_register_image::fill_image` meets its contract. Assumes nothing.
use Rattle.std.proofs.Common.{◌∙◌, rules}
use Rattle.carv_register_image.proofs.Laws.Image.{after_all}
use Rattle.carv_register_image.proofs.fill_image.Goals as goal

pub returns : goal.returns
returns c =
    c.steps.ensures ∙ after_all _ (search rules)
