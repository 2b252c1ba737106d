-- `carv_objects::area::set_next` meets its contract. Assumes nothing.
use mathlib.Core.Path.{◌∙◌}
use Rattle.carv_objects.specs.Area.{head}
use Rattle.carv_objects.specs.Laws.Formed.{length_head}
use Rattle.carv_objects.specs.Laws.AreaSteps.{next_put}
use Rattle.carv_objects.proofs.area.set_next.Goals as goal

pub returns : goal.returns
unfolding head
returns c =
    next_put c.args.a.now _ c.requires (c.put.auto.a ∙ length_head c.args.a.now c.requires) _ c.put.ensures.words
