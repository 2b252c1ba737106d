-- `carv_scheduler::area::set_head` meets its contract. Assumes nothing.
use Rattle.std.proofs.Common.{refl, ◌∙◌}
use Rattle.carv_scheduler.specs.Area.{head}
use Rattle.carv_scheduler.specs.Laws.AreaSteps.{length_head, head_set}
use Rattle.carv_scheduler.proofs.area.set_head.Goals as goal

pub returns : goal.returns
unfolding head
returns c =
    head_set _ c.requires _ _ _ _ (c.write_head.auto.h ∙ length_head c.args.a.now c.requires.size) refl c.write_head.ensures
