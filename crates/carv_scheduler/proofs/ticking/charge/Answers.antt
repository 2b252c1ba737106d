-- `carv_scheduler::ticking::charge` meets its contract. Assumes nothing.
use Rattle.std.proofs.Common.{◌∙◌}
use Rattle.carv_scheduler.specs.Area.{registry_part}
use Rattle.carv_scheduler.specs.Laws.Formed.{registry_written}
use Rattle.carv_scheduler.specs.Laws.AreaSteps.{length_registry}
use Rattle.carv_scheduler.proofs.ticking.charge.Goals as goal

pub charge_most-requires : goal.charge_most-requires
unfolding registry_part
charge_most-requires c =
    c.requires.registry.sound

pub returns : goal.returns
unfolding registry_part
returns c =
    registry_written _ c.requires _ _ (c.charge_most.auto.a ∙ length_registry c.args.a.now c.requires.size) c.charge_most.ensures
