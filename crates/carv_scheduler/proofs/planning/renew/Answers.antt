-- `carv_scheduler::planning::renew` meets its contract. Assumes nothing.
use Rattle.std.proofs.Common.{◌∙◌}
use Rattle.carv_scheduler.specs.Area.{registry_part}
use Rattle.carv_scheduler.specs.Laws.AreaSteps.{length_registry}
use Rattle.carv_scheduler.specs.Laws.Planning.{renewing}
use Rattle.carv_scheduler.proofs.planning.renew.Goals as goal

pub renew_and_test-requires : goal.renew_and_test-requires
unfolding registry_part
renew_and_test-requires c =
    c.requires.registry.sound

pub returns : goal.returns
unfolding registry_part
returns c =
    renewing _ c.requires _ _ _ _ (c.renew_and_test.auto.a ∙ length_registry c.args.a.now c.requires.size) c.renew_and_test.ensures
