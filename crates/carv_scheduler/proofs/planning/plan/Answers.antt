-- `carv_scheduler::planning::plan` meets its contract. Assumes nothing.
use Rattle.std.proofs.Common.{refl}
use Rattle.carv_scheduler.specs.Laws.AreaLaws.{area_formed}
use Rattle.carv_scheduler.specs.Laws.PlanSteps.{planned}
use Rattle.carv_scheduler.proofs.planning.plan.Goals as goal

pub current-old-requires : goal.current-old-requires
current-old-requires c =
    (area_formed _ c.requires).size

pub returns : goal.returns
returns c =
    planned c.args.a.now c.requires c.args.n _ c.current-old.ensures _ _ c.put_back-killed.ensures _ _ _ c.choose-next.ensures c.if-n-gt-LAST_TICK.false refl _ _ c.switch_to.ensures
