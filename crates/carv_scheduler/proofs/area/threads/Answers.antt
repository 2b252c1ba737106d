-- `carv_scheduler::area::threads` meets its contract. Assumes nothing.
use Rattle.std.proofs.Common.{refl}
use Rattle.carv_scheduler.specs.Area.{threads_part}
use Rattle.carv_scheduler.specs.Laws.AreaLaws.{formed_laid}
use Rattle.carv_scheduler.specs.Laws.AreaSteps.{threads_keyed}
use Rattle.carv_scheduler.proofs.area.threads.Goals as goal

pub invariant_of-result : goal.invariant_of-result
unfolding threads_part
invariant_of-result c =
    record { keyed = threads_keyed _ (formed_laid _ c.requires) }

pub returns : goal.returns
unfolding threads_part
returns c =
    refl
