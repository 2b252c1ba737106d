-- `carv_scheduler::opening::open_registry` meets its contract. Assumes nothing.
use Rattle.std.proofs.Common.{rules}
use Rattle.carv_scheduler.specs.Laws.Opening.{registry_opened}
use Rattle.carv_scheduler.proofs.opening.open_registry.Goals as goal

pub returns : goal.returns
returns c =
    registry_opened c.args.cpu c.args.memory c.args.a.now _ _ c.requires.a_len (search rules) c.requires.cpu_bound c.open.ensures
