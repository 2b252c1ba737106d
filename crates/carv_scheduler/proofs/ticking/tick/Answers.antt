-- `carv_scheduler::ticking::tick` meets its contract. Assumes nothing.
use Rattle.std.proofs.Common.{arith}
use Rattle.carv_scheduler.specs.Laws.Ticking.{ticks}
use Rattle.carv_scheduler.proofs.ticking.tick.Goals as goal

pub returns : goal.returns
returns c =
    ticks c.args.n c.args.a.now c.requires (omega (arith, c.if-n-gt-LAST_TICK.false)) _ _ c.account.ensures c.wake_sleepers.ensures
