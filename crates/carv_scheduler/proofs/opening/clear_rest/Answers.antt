-- `carv_scheduler::opening::clear_rest` meets its contract. Assumes nothing.
use Rattle.std.proofs.Common.{arith, rules}
use Rattle.carv_scheduler.specs.Laws.Opening.{wiped}
use Rattle.carv_scheduler.proofs.opening.clear_rest.Goals as goal

pub returns : goal.returns
returns c =
    wiped 45_072 23_072 c.args.a.now _ (omega (arith, c.requires)) (search rules) c.clear.ensures.words
