-- `carv_area::clear` meets its contract. Assumes nothing.
use Rattle.std.proofs.Common.{arith, rules}
use Rattle.carv_area.specs.Laws.Words.{wipe_of}
use Rattle.carv_area.proofs.clear.Goals as goal

pub returns : goal.returns
returns c =
    wipe_of _ _ c.args.o c.args.n _ _ c.requires (omega arith) (search rules) (c.fill.ensures.after (λ y e. e))
