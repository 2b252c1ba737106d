-- `carv_area::shift_down` meets its contract. Assumes nothing.
use Rattle.std.proofs.Common.{arith}
use Rattle.std.specs.Prelude.{◌+◌}
use Rattle.carv_area.specs.Laws.Words.{move_of}
use Rattle.carv_area.proofs.shift_down.Goals as goal

pub returns : goal.returns
returns c =
    move_of _ _ c.args.o (c.args.o + c.args.c) c.args.m _ (omega arith) (omega arith) (omega arith) c.copy_within.ensures.after
