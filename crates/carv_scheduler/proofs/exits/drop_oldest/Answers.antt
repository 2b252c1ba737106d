-- `carv_scheduler::exits::drop_oldest` meets its contract. Assumes nothing.
use Rattle.std.proofs.Common.{◌∙◌}
use Rattle.carv_scheduler.specs.Area.{exits_part}
use Rattle.carv_scheduler.specs.Laws.AreaLaws.{formed_laid}
use Rattle.carv_scheduler.specs.Laws.ExitSteps.{length_exits, exits_room, exit_counted, oldest_dropped}
use Rattle.carv_scheduler.proofs.exits.drop_oldest.Goals as goal

pub remove_row-requires : goal.remove_row-requires
unfolding exits_part
remove_row-requires c =
    record { rows_fit = exits_room _ (formed_laid _ c.requires.well_formed); is_row = exit_counted _ (formed_laid _ c.requires.well_formed) _ c.requires.exits_nonzero }

pub returns : goal.returns
unfolding exits_part
returns c =
    oldest_dropped _ c.requires.well_formed _ (c.remove_row.auto.t ∙ length_exits c.args.a.now c.requires.well_formed.size) c.requires.exits_nonzero c.remove_row.ensures.words
