-- `carv_scheduler::sound::current_fits` meets its contract. Assumes nothing.
use Rattle.std.proofs.Common.{arith}
use Rattle.carv_area.specs.Words.{words}
use Rattle.carv_scheduler.specs.Laws.SoundRows.{stands, missing}
use Rattle.carv_scheduler.specs.Laws.SoundStates.{no_current, current_tells}
use Rattle.carv_scheduler.proofs.sound.current_fits.Goals as goal

pub returns-in_default : goal.returns-in_default
returns-in_default c =
    no_current (words c.args.table.bytes.now) _ (missing (words c.args.table.bytes.now) _ _ c.find.ensures c.in_default.is)

pub overflow_mul-i : goal.overflow_mul-i
overflow_mul-i c =
    let s = stands (words c.args.table.bytes.now) _ _ c.find.ensures _ c.in-Some.is in omega (arith, s.inside, c.args.table.keyed.room)

pub overflow_add-i : goal.overflow_add-i
overflow_add-i c =
    let s = stands (words c.args.table.bytes.now) _ _ c.find.ensures _ c.in-Some.is in omega (arith, s.inside, c.args.table.keyed.room)

pub get-requires : goal.get-requires
get-requires c =
    let s = stands (words c.args.table.bytes.now) _ _ c.find.ensures _ c.in-Some.is in omega (arith, s.inside, c.args.table.keyed.room)

pub returns : goal.returns
returns c =
    current_tells (words c.args.table.bytes.now) _ _ _ (stands (words c.args.table.bytes.now) _ _ c.find.ensures _ c.in-Some.is) c.get.ensures
