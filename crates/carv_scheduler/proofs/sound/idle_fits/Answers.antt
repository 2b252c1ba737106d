-- `carv_scheduler::sound::idle_fits` meets its contract. Assumes nothing.
use Rattle.std.proofs.Common.{true≢false, arith}
use mathlib.Core.Bool.{false≢true}
use Rattle.carv_area.specs.Words.{words}
use Rattle.carv_scheduler.specs.Laws.SoundRows.{stands, missing}
use Rattle.carv_scheduler.specs.Laws.SoundStates.{no_idle, idle_runs, idle_else, idle_waits}
use Rattle.carv_scheduler.proofs.sound.idle_fits.Goals as goal

pub returns-in_default : goal.returns-in_default
returns-in_default c =
    no_idle (words c.args.table.bytes.now) _ (missing (words c.args.table.bytes.now) _ _ c.find.ensures c.in_default.is)

pub overflow_mul-i : goal.overflow_mul-i
overflow_mul-i c =
    let s = stands (words c.args.table.bytes.now) _ _ c.find.ensures _ c.in-Some.is in omega (arith, s.inside, c.args.table.keyed.room)

pub overflow_add-i : goal.overflow_add-i
overflow_add-i c =
    let s = stands (words c.args.table.bytes.now) _ _ c.find.ensures _ c.in-Some.is in omega (arith, s.inside, c.args.table.keyed.room)

pub get-requires : goal.get-requires
get-requires c =
    let s = stands (words c.args.table.bytes.now) _ _ c.find.ensures _ c.in-Some.is in omega (arith, s.inside, c.args.table.keyed.room)

pub returns-in-3 : goal.returns-in-3
returns-in-3 c =
    record { so = λ e. idle_runs (words c.args.table.bytes.now) _ _ _ (stands (words c.args.table.bytes.now) _ _ c.find.ensures _ c.in-Some.is) c.get.ensures c.in-3.is; not = λ e. absurd (true≢false e) }

pub returns-in-2 : goal.returns-in-2
returns-in-2 c =
    idle_waits (words c.args.table.bytes.now) _ _ _ (stands (words c.args.table.bytes.now) _ _ c.find.ensures _ c.in-Some.is) c.get.ensures (λ q. omega arith) c.in-2.is

pub returns-in_default-get : goal.returns-in_default-get
returns-in_default-get c =
    record { so = λ e. absurd (false≢true e); not = λ e. idle_else (words c.args.table.bytes.now) _ _ _ (stands (words c.args.table.bytes.now) _ _ c.find.ensures _ c.in-Some.is) c.get.ensures (λ q. omega arith) (λ q. omega arith) }
