-- `carv_scheduler::sound::turn` meets its contract. Assumes nothing.
use Rattle.std.proofs.Common.{true≢false, arith}
use mathlib.Core.Bool.{false≢true}
use Rattle.carv_area.specs.Words.{words}
use Rattle.carv_scheduler.specs.Laws.SoundRows.{stands, missing, keys_rise}
use Rattle.carv_scheduler.specs.Laws.SoundQueue.{off_idle, off_missing, off_state, off_marked, walk_on}
use Rattle.carv_scheduler.proofs.sound.turn.Goals as goal

pub returns-then-id : goal.returns-then-id
returns-then-id c =
    record { on = λ e. absurd (false≢true e); off = λ e. off_idle c.get-id.ensures c.requires.j_bound.0 c.if-id.true }

pub returns-in_default : goal.returns-in_default
returns-in_default c =
    record { on = λ e. absurd (false≢true e); off = λ e. off_missing c.get-id.ensures c.requires.j_bound.0 (missing (words c.args.table.bytes.now) _ _ c.find_near.ensures c.in_default.is) }

pub overflow_mul-i : goal.overflow_mul-i
overflow_mul-i c =
    let s = stands (words c.args.table.bytes.now) _ _ c.find_near.ensures _ c.in-Some.is in omega (arith, s.inside, c.args.table.keyed.room)

pub overflow_add-i : goal.overflow_add-i
overflow_add-i c =
    let s = stands (words c.args.table.bytes.now) _ _ c.find_near.ensures _ c.in-Some.is in omega (arith, s.inside, c.args.table.keyed.room)

pub get-requires : goal.get-requires
get-requires c =
    let s = stands (words c.args.table.bytes.now) _ _ c.find_near.ensures _ c.in-Some.is in omega (arith, s.inside, c.args.table.keyed.room)

pub returns-then-get-ne-READY : goal.returns-then-get-ne-READY
returns-then-get-ne-READY c =
    record { on = λ e. absurd (false≢true e); off = λ e. off_state c.get-id.ensures c.requires.j_bound.0 (stands (words c.args.table.bytes.now) _ _ c.find_near.ensures _ c.in-Some.is) (λ q. omega arith) }

pub bounds-marks-i : goal.bounds-marks-i
bounds-marks-i c =
    let s = stands (words c.args.table.bytes.now) _ _ c.find_near.ensures _ c.in-Some.is in omega (arith, s.inside, c.requires.t_bound)

pub returns-then-marks-i : goal.returns-then-marks-i
returns-then-marks-i c =
    record { on = λ e. absurd (false≢true e); off = λ e. off_marked c.get-id.ensures c.requires.j_bound.0 (stands (words c.args.table.bytes.now) _ _ c.find_near.ensures _ c.in-Some.is) c.requires.walk c.if-marks-i.true }

pub bounds-marks-i-2 : goal.bounds-marks-i-2
bounds-marks-i-2 c =
    let s = stands (words c.args.table.bytes.now) _ _ c.find_near.ensures _ c.in-Some.is in omega (arith, s.inside, c.requires.t_bound)

pub returns : goal.returns
returns c =
    record { on = λ e. walk_on c.get-id.ensures c.requires.j_bound.0 (stands (words c.args.table.bytes.now) _ _ c.find_near.ensures _ c.in-Some.is) c.requires.walk (keys_rise (words c.args.table.bytes.now) c.args.table.keyed.rise) c.if-id.false (omega arith) c.if-marks-i.false (let s = stands (words c.args.table.bytes.now) _ _ c.find_near.ensures _ c.in-Some.is in omega (arith, s.inside, c.requires.t_bound)); off = λ e. absurd (true≢false e) }
