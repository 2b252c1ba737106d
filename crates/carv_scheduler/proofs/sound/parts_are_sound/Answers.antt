-- `carv_scheduler::sound::parts_are_sound` meets its contract. Assumes nothing.
use Rattle.std.proofs.Common.{sym, ◌∙◌, arith}
use Rattle.std.proofs.lemmas.Option.{MatchOption-at_some}
use mathlib.Core.Bool.{false≢true}
use Rattle.carv_scheduler.specs.Area.{threads_part, queue_part, exits_part}
use Rattle.carv_scheduler.specs.Laws.AreaSteps.{length_queue}
use Rattle.carv_scheduler.specs.Laws.ExitSteps.{length_exits}
use Rattle.carv_scheduler.specs.Laws.SoundBridge.{parts_no, parts_tell}
use Rattle.carv_scheduler.proofs.sound.parts_are_sound.Goals as goal

pub unwrap-q-requires : goal.unwrap-q-requires
unwrap-q-requires c = c.as_array-2.ensures.variant.1 (length_queue c.args.area.now (omega arith))

pub unwrap-x-requires : goal.unwrap-x-requires
unwrap-x-requires c = c.as_array-3.ensures.variant.1 (length_exits c.args.area.now (omega arith))

pub returns-else-tables_are_sound : goal.returns-else-tables_are_sound
unfolding threads_part queue_part exits_part
returns-else-tables_are_sound c =
    let t = (MatchOption-at_some _ _ _ c.unwrap-t.ensures c.as_array.ensures.cases).same in
    let q = (MatchOption-at_some _ _ _ c.unwrap-q.ensures c.as_array-2.ensures.cases).same in
    let x = (MatchOption-at_some _ _ _ c.unwrap-x.ensures c.as_array-3.ensures.cases).same in
    record { so = λ e. absurd (false≢true (sym c.if-tables_are_sound.false ∙ e)); not = λ e. parts_no c.args.area.now _ _ _ _ t q x c.current.ensures (c.tables_are_sound.ensures.not c.if-tables_are_sound.false) }

pub returns-then-tables_are_sound : goal.returns-then-tables_are_sound
unfolding threads_part queue_part exits_part
returns-then-tables_are_sound c =
    let t = (MatchOption-at_some _ _ _ c.unwrap-t.ensures c.as_array.ensures.cases).same in
    let q = (MatchOption-at_some _ _ _ c.unwrap-q.ensures c.as_array-2.ensures.cases).same in
    let x = (MatchOption-at_some _ _ _ c.unwrap-x.ensures c.as_array-3.ensures.cases).same in
    parts_tell c.args.area.now _ _ _ _ t q x c.current.ensures (c.tables_are_sound.ensures.so c.if-tables_are_sound.true) _ c.exits_are_sound.ensures
