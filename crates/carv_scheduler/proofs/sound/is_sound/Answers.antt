-- `carv_scheduler::sound::is_sound` meets its contract. Assumes nothing.
use Rattle.std.proofs.Common.{sym, ◌∙◌}
use Rattle.carv_scheduler.specs.Area.{registry_part}
use Rattle.carv_scheduler.specs.Laws.SoundBridge.{asked_size, asked_registry, asked}
use Rattle.carv_scheduler.proofs.sound.is_sound.Goals as goal

pub returns-in_default : goal.returns-in_default
returns-in_default c =
    asked_size c.args.area.now c.in_default.ensures.cases

pub returns-else-is_sound : goal.returns-else-is_sound
unfolding registry_part
returns-else-is_sound c =
    let w = c.in-Some.ensures.cases in
    c.if-is_sound.false ∙ (rw w.same at (asked_registry c.in-Some.area.now (sym c.is_sound.ensures ∙ c.if-is_sound.false)))

pub returns-then-is_sound : goal.returns-then-is_sound
unfolding registry_part
returns-then-is_sound c =
    let w = c.in-Some.ensures.cases in
    rw w.same at (asked c.in-Some.area.now (rw w.same w.long) (sym c.is_sound.ensures ∙ c.if-is_sound.true) _ c.parts_are_sound.ensures)
