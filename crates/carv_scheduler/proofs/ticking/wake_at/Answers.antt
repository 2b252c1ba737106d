-- `carv_scheduler::ticking::wake_at` meets its contract. Assumes nothing.
use Rattle.std.proofs.Common.{sym, ◌∙◌, subst}
use Rattle.carv_scheduler_spec.specs.Scheduler.{wake}
use Rattle.carv_scheduler.specs.Area.{decode, Is}
use Rattle.carv_scheduler.specs.Laws.AreaLaws.{area_formed}
use Rattle.carv_scheduler.specs.Laws.Waking.{not_due, due_here, due_wakes}
use Rattle.carv_scheduler.proofs.ticking.wake_at.Goals as goal

pub is_due-requires-clause-well_formed : goal.is_due-requires-clause-well_formed
is_due-requires-clause-well_formed c =
    area_formed _ c.requires.a_value

pub thread_id-id-requires-clause-well_formed : goal.thread_id-id-requires-clause-well_formed
thread_id-id-requires-clause-well_formed c =
    area_formed _ c.requires.a_value

pub wake_thread-requires-clause-here : goal.wake_thread-requires-clause-here
wake_thread-requires-clause-here c =
    due_here c.args.a.now c.requires.a_value _ _ c.requires.i_in_bounds (sym c.is_due.ensures ∙ c.if-is_due.true) _ c.thread_id-id.ensures

pub returns-then-is_due : goal.returns-then-is_due
returns-then-is_due c =
    let d = c.default.ensures in
    due_wakes c.args.a.now c.requires.a_value _ _ c.requires.i_in_bounds (sym c.is_due.ensures ∙ c.if-is_due.true) _ c.thread_id-id.ensures _
    (subst (λ r. Is c.wake_thread.new.a (wake c.thread_id-id.result r (decode c.args.a.now)).after) (λ i. record { first = d.0 i; second = d.1.0 i; third = d.1.1 i }) c.wake_thread.ensures)

pub returns-else-is_due : goal.returns-else-is_due
returns-else-is_due c =
    not_due c.args.a.now c.requires.a_value _ _ (sym c.is_due.ensures ∙ c.if-is_due.false)
