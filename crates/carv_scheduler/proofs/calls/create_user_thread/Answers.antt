-- `carv_scheduler::calls::create_user_thread` meets its contract. Assumes nothing.
use Rattle.std.proofs.Common.{sym, refl, ◌∙◌, arith}
use Rattle.carv_scheduler_spec.proofs.Laws.Kept.{create_user_thread_kept}
use Rattle.carv_scheduler.specs.Laws.Formed.{leaves_as}
use Rattle.carv_scheduler.specs.Laws.AreaLaws.{area_formed, area_sound}
use Rattle.carv_scheduler.specs.Laws.Calls.{answered}
use Rattle.carv_scheduler.specs.Laws.CallSteps.{created_is}
use Rattle.carv_scheduler_spec.proofs.Laws.Questions.{create_done}
use Rattle.carv_scheduler.specs.Area.{decode}
use Rattle.carv_scheduler.proofs.calls.create_user_thread.Goals as goal

pub has_thread-requires : goal.has_thread-requires
has_thread-requires c =
    area_formed _ c.requires

pub thread_count-requires : goal.thread_count-requires
thread_count-requires c =
    area_formed _ c.requires

pub insert_thread-requires-clause-well_formed : goal.insert_thread-requires-clause-well_formed
insert_thread-requires-clause-well_formed c =
    area_formed _ c.requires

pub returns : goal.returns
returns c =
    answered _ _ c.requires _ (create_done c.args.id c.args.budget c.args.stack (decode c.args.a.now) (sym c.has_thread.ensures ∙ c.if-has_thread.false) c.if-id-eq-FIRST.false c.if-id-eq-IDLE.false (rw (← c.thread_count.ensures) c.if-thread_count-ge-PLACES.false) c.if-not-stack.false) _ refl refl _
    (leaves_as _ _ _ (created_is (decode c.args.a.now) c.args.id _ _ c.fresh_thread.ensures) c.insert_thread.ensures) (create_user_thread_kept c.args.id c.args.budget c.args.stack (decode c.args.a.now) (omega (arith, c.ranges.id)) (area_sound _ c.requires))
