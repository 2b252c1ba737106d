-- `carv_scheduler::calls::start` meets its contract. Assumes nothing.
use Rattle.std.proofs.Common.{refl, ap, ◌∙◌}
use Rattle.carv_scheduler.proofs.Rules.{met}
use Rattle.carv_scheduler_spec.proofs.Laws.Kept.{start_kept}
use Rattle.carv_scheduler_spec.specs.declared.Thread.{Thread}
use Rattle.carv_scheduler_spec.specs.Scheduler.{inactive}
use Rattle.carv_scheduler_spec.proofs.Laws.Equal.{equal_inactive, agrees}
use Rattle.carv_scheduler.specs.Laws.Formed.{leaves_as}
use Rattle.carv_scheduler.specs.Laws.AreaLaws.{area_formed, area_sound}
use Rattle.carv_scheduler.specs.Laws.Calls.{answered}
use Rattle.carv_scheduler.specs.Laws.Places.{found_here, here_has}
use Rattle.carv_scheduler.specs.Laws.CallSteps.{here_state, start_room, started_is}
use Rattle.carv_scheduler_spec.proofs.Laws.Questions.{start_done}
use Rattle.carv_scheduler.specs.Area.{decode}
use Rattle.carv_scheduler.proofs.calls.start.Goals as goal

pub find_thread-requires : goal.find_thread-requires
find_thread-requires c =
    area_formed _ c.requires

pub thread_at-t-requires-clause-well_formed : goal.thread_at-t-requires-clause-well_formed
thread_at-t-requires-clause-well_formed c =
    area_formed _ c.requires

pub store_and_join-requires : goal.store_and_join-requires
store_and_join-requires c =
    let h = found_here (decode c.args.a.now).threads _ _ c.find_thread.ensures _ (met c.ok_or.ensures.ok_part c.in_ok-i.was) in
    record { well_formed = area_formed _ c.requires; here = h; a_len_bound = start_room (decode c.args.a.now) (area_sound _ c.requires) c.args.id (here_has _ _ _ h) (here_state (decode c.args.a.now).threads _ _ h inactive _ (ap (λ (t : Thread). t.state) c.thread_at-t.ensures) ∙ agrees _ _ _ c.ne.ensures (equal_inactive c.thread_at-t.result.state) c.if-ne.false) }

pub returns : goal.returns
returns c =
    let h = found_here (decode c.args.a.now).threads _ _ c.find_thread.ensures _ (met c.ok_or.ensures.ok_part c.in_ok-i.was) in
    answered _ _ c.requires _ (start_done c.args.id c.args.space c.args.cspace c.args.root c.args.context (decode c.args.a.now) (here_has _ _ _ h) (here_state (decode c.args.a.now).threads _ _ h inactive _ (ap (λ (t : Thread). t.state) c.thread_at-t.ensures) ∙ agrees _ _ _ c.ne.ensures (equal_inactive c.thread_at-t.result.state) c.if-ne.false)) _ refl refl _
    (leaves_as _ _ _ (started_is (decode c.args.a.now) _ _ _ _ _ _ _ h c.thread_at-t.ensures _ refl) c.store_and_join.ensures) (start_kept c.args.id c.args.space c.args.cspace c.args.root c.args.context (decode c.args.a.now) (area_sound _ c.requires))
