-- `carv_scheduler::calls::block_current` meets its contract. Assumes nothing.
use Rattle.std.proofs.Common.{refl, ◌∙◌}
use Rattle.carv_scheduler.proofs.Rules.{met}
use Rattle.carv_scheduler_spec.proofs.Laws.Codes.{wait_known, wait_named}
use Rattle.carv_scheduler_spec.proofs.Laws.Kept.{block_current_kept}
use Rattle.carv_scheduler_spec.specs.Scheduler.{running}
use Rattle.carv_scheduler_spec.proofs.Laws.Equal.{equal_running, agrees}
use Rattle.carv_scheduler.specs.Laws.Formed.{leaves_as}
use Rattle.carv_scheduler.specs.Laws.AreaLaws.{area_formed, area_sound}
use Rattle.carv_scheduler.specs.Laws.Calls.{answered}
use Rattle.carv_scheduler.specs.Laws.CallSteps.{here_state, blocked_current}
use Rattle.carv_scheduler_spec.proofs.Laws.Questions.{block_done}
use Rattle.carv_scheduler.specs.Area.{decode}
use Rattle.carv_scheduler.proofs.calls.block_current.Goals as goal

pub state_at-requires-clause-well_formed : goal.state_at-requires-clause-well_formed
state_at-requires-clause-well_formed c =
    area_formed _ c.requires

pub current-requires : goal.current-requires
current-requires c =
    (area_formed _ c.requires).size

pub set_state-requires-clause-well_formed : goal.set_state-requires-clause-well_formed
set_state-requires-clause-well_formed c =
    area_formed _ c.requires

pub returns : goal.returns
returns c =
    answered _ _ c.requires _ (block_done c.args.kind c.args.number (decode c.args.a.now) (wait_known c.args.kind c.args.number c.from_code.result c.from_code.ensures _ (met c.ok_or.ensures.ok_part c.in_ok-wait.was)) (here_state (decode c.args.a.now).threads _ _ c.current_place-i.ensures running _ c.state_at.ensures ∙ agrees _ _ _ c.ne.ensures (equal_running c.state_at.result) c.if-ne.false) (λ q. c.if-current.false (c.current.ensures ∙ q))) _ refl refl _
    (leaves_as _ _ _ (blocked_current (decode c.args.a.now) _ c.args.kind c.args.number c.current_place-i.ensures _ (wait_named c.args.kind c.args.number c.from_code.result c.from_code.ensures _ (met c.ok_or.ensures.ok_part c.in_ok-wait.was))) c.set_state.ensures) (block_current_kept c.args.kind c.args.number (decode c.args.a.now) (area_sound _ c.requires))
