-- `carv_objects::calls::refill` meets its contract. Assumes nothing.
use Rattle.carv_objects.proofs.Rules.{met}
use Rattle.std.specs.Prelude.{◌≡◌, ℕ, true, false, Some, Ok}
use Rattle.std.specs.Result.{result_unwrap_or}
use Rattle.carv_budget.specs.declared.Account.{Account}
use Rattle.carv_budget.specs.declared.Outcome.{Outcome}
use Rattle.carv_budget.specs.Account.{sound, due, renew, refill, outcome}
use mathlib.Core.Path.{refl, ap, ◌∙◌}
use mathlib.Core.Bool.{Bool}
use Rattle.carv_objects.specs.Laws.Formed.{leaves_as}
use Rattle.carv_objects_spec.specs.Reply.{renewed}
use Rattle.carv_objects.specs.Laws.AreaSteps.{budget_here}
use Rattle.carv_objects.specs.Laws.AreaLaws.{sound_laid}
use Rattle.carv_objects.specs.Laws.Calls.{area_sound, area_formed, account_at_sound, answered, renewed_by, due_here, kept_at}
use Rattle.carv_objects_spec.proofs.Laws.Questions.{refill_done}
use Rattle.carv_objects_spec.proofs.Laws.Kept.{refill_kept}
use Rattle.carv_objects.specs.Area.{decode}
use Rattle.carv_objects.proofs.calls.refill.Goals as goal

pub find_budget-requires : goal.find_budget-requires
find_budget-requires c =
    area_formed _ c.requires

pub account_at-account-requires : goal.account_at-account-requires
account_at-account-requires c =
    record { laid_out = sound_laid _ c.requires; i_in_bounds = (budget_here (decode c.args.a.now) _ _ c.find_budget.ensures _ (met c.ok_or.ensures.ok_part c.in_ok-i.was)).0.within }

pub set_account-requires : goal.set_account-requires
set_account-requires c =
    record { well_formed = area_formed _ c.requires; here = (budget_here (decode c.args.a.now) _ _ c.find_budget.ensures _ (met c.ok_or.ensures.ok_part c.in_ok-i.was)).0 }

-- a sound account's renewal is never refused
refilled : (a : Account) (time : ℕ) → sound a ≡ true → refill a time ≡ outcome (Ok (due a time)) (renew a time)
refilled a time h = rw h

pub returns : goal.returns
returns c =
    (let (h, b) = budget_here (decode c.args.a.now) _ _ c.find_budget.ensures _ (met c.ok_or.ensures.ok_part c.in_ok-i.was) in
    let z = refill_done c.args.id c.args.time (decode c.args.a.now) b in
    let s = account_at_sound _ c.requires _ _ h _ c.account_at-account.ensures in
    let o = c.refill-done.ensures ∙ refilled _ _ s in
    let d = c.unwrap_or.ensures ∙ ap (λ (w : Outcome Bool). result_unwrap_or w.answer false) o in
    answered _ _ c.requires _ z _ refl (ap (λ (x : Bool). Some (renewed x)) (d ∙ due_here (decode c.args.a.now) _ _ h _ c.account_at-account.ensures 0 _)) _
    (leaves_as _ _ _ (renewed_by (decode c.args.a.now) _ _ h _ c.account_at-account.ensures 0 _ _ (ap (λ (w : Outcome Bool). w.account) o)) c.set_account.ensures)
    (kept_at _ _ (refill_kept c.args.id c.args.time (decode c.args.a.now) (area_sound _ c.requires)) z))
