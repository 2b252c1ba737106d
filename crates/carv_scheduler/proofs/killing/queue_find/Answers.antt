-- `carv_scheduler::killing::queue_find` meets its contract. Assumes nothing.
use Rattle.std.proofs.Common.{◌≡◌, get_or, rules, tests}
use Rattle.std.proofs.lemmas.Iterator.{first_from_Range}
use Rattle.carv_scheduler.specs.Area.{decode}
use Rattle.carv_scheduler.specs.Laws.KillSteps.{found_first}
use Rattle.carv_scheduler.proofs.killing.queue_find.Goals as goal

pub returns : goal.returns
returns c =
    let q = (decode c.args.a.now).queue in
    let x = c.args.id in
    found_first q x _ c.queue_length.ensures c.find.result
    (first_from_Range _ _ _ c.find.result (λ i. get_or q i 0 ≡ x) (λ i. get_or q i 0 ≡ x → ⊥) c.find.ensures.ran (λ i f k. search (rules, tests)) (λ i f k. search (rules, tests)))
