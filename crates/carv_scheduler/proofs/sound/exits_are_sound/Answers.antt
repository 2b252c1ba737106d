-- `carv_scheduler::sound::exits_are_sound` meets its contract. Assumes nothing.
use Rattle.std.proofs.Common.{refl, sym, ◌∙◌, true≢false, rules, tests, arith}
use Rattle.std.proofs.lemmas.Bool.{lt-leb}
use Rattle.std.proofs.lemmas.Iterator.{YieldsList-from_range}
use Rattle.std.proofs.lemmas.Iterator.Search.{all_from_yields_List}
use Rattle.carv_area.specs.Words.{words}
use Rattle.carv_scheduler.specs.Area.{cause_listed_at}
use Rattle.carv_scheduler.specs.Laws.SoundLog.{exits_tell}
use Rattle.carv_scheduler.proofs.sound.exits_are_sound.Goals.{then-n-le-PLACES, else-n-le-PLACES}
use Rattle.carv_scheduler.proofs.sound.exits_are_sound.Goals as goal

pub returns-then-zero_from : goal.returns-then-zero_from
returns-then-zero_from c =
    let u = words c.args.x.now in
    let all = all_from_yields_List (cause_listed_at u) _ _ c.all.result c.all.ensures.ran (YieldsList-from_range 0 c.get-n.result c.get-n.result refl (omega arith)) (λ x b q k. search (rules, tests)) in
    elim c.if-n-le-PLACES.branch [
      | then-n-le-PLACES w ↦ exits_tell u _ c.get-n.ensures w.if-n-le-PLACES.true (sym w.zero_from.ensures ∙ sym w.value-is ∙ c.if-zero_from.true) _ all
      | else-n-le-PLACES w ↦ absurd (true≢false (sym c.if-zero_from.true ∙ w.value-is ∙ lt-leb _ _ w.if-n-le-PLACES.false))
    ]
