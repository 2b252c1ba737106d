-- `carv_scheduler::sound::threads_fit` meets its contract. Assumes nothing.
use Rattle.std.proofs.Common.{ℕ, false, refl, get_or, rules, tests, arith}
use Rattle.std.proofs.lemmas.Iterator.{YieldsList-from_range, cases_from_all}
use Rattle.carv_area.specs.Words.{words}
use Rattle.carv_scheduler.specs.Laws.SoundWalk.{Fits}
use Rattle.carv_scheduler.specs.Laws.SoundRows.{all_tells, tells_so, tells_not}
use Rattle.carv_scheduler.proofs.sound.threads_fit.Goals as goal

pub returns : goal.returns
returns c =
    let C : ℕ → Type 0 = λ k. Fits (words c.args.t.now) c.args.current k (get_or c.args.marks.now k false) in
    all_tells C c.args.n c.all.result (cases_from_all _ _ _ C (λ k. C k → ⊥) c.all.ensures.ran (YieldsList-from_range 0 c.args.n c.args.n refl (omega arith)) (λ x q k. search (rules, tests, tells_so)) (λ x q k. search (rules, tests, tells_not)))
