-- `carv::carv_kill` meets its contract. Assumes nothing.
use borrow.Author.Rules.{rules}
use Rattle.std.proofs.Common.{refl, of_calls}
use Rattle.carv_scheduler.specs.Answer.{ended_of}
use Rattle.carv.proofs.Laws.Reporting.{called}
use Rattle.carv.proofs.carv_kill.Goals as goal

pub returns : goal.returns
returns c =
    called {tells = ended_of} (λ x. refl) (λ q. search rules) (λ q. search (rules, of_calls))
