-- `carv::carv_switches` meets its contract. Assumes nothing.
use borrow.Author.Rules.{rules}
use Rattle.std.proofs.Common.{refl, of_calls}
use Rattle.carv_scheduler.specs.Answer.{word_of}
use Rattle.carv.proofs.Laws.Reporting.{called}
use Rattle.carv.proofs.carv_switches.Goals as goal

pub returns : goal.returns
returns c =
    called {tells = word_of} (λ x. refl) (λ q. search rules) (λ q. search (rules, of_calls))
