-- `carv::carv_read_thread` meets its contract. Assumes nothing.
use borrow.Author.Rules.{rules}
use Rattle.std.proofs.Common.{refl, of_calls}
use Rattle.carv_scheduler.specs.Answer.{thread_of}
use Rattle.carv.proofs.Laws.Reporting.{called}
use Rattle.carv.proofs.carv_read_thread.Goals as goal

pub returns : goal.returns
returns c =
    called {tells = thread_of} (λ x. refl) (λ q. search rules) (λ q. search (rules, of_calls))
