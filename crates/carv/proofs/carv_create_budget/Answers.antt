-- `carv::carv_create_budget` meets its contract. Assumes nothing.
use borrow.Author.Rules.{rules}
use Rattle.std.proofs.Common.{refl, of_calls}
use Rattle.carv_objects.specs.Answer as told
use Rattle.carv_scheduler.specs.Answer.{in_board}
use Rattle.carv.proofs.Laws.Reporting.{called}
use Rattle.carv.proofs.carv_create_budget.Goals as goal

pub returns : goal.returns
returns c =
    called {tells = in_board told.id_of} (λ x. refl) (λ q. search rules) (λ q. search (rules, of_calls))
