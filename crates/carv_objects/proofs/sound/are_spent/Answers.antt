-- `carv_objects::sound::are_spent` meets its contract. Assumes nothing.
use Rattle.std.proofs.Common.{true, ◌∙◌, rules, tests}
use Rattle.std.proofs.lemmas.Iterator.{YieldsList-from_slice}
use Rattle.std.proofs.lemmas.Iterator.Consumers.{fold_from_yields_List}
use Rattle.carv_objects.specs.Laws.SoundTurn.{and_spent, spent_fold}
use Rattle.carv_objects.proofs.sound.are_spent.Goals as goal

pub returns : goal.returns
returns c =
    let fs = c.args.figures.now in
    fold_from_yields_List _ and_spent true c.fold.result c.fold.ensures.ran (YieldsList-from_slice fs cc) (λ a x b q k. search (rules, tests)) ∙ spent_fold true fs
