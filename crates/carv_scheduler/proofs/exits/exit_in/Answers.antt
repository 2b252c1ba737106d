use Rattle.std.specs.Prelude.{◌≡◌, ◌==◌, option_map, Option}
use Rattle.std.proofs.Common.{rules, tests, ◌∙◌, ap}
use Rattle.std.proofs.lemmas.Iterator.{YieldsList-from_slice}
use Rattle.std.proofs.lemmas.Iterator.Search.{find_from_yields_List}
use Rattle.carv_scheduler_spec.specs.declared.Exit.{Exit}
use Rattle.carv_scheduler.specs.Laws.ExitSteps.{exit_sought}
use Rattle.carv_scheduler.proofs.exits.exit_in.Goals as goal

pub returns : goal.returns
returns g c =
    let found = find_from_yields_List (λ (e : Exit g.row.C.Denot). e.thread == c.args.thread) _ _ c.find.result c.find.ensures.ran (YieldsList-from_slice c.args.exits.now cc)
    (λ x b q k. search (rules, tests)) in
    let told : c.map.result ≡ option_map (λ (e : Exit g.row.C.Denot). e.cause) (option_map (λ y. y.now) c.find.result) = search (rules, tests) in
    told ∙ ap (λ (o : Option (Exit g.row.C.Denot)). option_map (λ (e : Exit g.row.C.Denot). e.cause) o) found ∙ exit_sought c.args.thread c.args.exits.now
