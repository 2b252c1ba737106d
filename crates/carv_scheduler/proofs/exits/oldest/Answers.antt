-- `carv_scheduler::exits::oldest` meets its contract. Assumes nothing.
use Rattle.std.specs.Prelude.{◌≡◌, ◌==◌, option_map, find, Option, slice_index_or, refl}
use Rattle.std.proofs.Common.{rules, tests, arith, ◌∙◌, ap, sym}
use Rattle.std.proofs.lemmas.Iterator.{YieldsList-from_range, YieldsList-from_map}
use Rattle.std.proofs.lemmas.List.FromFn.{fill_by_all}
use Rattle.std.proofs.lemmas.Iterator.Search.{find_from_yields_List}
use Rattle.carv_scheduler_spec.specs.declared.Exit.{Exit}
use Rattle.carv_scheduler_spec.specs.declared.Cause.{Cause}
use Rattle.carv_scheduler.specs.Area.{decode}
use Rattle.carv_scheduler.specs.Laws.Rows.{no_exit}
use Rattle.carv_scheduler.specs.Laws.ExitSteps.{exit_sought}
use Rattle.carv_scheduler.proofs.exits.oldest.Goals as goal

pub returns : goal.returns
returns c =
    let l = (decode c.args.a.now).exits in
    let x = c.args.id in
    let n = c.exit_count.result in
    let found = find_from_yields_List (λ (e : Exit Cause). e.thread == x) _ _ c.find.result c.find.ensures.ran
    (YieldsList-from_map _ (λ i. slice_index_or l i no_exit) {f = c.map.result.f} (YieldsList-from_range 0 n n (search rules) (omega arith)) refl (λ i e q k. search (rules, tests)))
    (λ e b q k. search (rules, tests)) in
    let told : c.map-2.result ≡ option_map (λ (e : Exit Cause). e.cause) (option_map (λ e. e) c.find.result) = search (rules, tests) in
    told ∙ ap (λ (o : Option (Exit Cause)). option_map (λ (e : Exit Cause). e.cause) o) (found ∙ ap (find (λ (e : Exit Cause). e.thread == x)) (sym (fill_by_all (λ i. slice_index_or l i no_exit) l n no_exit (sym c.exit_count.ensures) (λ k h. refl)))) ∙ exit_sought x l
