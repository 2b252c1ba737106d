-- `replay_board::record::is_recorded` meets its contract. Assumes nothing.
use Rattle.std.proofs.Common.{◌≡◌, refl, get_or, rules, tests}
use Rattle.std.proofs.lemmas.Iterator.{YieldsList-from_range, cases_from_all}
use Rattle.replay_board.specs.Record.{recorded_word}
use Rattle.replay_board.specs.Laws.{words_tell}
use Rattle.replay_board.proofs.record.is_recorded.Goals as goal

pub returns-then-number-get : goal.returns-then-number-get
returns-then-number-get c =
    let out = c.args.out.now in
    let bytes = c.args.bytes.now in
    words_tell bytes 0 out _ _ c.get.ensures c.if-number-get.true c.told-out c.all.result
    (cases_from_all _ _ _ (λ i. get_or out i 0 ≡ recorded_word bytes 0 i) (λ i. get_or out i 0 ≡ recorded_word bytes 0 i → ⊥) c.all.ensures.ran (YieldsList-from_range 0 20 20 refl refl) (λ x q k. search (rules, tests)) (λ x q k. search (rules, tests)))
