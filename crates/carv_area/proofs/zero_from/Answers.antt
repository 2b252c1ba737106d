-- `carv_area::zero_from` meets its contract. Assumes nothing.
use Rattle.std.specs.Prelude.{◌≡◌, length, drop, map, min, eqb}
use Rattle.std.specs.Int.{w64, from_le_bytes}
use Rattle.std.proofs.Common.{ap, arith, sym, rules, tests, ◌∙◌}
use Rattle.std.proofs.lemmas.List.{drop-map, drop_min}
use Rattle.std.proofs.lemmas.Iterator.{YieldsList-from_slice}
use Rattle.std.proofs.lemmas.Iterator.Consumers.{fold_from_yields_List}
use Rattle.std.proofs.Common.{take_all, length-drop}
use Rattle.carv_area.specs.Words.{words}
use Rattle.carv_area.specs.Zero.{all_zero}
use Rattle.carv_area.specs.Laws.Words.{words_chunks}
use Rattle.carv_area.specs.Laws.Zero.{joined, zero_fold}
use Rattle.carv_area.proofs.zero_from.Goals as goal

pub returns : goal.returns
returns c =
    let chunks = c.as_chunks.result.0.now in
    let all : words c.args.t.now ≡ map (from_le_bytes w64) chunks = words_chunks c.args.t.now ∙ ap (map (from_le_bytes w64)) (sym c.as_chunks.ensures.front) in
    let behind = drop (min c.args.k (length chunks)) chunks in
    let run = fold_from_yields_List _ joined 0 c.fold.result c.fold.ensures.ran (YieldsList-from_slice behind (c.iter.ensures.rest ∙ rw c.min.ensures (take_all _ behind (omega (arith, length-drop (min c.args.k (length chunks)) chunks))))) (λ a x b q k. search (rules, tests)) in
    ap (λ n. eqb n 0) run ∙ zero_fold 0 behind ∙ ap all_zero (ap (map (from_le_bytes w64)) (drop_min c.args.k chunks) ∙ sym (ap (drop c.args.k) all ∙ drop-map (from_le_bytes w64) c.args.k chunks))
