-- `carv_area::table::rank` meets its contract. Assumes nothing.
use Rattle.std.proofs.Common.{arith, sym, ◌∙◌}
use Rattle.carv_area.specs.Laws.Search.{rank_none, rank_first, rank_last, least_window, least_window_some}
use Rattle.carv_area.proofs.table.rank.Goals as goal

pub returns-then-n-eq0 : goal.returns-then-n-eq0
returns-then-n-eq0 c =
    rank_none _ _ (omega arith)

pub returns-then-id-first : goal.returns-then-id-first
returns-then-id-first c =
    rank_first _ _ _ _ _ c.requires.rise (c.requires.count ∙ sym c.get-n.ensures) (omega arith) c.key-first.ensures c.key-last.ensures c.if-id-first.true

pub returns-then-last-id : goal.returns-then-last-id
returns-then-last-id c =
    rank_last _ _ _ _ _ c.requires.rise (c.requires.count ∙ sym c.get-n.ensures) (omega arith) c.key-first.ensures c.key-last.ensures c.if-last-id.true

pub overflow_sub-end : goal.overflow_sub-end
overflow_sub-end c =
    let k = least_window_some _ c.args.id _ _ _ c.requires.rise (c.requires.count ∙ sym c.get-n.ensures) (omega arith) c.key-first.ensures c.key-last.ensures c.if-id-first.false c.if-last-id.false _ _ c.saturating_sub-start.ensures c.min-end.ensures in
    omega arith

pub halve-requires : goal.halve-requires
halve-requires c =
    record { keyed = c.requires; bracket = least_window _ c.args.id _ _ _ c.requires.rise (c.requires.count ∙ sym c.get-n.ensures) (omega arith) c.key-first.ensures c.key-last.ensures c.if-id-first.false c.if-last-id.false _ _ c.saturating_sub-start.ensures c.min-end.ensures }
