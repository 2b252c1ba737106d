-- `carv_area::table::find` meets its contract. Assumes nothing.
use Rattle.std.proofs.Common.{arith, ◌∙◌, sym, le-ltb}
use Rattle.carv_area.specs.Laws.Search.{absent, found}
use Rattle.carv_area.proofs.table.find.Goals.{then-i-get, else-i-get}
use Rattle.carv_area.proofs.table.find.Goals as goal

pub returns : goal.returns
returns c =
    let rise = c.requires.rise in
    elim c.if-i-get.branch [
      | then-i-get w ↦ c.then_some.ensures ∙ rw (w.then_some-is, w.key.ensures) (found _ _ _ rise c.rank-i.ensures (omega arith))
      | else-i-get w ↦ c.then_some.ensures ∙ rw (w.then_some-is, le-ltb _ _ w.if-i-get.false) (sym (absent _ _ _ rise c.rank-i.ensures (λ h e. absurd (omega arith))))
    ]
