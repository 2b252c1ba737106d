-- `carv_objects::calls::pays` meets its contract. Assumes nothing.
use Rattle.std.proofs.Common.{◌≡◌, refl, ◌∙◌, rules, tests, ℕ, ◌+◌, not, ◌&&◌, eqb, List, length, get_or, drop}
use native.Mathlib.Omega.{arith}
use Prim.Native.Nat.{zero, suc}
use Rattle.std.proofs.Math.Seq.{drop-cons}
use Rattle.std.proofs.Common.{add-one}
use Rattle.std.proofs.lemmas.List.{drop_all}
use Rattle.std.specs.List.{list_any, range_with_len}
use Rattle.std.proofs.lemmas.Iterator.{YieldsList-from_range}
use Rattle.std.proofs.lemmas.Iterator.Search.{any_from_yields_List}
use Rattle.carv_area.specs.Table.{Row}
use Rattle.carv_objects_spec.specs.declared.Entry.{Entry}
use Rattle.carv_objects_spec.specs.Registry.{pays_in}
use Rattle.carv_objects.specs.Area.{decode}
use Rattle.carv_objects.specs.Laws.Rows.{no_row}
use Rattle.carv_objects.proofs.calls.pays.Goals as goal

-- the rows from place a on, asked by their places
paid_from : (rows : List (Row Entry)) (x a n : ℕ) → a + n ≡ length rows
    → list_any (λ i. not (eqb (get_or rows i no_row).id x) && eqb (get_or rows i no_row).it.payer x) (range_with_len a n) ≡ pays_in (drop a rows) x
paid_from rows x a zero e = rw (drop_all a rows (omega arith)) refl
paid_from rows x a (suc n) e = rw (drop-cons rows a no_row (omega arith), add-one, paid_from rows x (suc a) n (omega arith)) refl

pub returns : goal.returns
returns c =
    any_from_yields_List _ _ _ c.any.result c.any.ensures.ran (YieldsList-from_range 0 c.count.result c.count.result refl (omega arith)) (λ x b q k. search (rules, tests))
    ∙ paid_from (decode c.args.a.now).rows c.args.id 0 c.count.result (omega (arith, c.count.ensures))
