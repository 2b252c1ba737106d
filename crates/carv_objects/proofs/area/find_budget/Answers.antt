-- `carv_objects::area::find_budget` meets its contract. Assumes nothing.
use Rattle.carv_objects.specs.Laws.AreaSteps.{located_here, budget_told}
use Rattle.carv_objects.specs.Area.{decode}
use Rattle.carv_objects.proofs.area.find_budget.Goals as goal

pub kind_at-requires : goal.kind_at-requires
kind_at-requires c =
    record { well_formed = c.requires; i_in_bounds = (located_here _ _ _ c.find.ensures _ c.in_ok-i.was).within }

pub returns : goal.returns
returns c =
    budget_told (decode c.args.a.now) _ _ (located_here _ _ _ c.find.ensures _ c.in_ok-i.was) _ c.kind_at.ensures _ c.is_budget.ensures _ c.then_some.ensures
