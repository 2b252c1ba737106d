-- `carv_objects::subtree::Marks::is_next_within` meets its contract. Assumes nothing.
use Rattle.carv_objects.specs.Laws.Calls.{area_sound, area_formed}
use Rattle.carv_objects.specs.Laws.TotalSteps.{row_payer, row_by_payer}
use Rattle.carv_objects.specs.Area.{decode}
use Rattle.carv_objects.proofs.subtree.Marks.is_next_within.Goals as goal

pub id_at-requires-clause-well_formed : goal.id_at-requires-clause-well_formed
id_at-requires-clause-well_formed c =
    area_formed _ c.args.self.now.is_sound

pub payer_at-requires-clause-well_formed : goal.payer_at-requires-clause-well_formed
payer_at-requires-clause-well_formed c =
    area_formed _ c.args.self.now.is_sound

pub is_within-requires : goal.is_within-requires
is_within-requires c =
    row_payer (decode c.args.self.now.area.now) (area_sound _ c.args.self.now.is_sound) c.args.self.now.budget c.args.self.now.known c.requires _ c.payer_at.ensures

pub returns-else-id_at-self : goal.returns-else-id_at-self
returns-else-id_at-self c =
    row_by_payer (decode c.args.self.now.area.now) (area_sound _ c.args.self.now.is_sound) c.args.self.now.budget c.args.self.now.known c.requires _ c.id_at.ensures c.if-id_at-self.false _ c.payer_at.ensures _ c.is_within.ensures
