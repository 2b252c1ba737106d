-- `carv_objects::subtree::part` meets its contract. Assumes nothing.
use Rattle.carv_objects.specs.Laws.AreaLaws.{sound_laid}
use Rattle.carv_objects.specs.Laws.Calls.{area_sound}
use Rattle.carv_objects.specs.Laws.TotalSteps.{place_sound}
use Rattle.carv_objects.specs.Area.{decode}
use Rattle.carv_objects.proofs.subtree.part.Goals as goal

pub account_at-c-requires-clause-laid_out : goal.account_at-c-requires-clause-laid_out
account_at-c-requires-clause-laid_out c =
    sound_laid _ c.requires.a_value

pub free-requires : goal.free-requires
free-requires c =
    place_sound (decode c.args.a.now) (area_sound _ c.requires.a_value) c.args.i c.requires.i_in_bounds _ c.account_at-c.ensures
