-- `carv_objects::subtree::Marks::is_within` meets its contract. Assumes nothing.
use mathlib.Core.Path.{sym, ◌∙◌}
use native.Mathlib.Omega.{arith}
use Rattle.carv_objects.specs.Area.{decode}
use Rattle.carv_objects.specs.Laws.Calls.{area_sound, area_formed}
use Rattle.carv_objects.specs.Laws.TotalSteps.{root_not_within, not_first, place_up}
use Rattle.carv_objects.proofs.subtree.Marks.+is_within.Goals as goal

pub returns-then-id-eq-ROOT : goal.returns-then-id-eq-ROOT
returns-then-id-eq-ROOT t c =
    root_not_within (decode c.args.self.now.area.now) (area_sound _ c.args.self.now.is_sound) _ _ c.if-id-self.false c.if-id-eq-ROOT.true

pub place-i-requires-clause-well_formed : goal.place-i-requires-clause-well_formed
place-i-requires-clause-well_formed t c = area_formed _ c.args.self.now.is_sound

pub payer_at-payer-requires-clause-well_formed : goal.payer_at-payer-requires-clause-well_formed
payer_at-payer-requires-clause-well_formed t c = area_formed _ c.args.self.now.is_sound

pub overflow_sub-i : goal.overflow_sub-i
overflow_sub-i t c = not_first (decode c.args.self.now.area.now) (area_sound _ c.args.self.now.is_sound) _ _ c.place-i.ensures c.if-id-eq-ROOT.false

pub is_within-requires : goal.is_within-requires
is_within-requires t c =
    let U = place_up (decode c.args.self.now.area.now) (area_sound _ c.args.self.now.is_sound) c.args.id _ _ c.requires c.if-id-eq-ROOT.false c.place-i.ensures c.payer_at-payer.ensures in
    (omega (arith, U.low), U.there)

pub returns : goal.returns
returns t c =
    let U = place_up (decode c.args.self.now.area.now) (area_sound _ c.args.self.now.is_sound) c.args.id _ _ c.requires c.if-id-eq-ROOT.false c.place-i.ensures c.payer_at-payer.ensures in
    c.is_within.ensures ∙ sym (U.same c.args.self.now.budget c.if-id-self.false)
