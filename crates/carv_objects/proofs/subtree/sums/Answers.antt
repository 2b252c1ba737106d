-- `carv_objects::subtree::sums` meets its contract. The loop's invariant: the places before i are marked, and the sums are those of their objects within b. Assumes nothing.
use mathlib.Core.Path.{◌∙◌}
use native.Mathlib.Omega.{arith}
use lib.ListN.{length-set}
use Rattle.carv_objects.specs.Area.{decode}
use Rattle.carv_objects.specs.Laws.Calls.{area_sound, area_formed}
use Rattle.carv_objects.specs.Laws.TotalSteps.{passes, ends, used_fits, free_fits, left_fits}
use Rattle.carv_objects.proofs.subtree.sums.Goals as goal

pub count-i-end-requires : goal.count-i-end-requires
count-i-end-requires c =
    area_formed _ c.requires.a_value

pub payer_at-requires-clause-well_formed : goal.payer_at-requires-clause-well_formed
payer_at-requires-clause-well_formed c =
    area_formed _ c.requires.a_value

pub bounds-marks-i : goal.bounds-marks-i
bounds-marks-i c =
    omega (arith, c.loop-i.invariant.0, c.loop-i-test.true, (area_sound _ c.requires.a_value).few)

pub id_at-requires-clause-well_formed : goal.id_at-requires-clause-well_formed
id_at-requires-clause-well_formed c =
    area_formed _ c.requires.a_value

pub overflow_cast-places : goal.overflow_cast-places
overflow_cast-places c =
    record { fits = omega (arith, c.loop-i.invariant.0, c.loop-i-test.true, (area_sound _ c.requires.a_value).few) }

pub overflow_add-sums : goal.overflow_add-sums
overflow_add-sums c =
    record { fits = used_fits c.args.a.now c.requires.a_value c.args.b c.args.j c.requires.here c.requires.b_value (λ k. omega (arith, c.shared_slice_known-1.given k)) _ _ _ _ _ (passes (decode c.args.a.now) c.args.b c.loop-i.i (omega (arith, c.loop-i.invariant.0, c.loop-i-test.true)) c.loop-i.marks c.loop-i.invariant.1 (omega (arith, c.loop-i.invariant.0, c.loop-i-test.true, (area_sound _ c.requires.a_value).few)) _ c.is_next_within-inside.ensures _ c.part-p.ensures _ _ _ c.loop-i.invariant.2) }

pub overflow_add-sums-in-loop-i : goal.overflow_add-sums-in-loop-i
overflow_add-sums-in-loop-i c =
    record { fits = free_fits c.args.a.now c.requires.a_value c.args.b c.args.j c.requires.here c.requires.b_value (λ k. omega (arith, c.shared_slice_known-1.given k)) _ _ _ _ _ (passes (decode c.args.a.now) c.args.b c.loop-i.i (omega (arith, c.loop-i.invariant.0, c.loop-i-test.true)) c.loop-i.marks c.loop-i.invariant.1 (omega (arith, c.loop-i.invariant.0, c.loop-i-test.true, (area_sound _ c.requires.a_value).few)) _ c.is_next_within-inside.ensures _ c.part-p.ensures _ _ _ c.loop-i.invariant.2) }

pub overflow_add-sums-in-loop-i-2 : goal.overflow_add-sums-in-loop-i-2
overflow_add-sums-in-loop-i-2 c =
    record { fits = left_fits c.args.a.now c.requires.a_value c.args.b c.args.j c.requires.here c.requires.b_value (λ k. omega (arith, c.shared_slice_known-1.given k)) _ _ _ _ _ (passes (decode c.args.a.now) c.args.b c.loop-i.i (omega (arith, c.loop-i.invariant.0, c.loop-i-test.true)) c.loop-i.marks c.loop-i.invariant.1 (omega (arith, c.loop-i.invariant.0, c.loop-i-test.true, (area_sound _ c.requires.a_value).few)) _ c.is_next_within-inside.ensures _ c.part-p.ensures _ _ _ c.loop-i.invariant.2) }

pub loop-i-preserved : goal.loop-i-preserved
loop-i-preserved c =
    (c.loop-i.invariant.0, length-set c.loop-i.marks c.loop-i.i c.is_next_within-inside.result ∙ c.loop-i.invariant.1, passes (decode c.args.a.now) c.args.b c.loop-i.i (omega (arith, c.loop-i.invariant.0, c.loop-i-test.true)) c.loop-i.marks c.loop-i.invariant.1 (omega (arith, c.loop-i.invariant.0, c.loop-i-test.true, (area_sound _ c.requires.a_value).few)) _ c.is_next_within-inside.ensures _ c.part-p.ensures _ _ _ c.loop-i.invariant.2)

pub returns : goal.returns
returns c =
    ends (decode c.args.a.now) (area_sound _ c.requires.a_value) c.args.b _ _ _ _ _ c.loop-i.invariant.2 (omega (arith, c.loop-i.invariant.0, c.loop-i-test.false))
