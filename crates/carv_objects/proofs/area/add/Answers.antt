-- `carv_objects::area::add` meets its contract. Assumes nothing.
use Rattle.carv_objects.specs.Laws.AreaSteps.{next_set, room_place, add_raised, add_place, add_rising}
use Rattle.carv_objects.specs.Area.{decode}
use Rattle.carv_objects.proofs.area.add.Goals as goal

pub append-requires : goal.append-requires
append-requires c =
    let l = next_set c.args.a.now _ c.requires.well_formed c.set_next.auto.a _ c.set_next.ensures (add_raised (decode c.args.a.now) _ c.next_id-id.ensures c.args.e c.requires.well_formed.rising) in
    record { well_formed = l.formed; a_len_bound = (add_place (decode c.args.a.now) _ c.next_id-id.ensures c.args.e _ l.is (room_place (decode c.args.a.now) c.requires.a_value), add_rising (decode c.args.a.now) _ c.next_id-id.ensures c.args.e _ l.is c.requires.well_formed.rising) }
