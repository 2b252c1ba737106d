-- `carv_area::put` meets its contract. Assumes nothing.
use Rattle.carv_area.specs.Laws.Words.{stores, put_of}
use Rattle.carv_area.proofs.put.Goals as goal

pub returns : goal.returns
unfolding stores
returns c =
    put_of _ _ c.args.k _ c.requires c.ranges.v.fits c.to_le_bytes-bytes.ensures
