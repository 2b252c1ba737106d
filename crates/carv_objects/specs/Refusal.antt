-- Document 01's number of each refusal. Assumes nothing.
use Rattle.std.specs.Prelude.{ℕ}
use Rattle.carv_objects_spec.specs.Refused as refused
use Rattle.carv_objects.specs.declared.refusal.Refusal.{Refusal}
use Rattle.carv_objects.specs.declared.refusal.Refusal.TheVariants.{Unsound, Share, Tick, Code, Id, Full, Missing, State, Root, Pays, Charge, Limit, Kind, Backing}

abbrev pub refusal_number : Refusal → ℕ
refusal_number Unsound = refused.unsound
refusal_number Share = refused.share
refusal_number Tick = refused.tick
refusal_number Code = refused.code
refusal_number Id = refused.id
refusal_number Full = refused.full
refusal_number Missing = refused.missing
refusal_number State = refused.state
refusal_number Root = refused.root
refusal_number Pays = refused.pays
refusal_number Charge = refused.charge
refusal_number Limit = refused.limit
refusal_number Kind = refused.kind
refusal_number Backing = refused.backing
