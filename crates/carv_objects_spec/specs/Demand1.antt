-- What demand 1 says of refusals, for the registry's calls: a refused call changes nothing, "save that a carve-out or CPU charge refused after a renewal leaves that renewal".
-- Assumes nothing.
use Rattle.std.specs.Prelude.{cond, ◌&&◌, ℕ, eqb, leb, Option, Some, None}
use Rattle.carv_budget.specs.Account as account
use Rattle.carv_objects_spec.specs.Registry.{Registry, account_of}
use Rattle.carv_objects_spec.specs.Registry as registry
use Rattle.carv_objects_spec.specs.Book.{Call, create, insert, create_budget, charge_more, uncharge, remove, refill, charge_cpu, pays_for_anything, read_account, charge_of, read_totals}

-- the budget and the time of the renewal that a call refused with this number leaves, or none. A carve-out renews once the parent has covered its own 128 bytes
abbrev pub renewal_left : Call → (number : ℕ) → Registry → Option (ℕ × ℕ)
renewal_left (create kind payer backing) n r = None
renewal_left (insert kind payer bytes) n r = None
renewal_left (create_budget parent cpu memory time) n r = cond (eqb n 12 && leb 128 (account.free (account_of r parent))) (Some (parent, time)) None
renewal_left (charge_more i bytes) n r = None
renewal_left (uncharge i bytes) n r = None
renewal_left (remove i time) n r = None
renewal_left (refill i time) n r = None
renewal_left (charge_cpu i ns time) n r = cond (eqb n 12) (Some (i, time)) None
renewal_left (pays_for_anything i) n r = None
renewal_left (read_account i) n r = None
renewal_left (charge_of i) n r = None
renewal_left (read_totals i) n r = None

-- the registry with that renewal
abbrev pub with_renewal : Option (ℕ × ℕ) → Registry → Registry
with_renewal None r = r
with_renewal (Some w) r = (registry.refill w.0 w.1 r).after
