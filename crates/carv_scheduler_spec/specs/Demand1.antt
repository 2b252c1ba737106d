-- What demand 1 says of refusals: a refused call changes nothing, "save that a carve-out or CPU charge refused after a renewal leaves that renewal". Assumes nothing.
use Rattle.std.specs.Prelude.{ℕ, Option, None}
use Rattle.carv_objects_spec.specs.Demand1 as objects
use Rattle.carv_scheduler_spec.specs.Scheduler as scheduler
use Rattle.carv_scheduler_spec.specs.Scheduler.{Board}
use Rattle.carv_scheduler_spec.specs.Book.{Call, on_objects, create_user_thread, start, block_current, wake, is_blocked_on, kill, tick, plan, read_thread, read_current, read_switches, exit_of}

-- the budget and the time of the renewal that a call refused with this number leaves, or none: no call on threads leaves one
abbrev pub renewal_left : Call → (number : ℕ) → Board → Option (ℕ × ℕ)
renewal_left (on_objects c) n b = objects.renewal_left c n b.registry
renewal_left (create_user_thread i budget stack) n b = None
renewal_left (start i space cspace root context) n b = None
renewal_left (block_current kind number) n b = None
renewal_left (wake i r) n b = None
renewal_left (is_blocked_on i kind number) n b = None
renewal_left (kill i cause) n b = None
renewal_left (tick m) n b = None
renewal_left (plan m) n b = None
renewal_left (read_thread i) n b = None
renewal_left read_current n b = None
renewal_left read_switches n b = None
renewal_left (exit_of i) n b = None

-- the board with that renewal
abbrev pub with_renewal : Option (ℕ × ℕ) → Board → Board
with_renewal o b = scheduler.with_registry (objects.with_renewal o b.registry) b
