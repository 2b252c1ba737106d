-- What a kill leaves of the threads, which inner contracts of carv_scheduler cite. Nothing here need be believed. Assumes nothing.
use Rattle.std.specs.Prelude.{cond, List, ℕ, eqb}
use Rattle.carv_area.specs.Table.{Row, alter, erase}
use Rattle.carv_scheduler_spec.specs.declared.Thread.{Thread}
use Rattle.carv_scheduler_spec.specs.declared.State.TheVariants.{Dead}
use Rattle.carv_scheduler_spec.specs.Scheduler.{Board, become}

-- the threads after the end of thread i
abbrev pub killed : ℕ → Board → List (Row Thread)
killed i b = cond (eqb i b.current) (alter i (become Dead) b.threads) (erase i b.threads)
