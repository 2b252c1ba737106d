-- A lent run of exits: what document 01's search finds in it is what the Rust's `exit_of` answers where its log is that run. Assumes nothing.
use Rattle.std.specs.Prelude.{◌≡◌, List, ℕ, option_map}
use Rattle.carv_scheduler_spec.specs.declared.Exit.{Exit}
use Rattle.carv_scheduler_spec.specs.declared.Cause.{Cause}
use Rattle.carv_scheduler_spec.specs.Scheduler.{Board, exit_in}
use Rattle.carv_scheduler_spec.specs.Rust as rust
use Rattle.carv_scheduler_spec.proofs.Laws.Refines.{exit_same}

-- demand 2 for searches of lent exits, `exit_in` of carv_scheduler, whatever the type of their causes, codes that are not listed too: the Rust's search of that log
pub lent_exits_rust : {C : Type 0} (i : ℕ) (exits log : List (Exit C)) → log ≡ exits → exit_in i exits ≡ option_map (λ (e : Exit C). e.cause) (rust.find_exit i log)
lent_exits_rust i exits log e = rw (← e) (exit_same i log)

-- and of causes its `exit_of`
pub exit_in_rust : (i : ℕ) (exits : List (Exit Cause)) (b : Board) → b.exits ≡ exits → exit_in i exits ≡ rust.exit_of i b
exit_in_rust i exits b e = lent_exits_rust i exits b.exits e
