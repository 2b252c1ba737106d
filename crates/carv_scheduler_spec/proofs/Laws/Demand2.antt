-- Demand 2 on the definitions: for every list of calls on a board from an opening, with no refusal that document 01 marks as added, each answer that the Rust has and the whole
-- board after each call are the Rust's. Assumes nothing.
use Rattle.std.specs.Prelude.{◌≡◌, refl, Bool, true, false, cond, List, [], ◌∷◌, ℕ, ◌≤◌}
use Rattle.std.proofs.Common.{sym, ap, ◌∙◌}
use Rattle.carv_budget.specs.Account.{period}
use Rattle.carv_objects_spec.specs.Reply.{without_answer}
use Rattle.carv_objects_spec.specs.Registry.{RegistryReply}
use Rattle.carv_objects_spec.specs.Book as objects_book
use Rattle.carv_objects_spec.specs.Demand2 as objects_demand2
use Rattle.carv_objects_spec.proofs.Laws.Demand2 as objects
use Rattle.carv_scheduler_spec.specs.Scheduler as scheduler
use Rattle.carv_scheduler_spec.specs.Scheduler.{Board, BoardReply}
use Rattle.carv_scheduler_spec.specs.Rust as rust
use Rattle.carv_scheduler_spec.specs.Demand2.{rust_run, in_rust, compared, is_added, compared_replies, rust_replies, NoneAdded}
use Rattle.carv_scheduler_spec.proofs.Laws.SoundFacts.{Sound}
use Rattle.carv_scheduler_spec.proofs.Laws.Kept.{opening_sound}
use Rattle.carv_scheduler_spec.specs.Book.{Call, on_objects, create_user_thread, start, block_current, wake, is_blocked_on, kill, tick, plan, read_thread, read_current, read_switches, exit_of}
use Rattle.carv_scheduler_spec.proofs.Laws.Refines as refines
use Rattle.carv_scheduler_spec.specs.Runs.{run, AllFit}
use Rattle.carv_scheduler_spec.proofs.Laws.History.{kept}

-- what is compared of a registry's reply, made on the board
compared_objects : (c : objects_book.Call) (z : RegistryReply) (b : Board) → compared (on_objects c) (scheduler.on_registry z b) ≡ scheduler.on_registry (objects_demand2.compared c z) b
compared_objects c z b = picked (objects_demand2.in_rust c)
  where
    picked : (t : Bool) → cond t (scheduler.on_registry z b) (without_answer (scheduler.on_registry z b)) ≡ scheduler.on_registry (cond t z (without_answer z)) b
    picked true = refl
    picked false = refl

-- one call
pub run_rust : (c : Call) (b : Board) → Sound b → is_added c (run c b).number ≡ false → compared c (run c b) ≡ rust_run c b
run_rust (on_objects c) b s h = compared_objects c _ b ∙ refines.on_registry_rust _ _ b (objects.run_rust c b.registry s.registry h)
run_rust (create_user_thread i budget stack) b s h = refines.create_user_thread_rust i budget stack b h
run_rust (start i space cspace root context) b s h = refines.start_rust i space cspace root context b
run_rust (block_current kind number) b s h = refines.block_current_rust kind number b h
run_rust (wake i r) b s h = refines.wake_rust i r b
run_rust (is_blocked_on i kind number) b s h = refines.is_blocked_on_rust i kind number b h
run_rust (kill i cause) b s h = refines.kill_rust i cause b h
run_rust (tick n) b s h = refines.tick_rust n b h
run_rust (plan n) b s h = refines.plan_rust n b h
run_rust (read_thread i) b s h = refines.read_thread_rust i b
run_rust read_current b s h = refl
run_rust read_switches b s h = refl
run_rust (exit_of i) b s h = refines.exit_of_rust i b

-- what is compared has the board that the call leaves
pub compared_after : (c : Call) (z : BoardReply) → (compared c z).after ≡ z.after
compared_after c z = picked (in_rust c)
  where
    picked : (t : Bool) → (cond t z (without_answer z)).after ≡ z.after
    picked true = refl
    picked false = refl

-- the Rust's board goes on as the port's
pub after_rust : (c : Call) (b : Board) → Sound b → is_added c (run c b).number ≡ false → (run c b).after ≡ (rust_run c b).after
after_rust c b s h = sym (compared_after c (run c b)) ∙ ap (λ (x : BoardReply). x.after) (run_rust c b s h)

pub replies_rust : (cs : List Call) (b : Board) → AllFit cs → Sound b → NoneAdded cs b → compared_replies cs b ≡ rust_replies cs b
replies_rust [] b fits s h = refl
replies_rust (c ∷ cs) b fits s h =
    ap (λ (l : List BoardReply). compared c (run c b) ∷ l) (replies_rust cs (run c b).after fits.1 (kept c b fits.0 s) h.1)
    ∙ ap (λ (x : Board). compared c (run c b) ∷ rust_replies cs x) (after_rust c b s h.0)
    ∙ ap (λ (x : BoardReply). x ∷ rust_replies cs (rust_run c b).after) (run_rust c b s h.0)

-- Demand 2 on the definitions.
pub demand2 : (cpu memory : ℕ) → cpu ≤ period → (cs : List Call) → AllFit cs → NoneAdded cs (scheduler.opening cpu memory)
    → compared_replies cs (scheduler.opening cpu memory) ≡ rust_replies cs (rust.new cpu memory)
demand2 cpu memory h cs fits n =
    replies_rust cs (scheduler.opening cpu memory) fits (opening_sound cpu memory h) n
    ∙ ap (rust_replies cs) (refines.opening_rust cpu memory h)
