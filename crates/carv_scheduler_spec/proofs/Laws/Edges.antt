-- Document 01's "On the record edges" on the whole board: one list, `Edges`, a field for each sentence in 01's order, which the definitions satisfy together. All
-- that are marked (m) come first, then the two that are not, then cases of plannings and kills that 01's list does not reach. Assumes nothing.
use Rattle.std.specs.Prelude.{◌≡◌, refl, true, false, List, [], ◌∷◌, ℕ, zero, suc, ◌+◌, length, Option, Some, None}
use Rattle.carv_budget.specs.declared.Account.{Account}
use Rattle.carv_budget.specs.Account.{due, renew}
use Rattle.carv_objects_spec.specs.Reply.{refuse, accept, id, renewed, charge}
use Rattle.carv_objects_spec.specs.Registry.{account_of, create, create_budget, uncharge, remove, refill, charge_cpu, charge_of}
use Rattle.carv_scheduler_spec.specs.declared.State.TheVariants.{Running}
use Rattle.carv_scheduler_spec.specs.declared.Cause.TheVariants.{Destroyed, Faulted}
use Rattle.carv_scheduler_spec.specs.Scheduler.{Board, Value, BoardReply, of_registry, no_switch, switch, ended, word, exit_cause, idle, fresh_context, thread, opening, create_user_thread, start, kill, tick, plan, read_thread, read_current, read_switches, exit_of, by_registry}

-- What a case says of a call.

-- accepted, with this value or none
abbrev pub Accepted : Option Value → BoardReply → Type 0
Accepted v x = (x.number ≡ 0) × (x.value ≡ v)

-- accepted, and the board stays as it was
abbrev pub Unmoved : Option Value → Board → BoardReply → Type 0
Unmoved v before x = x ≡ accept v before

-- refused with this number, and the board stays as it was
abbrev pub Refused : ℕ → Board → BoardReply → Type 0
Refused n before x = x ≡ refuse n before

-- a new object's id
abbrev pub new : ℕ → Option Value
new i = Some (of_registry (id i))

-- the account of the root, and that of another budget
abbrev pub root : Board → Account
root b = account_of b.registry 1

abbrev pub account : Board → ℕ → Account
account b i = account_of b.registry i

-- The calls of the cases. Kinds: 3 Frame, 4 Endpoint.

-- "Opening: CPU 10,000,000, memory 1,000,000, if not said."
abbrev pub board : Board
board = opening 10_000_000 1_000_000

abbrev pub frame : BoardReply
frame = by_registry (create 3 1 true) board

abbrev pub carve : BoardReply
carve = by_registry (create_budget 1 4_000_000 8_192 0) frame.after

-- the carving of 6,000,000 that is accepted
abbrev pub second_carve : BoardReply
second_carve = by_registry (create_budget 1 6_000_000 0 0) carve.after

-- budget 3's Frames
abbrev pub first_frame : BoardReply
first_frame = by_registry (create 3 3 true) second_carve.after

abbrev pub second_frame : BoardReply
second_frame = by_registry (create 3 3 true) first_frame.after

-- these Frames removed
abbrev pub first_gone : BoardReply
first_gone = by_registry (remove 5 0) second_frame.after

abbrev pub both_gone : BoardReply
both_gone = by_registry (remove 6 0) first_gone.after

-- an opening with this memory and 9,700,000 ns charged: 300,000 are left, so a renewal shows
abbrev pub low : (memory : ℕ) → Board
low memory = (by_registry (charge_cpu 1 9_700_000 0) (opening 10_000_000 memory)).after

-- thread 7, on the root budget, is started with space 20, cspace 30 and root 40
abbrev pub with_started_7 : Board → Board
with_started_7 b = (start 7 20 30 40 fresh_context (create_user_thread 7 1 true b).after).after

-- thread 7 runs, and thread 0 is gone
abbrev pub with_7 : Board
with_7 = (plan 0 (kill 0 1 (with_started_7 board)).after).after

abbrev pub low_7 : Board
low_7 = (by_registry (charge_cpu 1 9_700_000 0) with_7).after

-- thread 0 planned, killed, planned again
abbrev pub killed_0 : BoardReply
killed_0 = kill 0 1 (plan 0 board).after

abbrev pub left_0 : BoardReply
left_0 = plan 0 killed_0.after

-- thread 7 planned beside thread 0, and while idle runs
abbrev pub to_7 : BoardReply
to_7 = plan 0 (with_started_7 board)

abbrev pub from_idle : BoardReply
from_idle = plan 0 (with_started_7 left_0.after)

-- "Tick 18,446,744,073,709"
abbrev pub last_tick : ℕ
last_tick = 18_446_744_073_709

-- thread 7 is on a carved budget, 2, and thread 8 on the root; they are started in this order
abbrev pub on_two_budgets : Board
on_two_budgets = (create_user_thread 8 1 true (create_user_thread 7 2 true (by_registry (create_budget 1 4_000_000 0 0) board).after).after).after

abbrev pub in_turn : (first second : ℕ) → Board
in_turn first second = (start second 0 0 0 fresh_context (start first 0 0 0 fresh_context on_two_budgets).after).after

-- the starts of the root and of budget 2 after a planning at tick 10
abbrev pub starts_at_10 : Board → List ℕ
starts_at_10 b = (root (plan 10 b).after).period_start ∷ (account (plan 10 b).after 2).period_start ∷ []

-- thread 0, current, is killed with cause 1, then with cause 2
abbrev pub killed_twice : BoardReply
killed_twice = kill 0 2 (kill 0 1 board).after

-- so many threads, from 101 on, each created and killed
abbrev pub kills : ℕ → Board
kills zero = board
kills (suc n) = (kill (101 + n) 2 (create_user_thread (101 + n) 1 true (kills n)).after).after

pub record Edges : Type 0 where
  -- "(m) Frame for payer 1: id 2, used 4,096."
  pub frame_for_payer_1 : Accepted (new 2) frame × ((root frame.after).memory_used ≡ 4_096)
  -- "(m) Then carve 4,000,000 ns and 8,192 bytes at time 0: id 3, root used 4,224, memory reserved 8,192, CPU left 6,000,000."
  pub then_carve : Accepted (new 3) carve
      × ((root carve.after).memory_used ≡ 4_224)
      × ((root carve.after).memory_reserved ≡ 8_192)
      × ((root carve.after).cpu_left ≡ 6_000_000)
  -- "(m) Then carving 6,000,001 ns and no memory at 0: 12; 6,000,000: accepted."
  pub then_carving : Refused 12 carve.after (by_registry (create_budget 1 6_000_001 0 0) carve.after) × Accepted (new 4) second_carve
  -- "(m) Budget 3 takes two Frames; an Endpoint more: 12."
  pub budget_3_takes_two_frames : Accepted (new 5) first_frame × Accepted (new 6) second_frame
      × ((account second_frame.after 3).memory_used ≡ 8_192)
      × Refused 12 second_frame.after (by_registry (create 4 3 true) second_frame.after)
  -- "(m) Removing 3 meanwhile: 10."
  pub removing_3_meanwhile : Refused 10 second_frame.after (by_registry (remove 3 0) second_frame.after)
  -- "With both Frames gone: accepted, root CPU left unchanged." The root has 0 left here, and 6,000,000 where the second carving was not made
  pub with_both_frames_gone : Accepted None first_gone × Accepted None both_gone
      × Accepted None (by_registry (remove 3 0) both_gone.after)
      × ((root (by_registry (remove 3 0) both_gone.after).after).cpu_left ≡ (root both_gone.after).cpu_left)
      × Accepted None (by_registry (remove 3 0) carve.after)
      × ((root (by_registry (remove 3 0) carve.after).after).cpu_left ≡ 6_000_000)
  -- "(m) Start 0: at 9,999,999 no renewal; at 25,000,000 start is 20,000,000."
  pub start_0 : ((root (low 1_000_000)).period_start ≡ 0)
      × Unmoved (Some (of_registry (renewed false))) (low 1_000_000) (by_registry (refill 1 9_999_999) (low 1_000_000))
      × Accepted (Some (of_registry (renewed true))) (by_registry (refill 1 25_000_000) (low 1_000_000))
      × ((root (by_registry (refill 1 25_000_000) (low 1_000_000)).after).period_start ≡ 20_000_000)
      × ((root (by_registry (refill 1 25_000_000) (low 1_000_000)).after).cpu_left ≡ 10_000_000)
  -- "(m) Tick without renewal, 300,000 left: 0 left."
  pub tick_without_renewal : (low_7.current ≡ 7) × ((root low_7).cpu_left ≡ 300_000)
      × Accepted None (tick 1 low_7)
      × ((root (tick 1 low_7).after).cpu_left ≡ 0)
      × ((root (tick 1 low_7).after).period_start ≡ 0)
      × ((thread (tick 1 low_7).after.threads 7).ticks ≡ 1)
  -- "(m) Uncharging 4,097 of a Frame: 11; 4,096: charge 0."
  pub uncharging : Refused 11 frame.after (by_registry (uncharge 2 4_097) frame.after)
      × Accepted None (by_registry (uncharge 2 4_096) frame.after)
      × Accepted (Some (of_registry (charge 1 0))) (by_registry (charge_of 2) (by_registry (uncharge 2 4_096) frame.after).after)
      × ((root (by_registry (uncharge 2 4_096) frame.after).after).memory_used ≡ 0)
  -- "(m) Thread 0 alone: no switch."
  pub thread_0_alone : Unmoved (Some no_switch) board (plan 0 board)
  -- "Killed, then planned: idle, switch count 1."
  pub killed_then_planned : Accepted (Some (ended None)) killed_0
      × Accepted (Some (switch 0 idle None)) left_0
      × Accepted (Some (word idle)) (read_current left_0.after)
      × Accepted (Some (word 1)) (read_switches left_0.after)
      × Refused 7 left_0.after (read_thread 0 left_0.after)
  -- "(m) Root memory 127, carve 0 and 0: 12, no renewal." At 25,000,000 one is due
  pub root_memory_127 : Refused 12 (low 127) (by_registry (create_budget 1 0 0 25_000_000) (low 127))
  -- "Memory 128, carve 0 and 1: 12, renewed if due." At 25,000,000 a renewal is due, at 9,999,999 not
  pub memory_128 : (by_registry (create_budget 1 0 1 25_000_000) (low 128) ≡ refuse 12 (by_registry (refill 1 25_000_000) (low 128)).after)
      × ((root (by_registry (create_budget 1 0 1 25_000_000) (low 128)).after).period_start ≡ 20_000_000)
      × ((root (by_registry (create_budget 1 0 1 25_000_000) (low 128)).after).cpu_left ≡ 10_000_000)
      × Refused 12 (low 128) (by_registry (create_budget 1 0 1 9_999_999) (low 128))
  -- "Tick 18,446,744,073,709 passes; one more: 3." A planning at that tick too
  pub tick_passes : Accepted None (tick last_tick with_7) × Refused 3 with_7 (tick (last_tick + 1) with_7)
      × Accepted (Some no_switch) (plan last_tick with_7) × Refused 3 with_7 (plan (last_tick + 1) with_7)
  -- "33 kills: the first is forgotten."
  pub kills_33 : Accepted (Some (exit_cause (Some Faulted))) (exit_of 101 (kills 32))
      × Accepted (Some (exit_cause None)) (exit_of 101 (kills 33))
      × Accepted (Some (exit_cause (Some Faulted))) (exit_of 102 (kills 33))
      × (length (kills 33).exits ≡ 32)
  -- "The answer is .. old id, new id, and the new root or "kernel's"": to thread 7, and back to thread 0
  pub own_root : Accepted (Some (switch 0 7 (Some 40))) to_7
      × (to_7.after.current ≡ 7)
      × (to_7.after.queue ≡ 0 ∷ [])
      × Accepted (Some (switch 7 0 None)) (plan 0 to_7.after)
  -- "a current thread in Running, other than idle, goes to the queue's end"; "Idle still reads Running after it is switched away from"
  pub away_from_idle : Accepted (Some (switch 18_446_744_073_709_551_615 7 (Some 40))) from_idle
      × (from_idle.after.current ≡ 7)
      × (from_idle.after.queue ≡ [])
      × ((thread from_idle.after.threads 18_446_744_073_709_551_615).state ≡ Running)
  -- "Mistakes close at hand: .. renewing every budget at a planning": only the chosen thread's is renewed, the other thread not being tested
  pub tested_renewed : ((plan 10 (in_turn 7 8)).after.current ≡ 7) × (starts_at_10 (in_turn 7 8) ≡ 0 ∷ 10_000_000 ∷ [])
      × ((plan 10 (in_turn 8 7)).after.current ≡ 8) × (starts_at_10 (in_turn 8 7) ≡ 10_000_000 ∷ 0 ∷ [])
  -- "a second kill logs it again"; "`exit_of` gives the oldest match"
  pub second_kill : Accepted (Some (ended None)) killed_twice
      × (killed_twice.after.exits ≡ record { thread = 0; cause = Destroyed } ∷ record { thread = 0; cause = Faulted } ∷ [])
      × Accepted (Some (exit_cause (Some Destroyed))) (exit_of 0 killed_twice.after)

pub edges_hold : Edges
unfolding due renew
edges_hold = record {
  frame_for_payer_1 = ((refl, refl), refl);
  then_carve = ((refl, refl), refl, refl, refl);
  then_carving = (refl, (refl, refl));
  budget_3_takes_two_frames = ((refl, refl), (refl, refl), refl, refl);
  removing_3_meanwhile = refl;
  with_both_frames_gone = ((refl, refl), (refl, refl), (refl, refl), refl, (refl, refl), refl);
  start_0 = (refl, refl, (refl, refl), refl, refl);
  tick_without_renewal = (refl, refl, (refl, refl), refl, refl, refl);
  uncharging = (refl, (refl, refl), (refl, refl), refl);
  thread_0_alone = refl;
  killed_then_planned = ((refl, refl), (refl, refl), (refl, refl), (refl, refl), refl);
  root_memory_127 = refl;
  memory_128 = (refl, refl, refl, refl);
  tick_passes = ((refl, refl), refl, (refl, refl), refl);
  kills_33 = ((refl, refl), (refl, refl), (refl, refl), refl);
  own_root = ((refl, refl), refl, refl, (refl, refl));
  away_from_idle = ((refl, refl), refl, refl, refl);
  tested_renewed = (refl, refl, refl, refl);
  second_kill = ((refl, refl), refl, (refl, refl));
}
