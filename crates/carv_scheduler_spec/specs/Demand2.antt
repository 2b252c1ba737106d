-- What demand 2 is said with: what the Rust replies to a call, what of a reply is compared with it, which refusals are added, and the replies to a list of calls on both
-- sides. Assumes nothing.
use Rattle.std.specs.Prelude.{◌≡◌, Bool, true, false, cond, List, [], ◌∷◌, ℕ, Some, None}
use Rattle.carv_objects_spec.specs.Reply.{accept, without_answer}
use Rattle.carv_objects_spec.specs.Demand2 as objects
use Rattle.carv_scheduler_spec.specs.Scheduler.{Board, BoardReply, is_blocked, record_of, word, exit_cause}
use Rattle.carv_scheduler_spec.specs.Rust as rust
use Rattle.carv_scheduler_spec.specs.Book.{Call, on_objects, create_user_thread, start, block_current, wake, is_blocked_on, kill, tick, plan, read_thread, read_current, read_switches, exit_of}
use Rattle.carv_scheduler_spec.specs.Replies.{there, creation_reply_of, said_reply_of, kill_reply_of, plan_reply_of, reading_of, objects_reply_of}
use Rattle.carv_objects_spec.specs.Refused.{added, added_to_block}
use Rattle.carv_scheduler_spec.specs.Runs.{run}

-- the Rust's method, its result in the port's words. A wait or cause that isn't listed is no value of the Rust's: question 4, an added refusal, stands in front, so that
-- demand 2 says nothing of the send or Faulted that it would read as here
abbrev pub rust_run : Call → Board → BoardReply
rust_run (on_objects c) b = objects_reply_of (objects.rust_run c b.registry) b
rust_run (create_user_thread i budget stack) b = creation_reply_of (rust.create_user_thread i budget stack b)
rust_run (start i space cspace root context) b = said_reply_of (there (rust.thread i b)) (rust.start i space cspace root context b)
rust_run (block_current kind number) b = accept None (rust.block_current (rust.wait kind number) b)
rust_run (wake i r) b = said_reply_of (there (rust.thread i b)) (rust.wake i r b)
rust_run (is_blocked_on i kind number) b = accept (Some (is_blocked (rust.is_blocked_on i (rust.wait kind number) b))) b
rust_run (kill i cause) b = kill_reply_of (there (rust.thread i b)) (rust.kill i (rust.cause cause) b)
rust_run (tick n) b = accept None (rust.tick n b)
rust_run (plan n) b = plan_reply_of (rust.plan n b)
rust_run (read_thread i) b = reading_of record_of (rust.thread i b) b
rust_run read_current b = accept (Some (word b.current)) b
rust_run read_switches b = accept (Some (word b.switches)) b
rust_run (exit_of i) b = accept (Some (exit_cause (rust.exit_of i b))) b

-- has the Rust a method for it? carv_objects_spec's Demand2.antt has P1's sentence on answers that the Rust lacks
abbrev pub in_rust : Call → Bool
in_rust (on_objects c) = objects.in_rust c
in_rust (create_user_thread i budget stack) = true
in_rust (start i space cspace root context) = true
in_rust (block_current kind number) = true
in_rust (wake i r) = true
in_rust (is_blocked_on i kind number) = true
in_rust (kill i cause) = true
in_rust (tick n) = true
in_rust (plan n) = true
in_rust (read_thread i) = true
in_rust read_current = true
in_rust read_switches = true
in_rust (exit_of i) = true

-- what demand 2 compares of a reply: of a call that the Rust lacks only the board that it leaves
abbrev pub compared : Call → BoardReply → BoardReply
compared c z = cond (in_rust c) z (without_answer z)

-- a refusal number of a call that document 01 marks as added
abbrev pub is_added : Call → ℕ → Bool
is_added (on_objects c) n = objects.is_added c n
is_added (create_user_thread i budget stack) n = added n
is_added (start i space cspace root context) n = added n
is_added (block_current kind number) n = added_to_block n
is_added (wake i r) n = added n
is_added (is_blocked_on i kind number) n = added n
is_added (kill i cause) n = added n
is_added (tick m) n = added n
is_added (plan m) n = added n
is_added (read_thread i) n = added n
is_added read_current n = added n
is_added read_switches n = added n
is_added (exit_of i) n = added n

-- what is compared of the answers to a list of calls, each on what the last one left: number, value and board
abbrev pub compared_replies : List Call → Board → List BoardReply
compared_replies [] b = []
compared_replies (c ∷ cs) b = compared c (run c b) ∷ compared_replies cs (run c b).after

-- the same, of the Rust
abbrev pub rust_replies : List Call → Board → List BoardReply
rust_replies [] b = []
rust_replies (c ∷ cs) b = rust_run c b ∷ rust_replies cs (rust_run c b).after

-- none of the answers is an added refusal
abbrev pub NoneAdded : List Call → Board → Type 0
NoneAdded [] b = Unit {0}
NoneAdded (c ∷ cs) b = (is_added c (run c b).number ≡ false) × NoneAdded cs (run c b).after
