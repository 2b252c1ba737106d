-- The Rust's results in document 01's words: a call's number, value and board for what each method of Rust.antt returns and leaves. The numbers are written out here, beside
-- the Rust's results, and not taken from Refused.antt. Assumes nothing.
use Rattle.std.specs.Prelude.{Bool, true, false, Option, Some, None}
use Rattle.carv_objects_spec.specs.Reply.{refuse, accept}
use Rattle.carv_objects_spec.specs.Reply as objects
use Rattle.carv_objects_spec.specs.Registry.{RegistryReply}
use Rattle.carv_scheduler_spec.specs.declared.Wait.{Wait}
use Rattle.carv_scheduler_spec.specs.declared.Thread.{Thread}
use Rattle.carv_scheduler_spec.specs.Scheduler.{Board, BoardReply, Value, of_registry, no_switch, switch, ended}
use Rattle.carv_scheduler_spec.specs.Rust as rust
use Rattle.carv_scheduler_spec.specs.Rust.{Call}

-- `None` of `create_user_thread` is 14
abbrev pub creation_result_of : Option (Unit {0}) → Board → BoardReply
creation_result_of None self = refuse 14 self
creation_result_of (Some _) self = accept None self

abbrev pub creation_reply_of : Call (Option (Unit {0})) → BoardReply
creation_reply_of c = creation_result_of c.result c.self

-- `self.thread(id)` is `Some`
abbrev pub there : Option Thread → Bool
there None = false
there (Some _) = true

-- `false` of `start` and of `wake` is 7 where the thread is not there, and 8 where it is
abbrev pub said_result_of : (there : Bool) → Bool → Board → BoardReply
said_result_of there true self = accept None self
said_result_of true false self = refuse 8 self
said_result_of false false self = refuse 7 self

abbrev pub said_reply_of : (there : Bool) → Call Bool → BoardReply
said_reply_of there c = said_result_of there c.result c.self

-- `kill` of a thread that is there answers the wait that it ended; its `None` for a thread that is not there is 7
abbrev pub kill_reply_of : (there : Bool) → Call (Option Wait) → BoardReply
kill_reply_of true c = accept (Some (ended c.result)) c.self
kill_reply_of false c = refuse 7 c.self

abbrev pub switch_of : Option rust.Switch → Value
switch_of None = no_switch
switch_of (Some s) = switch s.old s.new s.root

abbrev pub plan_reply_of : Call (Option rust.Switch) → BoardReply
plan_reply_of c = accept (Some (switch_of c.result)) c.self

-- a reading: `None` is 7
abbrev pub reading_of : {A : Type 0} → (A → Value) → Option A → Board → BoardReply
reading_of value None self = refuse 7 self
reading_of value (Some a) self = accept (Some (value a)) self

-- a method of the registry: the reply to it, and the registry that it leaves, on the board
abbrev pub objects_value : Option objects.Value → Option Value
objects_value None = None
objects_value (Some v) = Some (of_registry v)

abbrev pub objects_reply_of : RegistryReply → Board → BoardReply
objects_reply_of a self = record { number = a.number; value = objects_value a.value; after = rust.write_objects a.after self }
