-- The value of what a call of the board answers; carv_objects' Answer.antt has document 01's number. Assumes nothing.
use Rattle.std.specs.Prelude.{ℕ, Bool, Option, Some, None, Result, Ok, Err}
use Rattle.carv_objects.specs.declared.refusal.Refusal.{Refusal}
use Rattle.carv_objects_spec.specs.Reply as objects
use Rattle.carv_scheduler_spec.specs.declared.Wait.{Wait}
use Rattle.carv_scheduler_spec.specs.declared.Thread.{Thread}
use Rattle.carv_scheduler_spec.specs.declared.Cause.{Cause}
use Rattle.carv_scheduler.specs.declared.planning.Switch.{Switch}
use Rattle.carv_scheduler_spec.specs.Scheduler.{Value, no_switch, switch, ended, is_blocked, record_of, word, exit_cause, lift_value}

-- what is answered tells a value; a refusal has none
abbrev pub value : {T : Type 0} → (T → Option Value) → Result T Refusal → Option Value
value tells (Ok x) = tells x
value tells (Err e) = None

-- What value is told by what the calls answer.

abbrev pub nothing : Unit {0} → Option Value
nothing x = None

abbrev pub switch_of : Option Switch → Option Value
switch_of None = Some no_switch
switch_of (Some s) = Some (switch s.old s.new s.root)

-- the wait that a kill ended
abbrev pub ended_of : Option Wait → Option Value
ended_of w = Some (ended w)

abbrev pub blocked_of : Bool → Option Value
blocked_of b = Some (is_blocked b)

abbrev pub thread_of : Thread → Option Value
thread_of t = Some (record_of t)

abbrev pub word_of : ℕ → Option Value
word_of n = Some (word n)

abbrev pub cause_of : Option Cause → Option Value
cause_of c = Some (exit_cause c)

-- and by what the registry's calls answer
abbrev pub in_board : {T : Type 0} → (T → Option objects.Value) → T → Option Value
in_board tells x = lift_value (tells x)
