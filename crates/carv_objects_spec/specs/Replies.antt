-- The Rust's results in document 01's words: a call's number, value and state for what each method of Rust.antt returns and leaves. The numbers are written out
-- here, beside the Rust's errors, and not taken from Refused.antt. Assumes nothing.
use Rattle.std.specs.Prelude.{Bool, true, false, ℕ, Option, Some, None, Result, Ok, Err}
use Rattle.carv_objects_spec.specs.Reply.{refuse, accept, Value, id, renewed}
use Rattle.carv_objects_spec.specs.declared.kind.Kind.{Kind}
use Rattle.carv_objects_spec.specs.Registry.{Registry, RegistryReply}
use Rattle.carv_objects_spec.specs.Rust.{ObjectError, not_found, budget_exceeded, invalid_method, root_budget, in_use, out_of_memory, Call}

-- `InvalidMethod` is 13 for a creation; no other method answers it but a removal, where it is 15, as for an account alone. No call of the port answers 15 (P12), so
-- demand 2 also says that the Rust's removal doesn't come to it
abbrev pub number_of : (invalid : ℕ) → ObjectError → ℕ
number_of invalid not_found = 7
number_of invalid root_budget = 9
number_of invalid in_use = 10
number_of invalid budget_exceeded = 12
number_of invalid out_of_memory = 14
number_of invalid invalid_method = invalid

abbrev pub result_of : {A : Type 0} → (A → Option Value) → (invalid : ℕ) → Result A ObjectError → Registry → RegistryReply
result_of value invalid (Ok a) self = accept (value a) self
result_of value invalid (Err e) self = refuse (number_of invalid e) self

abbrev pub reply_of : {A : Type 0} → (A → Option Value) → (invalid : ℕ) → Call A → RegistryReply
reply_of value invalid c = result_of value invalid c.result c.self

-- the values: an id, nothing, whether an account was renewed
abbrev pub an_id : ℕ → Option Value
an_id i = Some (id i)

abbrev pub nothing : Unit {0} → Option Value
nothing _ = None

abbrev pub a_renewal : Bool → Option Value
a_renewal b = Some (renewed b)

-- a CPU charge: `false` is 12
abbrev pub cpu_result_of : Result Bool ObjectError → Registry → RegistryReply
cpu_result_of (Ok true) self = accept None self
cpu_result_of (Ok false) self = refuse 12 self
cpu_result_of (Err e) self = refuse (number_of 13 e) self

abbrev pub cpu_reply_of : Call Bool → RegistryReply
cpu_reply_of c = cpu_result_of c.result c.self

-- a reading: `None` is 7
abbrev pub reading_of : {A : Type 0} → (A → Value) → Option A → Registry → RegistryReply
reading_of value None self = refuse 7 self
reading_of value (Some a) self = accept (Some (value a)) self

-- a call that takes a code, by what `from_raw` makes of it: for `None` the Rust's system call ends before any method, and the registry stays
abbrev pub of_type : Option Kind → (Kind → RegistryReply) → Registry → RegistryReply
of_type None call self = accept None self
of_type (Some ty) call self = call ty
