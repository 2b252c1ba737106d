-- What demand 2 is said with, for lists of the registry's calls: what the Rust replies to a call, what of a reply is compared with it, which refusals are added, and the
-- replies to a list on both sides. Assumes nothing.
use Rattle.std.specs.Prelude.{◌≡◌, Bool, true, false, cond, List, [], ◌∷◌, ℕ, Some, None}
use Rattle.carv_objects_spec.specs.Reply.{accept, pays, of_account, charge, without_answer}
use Rattle.carv_objects_spec.specs.Registry.{Registry, RegistryReply}
use Rattle.carv_objects_spec.specs.Rust as rust
use Rattle.carv_objects_spec.specs.Book.{Call, create, insert, create_budget, charge_more, uncharge, remove, refill, charge_cpu, pays_for_anything, read_account, charge_of, read_totals}
use Rattle.carv_objects_spec.specs.Replies.{reply_of, cpu_reply_of, reading_of, of_type, an_id, nothing, a_renewal}
use Rattle.carv_objects_spec.specs.Refused.{added, added_to_uncharge}
use Rattle.carv_objects_spec.specs.Runs.{run}

-- the Rust's method, its result in the port's words. For a kind that isn't listed `from_raw` names none, and no method is called; question 4, an added refusal, stands in front
abbrev pub rust_run : Call → Registry → RegistryReply
rust_run (create n payer backing) r = of_type (rust.from_raw n) (λ ty. reply_of an_id 13 (rust.create ty payer backing r)) r
rust_run (insert n payer bytes) r = of_type (rust.from_raw n) (λ ty. reply_of an_id 13 (rust.insert payer ty bytes r)) r
rust_run (create_budget parent cpu memory time) r = reply_of an_id 13 (rust.create_budget parent cpu memory time r)
rust_run (charge_more i bytes) r = reply_of nothing 13 (rust.charge_more i bytes r)
rust_run (uncharge i bytes) r = accept None (rust.uncharge i bytes r)
rust_run (remove i time) r = reply_of nothing 15 (rust.remove i time r)
rust_run (refill i time) r = reply_of a_renewal 13 (rust.refill i time r)
rust_run (charge_cpu i ns time) r = cpu_reply_of (rust.charge_cpu i ns time r)
rust_run (pays_for_anything i) r = accept (Some (pays (rust.pays_for_anything i r))) r
rust_run (read_account i) r = reading_of of_account (rust.budget_mut i r) r
rust_run (charge_of i) r = reading_of (λ c. charge c.0 c.1) (rust.charge_of i r) r
-- no method: its registry stays
rust_run (read_totals i) r = accept None r

-- P1: "Demand 2 leaves out answers and figures that the Rust lacks, here and later." The one place that says which: a call that the Rust has no method for is answered
-- without its number and value, so that only the state it leaves is compared.
abbrev pub in_rust : Call → Bool
in_rust (create kind payer backing) = true
in_rust (insert kind payer bytes) = true
in_rust (create_budget parent cpu memory time) = true
in_rust (charge_more i bytes) = true
in_rust (uncharge i bytes) = true
in_rust (remove i time) = true
in_rust (refill i time) = true
in_rust (charge_cpu i ns time) = true
in_rust (pays_for_anything i) = true
in_rust (read_account i) = true
in_rust (charge_of i) = true
in_rust (read_totals i) = false

-- what demand 2 compares of a reply
abbrev pub compared : Call → RegistryReply → RegistryReply
compared c z = cond (in_rust c) z (without_answer z)

-- a refusal number of a call that document 01 marks as added
abbrev pub is_added : Call → ℕ → Bool
is_added (create kind payer backing) n = added n
is_added (insert kind payer bytes) n = added n
is_added (create_budget parent cpu memory time) n = added n
is_added (charge_more i bytes) n = added n
is_added (uncharge i bytes) n = added_to_uncharge n
is_added (remove i time) n = added n
is_added (refill i time) n = added n
is_added (charge_cpu i ns time) n = added n
is_added (pays_for_anything i) n = added n
is_added (read_account i) n = added n
is_added (charge_of i) n = added n
is_added (read_totals i) n = added n

-- what is compared of the answers to a list of calls, each on what the last one left: number, value and state
abbrev pub compared_replies : List Call → Registry → List RegistryReply
compared_replies [] r = []
compared_replies (c ∷ cs) r = compared c (run c r) ∷ compared_replies cs (run c r).after

-- the same, of the Rust
abbrev pub rust_replies : List Call → Registry → List RegistryReply
rust_replies [] r = []
rust_replies (c ∷ cs) r = rust_run c r ∷ rust_replies cs (rust_run c r).after

-- none of the answers is an added refusal
abbrev pub NoneAdded : List Call → Registry → Type 0
NoneAdded [] r = Unit
NoneAdded (c ∷ cs) r = (is_added c (run c r).number ≡ false) × NoneAdded cs (run c r).after
