-- Demand 2 for lists of the registry's calls: from an opening, with no refusal that document 01 marks as added, each answer that the Rust has and the whole state after each
-- call are the Rust's. Assumes nothing.
use Rattle.std.specs.Prelude.{◌≡◌, refl, Bool, true, false, cond, List, [], ◌∷◌, ℕ, ◌≤◌}
use Rattle.std.proofs.Common.{sym, ap, ◌∙◌}
use Rattle.carv_budget.specs.Account.{period}
use Rattle.carv_objects_spec.specs.Reply.{without_answer}
use Rattle.carv_objects_spec.specs.Registry as registry
use Rattle.carv_objects_spec.specs.Registry.{Registry, RegistryReply}
use Rattle.carv_objects_spec.specs.Rust as rust
use Rattle.carv_objects_spec.specs.Demand2.{rust_run, in_rust, is_added, compared, compared_replies, rust_replies, NoneAdded}
use Rattle.carv_objects_spec.proofs.Laws.SoundFacts.{Sound}
use Rattle.carv_objects_spec.proofs.Laws.Kept.{opening_sound}
use Rattle.carv_objects_spec.specs.Book.{Call, create, insert, create_budget, charge_more, uncharge, remove, refill, charge_cpu, pays_for_anything, read_account, charge_of, read_totals}
use Rattle.carv_objects_spec.proofs.Laws.Refines as refines
use Rattle.carv_objects_spec.proofs.Laws.History.{kept}
use Rattle.carv_objects_spec.specs.Runs.{run}

-- one call
pub run_rust : (c : Call) (r : Registry) → Sound r → is_added c (run c r).number ≡ false → compared c (run c r) ≡ rust_run c r
run_rust (create kind payer backing) r s h = refines.create_rust kind payer backing r s h
run_rust (insert kind payer bytes) r s h = refines.insert_rust kind payer bytes r s h
run_rust (create_budget parent cpu memory time) r s h = refines.create_budget_rust parent cpu memory time r s h
run_rust (charge_more i bytes) r s h = refines.charge_more_rust i bytes r s
run_rust (uncharge i bytes) r s h = refines.uncharge_rust i bytes r s h
run_rust (remove i time) r s h = refines.remove_rust i time r s
run_rust (refill i time) r s h = refines.refill_rust i time r
run_rust (charge_cpu i ns time) r s h = refines.charge_cpu_rust i ns time r
run_rust (pays_for_anything i) r s h = refines.pays_for_anything_rust i r
run_rust (read_account i) r s h = refines.read_account_rust i r
run_rust (charge_of i) r s h = refines.charge_of_rust i r
run_rust (read_totals i) r s h = refines.read_totals_rust i r

-- what is compared has the state that the call leaves
compared_after : (c : Call) (z : RegistryReply) → (compared c z).after ≡ z.after
compared_after c z = picked (in_rust c)
  where
    picked : (b : Bool) → (cond b z (without_answer z)).after ≡ z.after
    picked true = refl
    picked false = refl

-- the Rust's registry goes on as the port's
pub after_rust : (c : Call) (r : Registry) → Sound r → is_added c (run c r).number ≡ false → (run c r).after ≡ (rust_run c r).after
after_rust c r s h = sym (compared_after c (run c r)) ∙ ap (λ (x : RegistryReply). x.after) (run_rust c r s h)

pub replies_rust : (cs : List Call) (r : Registry) → Sound r → NoneAdded cs r → compared_replies cs r ≡ rust_replies cs r
replies_rust [] r s h = refl
replies_rust (c ∷ cs) r s h =
    ap (λ (l : List RegistryReply). compared c (run c r) ∷ l) (replies_rust cs (run c r).after (kept c r s) h.1)
    ∙ ap (λ (x : Registry). compared c (run c r) ∷ rust_replies cs x) (after_rust c r s h.0)
    ∙ ap (λ (x : RegistryReply). x ∷ rust_replies cs (rust_run c r).after) (run_rust c r s h.0)

-- Demand 2 for the registry's calls.
pub demand2 : (cpu memory : ℕ) → cpu ≤ period → (cs : List Call) → NoneAdded cs (registry.opening cpu memory)
    → compared_replies cs (registry.opening cpu memory) ≡ rust_replies cs (rust.new cpu memory)
demand2 cpu memory h cs n =
    replies_rust cs (registry.opening cpu memory) (opening_sound cpu memory h) n
    ∙ ap (rust_replies cs) (refines.opening_rust cpu memory h)
