-- P12: on a sound registry a removal that reaches question 15 passes it and has a live payer; so asking it changes nothing, and the Rust's `remove` has no error there. Also what
-- a removal answers, and cases: registries that miss the question by one part of it, none of them sound. Assumes nothing.
use Rattle.std.specs.Prelude.{◌≡◌, refl, true, false, cond, not, ◌&&◌, ◌||◌, ℕ, ◌-◌, ◌≤◌, eqb, leb, Some, None, Result, Ok, Err}
use Rattle.std.proofs.Common.{sym, ap, ◌∙◌, arith, eqb-true, ne_eqb}
use Rattle.std.proofs.lemmas.Bool.{eqb-false, lt-leb, not-true}
use Rattle.carv_area.specs.Laws.Table.{test}
use Rattle.carv_budget.specs.declared.Account.{Account}
use Rattle.carv_budget.specs.Account as account
use Rattle.carv_budget.specs.Rust as budget_rust
use Rattle.carv_budget.proofs.Laws.Account.{first, second}
use Rattle.carv_objects_spec.specs.declared.kind.Kind.TheVariants.{Budget}
use Rattle.carv_objects_spec.specs.declared.Entry.{Entry}
use Rattle.carv_objects_spec.specs.Reply.{refuse}
use Rattle.carv_objects_spec.specs.Registry.{Registry, RegistryReply, has, is_budget, account_of, payer_of, pays_for, add, opening, create, create_budget, remove}
use Rattle.carv_objects_spec.specs.Sound.{sound}
use Rattle.carv_objects_spec.specs.Rust as rust
use Rattle.carv_objects_spec.specs.Replies.{result_of, reply_of, nothing}
use Rattle.carv_objects_spec.specs.Book as book
use Rattle.carv_objects_spec.specs.Demand2.{rust_run}
use Rattle.carv_objects_spec.specs.Question15.{reaches_15, passes_15, remove_asking_15, Passed}
use Rattle.carv_objects_spec.proofs.Laws.Asked.{asked}
use Rattle.carv_objects_spec.proofs.Laws.SoundLaws.{sound_told}
use Rattle.carv_objects_spec.proofs.Laws.Kept.{removal_passes}
use Rattle.carv_objects_spec.proofs.Laws.Demand1.{leaves}
use Rattle.carv_objects_spec.proofs.Laws.Refines.{remove_rust, remove_carv_os}

-- P12: "from every sound state a removal that reaches question 15 passes it, and .. its payer is live"
pub question_15_passed : (i : ℕ) (r : Registry) → sound r ≡ true → reaches_15 i r ≡ true → Passed i r
question_15_passed i r s h =
    let h' = first (has r i && not (eqb i 1)) _ h in
    removal_passes i r (sound_told r s) (first (has r i) _ h') (eqb-false i 1 (not-true (eqb i 1) (second (has r i) _ h')))
    (not-true (is_budget r i && pays_for r i) (second (has r i && not (eqb i 1)) _ h))

-- The same in plain words: an object that is there, is not the root, and as a budget pays for nothing.
module _ (i : ℕ) (r : Registry) (there : has r i ≡ true) (not_root : i ≡ 1 → ⊥) (pays_nothing : is_budget r i ≡ true → pays_for r i ≡ false) where
  pub reached : reaches_15 i r ≡ true
  reached = rw (there, ne_eqb i 1 not_root) (test (is_budget r i) (λ b. rw (b, pays_nothing b)) (λ b. rw b))

  pub payer_live : sound r ≡ true → (has r (payer_of r i) ≡ true) × (is_budget r (payer_of r i) ≡ true) × (payer_of r i ≡ i → ⊥)
  payer_live s = let p = question_15_passed i r s reached in (p.payer_live, p.payer_budget, p.payer_other)

  pub child_returnable : sound r ≡ true → is_budget r i ≡ true
      → ((account_of r i).memory_used ≡ 0) × ((account_of r i).memory_reserved ≡ 0) × ((account_of r i).cpu_reserved ≡ 0)
      × ((account_of r i).memory_limit ≤ (account_of r (payer_of r i)).memory_reserved) × ((account_of r i).cpu_allowance ≤ (account_of r (payer_of r i)).cpu_reserved)
  child_returnable s b = let p = question_15_passed i r s reached in (p.no_use b, p.no_memory_reserved b, p.no_cpu_reserved b, p.memory_within b, p.cpu_within b)

-- On any registry the removal that asks it differs only there: where it is reached and missed.
pub asking_15 : (i time : ℕ) (r : Registry) → remove_asking_15 i time r ≡ cond (reaches_15 i r && not (passes_15 i r)) (refuse 15 r) (remove i time r)
asking_15 i time r =
    test (has r i) (λ a. test (not (eqb i 1)) (λ b. test (not (is_budget r i && pays_for r i))
    (λ c. test (passes_15 i r) (λ p. rw (a, b, c, p)) (λ p. rw (a, b, c, p)))
    (λ c. rw (a, b, c))) (λ b. rw (a, b))) (λ a. rw a)

-- so on a sound one it is this removal
pub asking_15_changes_nothing : (i time : ℕ) (r : Registry) → sound r ≡ true → remove_asking_15 i time r ≡ remove i time r
asking_15_changes_nothing i time r s =
    test (reaches_15 i r) (λ h. rw (asking_15 i time r, h, (question_15_passed i r s h).passed)) (λ h. rw (asking_15 i time r, h))

-- What a removal answers, on any registry: 0, 7, 9 or 10, and 0 exactly where it reaches question 15.
pub removal_number : (i time : ℕ) (r : Registry)
    → (eqb (remove i time r).number 0 || eqb (remove i time r).number 7 || eqb (remove i time r).number 9 || eqb (remove i time r).number 10) ≡ true
removal_number i time r = asked Four (has r i) refl λ _. asked Four (not (eqb i 1)) refl λ _. asked Four (not (is_budget r i && pays_for r i)) refl λ _. refl
  where
    Four : RegistryReply → Type 0
    Four z = (eqb z.number 0 || eqb z.number 7 || eqb z.number 9 || eqb z.number 10) ≡ true

pub accepted_exactly : (i time : ℕ) (r : Registry) → eqb (remove i time r).number 0 ≡ reaches_15 i r
accepted_exactly i time r =
    test (has r i) (λ a. test (not (eqb i 1)) (λ b. test (not (is_budget r i && pays_for r i)) (λ c. rw (a, b, c)) (λ c. rw (a, b, c))) (λ b. rw (a, b))) (λ a. rw a)

-- The Rust keeps its error, and the reply to it would be 15. On a sound registry it doesn't come: past 7, 9 and 10 both removals go through, P2's reference and carv-os' own.
went_through : (x : Result (Unit {0}) rust.ObjectError) (self : Registry) → (result_of nothing 15 x self).number ≡ 0 → x ≡ Ok tt
went_through (Ok tt) self h = refl
went_through (Err rust.not_found) self h = absurd (omega (arith, h))
went_through (Err rust.budget_exceeded) self h = absurd (omega (arith, h))
went_through (Err rust.invalid_method) self h = absurd (omega (arith, h))
went_through (Err rust.root_budget) self h = absurd (omega (arith, h))
went_through (Err rust.in_use) self h = absurd (omega (arith, h))
went_through (Err rust.out_of_memory) self h = absurd (omega (arith, h))

-- no account is due at 0
not_due_at_0 : (a : Account) → account.due a 0 ≡ false
unfolding account.due
not_due_at_0 a = test (leb a.period_start 0) (λ q. rw (q, lt-leb account.period (0 - a.period_start) (omega arith))) (λ q. rw q)

-- both are this removal, carv-os' own at 0
both_told : (i time : ℕ) (r : Registry) → sound r ≡ true
    → ((remove i time r).number ≡ (reply_of nothing 15 (rust.remove i time r)).number) × ((remove i 0 r).number ≡ (reply_of nothing 15 (rust.remove_unrenewed i r)).number)
both_told i time r s =
    let S = sound_told r s in (
      ap (λ (x : RegistryReply). x.number) (remove_rust i time r S),
      ap (λ (x : RegistryReply). x.number) (remove_carv_os i 0 r S (λ _ _. not_due_at_0 (account_of r (payer_of r i)))),
    )

pub rust_goes_through : (i time : ℕ) (r : Registry) → sound r ≡ true → reaches_15 i r ≡ true
    → ((rust.remove i time r).result ≡ Ok tt) × ((rust.remove_unrenewed i r).result ≡ Ok tt)
rust_goes_through i time r s h = let (renewing, own) = both_told i time r s in (by (rust.remove i time r) time renewing, by (rust.remove_unrenewed i r) 0 own)
  where
    by : (z : rust.Call (Unit {0})) (t : ℕ) → (remove i t r).number ≡ (reply_of nothing 15 z).number → z.result ≡ Ok tt
    by z t e = went_through z.result z.self (sym e ∙ eqb-true (remove i t r).number 0 (accepted_exactly i t r ∙ h))

pub rust_returns : (i time : ℕ) (r : Registry) → sound r ≡ true
    → ((rust.remove i time r).result ≡ Err rust.invalid_method → ⊥) × ((rust.remove_unrenewed i r).result ≡ Err rust.invalid_method → ⊥)
rust_returns i time r s = let (renewing, own) = both_told i time r s in (by (rust.remove i time r) time renewing, by (rust.remove_unrenewed i r) 0 own)
  where
    by : (z : rust.Call (Unit {0})) (t : ℕ) → (remove i t r).number ≡ (reply_of nothing 15 z).number → z.result ≡ Err rust.invalid_method → ⊥
    by z t e q = (leaves (book.remove i t) r).not_15 (e ∙ ap (λ (x : Result (Unit {0}) rust.ObjectError). (result_of nothing 15 x z.self).number) q)

-- What the Rust does where it comes to an error, on any registry, sound or not: the entry is put back as it was, and the payer keeps what was done to it before.
module _ (before : Account → Account) (i : ℕ) (r : Registry) (e : Entry) (not_root : eqb i 1 ≡ false) (here : rust.get i r ≡ Some e)
    (b : rust.is_budget e ≡ true) (idle : rust.pays_for_anything i r ≡ false) where
  pub rust_without_payer : rust.budget_mut e.payer (rust.remove_entry i r) ≡ None
      → rust.remove_with before i r ≡ rust.gives (rust.insert_entry i e (rust.remove_entry i r)) (Err rust.not_found)
  rust_without_payer q = rw (not_root, here, b, idle, q)

  pub rust_not_returned : (parent : Account) (x : budget_rust.BudgetError) → rust.budget_mut e.payer (rust.remove_entry i r) ≡ Some parent
      → (budget_rust.release_child true (before parent) e.account).result ≡ budget_rust.err x
      → rust.remove_with before i r ≡ rust.gives (rust.insert_entry i e (rust.write_budget e.payer (budget_rust.release_child true (before parent) e.account).self (rust.remove_entry i r)))
      (Err rust.invalid_method)
  rust_not_returned parent x q w = rw (not_root, here, b, idle, q, w)

-- Cases.

-- the root has 10,000,000 ns and 1,000,000 bytes; budget 2 has 4,000,000 and 9,000 of these, object 3 is a Frame that the root pays for
abbrev pub carved : Registry
carved = (create 3 1 true (create_budget 1 4_000_000 9_000 0 (opening 10_000_000 1_000_000)).after).after

-- the same with another account of the root, of budget 2; and without the root
abbrev pub with_root : (cpu_reserved memory_reserved : ℕ) → Registry
with_root cpu_reserved memory_reserved = rust.write_budget 1 (account.with_memory (account.with_cpu (account_of carved 1) 0 6_000_000 cpu_reserved) 4_224 memory_reserved) carved

abbrev pub with_child : (cpu_reserved used memory_reserved : ℕ) → Registry
with_child cpu_reserved used memory_reserved = rust.write_budget 2 (account.with_memory (account.with_cpu (account_of carved 2) 0 0 cpu_reserved) used memory_reserved) carved

abbrev pub orphan : Registry
orphan = rust.remove_entry 1 carved

-- the same, and budget 4, without shares, whose payer is 0
abbrev pub unpaid : Registry
unpaid = add (record { kind = Budget; payer = 0; charge = 0; account = account.fresh 0 0 0 }) carved

-- budget 4 has 1,000,000 ns and 1,000 bytes of budget 2's; the same with another account of budget 2, and without it
abbrev pub nested : Registry
nested = (create_budget 2 1_000_000 1_000 0 carved).after

abbrev pub with_payer : (cpu_reserved memory_reserved : ℕ) → Registry
with_payer cpu_reserved memory_reserved = rust.write_budget 2 (account.with_memory (account.with_cpu (account_of nested 2) 0 3_000_000 cpu_reserved) 128 memory_reserved) nested

abbrev pub nested_orphan : Registry
nested_orphan = rust.remove_entry 2 nested

-- a registry on which a removal of budget i, which this payer pays for, reaches question 15 and misses it, as carv-os does: it is not sound
pub record Misses (i payer : ℕ) (r : Registry) : Type 0 where
  pub unsound : sound r ≡ false
  pub reaches : reaches_15 i r ≡ true
  pub missed : passes_15 i r ≡ false
  pub refused : remove_asking_15 i 0 r ≡ refuse 15 r
  pub by_rust : rust.remove_unrenewed i r ≡ rust.gives r (Err rust.invalid_method)
  -- P2's reference has renewed the payer by then
  pub by_reference : rust.remove i 10_000_000 r ≡ rust.gives (rust.refill payer 10_000_000 r).self (Err rust.invalid_method)
  pub told : (rust_run (book.remove i 10_000_000) r).number ≡ 15

pub record Cases : Type 0 where
  -- budget 2 and the Frame reach question 15, on a sound registry
  pub sound_here : sound carved ≡ true
  pub reach_it : (reaches_15 2 carved ≡ true) × (reaches_15 3 carved ≡ true)
  -- 7, 9 and 10 are met before it
  pub do_not : (reaches_15 9 carved ≡ false) × (reaches_15 1 carved ≡ false) × (reaches_15 2 (create 5 2 true carved).after ≡ false)
  -- part by part: the root reserves a nanosecond or a byte too little; the child has reserved a nanosecond or a byte, or used one
  pub cpu_above : Misses 2 1 (with_root 3_999_999 9_000)
  pub memory_above : Misses 2 1 (with_root 4_000_000 8_999)
  pub child_cpu : Misses 2 1 (with_child 1 0 0)
  pub child_memory : Misses 2 1 (with_child 0 0 1)
  pub child_used : Misses 2 1 (with_child 0 1 0)
  -- a payer other than the root, which has reserved enough
  pub nested_cpu_above : Misses 4 2 (with_payer 999_999 1_000)
  pub nested_memory_above : Misses 4 2 (with_payer 1_000_000 999)
  -- as they were: nothing is missed
  pub as_it_was : (with_root 4_000_000 9_000 ≡ carved) × (passes_15 2 carved ≡ true) × (passes_15 2 (with_child 0 0 0) ≡ true)
  pub nested_as_it_was : (with_payer 1_000_000 1_000 ≡ nested) × (sound nested ≡ true) × (reaches_15 4 nested ≡ true) × (passes_15 4 nested ≡ true)
  -- another kind has nothing to return, whatever stands in its account
  pub frame : passes_15 3 (rust.write_budget 3 (account_of carved 1) carved) ≡ true
  -- no payer: the root gone, budget 2 gone, and a budget that names nobody
  pub without_payer : (sound orphan ≡ false) × (rust.remove 2 0 orphan ≡ rust.gives orphan (Err rust.not_found))
  pub nested_without_payer : (sound nested_orphan ≡ false) × (rust.remove 4 0 nested_orphan ≡ rust.gives nested_orphan (Err rust.not_found))
  pub paid_by_nobody : (sound unpaid ≡ false) × (reaches_15 4 unpaid ≡ true) × (has unpaid (payer_of unpaid 4) ≡ false)

missing_it : (i payer : ℕ) (r : Registry) → sound r ≡ false → reaches_15 i r ≡ true → passes_15 i r ≡ false → remove_asking_15 i 0 r ≡ refuse 15 r
    → rust.remove_unrenewed i r ≡ rust.gives r (Err rust.invalid_method)
    → rust.remove i 10_000_000 r ≡ rust.gives (rust.refill payer 10_000_000 r).self (Err rust.invalid_method)
    → (rust_run (book.remove i 10_000_000) r).number ≡ 15 → Misses i payer r
missing_it i payer r a b c d e f g = record { unsound = a; reaches = b; missed = c; refused = d; by_rust = e; by_reference = f; told = g }

pub cases_hold : Cases
unfolding account.sound account.due account.renew account.returnable rust.credit budget_rust.refill budget_rust.release_child budget_rust.release_memory
cases_hold = record {
  sound_here = refl;
  reach_it = (refl, refl);
  do_not = (refl, refl, refl);
  cpu_above = missing_it 2 1 (with_root 3_999_999 9_000) refl refl refl refl refl refl refl;
  memory_above = missing_it 2 1 (with_root 4_000_000 8_999) refl refl refl refl refl refl refl;
  child_cpu = missing_it 2 1 (with_child 1 0 0) refl refl refl refl refl refl refl;
  child_memory = missing_it 2 1 (with_child 0 0 1) refl refl refl refl refl refl refl;
  child_used = missing_it 2 1 (with_child 0 1 0) refl refl refl refl refl refl refl;
  nested_cpu_above = missing_it 4 2 (with_payer 999_999 1_000) refl refl refl refl refl refl refl;
  nested_memory_above = missing_it 4 2 (with_payer 1_000_000 999) refl refl refl refl refl refl refl;
  as_it_was = (refl, refl, refl);
  nested_as_it_was = (refl, refl, refl, refl);
  frame = refl;
  without_payer = (refl, refl);
  nested_without_payer = (refl, refl);
  paid_by_nobody = (refl, refl, refl);
}
