-- No method of the Rust's `Budget` panics on a sound account whose memory limit is a 64-bit number. Of the arguments nothing need be said: what a method computes
-- with them stands behind its own tests. Assumes nothing.
use Rattle.std.specs.Prelude.{true, ◌≡◌, List, [], ◌∷◌, ◌++◌, ℕ, ◌+◌, ◌-◌, ◌^◌, ◌%◌, ◌≤◌, ◌<◌, leb, ltb}
use Rattle.std.proofs.Common.{arith, mod-lt, leb-true, ltb-false, lt-ltb}
use Rattle.carv_budget.specs.declared.Account.{Account}
use Rattle.carv_budget.specs.Account.{period, sound, renew, free, returnable}
use Rattle.carv_budget.specs.Rust as rust
use Rattle.carv_budget.specs.Panics.{Check, sum, difference, AllPass, if_ok, next_budget_id, new, refill, charge_cpu, charge_memory, release_memory, release_child, carve_out}
use Rattle.carv_budget.proofs.Laws.Account.{Sound, sound_told, picks, renewal, renew_sound, returnable_told}
use Rattle.carv_budget.proofs.Laws.Refines.{refill_renews, charge_memory_by, release_memory_by, release_child_by, carve_out_by}

-- one list behind the other
pub both_pass : (cs ds : List Check) → AllPass cs → AllPass ds → AllPass (cs ++ ds)
both_pass [] ds p q = q
both_pass (c ∷ cs) ds p q = (p.0, both_pass cs ds p.1 q)

pub new_passes : (ids cpu memory now : ℕ) → ids + 1 < 2 ^ 64 → AllPass (new ids cpu period memory now)
new_passes ids cpu memory now h =
    picks (λ (x : rust.Result Account). AllPass (if_ok x (next_budget_id ids ∷ []))) (ltb period cpu) _ _ (λ _. tt) (λ _. (lt-ltb (ids + 1) (2 ^ 64) h, tt))

pub refill_passes : (a : Account) (now : ℕ) → sound a ≡ true → AllPass (refill a now)
unfolding refill
refill_passes a now p =
    let s : Sound a = sound_told p in
    let elapsed : ℕ = now - a.period_start in
    picks AllPass (ltb now a.period_start) _ _ (λ _. tt) λ b.
    let started : a.period_start ≤ now = ltb-false now a.period_start b in (
      started,
      picks AllPass (ltb elapsed period) _ _ (λ _. tt) λ c.
          let whole : period ≤ elapsed = ltb-false elapsed period c in
          let rest : elapsed % period < period = mod-lt elapsed (omega arith) in
          (omega arith, (omega arith, (omega arith, tt))),
    )

pub charge_cpu_passes : (a : Account) (amount now : ℕ) → sound a ≡ true → AllPass (charge_cpu a amount now)
unfolding charge_cpu
charge_cpu_passes a amount now p =
    both_pass (refill a now) _ (refill_passes a now p)
    (picks AllPass (ltb (rust.refill a now).self.cpu_left amount) _ _ (λ _. tt) λ b. (ltb-false (rust.refill a now).self.cpu_left amount b, tt))

pub charge_memory_passes : (a : Account) (amount : ℕ) → sound a ≡ true → a.memory_limit < 2 ^ 64 → AllPass (charge_memory a amount)
unfolding charge_memory
charge_memory_passes a amount p w =
    let s : Sound a = sound_told p in
    rw (charge_memory_by a amount)
    (picks (λ (c : rust.Call (rust.Result (Unit {0}))). AllPass (if_ok c.result (sum a.memory_used amount ∷ []))) (leb amount (free a)) _ _
    (λ b. (omega (arith, leb-true amount (free a) b), tt)) (λ _. tt))

-- of any account
pub release_memory_passes : (a : Account) (amount : ℕ) → AllPass (release_memory a amount)
unfolding release_memory
release_memory_passes a amount =
    rw (release_memory_by a amount)
    (picks (λ (c : rust.Call (rust.Result (Unit {0}))). AllPass (if_ok c.result (difference a.memory_used amount ∷ []))) (leb amount a.memory_used) _ _
    (λ b. (leb-true amount a.memory_used b, tt)) (λ _. tt))

pub release_child_passes : (a child : Account) → AllPass (release_child true a child)
unfolding release_child
release_child_passes a child =
    rw (release_child_by a child)
    (picks (λ (c : rust.Call (rust.Result (Unit {0}))). AllPass (if_ok c.result
    (difference a.cpu_reserved child.cpu_allowance ∷ difference a.memory_reserved child.memory_limit ∷ [])))
    (returnable a child) _ _
    (λ b. let r = returnable_told b in (r.cpu, (r.memory, tt))) (λ _. tt))

pub carve_out_passes : (ids : ℕ) (a : Account) (cpu memory now : ℕ) → sound a ≡ true → a.memory_limit < 2 ^ 64 → ids + 1 < 2 ^ 64
    → AllPass (carve_out ids a cpu memory now)
unfolding carve_out
carve_out_passes ids a cpu memory now p w h =
    let s : Sound (renew a now) = sound_told (renew_sound a now p) in
    let n = renewal a now in
    let behind : rust.Call (rust.Result Account) → Type 0 = λ c. AllPass (if_ok c.result
    (difference (renew a now).cpu_left cpu ∷ sum (renew a now).cpu_reserved cpu ∷ sum (renew a now).memory_reserved memory ∷ next_budget_id ids ∷ [])) in
    both_pass (refill a now) _ (refill_passes a now p)
    (rw (carve_out_by a cpu memory now, refill_renews a now)
    (picks behind (leb cpu (renew a now).cpu_left) _ _
    (λ b. let c = leb-true cpu (renew a now).cpu_left b in
    picks behind (leb memory (free (renew a now))) _ _
    (λ d. let m = leb-true memory (free (renew a now)) d in (c, (omega arith, (omega arith, (lt-ltb (ids + 1) (2 ^ 64) h, tt))))) (λ _. tt))
    (λ _. tt)))
