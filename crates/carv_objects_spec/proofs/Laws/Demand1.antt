-- A refused call of the registry leaves what specs/Demand1.antt says, and no call answers 1 or 15. Assumes nothing.
use Rattle.std.specs.Prelude.{◌≡◌, refl, Bool, true, false, cond, not, ◌&&◌, ◌||◌, ℕ, eqb, leb, Option, Some, None}
use Rattle.std.proofs.Common.{ap, ◌∙◌, arith, leb-true}
use Rattle.std.proofs.lemmas.Bool.{eqb-false, not-true}
use Rattle.carv_area.specs.Laws.Table.{test}
use Rattle.carv_budget.specs.Account as account
use Rattle.carv_objects_spec.specs.Kinds.{listed, kind_of, bytes_of, creatable, needs_backing, is_budget_kind}
use Rattle.carv_objects_spec.specs.Reply.{Reply, refuse}
use Rattle.carv_objects_spec.specs.Registry.{Registry, RegistryReply, entry, has, is_budget, account_of, payer_of, pays_for, budget, has_place, has_next}
use Rattle.carv_objects_spec.specs.Book.{Call, create, insert, create_budget, charge_more, uncharge, remove, refill, charge_cpu, pays_for_anything, read_account, charge_of, read_totals}
use Rattle.carv_objects_spec.specs.Runs.{run}
use Rattle.carv_objects_spec.specs.Demand1.{renewal_left, with_renewal}
use Rattle.carv_budget.proofs.Laws.Account.{first, second}
use Rattle.carv_objects_spec.proofs.Laws.Questions.{create_budget_full, create_budget_payer, create_budget_cover, create_budget_carve, create_budget_done, charge_cpu_missing, charge_cpu_above, charge_cpu_done, refill_done}

-- what is shown of a reply, of the board's calls too: refused, it leaves s; and its number is neither 1 nor 15
pub record Keeps {A S : Type 0} (s : S) (z : Reply A S) : Type 0 where
  pub left : (z.number ≡ 0 → ⊥) → z.after ≡ s
  pub not_one : z.number ≡ 1 → ⊥
  pub not_15 : z.number ≡ 15 → ⊥

-- the number of a question that is missed: neither 0, 1 nor 15
abbrev pub answerable : ℕ → Bool
answerable n = leb 2 n && not (eqb n 15)

module _ {A S : Type 0} where
  pub accepted : (s : S) (z : Reply A S) → z.number ≡ 0 → Keeps s z
  accepted s z e = record { left = λ q. absurd (q e); not_one = λ q. omega (arith, e, q); not_15 = λ q. omega (arith, e, q) }

  pub ask : (n : ℕ) (b : Bool) (s : S) {k : Reply A S} → answerable n ≡ true → Keeps s k → Keeps s (cond b k (refuse n s))
  ask n true s h k = k
  ask n false s h k = record {
    left = λ q. refl;
    not_one = λ q. let low = leb-true 2 n (first (leb 2 n) _ h) in omega arith;
    not_15 = eqb-false n 15 (not-true (eqb n 15) (second (leb 2 n) _ h));
  }

-- what a call that is refused leaves, and that it is not refused with 1. P12: nor with 15
pub record Leaves (c : Call) (r : Registry) : Type 0 where
  pub left : ((run c r).number ≡ 0 → ⊥) → (run c r).after ≡ with_renewal (renewal_left c (run c r).number r) r
  pub not_one : (run c r).number ≡ 1 → ⊥
  pub not_15 : (run c r).number ≡ 15 → ⊥

kept : (c : Call) (r : Registry) → ((n : ℕ) → renewal_left c n r ≡ None) → Keeps r (run c r) → Leaves c r
kept c r h k = record { left = λ q. rw (h (run c r).number) (k.left q); not_one = k.not_one; not_15 = k.not_15 }

-- accepted, or refused by a question before the renewal, or by one past it
module _ (c : Call) (r : Registry) where
  leaves_accepted : (run c r).number ≡ 0 → Leaves c r
  leaves_accepted e = record { left = λ q. absurd (q e); not_one = λ q. omega (arith, e, q); not_15 = λ q. omega (arith, e, q) }

  leaves_refused : (n : ℕ) (s : Registry) → run c r ≡ refuse n s → answerable n ≡ true → with_renewal (renewal_left c n r) r ≡ s → Leaves c r
  leaves_refused n s e h w = record {
    left = λ q. rw (e, w);
    not_one = λ q. let z : n ≡ 1 = rw e at q in let low = leb-true 2 n (first (leb 2 n) _ h) in omega arith;
    not_15 = λ q. eqb-false n 15 (not-true (eqb n 15) (second (leb 2 n) _ h)) (rw e at q);
  }

renewed_left : (i time : ℕ) (r : Registry) → is_budget r i ≡ true → with_renewal (Some (i, time)) r ≡ budget i (λ a. account.renew a time) r
renewed_left i time r d = ap (λ (z : RegistryReply). z.after) (refill_done i time r d)

carve_renewal : (parent cpu memory time : ℕ) (r : Registry) (b : Bool) → leb 128 (account.free (account_of r parent)) ≡ b
    → renewal_left (create_budget parent cpu memory time) 12 r ≡ cond b (Some (parent, time)) None
carve_renewal parent cpu memory time r b e = rw e

carve_leaves : (parent cpu memory time : ℕ) (r : Registry) → Leaves (create_budget parent cpu memory time) r
carve_leaves parent cpu memory time r =
    test (has_place r && has_next r)
    (λ c. test (is_budget r parent)
    (λ d. test (leb 128 (account.free (account_of r parent)))
    (λ e. test (leb cpu (account.renew (account_of r parent) time).cpu_left && leb memory (account.free (account.charge (account_of r parent) 128)))
    (λ f. leaves_accepted call r (ap (λ (z : RegistryReply). z.number) (create_budget_done parent cpu memory time r c d e (first cpu_there memory_there f) (second cpu_there memory_there f))))
    (λ f. leaves_refused call r 12 _ (create_budget_carve parent cpu memory time r c d e f) refl
    (ap (λ (o : Option (ℕ × ℕ)). with_renewal o r) (carve_renewal parent cpu memory time r true e) ∙ renewed_left parent time r d)))
    (λ e. leaves_refused call r 12 r (create_budget_cover parent cpu memory time r c d e) refl
    (ap (λ (o : Option (ℕ × ℕ)). with_renewal o r) (carve_renewal parent cpu memory time r false e))))
    (λ d. leaves_refused call r 7 r (create_budget_payer parent cpu memory time r c d) refl refl))
    (λ c. leaves_refused call r 6 r (create_budget_full parent cpu memory time r c) refl refl)
  where
    call : Call
    call = create_budget parent cpu memory time

    cpu_there : Bool
    cpu_there = leb cpu (account.renew (account_of r parent) time).cpu_left

    memory_there : Bool
    memory_there = leb memory (account.free (account.charge (account_of r parent) 128))

cpu_leaves : (i ns time : ℕ) (r : Registry) → Leaves (charge_cpu i ns time) r
cpu_leaves i ns time r =
    test (is_budget r i)
    (λ d. test (leb ns (account.renew (account_of r i) time).cpu_left)
    (λ e. leaves_accepted (charge_cpu i ns time) r (ap (λ (z : RegistryReply). z.number) (charge_cpu_done i ns time r d e)))
    (λ e. leaves_refused (charge_cpu i ns time) r 12 _ (charge_cpu_above i ns time r d e) refl (renewed_left i time r d)))
    (λ d. leaves_refused (charge_cpu i ns time) r 7 r (charge_cpu_missing i ns time r d) refl refl)

pub leaves : (c : Call) (r : Registry) → Leaves c r
leaves (create kind payer backing) r = kept (create kind payer backing) r (λ n. refl)
    (ask 4 (listed kind) r refl (ask 6 (has_place r) r refl (ask 6 (has_next r) r refl
    (ask 7 (is_budget r payer) r refl (ask 12 (leb (bytes_of (kind_of kind)) (account.free (account_of r payer))) r refl
    (ask 13 (creatable (kind_of kind)) r refl (ask 14 (not (needs_backing (kind_of kind)) || backing) r refl (accepted r _ refl))))))))
leaves (insert kind payer bytes) r = kept (insert kind payer bytes) r (λ n. refl)
    (ask 4 (listed kind) r refl (ask 4 (not (is_budget_kind (kind_of kind))) r refl (ask 6 (has_place r) r refl
    (ask 6 (has_next r) r refl (ask 7 (is_budget r payer) r refl
    (ask 12 (leb bytes (account.free (account_of r payer))) r refl (accepted r _ refl)))))))
leaves (create_budget parent cpu memory time) r = carve_leaves parent cpu memory time r
leaves (charge_more i bytes) r = kept (charge_more i bytes) r (λ n. refl)
    (ask 7 (has r i) r refl (ask 12 (leb bytes (account.free (account_of r (payer_of r i)))) r refl (accepted r _ refl)))
leaves (uncharge i bytes) r = kept (uncharge i bytes) r (λ n. refl)
    (ask 7 (has r i) r refl (ask 11 (leb bytes (entry r i).charge) r refl (accepted r _ refl)))
leaves (remove i time) r = kept (remove i time) r (λ n. refl)
    (ask 7 (has r i) r refl (ask 9 (not (eqb i 1)) r refl (ask 10 (not (is_budget r i && pays_for r i)) r refl (accepted r _ refl))))
leaves (refill i time) r = kept (refill i time) r (λ n. refl) (ask 7 (is_budget r i) r refl (accepted r _ refl))
leaves (charge_cpu i ns time) r = cpu_leaves i ns time r
leaves (pays_for_anything i) r = kept (pays_for_anything i) r (λ n. refl) (accepted r _ refl)
leaves (read_account i) r = kept (read_account i) r (λ n. refl) (ask 7 (is_budget r i) r refl (accepted r _ refl))
leaves (charge_of i) r = kept (charge_of i) r (λ n. refl) (ask 7 (has r i) r refl (accepted r _ refl))
leaves (read_totals i) r = kept (read_totals i) r (λ n. refl) (ask 7 (is_budget r i) r refl (accepted r _ refl))

-- only a refusal with 12 leaves a renewal
pub only_12_renews : (c : Call) (n : ℕ) (r : Registry) → eqb n 12 ≡ false → renewal_left c n r ≡ None
only_12_renews (create kind payer backing) n r h = refl
only_12_renews (insert kind payer bytes) n r h = refl
only_12_renews (create_budget parent cpu memory time) n r h = rw h
only_12_renews (charge_more i bytes) n r h = refl
only_12_renews (uncharge i bytes) n r h = refl
only_12_renews (remove i time) n r h = refl
only_12_renews (refill i time) n r h = refl
only_12_renews (charge_cpu i ns time) n r h = rw h
only_12_renews (pays_for_anything i) n r h = refl
only_12_renews (read_account i) n r h = refl
only_12_renews (charge_of i) n r h = refl
only_12_renews (read_totals i) n r h = refl
