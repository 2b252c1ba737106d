-- A refused call leaves what specs/Demand1.antt says, and no call on a board answers 1 or 15. Assumes nothing.
use Rattle.std.specs.Prelude.{◌≡◌, refl, false, not, ℕ, eqb, ltb, length, Option, None}
use Rattle.std.proofs.Common.{sym, ap, ◌∙◌}
use Rattle.std.proofs.lemmas.Bool.{eqb-false}
use Rattle.carv_objects_spec.specs.Registry.{Registry}
use Rattle.carv_objects_spec.proofs.Laws.Demand1 as objects
use Rattle.carv_objects_spec.proofs.Laws.Demand1.{Keeps, accepted, ask}
use Rattle.carv_scheduler_spec.specs.Scheduler as scheduler
use Rattle.carv_scheduler_spec.specs.Scheduler.{Board, idle, inactive, running, blocked, is, wait_listed, cause_listed, most_threads, tick_fits, thread, has}
use Rattle.carv_scheduler_spec.specs.Book.{Call, on_objects, create_user_thread, start, block_current, wake, is_blocked_on, kill, tick, plan, read_thread, read_current, read_switches, exit_of}
use Rattle.carv_scheduler_spec.specs.Runs.{run}
use Rattle.carv_scheduler_spec.specs.Demand1.{renewal_left, with_renewal}

-- what a call that is refused leaves, and that it is not refused with 1. P12: nor with 15
pub record Leaves (c : Call) (b : Board) : Type 0 where
  pub left : ((run c b).number ≡ 0 → ⊥) → (run c b).after ≡ with_renewal (renewal_left c (run c b).number b) b
  pub not_one : (run c b).number ≡ 1 → ⊥
  pub not_15 : (run c b).number ≡ 15 → ⊥

kept : (c : Call) (b : Board) → ((n : ℕ) → renewal_left c n b ≡ None) → Keeps b (run c b) → Leaves c b
kept c b h k = record { left = λ q. k.left q ∙ ap (λ (o : Option (ℕ × ℕ)). with_renewal o b) (sym (h (run c b).number)); not_one = k.not_one; not_15 = k.not_15 }

pub leaves : (c : Call) (b : Board) → Leaves c b
leaves (on_objects c) b = let h = objects.leaves c b.registry in
    record { left = λ q. ap (λ (r : Registry). scheduler.with_registry r b) (h.left q); not_one = h.not_one; not_15 = h.not_15 }
leaves (create_user_thread i budget stack) b = kept (create_user_thread i budget stack) b (λ n. refl)
    (ask 5 (not (has b.threads i)) b refl (ask 5 (not (eqb i 0)) b refl (ask 5 (not (eqb i idle)) b refl
    (ask 6 (ltb (length b.threads) most_threads) b refl (ask 14 stack b refl (accepted b _ refl))))))
leaves (start i space cspace root context) b = kept (start i space cspace root context) b (λ n. refl)
    (ask 7 (has b.threads i) b refl (ask 8 (is inactive (thread b.threads i)) b refl (accepted b _ refl)))
leaves (block_current kind number) b = kept (block_current kind number) b (λ n. refl)
    (ask 4 (wait_listed kind) b refl (ask 8 (is running (thread b.threads b.current)) b refl
    (ask 8 (not (eqb b.current idle)) b refl (accepted b _ refl))))
leaves (wake i r) b = kept (wake i r) b (λ n. refl)
    (ask 7 (has b.threads i) b refl (ask 8 (is blocked (thread b.threads i)) b refl (accepted b _ refl)))
leaves (is_blocked_on i kind number) b = kept (is_blocked_on i kind number) b (λ n. refl) (ask 4 (wait_listed kind) b refl (accepted b _ refl))
leaves (kill i cause) b = kept (kill i cause) b (λ n. refl)
    (ask 4 (cause_listed cause) b refl (ask 5 (not (eqb i idle)) b refl (ask 7 (has b.threads i) b refl (accepted b _ refl))))
leaves (tick m) b = kept (tick m) b (λ n. refl) (ask 3 (tick_fits m) b refl (accepted b _ refl))
leaves (plan m) b = kept (plan m) b (λ n. refl) (ask 3 (tick_fits m) b refl (accepted b _ refl))
leaves (read_thread i) b = kept (read_thread i) b (λ n. refl) (ask 7 (has b.threads i) b refl (accepted b _ refl))
leaves read_current b = kept read_current b (λ n. refl) (accepted b _ refl)
leaves read_switches b = kept read_switches b (λ n. refl) (accepted b _ refl)
leaves (exit_of i) b = kept (exit_of i) b (λ n. refl) (accepted b _ refl)

-- only a refusal with 12 leaves a renewal
pub only_12_renews : (c : Call) (n : ℕ) (b : Board) → eqb n 12 ≡ false → renewal_left c n b ≡ None
only_12_renews (on_objects c) n b h = objects.only_12_renews c n b.registry h
only_12_renews (create_user_thread i budget stack) n b h = refl
only_12_renews (start i space cspace root context) n b h = refl
only_12_renews (block_current kind number) n b h = refl
only_12_renews (wake i r) n b h = refl
only_12_renews (is_blocked_on i kind number) n b h = refl
only_12_renews (kill i cause) n b h = refl
only_12_renews (tick m) n b h = refl
only_12_renews (plan m) n b h = refl
only_12_renews (read_thread i) n b h = refl
only_12_renews read_current n b h = refl
only_12_renews read_switches n b h = refl
only_12_renews (exit_of i) n b h = refl

-- so question 1 leaves none
pub one_renews_not : (c : Call) (b : Board) → renewal_left c 1 b ≡ None
one_renews_not c b = only_12_renews c 1 b refl

-- a call that is refused with another number leaves the board as it was
pub stays_unless_12 : (c : Call) (b : Board) → eqb (run c b).number 0 ≡ false → eqb (run c b).number 12 ≡ false → (run c b).after ≡ b
stays_unless_12 c b not_0 not_12 =
    (leaves c b).left (eqb-false (run c b).number 0 not_0) ∙ ap (λ (o : Option (ℕ × ℕ)). with_renewal o b) (only_12_renews c (run c b).number b not_12)
