-- Question 1 of the exit log: each cause is a listed one. Assumes nothing.
use Rattle.std.specs.Prelude.{◌≡◌, ℕ, ◌+◌, ◌*◌, ◌≤◌, Bool, true, List, drop, slice_index}
use Rattle.std.proofs.Common.{sym, ap, ◌∙◌, arith}
use Rattle.std.proofs.lemmas.Bool.{false≢true}
use Rattle.std.specs.List.{list_all, range_with_len}
use Rattle.carv_area.specs.Lists.{tab}
use Rattle.carv_area.specs.Zero.{all_zero}
use Rattle.carv_objects.specs.Laws.SoundWalk.{Tells}
use Rattle.carv_scheduler_spec.specs.Sound.{each}
use Rattle.carv_scheduler.specs.Area.{cause_listed_at, exits_listed}
use Rattle.carv_scheduler.specs.Laws.SoundWalk.{SoundExits}
use Rattle.carv_scheduler.specs.Laws.Listed.{each_range}

-- what a test of each exit's cause tells, where the rest is in order
pub exits_tell : (u : List ℕ) (n : ℕ) → n ≡ slice_index u 0 → n ≤ 32 → all_zero (drop (n * 2 + 1) u) ≡ true
    → (r : Bool) → r ≡ list_all (cause_listed_at u) (range_with_len 0 n) → Tells r (SoundExits u)
unfolding exits_listed
exits_tell u n e few rest r a =
    let z : r ≡ exits_listed u = a ∙ each_range (cause_listed_at u) (λ i. i) 0 n (λ k. omega arith) ∙ ap (λ (k : ℕ). each (cause_listed_at u) (tab k (λ i. i))) e in
    record {
      so = λ q. record { few = rw e at few; rest = rw e at rest; causes = sym z ∙ q };
      not = λ q S. false≢true (sym q ∙ z ∙ S.causes);
    }
