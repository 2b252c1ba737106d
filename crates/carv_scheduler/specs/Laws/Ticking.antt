-- `tick` in the area: the current thread's run tick and its charge, and then the waking. Assumes nothing.
use Rattle.std.specs.Prelude.{◌≡◌, ℕ, ◌*◌, ◌<◌, ◌≤◌, Bool, true, false, cond, List, [], ◌∷◌, set, ◌==◌, get_or, slice_index_or, slice_set, refl, None, Ok, Option, Some}
use Rattle.std.proofs.Common.{sym, ◌∙◌, eqb-true, le-leb}
use Rattle.std.proofs.Math.Path.{ap}
use Rattle.std.proofs.lemmas.Bool.{lt-leb}
use Rattle.carv_area.specs.Table.{Row, alter, pick}
use Rattle.carv_area.specs.Lookup.{Here}
use Rattle.carv_objects_spec.specs.Reply.{refuse, accept}
use Rattle.carv_objects_spec.specs.Registry.{Registry, charge_most}
use Rattle.carv_scheduler_spec.specs.declared.Thread.{Thread}
use Rattle.carv_scheduler.specs.Answer.{nothing}
use Rattle.carv_scheduler_spec.specs.Scheduler.{Board, tick_ns, is_due, thread, ticked, with_registry, with_threads, charge_tick, wake_all, tick}
use Rattle.carv_scheduler_spec.proofs.Laws.SoundFacts.{Sound}
use Rattle.carv_scheduler_spec.proofs.Laws.Steps.{registry_kept, charge_tick_kept, ticked_kept}
use Rattle.carv_scheduler_spec.proofs.Laws.Kept.{tick_kept}
use Rattle.carv_scheduler.specs.Area.{decode, sound_area, Is, Serves}
use Rattle.carv_scheduler.specs.Laws.Rows.{row, no_row}
use Rattle.carv_scheduler.specs.Laws.Formed.{Leaves, leaves_as}
use Rattle.carv_scheduler.specs.Laws.AreaSteps as area
use Rattle.carv_scheduler.specs.Laws.AreaLaws.{area_sound, area_formed, is_area}
use Rattle.carv_scheduler.specs.Laws.Calls.{answered}
use Rattle.carv_scheduler.specs.Laws.Places.{here_thread}

-- the board b after the current thread's tick at this time, before the waking
unfoldable pub accounted : (time : ℕ) → Board → Board
accounted time b =
    with_registry (charge_tick time (thread b.threads b.current).budget b.registry) (with_threads (alter b.current ticked b.threads) b.queue b)

-- a tick changes neither state nor wait
picked_ticked : (n x : ℕ) (m : List (Row Thread)) → pick (is_due n) (alter x ticked m) ≡ pick (is_due n) m
picked_ticked n x [] = refl
picked_ticked n x (r ∷ m) = split (r.id == x) refl (picked_ticked n x m)
  where
    split : (c : Bool) → (r.id == x) ≡ c → pick (is_due n) (alter x ticked m) ≡ pick (is_due n) m
        → pick (is_due n) (cond c (record { id = x; it = ticked r.it } ∷ m) (r ∷ alter x ticked m)) ≡ pick (is_due n) (r ∷ m)
    split true e h = ap (λ (y : ℕ). cond (is_due n r.it) (y ∷ pick (is_due n) m) (pick (is_due n) m)) (sym (eqb-true r.id x e))
    split false e h = ap (λ (q : List ℕ). cond (is_due n r.it) (r.id ∷ q) q) h

-- `tick`, question by question
module _ (n : ℕ) (b : Board) where
  pub tick_late : 18_446_744_073_709 < n → tick n b ≡ refuse 3 b
  tick_late h = rw (lt-leb n 18_446_744_073_709 h)

  pub tick_done : n ≤ 18_446_744_073_709 → tick n b ≡ accept None (wake_all (pick (is_due n) (accounted (n * tick_ns) b).threads) (accounted (n * tick_ns) b))
  unfolding accounted
  tick_done h = rw (le-leb n 18_446_744_073_709 h, picked_ticked n b.current b.threads)

-- the charge, with and without a budget
module _ (time : ℕ) (p : Option ℕ) (r : Registry) where
  charge_none : p ≡ None → r ≡ charge_tick time p r
  charge_none e = ap (λ (q : Option ℕ). charge_tick time q r) (sym e)

  charge_some : (i : ℕ) → p ≡ Some i → charge_most i tick_ns time r ≡ charge_tick time p r
  charge_some i e = ap (λ (q : Option ℕ). charge_tick time q r) (sym e)

-- the current thread stands at place i
module _ (time : ℕ) (b : Board) (i : ℕ) (h : Here no_row b.threads b.current i) where
  threads_ticked : set b.threads i (row (slice_index_or b.threads i no_row).id (ticked (slice_index_or b.threads i no_row).it)) ≡ alter b.current ticked b.threads
  threads_ticked =
      ap (λ (y : ℕ). set b.threads i (row y (ticked (slice_index_or b.threads i no_row).it))) h.same ∙ sym (h.changed ticked)

  payer_is : (slice_index_or b.threads i no_row).it.budget ≡ (thread b.threads b.current).budget
  payer_is = sym (ap (λ (t : Thread). t.budget) (here_thread b.threads b.current i h))

  free_is : (slice_index_or b.threads i no_row).it.budget ≡ None
      → area.with_threads (slice_set b.threads i (row (slice_index_or b.threads i no_row).id (ticked (slice_index_or b.threads i no_row).it))) b ≡ accounted time b
  unfolding accounted
  free_is e =
      ap (λ (m : List (Row Thread)). area.with_threads m b) threads_ticked
      ∙ ap (λ (r : Registry). with_registry r (with_threads (alter b.current ticked b.threads) b.queue b)) (charge_none time (thread b.threads b.current).budget b.registry (sym payer_is ∙ e))

  paid_is : (y : ℕ) → (slice_index_or b.threads i no_row).it.budget ≡ Some y
      → with_registry (charge_most y tick_ns time b.registry)
      (area.with_threads (slice_set b.threads i (row (slice_index_or b.threads i no_row).id (ticked (slice_index_or b.threads i no_row).it))) b) ≡ accounted time b
  unfolding accounted
  paid_is y e =
      ap (λ (m : List (Row Thread)). with_registry (charge_most y tick_ns time b.registry) (area.with_threads m b)) threads_ticked
      ∙ ap (λ (r : Registry). with_registry r (with_threads (alter b.current ticked b.threads) b.queue b)) (charge_some time (thread b.threads b.current).budget b.registry y (sym payer_is ∙ e))

pub accounted_kept : (time : ℕ) (b : Board) → Sound b → Sound (accounted time b)
unfolding accounted
accounted_kept time b o =
    registry_kept (charge_tick time (thread b.threads b.current).budget b.registry) (with_threads (alter b.current ticked b.threads) b.queue b)
    (charge_tick_kept time (thread b.threads b.current).budget b.registry o.registry) (ticked_kept b b.current o o.current_here)

-- `account`
module _ (time : ℕ) (a : List ℕ) (s : sound_area a ≡ true) where
  module _ (i : ℕ) (h : Here no_row (decode a).threads (decode a).current i) (p : Option ℕ) (ep : p ≡ (get_or (decode a).threads i no_row).it.budget)
      (a₁ : List ℕ) (l : Leaves a₁ (area.with_threads (slice_set (decode a).threads i (row (slice_index_or (decode a).threads i no_row).id (ticked (slice_index_or (decode a).threads i no_row).it))) (decode a))) where
    pub account_free : p ≡ None → Is a₁ (accounted time (decode a))
    account_free z =
        is_area a₁ (accounted time (decode a)) (leaves_as a₁ _ _ (free_is time (decode a) i h (sym ep ∙ z)) l) (accounted_kept time (decode a) (area_sound a s))

    pub account_paid : (y : ℕ) → p ≡ Some y
        → (a₂ : List ℕ) → Leaves a₂ (with_registry (charge_most y tick_ns time (decode a₁).registry) (decode a₁)) → Is a₂ (accounted time (decode a))
    account_paid y z a₂ m =
        is_area a₂ (accounted time (decode a))
        (leaves_as a₂ _ _ (ap (λ (b : Board). with_registry (charge_most y tick_ns time b.registry) b) l.is ∙ paid_is time (decode a) i h y (sym ep ∙ z)) m)
        (accounted_kept time (decode a) (area_sound a s))

-- `tick`
pub ticks : (n : ℕ) (a : List ℕ) (s : sound_area a ≡ true) → n ≤ 18_446_744_073_709 → (a₁ a₂ : List ℕ) → Is a₁ (accounted (n * tick_ns) (decode a))
    → Is a₂ (wake_all (pick (is_due n) (decode a₁).threads) (decode a₁)) → Serves (tick n) nothing a (Ok tt) a₂
ticks n a s h a₁ a₂ k m =
    answered (tick n) a s _ (tick_done n (decode a) h) (Ok tt) refl refl a₂
    (record { formed = area_formed a₂ m.sound; is = m.same ∙ ap (λ (b : Board). wake_all (pick (is_due n) b.threads) b) k.same })
    (tick_kept n (decode a) (area_sound a s))
