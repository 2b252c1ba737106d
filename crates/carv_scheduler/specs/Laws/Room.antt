-- A sound board's queue has a place for a thread that is not in it: its ids are distinct threads, and neither that one nor idle. Assumes nothing.
use Rattle.std.specs.Prelude.{◌≡◌, ℕ, suc, ◌^◌, ◌<◌, ◌≤◌, true, false, List, [], ◌∷◌, length, ◌==◌, refl}
use Rattle.std.proofs.Common.{sym, ◌∙◌, ap, true≢false, arith, eqb-true, eq-eqb}
use Rattle.std.proofs.lemmas.Bool.{false≢true}
use Rattle.carv_area.specs.Table.{Row, erase, Rising}
use Rattle.carv_area.specs.Laws.Table.{rising_erase, test}
use Rattle.carv_scheduler_spec.specs.declared.Thread.{Thread}
use Rattle.carv_scheduler_spec.specs.Scheduler.{Board, idle, ready, is, thread, has}
use Rattle.carv_scheduler_spec.specs.Sound.{member, distinct}
use Rattle.carv_scheduler_spec.proofs.Laws.SoundFacts.{Sound}
use Rattle.carv_scheduler_spec.proofs.Laws.SoundLaws.{queued_busy, queued_ready, queued_there}
use Rattle.carv_scheduler_spec.proofs.Laws.Reading.{or_true, eqb_turned, has_erase, distinct_first, distinct_rest}

-- one row fewer
length_erased : (m : List (Row Thread)) (i : ℕ) → has m i ≡ true → suc (length (erase i m)) ≡ length m
length_erased [] i h = absurd (false≢true h)
length_erased (r ∷ m) i h = test (r.id == i)
    (λ e. rw e)
    (λ e. rw e (ap suc (length_erased m i (rw e at h))))

-- distinct ids that all have a row are not more than the rows
fewer : (q : List ℕ) (m : List (Row Thread)) (l n : ℕ) → Rising l n m → distinct q ≡ true → ((j : ℕ) → member j q ≡ true → has m j ≡ true) → length q ≤ length m
fewer [] m l n u d h = omega arith
fewer (x ∷ q) m l n u d h =
    let here : has m x ≡ true = h x (rw (eq-eqb x x refl)) in
    let rest : length q ≤ length (erase x m) = fewer q (erase x m) l n (rising_erase m l n x u) (distinct_rest x q d)
    (λ j k. rw (has_erase m x l n u j, other j k, h j (or_true (x == j) k))) in
    omega (arith, length_erased m x here)
  where
    other : (j : ℕ) → member j q ≡ true → (x == j) ≡ false
    other j k = test (x == j)
        (λ e. absurd (true≢false (sym (rw (eqb-true x j e) k) ∙ distinct_first x q d)))
        (λ e. e)

pub queue_room : (b : Board) → Sound b → (i : ℕ) → has b.threads i ≡ true → is ready (thread b.threads i) ≡ false → (i == idle) ≡ false → length b.queue < 127
queue_room b o i h s k =
    let m = b.threads in
    let m₁ = erase idle m in
    let u₁ = rising_erase m 0 (2 ^ 64) idle o.rising in
    let h₁ : has m₁ i ≡ true = rw (has_erase m idle 0 (2 ^ 64) o.rising i, eqb_turned i idle k, h) in
    let few : length b.queue ≤ length (erase i m₁) = fewer b.queue (erase i m₁) 0 (2 ^ 64) (rising_erase m₁ 0 (2 ^ 64) i u₁) o.distinct_queue
    (λ j q. rw (has_erase m₁ i 0 (2 ^ 64) u₁ j, has_erase m idle 0 (2 ^ 64) o.rising j, apart j q, eqb_turned j idle (queued_busy b o j q), queued_there b o j q)) in
    omega (arith, few, length_erased m idle o.idle_here, length_erased m₁ i h₁, o.few)
  where
    apart : (j : ℕ) → member j b.queue ≡ true → (i == j) ≡ false
    apart j q = test (i == j)
        (λ e. absurd (true≢false (sym (rw (eqb-true i j e) (queued_ready b o j q)) ∙ s)))
        (λ e. e)
