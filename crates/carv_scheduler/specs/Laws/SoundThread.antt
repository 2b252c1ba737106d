-- The tests of one thread's words are question 1 of it: its codes are listed, and it passes the tests of specs/Sound.antt. Assumes nothing.
use Rattle.std.specs.Prelude.{◌≡◌, ℕ, Bool, true, cond, ◌&&◌, ◌||◌, List, ◌==◌, nat_le, ◌+◌, ◌*◌, slice_index, is_none}
use Rattle.std.proofs.Common.{sym, ap, ◌∙◌, add_assoc}
use Rattle.carv_budget.proofs.Laws.Account.{first, second}
use Rattle.carv_objects_spec.specs.Sound.{all}
use Rattle.carv_objects_spec.proofs.Laws.SoundLaws.{all_told, all_shown}
use Rattle.carv_scheduler_spec.specs.Scheduler.{Board, idle, ready, running, dead, is}
use Rattle.carv_scheduler_spec.specs.Sound.{member, implies, same, unpaid, thread_tests}
use Rattle.carv_scheduler_spec.proofs.Laws.Codes.{dead_from, none_from}
use Rattle.carv_scheduler.specs.Laws.Listed.{ready_at, running_at}
use Rattle.carv_scheduler.specs.Area.{state_listed_at, budget_listed_at, spaces_listed_at, thread_listed}
use Rattle.carv_scheduler.specs.Laws.SoundWalk.{id_at, it_at, wait_fits, space_fits, Fits}

-- What question 1 asks of the thread at place i: that its codes are listed, and the tests of carv_scheduler_spec/specs/Sound.antt.
module _ (b : Board) (w : List ℕ) (i : ℕ) where
  -- words by their place in the row
  further : (x y : ℕ) → slice_index w (i * 21 + x + y) ≡ slice_index w (i * 21 + (x + y))
  further x y = ap (λ (o : ℕ). slice_index w o) (add_assoc (i * 21) x y)

  wait_is : wait_fits (slice_index w (i * 21 + 2)) (slice_index w (i * 21 + 2 + 1)) (slice_index w (i * 21 + 2 + 2))
      ≡ wait_fits (slice_index w (i * 21 + 2)) (slice_index w (i * 21 + 3)) (slice_index w (i * 21 + 4))
  wait_is = λ u. wait_fits (slice_index w (i * 21 + 2)) (further 2 1 u) (further 2 2 u)

  spaces_is : spaces_listed_at w (i * 21 + 7) ≡ space_fits (slice_index w (i * 21 + 7)) (slice_index w (i * 21 + 8)) (slice_index w (i * 21 + 9)) (slice_index w (i * 21 + 10))
  spaces_is = λ u. space_fits (slice_index w (i * 21 + 7)) (further 7 1 u) (further 7 2 u) (further 7 3 u)

  budget_is : cond (slice_index w (i * 21 + 5) == 0) (slice_index w (i * 21 + 5 + 1) == 0) (slice_index w (i * 21 + 5) == 1)
      ≡ cond (slice_index w (i * 21 + 5) == 0) (slice_index w (i * 21 + 6) == 0) (slice_index w (i * 21 + 5) == 1)
  budget_is = λ u. cond (slice_index w (i * 21 + 5) == 0) (further 5 1 u == 0) (slice_index w (i * 21 + 5) == 1)

  is_ready : is ready (it_at w i) ≡ (slice_index w (i * 21 + 2) == 2)
  is_ready = ready_at w i

  is_running : is running (it_at w i) ≡ (slice_index w (i * 21 + 2) == 3)
  is_running = running_at w i

  is_dead : (nat_le 1 (slice_index w (i * 21 + 2)) && nat_le (slice_index w (i * 21 + 2)) 5) ≡ true → is dead (it_at w i) ≡ (slice_index w (i * 21 + 2) == 5)
  is_dead = dead_from (slice_index w (i * 21 + 2)) (slice_index w (i * 21 + 2 + 1)) (slice_index w (i * 21 + 2 + 2))

  unbudgeted : is_none (it_at w i).budget ≡ (slice_index w (i * 21 + 5) == 0)
  unbudgeted = none_from (slice_index w (i * 21 + 5)) (slice_index w (i * 21 + 5 + 1))

  pub tests_told : thread_listed w i ≡ true → all (thread_tests b (id_at w i) (it_at w i)) ≡ true → Fits w b.current i (member (id_at w i) b.queue)
  tests_told l h =
      let (ready, (dead, (running, (paid, z)))) = all_told (thread_tests b (id_at w i) (it_at w i)) h in
      let state = first (state_listed_at w (i * 21 + 2)) _ l in
      let range = first (nat_le 1 (slice_index w (i * 21 + 2)) && nat_le (slice_index w (i * 21 + 2)) 5) _ state in
      let rest = second (state_listed_at w (i * 21 + 2)) _ l in
      record {
        state = rw (range, rw is_ready at ready, rw (is_dead range) at dead, rw is_running at running);
        wait = sym wait_is ∙ second (nat_le 1 (slice_index w (i * 21 + 2)) && nat_le (slice_index w (i * 21 + 2)) 5) _ state;
        budget = rw (sym budget_is ∙ first (budget_listed_at w (i * 21 + 5)) _ rest, rw unbudgeted at paid);
        space = sym spaces_is ∙ second (budget_listed_at w (i * 21 + 5)) _ rest;
      }

  module _ (k : Fits w b.current i (member (id_at w i) b.queue)) where
    listed : (nat_le 1 (slice_index w (i * 21 + 2)) && nat_le (slice_index w (i * 21 + 2)) 5) ≡ true
    listed = first (nat_le 1 (slice_index w (i * 21 + 2)) && nat_le (slice_index w (i * 21 + 2)) 5) _ k.state

    pub listed_shown : thread_listed w i ≡ true
    listed_shown = rw (
      listed,
      wait_is ∙ k.wait,
      budget_is ∙ first (cond (slice_index w (i * 21 + 5) == 0) (slice_index w (i * 21 + 6) == 0) (slice_index w (i * 21 + 5) == 1)) _ k.budget,
      spaces_is ∙ k.space,
    )

    pub tests_shown : all (thread_tests b (id_at w i) (it_at w i)) ≡ true
    tests_shown =
        let ready : Bool = implies (slice_index w (i * 21 + 2) == 2) (id_at w i == idle || member (id_at w i) b.queue) in
        let dead : Bool = implies (slice_index w (i * 21 + 2) == 5) (id_at w i == b.current) in
        let running : Bool = implies (slice_index w (i * 21 + 2) == 3) (id_at w i == idle || id_at w i == b.current) in
        let h = second (nat_le 1 (slice_index w (i * 21 + 2)) && nat_le (slice_index w (i * 21 + 2)) 5) (ready && (dead && running)) k.state in
        let d = second ready (dead && running) h in
        all_shown (thread_tests b (id_at w i) (it_at w i)) (
          ap (λ (x : Bool). implies x (id_at w i == idle || member (id_at w i) b.queue)) is_ready ∙ first ready (dead && running) h,
          (
            ap (λ (x : Bool). implies x (id_at w i == b.current)) (is_dead listed) ∙ first dead running d,
            (
              ap (λ (x : Bool). implies x (id_at w i == idle || id_at w i == b.current)) is_running ∙ second dead running d,
              (
                ap (λ (x : Bool). same x (unpaid (id_at w i))) unbudgeted
                    ∙ second (cond (slice_index w (i * 21 + 5) == 0) (slice_index w (i * 21 + 6) == 0) (slice_index w (i * 21 + 5) == 1)) (same (slice_index w (i * 21 + 5) == 0) (unpaid (id_at w i))) k.budget,
                tt,
              ),
            ),
          ),
        )
