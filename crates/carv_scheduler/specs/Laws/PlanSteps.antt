-- Planning on the area: putting back, switching, and the whole plan, from what the calls leave. Assumes nothing.
use Rattle.std.specs.Prelude.{◌≡◌, ℕ, ◌+◌, ◌*◌, ◌%◌, ◌^◌, ◌<◌, ◌≤◌, Bool, true, false, cond, not, List, [], ◌∷◌, ◌++◌, length, get_or, ◌==◌, ◌≢◌, slice_index_or, slice_set, refl, Option, Some, Ok, Err}
use Rattle.std.proofs.Common.{arith, sym, ap, ◌∙◌, subst, eq-eqb, ne_eqb, le-leb}
use Rattle.std.proofs.lemmas.Bool.{lt-leb, not-true, not-false}
use Rattle.carv_area.specs.Table.{Row, alter, erase}
use Rattle.carv_area.specs.Rows.{remove_at}
use Rattle.carv_area.specs.Lookup.{Located, Here, Gone}
use Rattle.carv_objects_spec.specs.Reply.{refuse, accept}
use Rattle.carv_scheduler_spec.specs.declared.State.{State}
use Rattle.carv_scheduler_spec.specs.declared.State.TheVariants.{Inactive, Ready, Running, Blocked, Dead}
use Rattle.carv_scheduler_spec.specs.declared.Thread.{Thread}
use Rattle.carv_objects.specs.declared.refusal.Refusal.TheVariants.{Tick}
use Rattle.carv_scheduler.specs.declared.planning.Switch.{Switch}
use Rattle.carv_scheduler.specs.Answer.{switch_of}
use Rattle.carv_scheduler.specs.declared.planning.Chosen.{Chosen}
use Rattle.carv_scheduler_spec.specs.Scheduler.{Board, Choice, idle, tick_ns, ready, running, dead, is, thread, become, put_back, switch_to, switch_value, plan}
use Rattle.carv_scheduler.specs.Area.{decode, sound_area, Serves}
use Rattle.carv_scheduler.specs.Laws.Rows.{no_row}
use Rattle.carv_scheduler.specs.Laws.Formed.{WellFormed, Leaves, leaves_as, unchanged}
use Rattle.carv_scheduler.specs.Laws.AreaSteps.{with_threads, with_head, with_queue}
use Rattle.carv_scheduler.specs.Laws.AreaLaws.{area_sound, area_formed}
use Rattle.carv_scheduler.specs.Laws.Calls.{refused, answered}
use Rattle.carv_scheduler_spec.proofs.Laws.Kept.{plan_kept}
use Rattle.carv_scheduler_spec.proofs.Laws.Switching.{put_back_current}
use Rattle.carv_scheduler_spec.proofs.Laws.Reading.{and_false, thread_alter}
use Rattle.carv_scheduler.specs.Laws.Room.{queue_room}
use Rattle.carv_scheduler.specs.Laws.RowWords.{with_state, state_of}
use Rattle.carv_scheduler.specs.Laws.Places.{here_has, here_thread}
use Rattle.carv_scheduler.specs.Laws.Planning.{Stands, Backs, Chooses, Told, Runs, Leaving, Switches, choice, choice_of, taken}

not_running : (y : State) → (y ≡ Running → ⊥) → running y ≡ false
not_running Inactive n = refl
not_running Ready n = refl
not_running Running n = absurd (n refl)
not_running (Blocked w) n = refl
not_running Dead n = refl

-- Putting back: a board whose current thread, x, stays, and one whose current thread goes to the queue.

module _ (b : Board) (x : ℕ) (ex : x ≡ b.current) where
  back_stays : is running (thread b.threads x) ≡ false → put_back b ≡ b
  back_stays f = let e : is running (thread b.threads b.current) ≡ false = rw ex at f in rw (e, and_false (not (b.current == idle)))

  back_idle : x ≡ idle → put_back b ≡ b
  back_idle i = rw (eq-eqb b.current idle (sym ex ∙ i))

  back_goes : (x ≢ idle) → is running (thread b.threads x) ≡ true
      → put_back b ≡ with_queue (b.queue ++ (x ∷ [])) (with_threads (alter x (become Ready) b.threads) b)
  back_goes n f =
      let e : is running (thread b.threads b.current) ≡ true = rw ex at f in
      rw (ne_eqb b.current idle (λ q. n (ex ∙ q)), e, ← ex)

-- the area a, whose current thread is x
module _ (a : List ℕ) (s : sound_area a ≡ true) (x : ℕ) (ex : x ≡ (decode a).current) where
  left_so : put_back (decode a) ≡ decode a → (r : Bool) → r ≡ is dead (thread (decode a).threads x) → Backs x a r a
  left_so e r d = (d ∙ sym (ap (λ (b : Board). is dead (thread b.threads x)) e), leaves_as a _ _ (sym e) (unchanged a (area_formed a s)))

  -- it stands at place i, and is in state y
  module _ (i : ℕ) (h₀ : Here no_row (decode a).threads (decode a).current i) (y : State) (ey : y ≡ (get_or (decode a).threads i no_row).it.state) where
    h : Here no_row (decode a).threads x i
    h = subst (λ (z : ℕ). Here no_row (decode a).threads z i) (sym ex) h₀

    here : (s : State → Bool) → s y ≡ is s (thread (decode a).threads x)
    here s = ap s ey ∙ sym (ap (is s) (here_thread (decode a).threads x i h))

    pub backs_not : (y ≡ Running → ⊥) → (r : Bool) → r ≡ dead y → Backs x a r a
    backs_not n r e = left_so (back_stays (decode a) x ex (sym (here running) ∙ not_running y n)) r (e ∙ here dead)

    module _ (is_running : y ≡ Running) where
      pub backs_idle : x ≡ idle → Backs x a false a
      backs_idle e = left_so (back_idle (decode a) x ex e) false (sym (ap dead is_running) ∙ here dead)

      module _ (n : x ≡ idle → ⊥) (a₁ : List ℕ) (l : Leaves a₁ (with_threads (slice_set (decode a).threads i (with_state Ready (slice_index_or (decode a).threads i no_row))) (decode a))) where
        pub backs_room : length (decode a₁).queue < 127
        backs_room =
            let q = queue_room (decode a) (area_sound a s) x (here_has (decode a).threads x i h) (sym (here ready) ∙ ap ready is_running) (ne_eqb x idle n) in
            let e = ap (λ (b : Board). length b.queue) l.is in
            omega arith

        pub backs_goes : (a₂ : List ℕ) → Leaves a₂ (with_queue ((decode a₁).queue ++ (x ∷ [])) (decode a₁)) → Backs x a false a₂
        backs_goes a₂ k =
            let e = back_goes (decode a) x ex n (sym (here running) ∙ ap running is_running) in
            let m = (decode a).threads in
            let t : thread (alter x (become Ready) m) x ≡ become Ready (thread m x) =
            thread_alter m x (become Ready) (here_has m x i h) x ∙ ap (λ (z : Bool). cond z (become Ready (thread m x)) (thread m x)) (eq-eqb x x refl) in (
              sym (ap (λ (b : Board). is dead (thread b.threads x)) e ∙ ap (is dead) t),
              leaves_as a₂ _ _ (ap (λ (b : Board). with_queue (b.queue ++ (x ∷ [])) b) l.is
                  ∙ ap (λ (z : List (Row Thread)). with_queue ((decode a).queue ++ (x ∷ [])) (with_threads z (decode a))) (state_of m x i h Ready) ∙ sym e) k,
            )

-- The chosen thread runs.
pub runs_at : (a : List ℕ) (x i : ℕ) → Here no_row (decode a).threads x i → (a' : List ℕ)
    → Leaves a' (with_threads (slice_set (decode a).threads i (with_state Running (slice_index_or (decode a).threads i no_row))) (decode a)) → Runs x a a'
runs_at a x i h a' l = leaves_as a' _ _ (ap (λ (m : List (Row Thread)). with_threads m (decode a)) (state_of (decode a).threads x i h Running)) l

pub runs_gone : (a : List ℕ) → WellFormed a → (x : ℕ) → Gone (decode a).threads x → Runs x a a
runs_gone a k x g = leaves_as a _ _ (sym (ap (λ (m : List (Row Thread)). with_threads m (decode a)) (g.changed (become Running)))) (unchanged a k)

-- A dead thread that is left goes.
module _ (a : List ℕ) (k : WellFormed a) (x : ℕ) (g : Bool) where
  goes : (m : List (Row Thread)) → cond g (erase x (decode a).threads) (decode a).threads ≡ m → (a' : List ℕ) → Leaves a' (with_threads m (decode a)) → Leaving x g a a'
  goes m e a' l = leaves_as a' _ _ (ap (λ (z : List (Row Thread)). with_threads z (decode a)) (sym e)) l

  pub leaves_not : not g ≡ true → Leaving x g a a
  leaves_not e = goes (decode a).threads (rw (not-true g e)) a (unchanged a k)

  module _ (e : not g ≡ false) where
    pub leaves_at : (i : ℕ) → Here no_row (decode a).threads x i → (a' : List ℕ) → Leaves a' (with_threads (remove_at (decode a).threads i) (decode a)) → Leaving x g a a'
    leaves_at i h a' l = goes (remove_at (decode a).threads i) (rw (not-false g e) h.erased) a' l

    pub leaves_gone : Gone (decode a).threads x → Leaving x g a a
    leaves_gone h = goes (decode a).threads (rw (not-false g e) h.erased) a (unchanged a k)

-- The switch of the board b, whose current thread is old, to x.
module _ (b : Board) (x old : ℕ) (eo : old ≡ b.current) (b₁ : Board) (e₁ : b₁ ≡ with_threads (alter x (become Running) b.threads) b) where
  stayed : x ≡ old → b₁ ≡ switch_to (choice x b) b
  stayed e =
      let q : x ≡ b.current = e ∙ eo in
      e₁ ∙ rw (eq-eqb x b.current q, q)

  module _ (n : x ≡ old → ⊥) (g : Bool) (eg : g ≡ is dead (thread b.threads old)) (b₂ b₃ : Board) (e₂ : b₂ ≡ with_head x ((b₁.switches + 1) % 2 ^ 64) b₁)
      (e₃ : b₃ ≡ with_threads (cond g (erase old b₂.threads) b₂.threads) b₂) where
    moved : b₃ ≡ switch_to (choice x b) b
    moved =
        let m = alter x (become Running) b.threads in
        let q : b₂ ≡ with_head x ((b.switches + 1) % 2 ^ 64) (with_threads m b) = e₂ ∙ ap (λ (z : Board). with_head x ((z.switches + 1) % 2 ^ 64) z) e₁ in
        let d : g ≡ is dead (thread b.threads b.current) = rw eo at eg in
        e₃ ∙ ap (λ (z : Board). with_threads (cond g (erase old z.threads) z.threads) z) q ∙ rw (ne_eqb x b.current (λ z. n (z ∙ sym eo)), ← d, eo)

module _ (a : List ℕ) (x old : ℕ) (eo : old ≡ (decode a).current) (r : Option Switch) (v : Told old x (decode a) r) (a₁ : List ℕ) (l₁ : Runs x a a₁) where
  said : Told (decode a).current x (decode a) r
  said = subst (λ (z : ℕ). Told z x (decode a) r) eo v

  pub switches_not : x ≡ old → Switches x a r a₁
  switches_not e = record { told = said; area = record { formed = l₁.formed; is = stayed (decode a) x old eo (decode a₁) l₁.is e } }

  pub switches_so : (x ≢ old) → (g : Bool) → g ≡ is dead (thread (decode a).threads old) → (a₂ : List ℕ) → Leaves a₂ (with_head x (((decode a₁).switches + 1) % 2 ^ 64) (decode a₁))
      → (a₃ : List ℕ) → Leaving old g a₂ a₃ → Switches x a r a₃
  switches_so n g eg a₂ l₂ a₃ l₃ = record {
    told = said;
    area = record { formed = l₃.formed; is = moved (decode a) x old eo (decode a₁) l₁.is n g eg (decode a₂) (decode a₃) l₂.is l₃.is };
  }

-- The plan.
module _ (n : ℕ) (b : Board) where
  plan_late : 18_446_744_073_709 < n → plan n b ≡ refuse 3 b
  plan_late h = rw (lt-leb n 18_446_744_073_709 h)

  plan_done : n ≤ 18_446_744_073_709
      → plan n b ≡ accept (Some (switch_value b.current (choice_of (n * tick_ns) (put_back b)) (put_back b))) (switch_to (choice_of (n * tick_ns) (put_back b)) (put_back b))
  plan_done h = rw (le-leb n 18_446_744_073_709 h)

module _ (a : List ℕ) (s : sound_area a ≡ true) (n : ℕ) where
  pub plan_refused : 18_446_744_073_709 < n → Serves (plan n) switch_of a (Err Tick) a
  plan_refused h = refused (plan n) a s Tick (plan_late n (decode a) h)

  module _ (old : ℕ) (eo : old ≡ (decode a).current) (g : Bool) (a₁ : List ℕ) (k₁ : Backs old a g a₁) (time : ℕ) (c : Chosen) (a₂ : List ℕ) (k₂ : Chooses time a₁ c a₂) where
    board₁ : decode a₁ ≡ put_back (decode a)
    board₁ = k₁.1.is

    pub planned_formed : WellFormed a₂
    planned_formed = k₂.area.formed

    pub planned_current : old ≡ (decode a₂).current
    planned_current = eo ∙ sym (ap (λ (b : Board). b.current) k₂.area.is ∙ ap (λ (b : Board). b.current) board₁ ∙ put_back_current (decode a))

    threads₂ : (decode a₂).threads ≡ (decode a₁).threads
    threads₂ = ap (λ (b : Board). b.threads) k₂.area.is

    pub planned_dead : g ≡ is dead (thread (decode a₂).threads old)
    planned_dead = k₁.0 ∙ sym (ap (λ (m : List (Row Thread)). is dead (thread m old)) (threads₂ ∙ ap (λ (b : Board). b.threads) board₁))

    pub planned_here : Stands c a₂
    planned_here = subst (λ (m : List (Row Thread)). Located no_row m c.id c.at) (sym threads₂) k₂.here

    pub planned : n ≤ 18_446_744_073_709 → time ≡ n * tick_ns → (r : Option Switch) (a₃ : List ℕ) → Switches c.id a₂ r a₃ → Serves (plan n) switch_of a (Ok r) a₃
    planned h et r a₃ k₃ =
        let b = put_back (decode a) in
        let z = choice_of (n * tick_ns) b in
        let q : choice_of time (decode a₁) ≡ z = ap (λ (u : Board). choice_of time u) board₁ ∙ ap (λ (t : ℕ). choice_of t b) et in
        let e₂ : decode a₂ ≡ taken z b = k₂.area.is ∙ ap (λ (u : Choice). taken u (decode a₁)) q ∙ ap (λ (u : Board). taken z u) board₁ in
        let x : c.id ≡ z.next = k₂.next ∙ ap (λ (u : Choice). u.next) q in
        let v : switch_value (decode a₂).current (choice c.id (decode a₂)) (decode a₂) ≡ switch_value (decode a).current z b =
        ap (λ (u : Board). switch_value u.current (choice c.id u) u) e₂
        ∙ ap (λ (i : ℕ). switch_value b.current (choice i (taken z b)) (taken z b)) x
        ∙ ap (λ (o : ℕ). switch_value o z b) (put_back_current (decode a)) in
        answered (plan n) a s _ (plan_done n (decode a) h) (Ok r) refl (k₃.told ∙ ap Some v) a₃
        (leaves_as a₃ _ _ (ap (λ (u : Board). switch_to (choice c.id u) u) e₂ ∙ ap (λ (i : ℕ). switch_to (choice i (taken z b)) (taken z b)) x) k₃.area)
        (plan_kept n (decode a) (area_sound a s))
