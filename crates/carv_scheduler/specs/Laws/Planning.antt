-- Planning on the area: what each function of src/planning.rt leaves, and how it follows from what its calls leave. Assumes nothing.
use Rattle.std.specs.Prelude.{◌≡◌, ℕ, ◌+◌, ◌<◌, ◌≤◌, ◌%◌, ◌^◌, Bool, true, false, cond, List, length, slice_index, slice_index_or, refl, Option, Some, None}
use Rattle.std.proofs.Common.{arith, sym, ap, ◌∙◌, subst}
use Rattle.std.proofs.lemmas.Option.{some_pair_parts}
use Rattle.carv_area.specs.Table.{Row, alter, erase}
use Rattle.carv_area.specs.Rows.{remove_at}
use Rattle.carv_area.specs.Parts.{put_part}
use Rattle.carv_area.specs.Lookup.{Located, Here}
use Rattle.carv_objects_spec.specs.Registry as registry
use Rattle.carv_objects_spec.specs.Registry.{Registry, has_cpu}
use Rattle.carv_objects.specs.Area as objects
use Rattle.carv_scheduler_spec.specs.declared.Thread.{Thread}
use Rattle.carv_scheduler.specs.declared.planning.Switch.{Switch}
use Rattle.carv_scheduler.specs.declared.planning.Chosen.{Chosen}
use Rattle.carv_scheduler.specs.Answer.{switch_of}
use Rattle.carv_scheduler_spec.specs.Scheduler.{Board, Choice, idle, dead, is, thread, become, with_registry, renew_for, has_time, put_back, choose, switch_to, switch_value}
use Rattle.carv_scheduler_spec.specs.declared.State.TheVariants.{Running}
use Rattle.carv_scheduler.specs.Area.{registry_part, decode}
use Rattle.carv_scheduler.specs.Laws.Rows.{no_row}
use Rattle.carv_scheduler.specs.Laws.Formed.{WellFormed, Leaves, leaves_as, unchanged, registry_written}
use Rattle.carv_scheduler.specs.Laws.AreaSteps.{with_threads, with_queue}
use Rattle.carv_scheduler_spec.proofs.Laws.Switching.{eligible}
use Rattle.carv_scheduler.specs.Laws.Walk.{Walked, walk, tested, choice_at, walk_within, choose_walk, Walking, walking_starts, walking_on, walking_found, walking_ends}

-- the place behind one that was found: a guess, which decides nothing
abbrev pub guess_behind : Option ℕ → ℕ
guess_behind (Some i) = (i + 1) % 2 ^ 64
guess_behind None = 0

-- The contracts.

-- the place of a thread that was chosen is its place in the area a
abbrev pub Stands : Chosen → List ℕ → Type 0
Stands c a = Located no_row (decode a).threads c.id c.at

-- the budget i is renewed, if it is live
pub record Renewing (time i : ℕ) (a : List ℕ) (r : Bool) (a' : List ℕ) : Type 0 where
  pub answer : r ≡ has_cpu (registry.refill i time (decode a).registry).after i
  pub area : Leaves a' (with_registry (registry.refill i time (decode a).registry).after (decode a))

-- the budget p, or none, is renewed
pub record Tests (time : ℕ) (p : Option ℕ) (a : List ℕ) (r : Bool) (a' : List ℕ) : Type 0 where
  pub answer : r ≡ has_time p (renew_for time p (decode a).registry)
  pub area : Leaves a' (with_registry (renew_for time p (decode a).registry) (decode a))

abbrev pub is_at : Option ℕ → Bool
is_at (Some k) = true
is_at None = false

-- the thread i is tested, and stands at the place p
pub record Tries (time i : ℕ) (a : List ℕ) (p : Option ℕ) (a' : List ℕ) : Type 0 where
  pub answer : is_at p ≡ eligible time (decode a).threads i (decode a).registry
  pub here : (k : ℕ) → p ≡ Some k → Here no_row (decode a).threads i k
  pub area : Leaves a' (with_registry (tested time (decode a).threads i (decode a).registry) (decode a))

abbrev pub queue_place : Option (ℕ × ℕ) → Option ℕ
queue_place (Some (k, i)) = Some k
queue_place None = None

-- the walk along the queue of the area a
abbrev pub walk_of : ℕ → Board → Walked
walk_of time b = walk time b.threads b.queue b.registry

pub record Walks (time : ℕ) (a : List ℕ) (p : Option (ℕ × ℕ)) (a' : List ℕ) : Type 0 where
  pub place : queue_place p ≡ (walk_of time (decode a)).place
  pub here : (k i : ℕ) → p ≡ Some (k, i) → Here no_row (decode a).threads (slice_index (decode a).queue k) i
  pub area : Leaves a' (with_registry (walk_of time (decode a)).registry (decode a))

abbrev pub choice_of : ℕ → Board → Choice
choice_of time b = choose time b.threads b.queue b.registry

-- the choice is made: its thread is out of the queue
abbrev pub taken : Choice → Board → Board
taken c b = record { registry = c.registry; threads = b.threads; queue = c.rest; current = b.current; switches = b.switches; exits = b.exits }

pub record Chooses (time : ℕ) (a : List ℕ) (r : Chosen) (a' : List ℕ) : Type 0 where
  pub next : r.id ≡ (choice_of time (decode a)).next
  pub here : Stands r a
  pub area : Leaves a' (taken (choice_of time (decode a)) (decode a))

-- the current thread x is put back, and r says whether it is dead
abbrev pub Backs : ℕ → List ℕ → Bool → List ℕ → Type 0
Backs x a r a' = (r ≡ is dead (thread (put_back (decode a)).threads x)) × Leaves a' (put_back (decode a))

-- the choice i, out of the queue already
abbrev pub choice : ℕ → Board → Choice
choice i b = record { next = i; rest = b.queue; registry = b.registry }

-- the switch r from old to i
abbrev pub Told : (old i : ℕ) → Board → Option Switch → Type 0
Told old i b r = switch_of r ≡ Some (switch_value old (choice i b) b)

abbrev pub Runs : ℕ → List ℕ → List ℕ → Type 0
Runs i a a' = Leaves a' (with_threads (alter i (become Running) (decode a).threads) (decode a))

abbrev pub Leaving : ℕ → Bool → List ℕ → List ℕ → Type 0
Leaving i gone a a' = Leaves a' (with_threads (cond gone (erase i (decode a).threads) (decode a).threads) (decode a))

pub record Switches (i : ℕ) (a : List ℕ) (r : Option Switch) (a' : List ℕ) : Type 0 where
  pub told : Told (decode a).current i (decode a) r
  pub area : Leaves a' (switch_to (choice i (decode a)) (decode a))

-- Renewing and testing.

pub renewing : (a : List ℕ) → WellFormed a → (time i : ℕ) (r : Bool) (p : List ℕ) → length p ≡ 45_072 → objects.Renews i time (registry_part a) r p
    → Renewing time i a r (put_part 0 45_072 a p)
renewing a k time i r p z w = record { answer = w.answer; area = registry_written a k p _ z w.area }

module _ (time : ℕ) (a : List ℕ) (k : WellFormed a) where
  -- p is the budget of a thread's record, and o what was read
  module _ (p o : Option ℕ) (e : o ≡ p) where
    pub tests_free : o ≡ None → Tests time p a true a
    tests_free z = subst (λ (q : Option ℕ). Tests time q a true a) (sym z ∙ e) (record { answer = refl; area = unchanged a k })

    pub tests_budget : (i : ℕ) → o ≡ Some i → (r : Bool) (a' : List ℕ) → Renewing time i a r a' → Tests time p a r a'
    tests_budget i z r a' w = subst (λ (q : Option ℕ). Tests time q a r a') (sym z ∙ e) (record { answer = w.answer; area = w.area })

-- The walk: a₀ is the area as it was, a as it is at place i of the queue.
pub record Turn (time : ℕ) (a₀ : List ℕ) (n : ℕ) (a : List ℕ) (i : ℕ) : Type 0 where
  pub count : n ≡ length (decode a₀).queue
  pub formed : WellFormed a
  pub same : decode a ≡ with_registry (decode a).registry (decode a₀)
  pub walking : Walking time (decode a₀).threads (decode a₀).queue (decode a₀).registry (decode a).registry i

pub turn_starts : (time : ℕ) (a : List ℕ) → WellFormed a → (n : ℕ) → n ≡ length (decode a).queue → Turn time a n a 0
turn_starts time a k n e = record { count = e; formed = k; same = refl; walking = walking_starts time (decode a).threads (decode a).queue (decode a).registry }

-- a place is one of the queue, where the registry alone is another
pub turn_within : (a₀ : List ℕ) (n : ℕ) (a : List ℕ) (i : ℕ) → n ≡ length (decode a₀).queue → decode a ≡ with_registry (decode a).registry (decode a₀)
    → i < n → i < length (decode a).queue
turn_within a₀ n a i c e h = let q = ap (λ (b : Board). length b.queue) e in omega (arith, c)

module _ (time : ℕ) (a₀ : List ℕ) (n : ℕ) (a : List ℕ) (i : ℕ) (t : Turn time a₀ n a i) where
  same_threads : (decode a).threads ≡ (decode a₀).threads
  same_threads = ap (λ (b : Board). b.threads) t.same

  same_queue : (decode a).queue ≡ (decode a₀).queue
  same_queue = ap (λ (b : Board). b.queue) t.same

  module _ (h : i < n) (x : ℕ) (ex : x ≡ slice_index (decode a).queue i) (p : Option ℕ) (a₁ : List ℕ) (w : Tries time x a p a₁) where
    h₀ : i < length (decode a₀).queue
    h₀ = omega (arith, t.count)

    x₀ : x ≡ slice_index (decode a₀).queue i
    x₀ = ex ∙ ap (λ (q : List ℕ). slice_index q i) same_queue

    told : is_at p ≡ eligible time (decode a₀).threads x (decode a).registry
    told = w.answer ∙ ap (λ (m : List (Row Thread)). eligible time m x (decode a).registry) same_threads

    left : Leaves a₁ (with_registry (tested time (decode a₀).threads x (decode a).registry) (decode a₀))
    left = leaves_as a₁ _ _ (ap (λ (b : Board). with_registry (tested time b.threads x (decode a).registry) b) t.same) w.area

    pub turn_found : (j : ℕ) → p ≡ Some j → Walks time a₀ (Some (i, j)) a₁
    turn_found j e =
        let f = walking_found time (decode a₀).threads (decode a₀).queue (decode a₀).registry (decode a).registry i t.walking x h₀ x₀ (sym told ∙ ap is_at e) in
        record {
          place = sym (ap (λ (v : Walked). v.place) f);
          here = λ k l q.
              let (d, g) : (i ≡ k) × (j ≡ l) = some_pair_parts i k j l q in
              subst (λ (z : ℕ). Here no_row (decode a₀).threads (slice_index (decode a₀).queue z) l) d
              (subst (Here no_row (decode a₀).threads (slice_index (decode a₀).queue i)) g
              (subst (λ (z : ℕ). Here no_row (decode a₀).threads z j) x₀
              (subst (λ (m : List (Row Thread)). Here no_row m x j) same_threads (w.here j e))));
          area = leaves_as a₁ _ _ (ap (λ (v : Walked). with_registry v.registry (decode a₀)) (sym f)) left;
        }

    pub turn_on : p ≡ None → Turn time a₀ n a₁ (i + 1)
    turn_on e =
        let r = ap (λ (b : Board). b.registry) left.is in
        record {
          count = t.count;
          formed = left.formed;
          same = left.is ∙ sym (ap (λ (z : Registry). with_registry z (decode a₀)) r);
          walking = subst (λ (z : Registry). Walking time (decode a₀).threads (decode a₀).queue (decode a₀).registry z (i + 1)) (sym r)
              (walking_on time (decode a₀).threads (decode a₀).queue (decode a₀).registry (decode a).registry i t.walking x h₀ x₀ (sym told ∙ ap is_at e));
        }

  pub turn_ends : n ≤ i → Walks time a₀ None a
  turn_ends h =
      let f = walking_ends time (decode a₀).threads (decode a₀).queue (decode a₀).registry (decode a).registry i t.walking (omega (arith, t.count)) in
      record {
        place = sym (ap (λ (v : Walked). v.place) f);
        here = λ k l q. let z : ◌≡◌ {A = ℕ} 0 1 = cc in absurd (omega arith);
        area = record { formed = t.formed; is = t.same ∙ ap (λ (v : Walked). with_registry v.registry (decode a₀)) (sym f) };
      }

-- The choice.

-- the place that the walk found is one of the queue
pub chooses_within : (time : ℕ) (a : List ℕ) (p : Option (ℕ × ℕ)) (a₁ : List ℕ) → queue_place p ≡ (walk_of time (decode a)).place
    → decode a₁ ≡ with_registry (walk_of time (decode a)).registry (decode a) → (k i : ℕ) → p ≡ Some (k, i) → k < length (decode a₁).queue
chooses_within time a p a₁ w s k i e =
    let h = walk_within time (decode a).threads (decode a).queue (decode a).registry k (sym w ∙ ap queue_place e) in
    subst (λ (b : Board). k < length b.queue) (sym s) h

module _ (time : ℕ) (a : List ℕ) (p : Option (ℕ × ℕ)) (a₁ : List ℕ) (w : Walks time a p a₁) where
  walk_queue : (decode a₁).queue ≡ (decode a).queue
  walk_queue = ap (λ (b : Board). b.queue) w.area.is

  walk_threads : (decode a₁).threads ≡ (decode a).threads
  walk_threads = ap (λ (b : Board). b.threads) w.area.is

  chosen_at : (q : Option ℕ) → queue_place p ≡ q → choice_of time (decode a) ≡ choice_at (decode a).queue q (walk_of time (decode a)).registry
  chosen_at q e =
      choose_walk time (decode a).threads (decode a).queue (decode a).registry
      ∙ ap (λ (f : Option ℕ). choice_at (decode a).queue f (walk_of time (decode a)).registry) (sym w.place ∙ e)

  pub chooses_at : (k i : ℕ) → p ≡ Some (k, i) → (x : ℕ) → x ≡ slice_index (decode a₁).queue k → (a₂ : List ℕ) → Leaves a₂ (with_queue (remove_at (decode a₁).queue k) (decode a₁))
      → Chooses time a (record { id = x; at = Some i }) a₂
  chooses_at k i e x ex a₂ l =
      let c = chosen_at (Some k) (ap queue_place e) in
      let x₀ : x ≡ slice_index_or (decode a).queue k 0 = ex ∙ ap (λ (q : List ℕ). slice_index q k) walk_queue in
      record {
        next = x₀ ∙ sym (ap (λ (z : Choice). z.next) c);
        here = subst (λ (z : ℕ). Here no_row (decode a).threads z i) (sym x₀) (w.here k i e);
        area = leaves_as a₂ _ _ (ap (λ (b : Board). with_queue (remove_at b.queue k) b) w.area.is ∙ ap (λ (z : Choice). taken z (decode a)) (sym c)) l;
      }

  pub chooses_idle : p ≡ None → (q : Option ℕ) → Located no_row (decode a₁).threads idle q → Chooses time a (record { id = idle; at = q }) a₁
  chooses_idle e q l =
      let c = chosen_at None (ap queue_place e) in
      record {
        next = sym (ap (λ (z : Choice). z.next) c);
        here = subst (λ (m : List (Row Thread)). Located no_row m idle q) walk_threads l;
        area = leaves_as a₁ _ _ (ap (λ (z : Choice). taken z (decode a)) (sym c)) w.area;
      }
