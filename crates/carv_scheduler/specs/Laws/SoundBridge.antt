-- What question 1's walks find by place is what the test of specs/Area.antt asks. Assumes nothing.
use Rattle.std.specs.Prelude.{◌≡◌, ℕ, ◌^◌, ◌≤◌, Bool, true, false, List, length, ◌≢◌, slice_index, slice_index_or}
use Rattle.std.proofs.Common.{sym, ◌∙◌}
use Rattle.std.proofs.lemmas.Bool.{false≢true}
use borrow.Author.Tests.{leb-true, le-leb}
use Rattle.carv_area.specs.Laws.Table.{test}
use Rattle.carv_area.specs.Laws.Lists.{length_tab}
use Rattle.carv_area.specs.Words.{words}
use Rattle.carv_area.specs.Keys.{keys}
use Rattle.carv_objects_spec.specs.Registry.{Registry}
use Rattle.carv_objects.specs.Area as objects
use Rattle.carv_objects_spec.specs.Sound as registry
use Rattle.carv_objects_spec.specs.Sound.{all}
use Rattle.carv_objects_spec.proofs.Laws.SoundLaws.{all_told, all_shown, rises_told, rises_shown}
use Rattle.carv_objects_spec.proofs.Laws.SoundLaws as registry_laws
use Rattle.carv_objects.specs.Laws.Calls as registry_calls
use Rattle.carv_objects.specs.Laws.SoundWalk.{Tells}
use Rattle.carv_scheduler_spec.specs.Scheduler.{Board}
use Rattle.carv_scheduler_spec.specs.Sound.{thread_tests, board_tests, sound}
use Rattle.carv_scheduler.specs.Area.{registry_part, head, threads_part, queue_part, exits_part, thread_at, threads_in, exit_at, exits_in, thread_listed, threads_listed, exits_listed, sound_area}
use Rattle.carv_scheduler.specs.Laws.AreaLaws.{asked_told, asked_shown}
use Rattle.carv_scheduler.specs.Laws.SoundWalk.{SoundThreads, SoundTables, SoundExits, SoundParts}
use Rattle.carv_scheduler.specs.Laws.SoundThread.{tests_told, listed_shown, tests_shown}
use Rattle.carv_scheduler.specs.Laws.Listed.{each_out, each_in}
use Rattle.carv_scheduler.specs.Laws.SoundRows.{every_out, every_in, length_threads}

-- the board that a registry and the words of the tables say
abbrev board_in : Registry → (w v u : List ℕ) (c s : ℕ) → Board
board_in r w v u c s = record { registry = r; threads = threads_in w; queue = keys 1 v; current = c; switches = s; exits = exits_in u }

length_exits : (u : List ℕ) → length (exits_in u) ≡ slice_index u 0
unfolding exits_in
length_exits u = length_tab (slice_index u 0) (exit_at u)

-- the tests of a board, as the walks find them
record Found (w v u : List ℕ) (c : ℕ) : Type 0 where
  few : slice_index_or w 0 0 ≤ 128
  threads : SoundThreads w v c
  few_exits : slice_index_or u 0 0 ≤ 32
  causes : exits_listed u ≡ true

module _ (r : Registry) (w v u : List ℕ) (c s : ℕ) where
  found_out : threads_listed w ≡ true → exits_listed u ≡ true → sound (board_in r w v u c s) ≡ true → Found w v u c
  unfolding threads_in threads_listed
  found_out listed causes h =
      let b = board_in r w v u c s in
      let (registry, (few, (rising, (threads, (dist, (queue, (here, (active, (idle_here, (idle_state, (idle_runs, (exits, z))))))))))))
      = all_told (board_tests b) h in
      record {
        few = rw (length_threads w) at (leb-true (length (threads_in w)) 128 few);
        threads = record {
          ordered = rises_told (threads_in w) 0 (2 ^ 64) rising;
          current = record { here = here; active = active };
          idle = record { here = idle_here; state = idle_state; runs = idle_runs };
          queue = record { distinct = dist; queued = queue };
          threads = λ k l. tests_told b w k (each_out (thread_listed w) (slice_index w 0) (λ i. i) listed k l)
              (every_out (λ i t. all (thread_tests b i t)) (slice_index w 0) (thread_at w) threads k l);
        };
        few_exits = rw (length_exits u) at (leb-true (length (exits_in u)) 32 exits);
        causes = causes;
      }

  found_in : registry.sound r ≡ true → Found w v u c → sound (board_in r w v u c s) ≡ true
  unfolding threads_in
  found_in registry F =
      let b = board_in r w v u c s in
      let T = F.threads in
      let threads = every_in (λ i t. all (thread_tests b i t)) (slice_index w 0) (thread_at w) (λ k l. tests_shown b w k (T.threads k l)) in
      let few = le-leb (length (threads_in w)) 128 (rw (length_threads w) F.few) in
      let few_exits = le-leb (length (exits_in u)) 32 (rw (length_exits u) F.few_exits) in
      all_shown (board_tests b) (
        registry,
        (
          few,
          (
            rises_shown (threads_in w) 0 (2 ^ 64) T.ordered,
            (
              threads,
              (
                T.queue.distinct,
                (
                  T.queue.queued,
                  (T.current.here, (T.current.active, (T.idle.here, (T.idle.state, (T.idle.runs, (few_exits, tt)))))),
                ),
              ),
            ),
          ),
        ),
      )

  -- the tests that the walks make of a thread's words are also those of its codes
  listed_in : Found w v u c → threads_listed w ≡ true
  unfolding threads_listed
  listed_in F = each_in (thread_listed w) (slice_index w 0) (λ i. i) (λ k l. listed_shown (board_in r w v u c s) w k (F.threads.threads k l))

-- ---- question 1

-- what question 1 asks of the bytes a, by parts
record ByParts (a : List ℕ) : Type 0 where
  size : length a ≡ 68_144
  registry : objects.sound_area (registry_part a) ≡ true
  parts : SoundParts a

parts_out : (a : List ℕ) → sound_area a ≡ true → ByParts a
parts_out a h =
    let k = asked_told a h in
    let F = found_out (objects.decode (registry_part a)) (words (threads_part a)) (words (queue_part a)) (words (exits_part a))
    (slice_index (words (head a)) 0) (slice_index (words (head a)) 1) k.threads_listed k.exits_listed k.sound in
    record {
      size = k.size;
      registry = k.registry;
      parts = record {
        tables = record { few = F.few; few_queue = k.count; rest = k.threads; rest_queue = k.queue; threads = F.threads };
        exits = record { few = F.few_exits; rest = k.exits; causes = F.causes };
      };
    }

parts_in : (a : List ℕ) → ByParts a → sound_area a ≡ true
parts_in a k =
    let T = k.parts.tables in
    let X = k.parts.exits in
    let F : Found (words (threads_part a)) (words (queue_part a)) (words (exits_part a)) (slice_index (words (head a)) 0)
    = record { few = T.few; threads = T.threads; few_exits = X.few; causes = X.causes } in
    asked_shown a (record {
      size = k.size;
      registry = k.registry;
      threads_listed = listed_in (objects.decode (registry_part a)) (words (threads_part a)) (words (queue_part a)) (words (exits_part a))
          (slice_index (words (head a)) 0) (slice_index (words (head a)) 1) F;
      exits_listed = X.causes;
      sound = found_in (objects.decode (registry_part a)) (words (threads_part a)) (words (queue_part a)) (words (exits_part a))
          (slice_index (words (head a)) 0) (slice_index (words (head a)) 1)
          (registry_laws.sound_shown (objects.decode (registry_part a)) (registry_calls.area_sound (registry_part a) k.registry))
          F;
      threads = T.rest;
      count = T.few_queue;
      queue = T.rest_queue;
      exits = X.rest;
    })

-- `parts_are_sound`: the parts that it reads, and the current thread
module _ (a t q x : List ℕ) (c : ℕ) (is_t : t ≡ threads_part a) (is_q : q ≡ queue_part a) (is_x : x ≡ exits_part a) (is_c : c ≡ slice_index (words (head a)) 0) where
  pub parts_no : (SoundTables (words t) (words q) c → ⊥) → SoundParts a → ⊥
  parts_no h k = h (rw (is_t, is_q, is_c) k.tables)

  pub parts_tell : SoundTables (words t) (words q) c → (r : Bool) → Tells r (SoundExits (words x)) → Tells r (SoundParts a)
  parts_tell tables r s = record { so = λ e. record { tables = rw (is_t, is_q, is_c) at tables; exits = rw is_x at (s.so e) }; not = λ e k. s.not e (rw is_x k.exits) }

-- `is_sound`
module _ (a : List ℕ) where
  refused : (ByParts a → ⊥) → false ≡ sound_area a
  refused h = test (sound_area a) (λ e. absurd (h (parts_out a e))) (λ e. sym e)

  pub asked_size : (length a ≢ 68_144) → false ≡ sound_area a
  asked_size h = refused (λ k. h k.size)

  pub asked_registry : objects.sound_area (registry_part a) ≡ false → false ≡ sound_area a
  asked_registry e = refused (λ k. false≢true (sym e ∙ k.registry))

  pub asked : length a ≡ 68_144 → objects.sound_area (registry_part a) ≡ true → (r : Bool) → Tells r (SoundParts a) → r ≡ sound_area a
  asked size registry r t = test r
      (λ q. q ∙ sym (parts_in a (record { size = size; registry = registry; parts = t.so q })))
      (λ q. q ∙ refused (λ k. t.not q k.parts))
