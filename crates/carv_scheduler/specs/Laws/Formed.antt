-- A board's area that is well formed: it has its length, its registry is sound, and its words are a head, a table of threads with rising ids, a queue and a log.
-- What a change of one part leaves. Assumes nothing.
use Rattle.std.specs.Prelude.{◌≡◌, ℕ, ◌+◌, ◌^◌, ◌≤◌, true, List, length, slice_index, slice_index_or, refl}
use native.Mathlib.Omega.{arith}
use Rattle.std.proofs.Common.{sym, ◌∙◌, subst}
use Rattle.std.proofs.Math.Path.{ap}
use Rattle.carv_area.specs.Table.{Row, Rising}
use Rattle.carv_area.specs.Words.{words}
use Rattle.carv_area.specs.Parts.{part, put_part}
use Rattle.carv_area.specs.Zero.{all_zero}
use Rattle.carv_area.specs.Laws.Parts.{length_put, part_same, part_before, part_after}
use Rattle.carv_area.specs.Stored.{Stored, Queue}
use Rattle.carv_area.specs.Laws.Stored.{queue_is}
use Rattle.carv_objects_spec.specs.Registry.{Registry}
use Rattle.carv_objects.specs.Area as objects
use Rattle.carv_scheduler_spec.specs.declared.Thread.{Thread}
use Rattle.carv_scheduler_spec.specs.declared.Exit.{Exit}
use Rattle.carv_scheduler_spec.specs.declared.Cause.{Cause}
use Rattle.carv_scheduler_spec.specs.Scheduler.{Board}
use Rattle.carv_scheduler.specs.Area.{registry_part, head, threads_part, queue_part, exits_part, thread_fields, exit_fields, decode, behind}
use Rattle.carv_scheduler.specs.Laws.Rows.{threads_in_are, exits_in_are}

-- the bytes a are those of the board s
pub record Formed (a : List ℕ) (s : Board) : Type 0 where
  pub size : length a ≡ 68_144
  pub registry : objects.Is (registry_part a) s.registry
  pub current : slice_index_or (words (head a)) 0 0 ≡ s.current
  pub switches : slice_index_or (words (head a)) 1 0 ≡ s.switches
  pub threads : Stored thread_fields 21 (threads_part a) s.threads
  pub rising : Rising 0 (2 ^ 64) s.threads
  pub queue : Queue (queue_part a) s.queue
  pub exits : Stored exit_fields 2 (exits_part a) s.exits

-- what most inner functions ask
abbrev pub WellFormed : List ℕ → Type 0
WellFormed a = Formed a (decode a)

-- The bytes a are laid out as a board's, whatever the codes of its threads and exits: their length, a sound registry, room for the rows of each table and zeros behind
-- them, and rising ids. Well formed is laid out with listed codes: `laid_formed` and `formed_laid` of AreaLaws, `threads_are_listed` and `exits_are_listed` of Listed.
pub record LaidOut (a : List ℕ) : Type 0 where
  pub size : length a ≡ 68_144
  pub registry : objects.sound_area (registry_part a) ≡ true
  pub few : slice_index_or (words (threads_part a)) 0 0 ≤ 128
  pub threads : all_zero (behind 21 (words (threads_part a))) ≡ true
  pub rising : Rising 0 (2 ^ 64) (decode a).threads
  pub count : slice_index_or (words (queue_part a)) 0 0 ≤ 127
  pub queue : all_zero (behind 1 (words (queue_part a))) ≡ true
  pub logged : slice_index_or (words (exits_part a)) 0 0 ≤ 32
  pub exits : all_zero (behind 2 (words (exits_part a))) ≡ true

-- what every inner function leaves: a well-formed area that says s
pub record Leaves (a : List ℕ) (s : Board) : Type 0 where
  pub formed : WellFormed a
  pub is : decode a ≡ s

pub decode_is : (a : List ℕ) (s : Board) → Formed a s → decode a ≡ s
decode_is a s k = λ i. record {
  registry = k.registry.same i;
  threads = threads_in_are (words (threads_part a)) s.threads k.threads.holds i;
  queue = queue_is (words (queue_part a)) s.queue k.queue.holds i;
  current = k.current i;
  switches = k.switches i;
  exits = exits_in_are (words (exits_part a)) s.exits k.exits.holds i;
}

pub leaves : (a : List ℕ) (s : Board) → Formed a s → Leaves a s
leaves a s k = record { formed = subst (Formed a) (sym (decode_is a s k)) k; is = decode_is a s k }

pub unchanged : (a : List ℕ) → WellFormed a → Leaves a (decode a)
unchanged a k = record { formed = k; is = refl }

pub leaves_as : (a : List ℕ) (s s' : Board) → s ≡ s' → Leaves a s → Leaves a s'
leaves_as a s s' e k = record { formed = k.formed; is = k.is ∙ e }

-- Two parts that do not meet: writing one leaves the other.
data Apart (f n g m : ℕ) : Type 0 where
  before : g + m ≤ f → Apart f n g m
  after : f + n ≤ g → Apart f n g m

apart : (f n g m : ℕ) (a p : List ℕ) → f + n ≤ length a → length p ≡ n → Apart f n g m → part g m (put_part f n a p) ≡ part g m a
apart f n g m a p h z (before b) = part_before f n a p h z g m b
apart f n g m a p h z (after b) = part_after f n a p h z g m b

-- What is left where one part was written, p.
module _ (a : List ℕ) (k : WellFormed a) (p : List ℕ) where
  pub registry_written : (r : Registry) → length p ≡ 45_072 → objects.Is p r → Leaves (put_part 0 45_072 a p) (record { registry = r; threads = (decode a).threads; queue = (decode a).queue; current = (decode a).current; switches = (decode a).switches; exits = (decode a).exits })
  unfolding registry_part head threads_part queue_part exits_part
  registry_written r z h =
      let s = k.size in
      let fits : 0 + 45_072 ≤ length a = omega arith in
      leaves (put_part 0 45_072 a p) _ (record {
        size = length_put 0 45_072 a p fits z ∙ k.size;
        registry = rw (part_same 0 45_072 a p fits z) h;
        current = ap (λ (l : List ℕ). slice_index (words l) 0) (apart 0 45_072 45_072 16 a p fits z (after (omega arith))) ∙ k.current;
        switches = ap (λ (l : List ℕ). slice_index (words l) 1) (apart 0 45_072 45_072 16 a p fits z (after (omega arith))) ∙ k.switches;
        threads = rw (apart 0 45_072 45_088 21_512 a p fits z (after (omega arith))) k.threads;
        rising = k.rising;
        queue = rw (apart 0 45_072 66_600 1_024 a p fits z (after (omega arith))) k.queue;
        exits = rw (apart 0 45_072 67_624 520 a p fits z (after (omega arith))) k.exits;
      })

  pub head_written : (current switches : ℕ) → length p ≡ 16 → slice_index (words p) 0 ≡ current → slice_index (words p) 1 ≡ switches → Leaves (put_part 45_072 16 a p) (record { registry = (decode a).registry; threads = (decode a).threads; queue = (decode a).queue; current = current; switches = switches; exits = (decode a).exits })
  unfolding registry_part head threads_part queue_part exits_part
  head_written current switches z e f =
      let s = k.size in
      let fits : 45_072 + 16 ≤ length a = omega arith in
      leaves (put_part 45_072 16 a p) _ (record {
        size = length_put 45_072 16 a p fits z ∙ k.size;
        registry = rw (apart 45_072 16 0 45_072 a p fits z (before (omega arith))) k.registry;
        current = ap (λ (l : List ℕ). slice_index (words l) 0) (part_same 45_072 16 a p fits z) ∙ e;
        switches = ap (λ (l : List ℕ). slice_index (words l) 1) (part_same 45_072 16 a p fits z) ∙ f;
        threads = rw (apart 45_072 16 45_088 21_512 a p fits z (after (omega arith))) k.threads;
        rising = k.rising;
        queue = rw (apart 45_072 16 66_600 1_024 a p fits z (after (omega arith))) k.queue;
        exits = rw (apart 45_072 16 67_624 520 a p fits z (after (omega arith))) k.exits;
      })

  pub threads_written : (m : List (Row Thread)) → length p ≡ 21_512 → Stored thread_fields 21 p m → Rising 0 (2 ^ 64) m → Leaves (put_part 45_088 21_512 a p) (record { registry = (decode a).registry; threads = m; queue = (decode a).queue; current = (decode a).current; switches = (decode a).switches; exits = (decode a).exits })
  unfolding registry_part head threads_part queue_part exits_part
  threads_written m z h up =
      let s = k.size in
      let fits : 45_088 + 21_512 ≤ length a = omega arith in
      leaves (put_part 45_088 21_512 a p) _ (record {
        size = length_put 45_088 21_512 a p fits z ∙ k.size;
        registry = rw (apart 45_088 21_512 0 45_072 a p fits z (before (omega arith))) k.registry;
        current = ap (λ (l : List ℕ). slice_index (words l) 0) (apart 45_088 21_512 45_072 16 a p fits z (before (omega arith))) ∙ k.current;
        switches = ap (λ (l : List ℕ). slice_index (words l) 1) (apart 45_088 21_512 45_072 16 a p fits z (before (omega arith))) ∙ k.switches;
        threads = rw (part_same 45_088 21_512 a p fits z) h;
        rising = up;
        queue = rw (apart 45_088 21_512 66_600 1_024 a p fits z (after (omega arith))) k.queue;
        exits = rw (apart 45_088 21_512 67_624 520 a p fits z (after (omega arith))) k.exits;
      })

  pub queue_written : (q : List ℕ) → length p ≡ 1_024 → Queue p q → Leaves (put_part 66_600 1_024 a p) (record { registry = (decode a).registry; threads = (decode a).threads; queue = q; current = (decode a).current; switches = (decode a).switches; exits = (decode a).exits })
  unfolding registry_part head threads_part queue_part exits_part
  queue_written q z h =
      let s = k.size in
      let fits : 66_600 + 1_024 ≤ length a = omega arith in
      leaves (put_part 66_600 1_024 a p) _ (record {
        size = length_put 66_600 1_024 a p fits z ∙ k.size;
        registry = rw (apart 66_600 1_024 0 45_072 a p fits z (before (omega arith))) k.registry;
        current = ap (λ (l : List ℕ). slice_index (words l) 0) (apart 66_600 1_024 45_072 16 a p fits z (before (omega arith))) ∙ k.current;
        switches = ap (λ (l : List ℕ). slice_index (words l) 1) (apart 66_600 1_024 45_072 16 a p fits z (before (omega arith))) ∙ k.switches;
        threads = rw (apart 66_600 1_024 45_088 21_512 a p fits z (before (omega arith))) k.threads;
        rising = k.rising;
        queue = rw (part_same 66_600 1_024 a p fits z) h;
        exits = rw (apart 66_600 1_024 67_624 520 a p fits z (after (omega arith))) k.exits;
      })

  pub exits_written : (l : List (Exit Cause)) → length p ≡ 520 → Stored exit_fields 2 p l → Leaves (put_part 67_624 520 a p) (record { registry = (decode a).registry; threads = (decode a).threads; queue = (decode a).queue; current = (decode a).current; switches = (decode a).switches; exits = l })
  unfolding registry_part head threads_part queue_part exits_part
  exits_written l z h =
      let s = k.size in
      let fits : 67_624 + 520 ≤ length a = omega arith in
      leaves (put_part 67_624 520 a p) _ (record {
        size = length_put 67_624 520 a p fits z ∙ k.size;
        registry = rw (apart 67_624 520 0 45_072 a p fits z (before (omega arith))) k.registry;
        current = ap (λ (l : List ℕ). slice_index (words l) 0) (apart 67_624 520 45_072 16 a p fits z (before (omega arith))) ∙ k.current;
        switches = ap (λ (l : List ℕ). slice_index (words l) 1) (apart 67_624 520 45_072 16 a p fits z (before (omega arith))) ∙ k.switches;
        threads = rw (apart 67_624 520 45_088 21_512 a p fits z (before (omega arith))) k.threads;
        rising = k.rising;
        queue = rw (apart 67_624 520 66_600 1_024 a p fits z (before (omega arith))) k.queue;
        exits = rw (part_same 67_624 520 a p fits z) h;
      })
