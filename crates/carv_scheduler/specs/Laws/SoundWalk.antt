-- What question 1's walks over the threads, the queue and the exits know. w is the threads' words, v the queue's, u the exits', and c the current thread.
-- Assumes nothing.
use Rattle.std.specs.Prelude.{◌≡◌, ℕ, ◌+◌, ◌-◌, ◌*◌, ◌^◌, ◌<◌, ◌≤◌, Bool, true, false, cond, not, ◌&&◌, ◌||◌, List, ◌==◌, nat_le, slice_index, slice_index_or}
use Rattle.carv_area.specs.Table.{Rising}
use Rattle.carv_area.specs.Lists.{tab}
use Rattle.carv_area.specs.Words.{words}
use Rattle.carv_area.specs.Keys.{keys}
use Rattle.carv_area.specs.Zero.{all_zero}
use Rattle.carv_scheduler_spec.specs.declared.Thread.{Thread}
use Rattle.carv_scheduler_spec.specs.Scheduler.{idle, inactive, ready, running, is, thread, has}
use Rattle.carv_scheduler_spec.specs.Sound.{member, distinct, each, implies, same, unpaid}
use Rattle.carv_scheduler.specs.Area.{head, threads_part, queue_part, exits_part, thread_at, threads_in, exits_listed, behind}

-- the id and the record of the thread at place i, and the id at place j of the queue
abbrev pub id_at : List ℕ → ℕ → ℕ
id_at w i = (thread_at w i).id

abbrev pub it_at : List ℕ → ℕ → Thread
it_at w i = (thread_at w i).it

abbrev pub key_at : List ℕ → ℕ → ℕ
key_at v j = slice_index v (j * 1 + 1)

-- What is asked of a thread's words. q says whether it is in the queue, i is its id.

abbrev pub state_fits : (q : Bool) (c i state : ℕ) → Bool
state_fits q c i s =
    (nat_le 1 s && nat_le s 5) && (implies (s == 2) (i == idle || q) && (implies (s == 5) (i == c) && implies (s == 3) (i == idle || i == c)))

abbrev pub wait_fits : (state kind number : ℕ) → Bool
wait_fits s k n = cond (s == 4) (nat_le 1 k && nat_le k 5) (k == 0 && n == 0)

abbrev pub budget_fits : (i is budget : ℕ) → Bool
budget_fits i is b = cond (is == 0) (b == 0) (is == 1) && same (is == 0) (unpaid i)

abbrev pub space_fits : (is space cspace root : ℕ) → Bool
space_fits is s c r = cond (is == 0) (s == 0 && (c == 0 && r == 0)) (is == 1)

-- the words of the thread at place i are in order: carv_scheduler_spec/specs/Codes.antt and Sound.antt ask this
pub record Fits (w : List ℕ) (c i : ℕ) (q : Bool) : Type 0 where
  pub state : state_fits q c (id_at w i) (slice_index w (i * 21 + 2)) ≡ true
  pub wait : wait_fits (slice_index w (i * 21 + 2)) (slice_index w (i * 21 + 3)) (slice_index w (i * 21 + 4)) ≡ true
  pub budget : budget_fits (id_at w i) (slice_index w (i * 21 + 5)) (slice_index w (i * 21 + 6)) ≡ true
  pub space : space_fits (slice_index w (i * 21 + 7)) (slice_index w (i * 21 + 8)) (slice_index w (i * 21 + 9)) (slice_index w (i * 21 + 10)) ≡ true

-- the first n threads are, where marks say which are in the queue
abbrev pub Fit : (w : List ℕ) (c n : ℕ) → List Bool → Type 0
Fit w c n ms = (k : ℕ) → k < n → Fits w c k (slice_index_or ms k false)

-- the ids of the threads rise
abbrev pub Ordered : List ℕ → Type 0
Ordered w = Rising 0 (2 ^ 64) (threads_in w)

-- the ids of the first i threads do
abbrev pub Rise : List ℕ → ℕ → Type 0
Rise w i = (j k : ℕ) → j < k → k < i → id_at w j < id_at w k

-- the walk over the n ids has come to place i, and the last id is last
pub record Order (w : List ℕ) (n i last : ℕ) : Type 0 where
  pub some : 1 ≤ i
  pub most : i ≤ n
  pub last_is : last ≡ id_at w (i - 1)
  pub rise : Rise w i

pub record Current (w : List ℕ) (c : ℕ) : Type 0 where
  pub here : has (threads_in w) c ≡ true
  pub active : not (is inactive (thread (threads_in w) c)) ≡ true

pub record Idle (w : List ℕ) (c : ℕ) : Type 0 where
  pub here : has (threads_in w) idle ≡ true
  pub state : (is ready (thread (threads_in w) idle) || is running (thread (threads_in w) idle)) ≡ true
  pub runs : implies (c == idle) (is running (thread (threads_in w) idle)) ≡ true

-- what is asked of an id in the queue
abbrev pub queued : List ℕ → ℕ → Bool
queued w i = not (i == idle) && (has (threads_in w) i && is ready (thread (threads_in w) i))

pub record SoundQueue (w v : List ℕ) : Type 0 where
  pub distinct : distinct (keys 1 v) ≡ true
  pub queued : each (queued w) (keys 1 v) ≡ true

-- the first j ids of the queue are in order, and just their places are marked
pub record Walk (w v : List ℕ) (j : ℕ) (ms : List Bool) : Type 0 where
  pub queued : (k : ℕ) → k < j → queued w (key_at v k) ≡ true
  pub distinct : distinct (tab j (key_at v)) ≡ true
  pub marks : (k : ℕ) → k < slice_index w 0 → slice_index_or ms k false ≡ member (id_at w k) (tab j (key_at v))

-- one turn of the walk over the queue
pub record Turned (w v : List ℕ) (j : ℕ) (r : Bool) (ms : List Bool) : Type 0 where
  pub on : r ≡ true → Walk w v (j + 1) ms
  pub off : r ≡ false → SoundQueue w v → ⊥

-- all of them
pub record Walked (w v : List ℕ) (r : Bool) (ms : List Bool) : Type 0 where
  pub on : r ≡ true → Walk w v (slice_index v 0) ms
  pub off : r ≡ false → SoundQueue w v → ⊥

-- the threads and the queue are in order
pub record SoundThreads (w v : List ℕ) (c : ℕ) : Type 0 where
  pub ordered : Ordered w
  pub current : Current w c
  pub idle : Idle w c
  pub queue : SoundQueue w v
  pub threads : (k : ℕ) → k < slice_index w 0 → Fits w c k (member (id_at w k) (keys 1 v))

-- and there are zeros behind them
pub record SoundTables (w v : List ℕ) (c : ℕ) : Type 0 where
  pub few : slice_index_or w 0 0 ≤ 128
  pub few_queue : slice_index_or v 0 0 ≤ 127
  pub rest : all_zero (behind 21 w) ≡ true
  pub rest_queue : all_zero (behind 1 v) ≡ true
  pub threads : SoundThreads w v c

-- the exits are in order, and there are zeros behind them
pub record SoundExits (u : List ℕ) : Type 0 where
  pub few : slice_index_or u 0 0 ≤ 32
  pub rest : all_zero (behind 2 u) ≡ true
  pub causes : exits_listed u ≡ true

-- what is asked of the parts of the bytes a behind the registry
pub record SoundParts (a : List ℕ) : Type 0 where
  pub tables : SoundTables (words (threads_part a)) (words (queue_part a)) (slice_index (words (head a)) 0)
  pub exits : SoundExits (words (exits_part a))
