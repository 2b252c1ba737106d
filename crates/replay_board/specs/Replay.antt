-- What a record's call answers and leaves, and how many records say otherwise. Assumes nothing.
use Rattle.std.specs.Prelude.{◌≡◌, Bool, false, ◌⊎◌, List, ℕ, ◌+◌, ◌*◌, ◌<◌, eqb, replicate}
use Rattle.carv_objects_spec.specs.Registry.{create, insert, create_budget, charge_more, uncharge, remove, refill, charge_cpu, pays_for_anything, read_account, charge_of}
use Rattle.carv_objects_spec.specs.Totals.{read_totals}
use Rattle.carv_scheduler_spec.specs.Scheduler.{by_registry, create_user_thread, start, block_current, wake, is_blocked_on, kill, tick, plan, read_thread, read_current, read_switches, exit_of}
use Rattle.carv.specs.C.{Called, Opens, CreatesInC}
use Rattle.replay_records.specs.Word.{word}
use Rattle.replay_records.specs.Replayed.{Replayed}
use Rattle.replay_board.specs.declared.record.Call.{Call}
use Rattle.replay_board.specs.Record.{call, unwritten, recorded, Tells}

-- a new thread, with a register image that starts as zeros
pub record NewThread (id budget : ℕ) (stack : Bool) (a out : List ℕ) (r : ℕ) (a' out' : List ℕ) : Type 0 where
  pub image : List ℕ
  pub created : CreatesInC (create_user_thread id budget stack) a (replicate 512 0) out r a' image out'

-- the call c, made on the area a and the answer words out, answers the number r and leaves a' and out'
pub data Made (c : Call) (a out : List ℕ) (r : ℕ) (a' out' : List ℕ) : Type 0 where
  opened : c.op ≡ 1 → Opens c.first c.second a out r a' out' → Made c a out r a' out'
  created : c.op ≡ 2 → Called (by_registry (create c.first c.second (eqb c.third 1))) a out r a' out' → Made c a out r a' out'
  inserted : c.op ≡ 3 → Called (by_registry (insert c.first c.second c.third)) a out r a' out' → Made c a out r a' out'
  carved : c.op ≡ 4 → Called (by_registry (create_budget c.first c.second c.third c.fourth)) a out r a' out' → Made c a out r a' out'
  charged : c.op ≡ 5 → Called (by_registry (charge_more c.first c.second)) a out r a' out' → Made c a out r a' out'
  uncharged : c.op ≡ 6 → Called (by_registry (uncharge c.first c.second)) a out r a' out' → Made c a out r a' out'
  removed : c.op ≡ 7 → Called (by_registry (remove c.first c.second)) a out r a' out' → Made c a out r a' out'
  refilled : c.op ≡ 8 → Called (by_registry (refill c.first c.second)) a out r a' out' → Made c a out r a' out'
  cpu_charged : c.op ≡ 9 → Called (by_registry (charge_cpu c.first c.second c.third)) a out r a' out' → Made c a out r a' out'
  asked : c.op ≡ 10 → Called (by_registry (pays_for_anything c.first)) a out r a out' → a' ≡ a → Made c a out r a' out'
  account_read : c.op ≡ 11 → Called (by_registry (read_account c.first)) a out r a out' → a' ≡ a → Made c a out r a' out'
  charge_read : c.op ≡ 12 → Called (by_registry (charge_of c.first)) a out r a out' → a' ≡ a → Made c a out r a' out'
  thread_created : c.op ≡ 13 → NewThread c.first c.second (eqb c.third 1) a out r a' out' → Made c a out r a' out'
  started : c.op ≡ 14 → Called (start c.first c.second c.third c.fourth (record {
    rip = c.fifth;
    rsp = c.sixth;
    rflags = c.seventh;
    rdi = c.eighth;
    rsi = c.ninth;
    cs = c.tenth;
    ss = c.eleventh;
  })) a out r a' out' → Made c a out r a' out'
  blocked : c.op ≡ 15 → Called (block_current c.first c.second) a out r a' out' → Made c a out r a' out'
  woken : c.op ≡ 16 → Called (wake c.first (record { first = c.second; second = c.third; third = c.fourth })) a out r a' out' → Made c a out r a' out'
  wait_asked : c.op ≡ 17 → Called (is_blocked_on c.first c.second c.third) a out r a out' → a' ≡ a → Made c a out r a' out'
  killed : c.op ≡ 18 → Called (kill c.first c.second) a out r a' out' → Made c a out r a' out'
  ticked : c.op ≡ 19 → Called (tick c.first) a out r a' out' → Made c a out r a' out'
  planned : c.op ≡ 20 → Called (plan c.first) a out r a' out' → Made c a out r a' out'
  thread_read : c.op ≡ 21 → Called (read_thread c.first) a out r a out' → a' ≡ a → Made c a out r a' out'
  current_read : c.op ≡ 22 → Called read_current a out r a out' → a' ≡ a → Made c a out r a' out'
  switches_read : c.op ≡ 23 → Called read_switches a out r a out' → a' ≡ a → Made c a out r a' out'
  exit_read : c.op ≡ 24 → Called (exit_of c.first) a out r a out' → a' ≡ a → Made c a out r a' out'
  totals_read : c.op ≡ 25 → Called (by_registry (read_totals c.first)) a out r a out' → a' ≡ a → Made c a out r a' out'

-- b tells whether the call of the record from word number k of l on, made on the area a, answers as recorded, and a' is left; one with a code that is not listed is not made
-- and does not
pub data Agrees (l : List ℕ) (k : ℕ) (a : List ℕ) (b : Bool) (a' : List ℕ) : Type 0 where
  made : (r : ℕ) (out : List ℕ) → Made (call l k) a (replicate 20 unwritten) r a' out → Tells b ((r ≡ word l (k + 12)) × (out ≡ recorded l k)) → Agrees l k a b a'
  not_listed : ((call l k).op < 1) ⊎ (25 < (call l k).op) → b ≡ false → a' ≡ a → Agrees l k a b a'

-- the same of the record with these bytes
abbrev pub replays_record : List ℕ → List ℕ → Bool → List ℕ → Type 0
replays_record bytes a b a' = Agrees bytes 0 a b a'

-- of the first n records of l, replayed from the area a on, d differ, and a' is left
abbrev pub Replays : (a a' l : List ℕ) (n d : ℕ) → Type 0
Replays a a' l n d = Replayed (λ k. Agrees l (k * 34)) a n d a'
