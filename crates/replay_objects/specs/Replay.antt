-- What a record's call answers and leaves, and how many records say otherwise. Assumes nothing.
use Rattle.std.specs.Prelude.{◌≡◌, Bool, false, cond, ◌&&◌, List, ℕ, ◌*◌, eqb, leb, Option, Some, None, Result}
use Rattle.carv_objects_spec.specs.Reply.{Value, id, renewed, pays, of_account, charge, of_totals}
use Rattle.carv_objects_spec.specs.Registry.{Registry as Objects, RegistryReply, create, insert, create_budget, charge_more, uncharge, remove, refill, charge_cpu, pays_for_anything, read_account, charge_of}
use Rattle.carv_objects_spec.specs.Totals.{read_totals}
use Rattle.carv_objects.specs.declared.refusal.Refusal.{Refusal}
use Rattle.carv_objects.specs.Answer as answer
use Rattle.carv_objects.specs.Area.{Answered, Opened}
use Rattle.replay_records.specs.Replayed.{Replayed}
use Rattle.replay_objects.specs.declared.record.Call.{Call}
use Rattle.replay_objects.specs.declared.record.Reply.{Reply}
use Rattle.replay_objects.specs.declared.replay.Registry.{Registry}
use Rattle.replay_objects.specs.Record.{call, reply}

-- a number with at most two values
abbrev pub numbered : (number first second : ℕ) → Reply
numbered n x y = record { number = n; first = x; second = y; third = 0; fourth = 0; fifth = 0; sixth = 0; seventh = 0 }

-- a number with the words of a value: 1 or 0 for yes or no
abbrev pub told : ℕ → Option Value → Reply
told n None = numbered n 0 0
told n (Some (id i)) = numbered n i 0
told n (Some (renewed b)) = numbered n (cond b 1 0) 0
told n (Some (pays b)) = numbered n (cond b 1 0) 0
told n (Some (of_account a)) = record {
  number = n;
  first = a.cpu_allowance;
  second = a.memory_limit;
  third = a.period_start;
  fourth = a.cpu_left;
  fifth = a.cpu_reserved;
  sixth = a.memory_used;
  seventh = a.memory_reserved;
}
told n (Some (charge p b)) = numbered n p b
told n (Some (of_totals t)) = record {
  number = n;
  first = t.memory_used;
  second = t.memory_free;
  third = t.cpu_left;
  fourth = 0;
  fifth = 0;
  sixth = 0;
  seventh = 0;
}

-- the number of an answer, and its value
abbrev pub replied : {T : Type 0} → (T → Option Value) → Result T Refusal → Reply
replied tells r = told (answer.number r) (answer.value tells r)

-- the call, made on the area a, is answered as x reports, and leaves a'
abbrev pub Reports : {T : Type 0} → (Objects → RegistryReply) → (T → Option Value) → List ℕ → Reply → List ℕ → Type 0
Reports {T} call tells a x a' = (r : Result T Refusal) × Answered call tells a r a' × (x ≡ replied tells r)

-- the test of equality
unfoldable pub same : (a b : Reply) → Bool
same a b =
    eqb a.number b.number && eqb a.first b.first && eqb a.second b.second && eqb a.third b.third
    && eqb a.fourth b.fourth && eqb a.fifth b.fifth && eqb a.sixth b.sixth && eqb a.seventh b.seventh

-- the call c, made on the area a, replies x and leaves a'
pub data Made (c : Call) (a : List ℕ) (x : Reply) (a' : List ℕ) : Type 0 where
  opened : c.op ≡ 1 → (r : Result (Unit {0}) Refusal) → Opened c.first c.second a r a' → x ≡ replied answer.nothing r → Made c a x a'
  created : c.op ≡ 2 → Reports (create c.first c.second (eqb c.third 1)) answer.id_of a x a' → Made c a x a'
  inserted : c.op ≡ 3 → Reports (insert c.first c.second c.third) answer.id_of a x a' → Made c a x a'
  carved : c.op ≡ 4 → Reports (create_budget c.first c.second c.third c.fourth) answer.id_of a x a' → Made c a x a'
  charged : c.op ≡ 5 → Reports (charge_more c.first c.second) answer.nothing a x a' → Made c a x a'
  uncharged : c.op ≡ 6 → Reports (uncharge c.first c.second) answer.nothing a x a' → Made c a x a'
  removed : c.op ≡ 7 → Reports (remove c.first c.second) answer.nothing a x a' → Made c a x a'
  refilled : c.op ≡ 8 → Reports (refill c.first c.second) answer.renewed_of a x a' → Made c a x a'
  cpu_charged : c.op ≡ 9 → Reports (charge_cpu c.first c.second c.third) answer.nothing a x a' → Made c a x a'
  asked : c.op ≡ 10 → Reports (pays_for_anything c.first) answer.pays_of a x a → a' ≡ a → Made c a x a'
  read : c.op ≡ 11 → Reports (read_account c.first) answer.account_of a x a → a' ≡ a → Made c a x a'
  charge_read : c.op ≡ 12 → Reports (charge_of c.first) answer.charge_of a x a → a' ≡ a → Made c a x a'
  totals_read : c.op ≡ 13 → Reports (read_totals c.first) answer.totals_of a x a → a' ≡ a → Made c a x a'

-- b tells whether the call c on the area a answers the reply y, and a' is left; one with an op that is not listed is not made and answers none
pub data Agrees (c : Call) (y : Reply) (a : List ℕ) (b : Bool) (a' : List ℕ) : Type 0 where
  made : (x : Reply) → Made c a x a' → b ≡ same x y → Agrees c y a b a'
  not_listed : (leb 1 c.op && leb c.op 13) ≡ false → b ≡ false → a' ≡ a → Agrees c y a b a'

-- the same of the record with these bytes, on a registry
abbrev pub replays_record : List ℕ → Registry → Bool → Registry → Type 0
replays_record bytes before right after = Agrees (call bytes 0) (reply bytes 0) before.area right after.area

-- of the first n records of l, replayed from the area a on, d differ, and a' is left
abbrev pub Replays : (a a' l : List ℕ) (n d : ℕ) → Type 0
Replays a a' l n d = Replayed (λ k. Agrees (call l (k * 16)) (reply l (k * 16))) a n d a'
