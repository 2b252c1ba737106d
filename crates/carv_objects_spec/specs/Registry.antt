-- Document 01's object registry: its state, and each call as 01's questions in their order and then the step. Question 1 stands in front of each, in carv_objects/specs/Area.antt.
-- Assumes nothing.
use Rattle.std.specs.Prelude.{Bool, true, false, cond, not, ◌&&◌, ◌||◌, List, [], ◌∷◌, ◌++◌, ℕ, suc, ◌+◌, ◌-◌, ◌^◌, min, eqb, ltb, leb, length, Option, Some, None}
use Rattle.carv_area.specs.Table.{Row, at, alter, erase}
use Rattle.carv_budget.specs.declared.Account.{Account}
use Rattle.carv_budget.specs.Account as account
use Rattle.carv_objects_spec.specs.declared.kind.Kind.{Kind}
use Rattle.carv_objects_spec.specs.declared.kind.Kind.TheVariants.{Budget, IrqControl}
use Rattle.carv_objects_spec.specs.declared.Entry.{Entry}
use Rattle.carv_objects_spec.specs.Kinds.{listed, kind_of, bytes_of, creatable, needs_backing, is_budget_kind}
use Rattle.carv_objects_spec.specs.Refused as refused
use Rattle.carv_objects_spec.specs.Reply.{Reply, accept, finish, ask, ◌>>◌, on, from, Value, id, renewed, pays, of_account, charge}

-- the next id, and the entries by rising id
pub record Registry : Type 0 where
  pub next : ℕ
  pub rows : List (Row Entry)

-- Reading. An id without an entry reads as `missing`: question 7 stands in front.

-- no budget, nor anything's payer. Of its kind only that is read, so that any other kind that is no budget would do: IrqControl, as an unlisted code reads
abbrev pub missing : Entry
missing = record { kind = IrqControl; payer = 0; charge = 0; account = account.blank }

abbrev pub or_missing : Option Entry → Entry
or_missing None = missing
or_missing (Some e) = e

abbrev pub found : Option Entry → Bool
found None = false
found (Some e) = true

abbrev pub entry : Registry → ℕ → Entry
entry r i = or_missing (at r.rows i)

abbrev pub has : Registry → ℕ → Bool
has r i = found (at r.rows i)

abbrev pub is_budget : Registry → ℕ → Bool
is_budget r i = is_budget_kind (entry r i).kind

-- a budget's account, and the account of an entry's payer
abbrev pub account_of : Registry → ℕ → Account
account_of r i = (entry r i).account

abbrev pub payer_of : Registry → ℕ → ℕ
payer_of r i = (entry r i).payer

-- `pays_for_anything`: does another entry name i as its payer?
abbrev pub pays_in : List (Row Entry) → ℕ → Bool
pays_in [] i = false
pays_in (r ∷ m) i = (not (eqb r.id i) && eqb r.it.payer i) || pays_in m i

abbrev pub pays_for : Registry → ℕ → Bool
pays_for r i = pays_in r.rows i

-- Writing.

abbrev pub on_account : (Account → Account) → Entry → Entry
on_account f e = record { kind = e.kind; payer = e.payer; charge = e.charge; account = f e.account }

abbrev pub on_charge : (ℕ → ℕ) → Entry → Entry
on_charge f e = record { kind = e.kind; payer = e.payer; charge = f e.charge; account = e.account }

-- the account of budget i goes by f
abbrev pub budget : ℕ → (Account → Account) → Registry → Registry
budget i f r = record { next = r.next; rows = alter i (on_account f) r.rows }

-- the charge of entry i goes by f
abbrev pub object : ℕ → (ℕ → ℕ) → Registry → Registry
object i f r = record { next = r.next; rows = alter i (on_charge f) r.rows }

abbrev pub drop : ℕ → Registry → Registry
drop i r = record { next = r.next; rows = erase i r.rows }

-- "ids rise by one and are never given again"
abbrev pub add : Entry → Registry → Registry
add e r = record { next = suc r.next; rows = r.rows ++ (record { id = r.next; it = e } ∷ []) }

-- Question 6: "has the table a place (512 objects), and is the next id below 2^64 − 1?"

abbrev pub most_objects : ℕ
most_objects = 512

abbrev pub has_place : Registry → Bool
has_place r = ltb (length r.rows) most_objects

abbrev pub has_next : Registry → Bool
has_next r = ltb r.next (2 ^ 64 - 1)

-- The calls.

abbrev pub RegistryReply : Type 0
RegistryReply = Reply Value Registry

-- "Root budget: id 1, its own payer, charge 0 at opening, start 0. The next id is 2." Question 2 stands in front, in carv_objects/specs/Area.antt.
abbrev pub opening : (cpu memory : ℕ) → Registry
opening cpu memory = record {
  next = 2;
  rows = record { id = 1; it = record { kind = Budget; payer = 1; charge = 0; account = account.fresh cpu memory 0 } } ∷ [];
}

-- an object that is no budget
abbrev pub plain : (kind : Kind) (payer bytes : ℕ) → Entry
plain kind payer bytes = record { kind = kind; payer = payer; charge = bytes; account = account.blank }

-- a budget carved from `parent`, whose renewed account is a
abbrev pub carved : (parent cpu memory : ℕ) → Account → Entry
carved parent cpu memory a = record { kind = Budget; payer = parent; charge = bytes_of Budget; account = account.fresh cpu memory a.period_start }

-- A call takes a kind by its code. "the payer must cover the bytes, then the kind must be 2, 3, 4, 5 or 7, then, for 2 and 3, the backing must be there"
abbrev pub create : (n payer : ℕ) (backing : Bool) → Registry → RegistryReply
create n payer backing r = on r do
  ask refused.code (listed n)
  ask refused.full (has_place r)
  ask refused.full (has_next r)
  ask refused.missing (is_budget r payer)
  ask refused.limit (leb (bytes_of (kind_of n)) (account.free (account_of r payer)))
  ask refused.kind (creatable (kind_of n))
  ask refused.backing (not (needs_backing (kind_of n)) || backing)
  finish (Some (id r.next)) (add (plain (kind_of n) payer (bytes_of (kind_of n))) (budget payer (λ a. account.charge a (bytes_of (kind_of n))) r))

-- "`insert` takes any byte count"; "an inserted kind not 6"
abbrev pub insert : (n payer bytes : ℕ) → Registry → RegistryReply
insert n payer bytes r = on r do
  ask refused.code (listed n)
  ask refused.code (not (is_budget_kind (kind_of n)))
  ask refused.full (has_place r)
  ask refused.full (has_next r)
  ask refused.missing (is_budget r payer)
  ask refused.limit (leb bytes (account.free (account_of r payer)))
  finish (Some (id r.next)) (add (plain (kind_of n) payer bytes) (budget payer (λ a. account.charge a bytes) r))

-- "`create_budget` charges 128 to the parent, then carves; a refusal credits the 128": past the 128 bytes, a refusal leaves the renewal
abbrev pub create_budget : (parent cpu memory time : ℕ) → Registry → RegistryReply
create_budget parent cpu memory time r = on r do
  ask refused.full (has_place r)
  ask refused.full (has_next r)
  ask refused.missing (is_budget r parent)
  ask refused.limit (leb (bytes_of Budget) (account.free (account_of r parent)))
  from (budget parent (λ a. account.renew a time) r) do
    ask refused.limit (leb cpu (account.renew (account_of r parent) time).cpu_left)
    ask refused.limit (leb memory (account.free (account.charge (account_of r parent) (bytes_of Budget))))
    finish (Some (id r.next)) (add (carved parent cpu memory (account.renew (account_of r parent) time))
        (budget parent (λ a. account.reserve (account.charge (account.renew a time) (bytes_of Budget)) cpu memory) r))

-- "`charge_more` raises entry and payer"
abbrev pub charge_more : (i bytes : ℕ) → Registry → RegistryReply
charge_more i bytes r = on r do
  ask refused.missing (has r i)
  ask refused.limit (leb bytes (account.free (account_of r (payer_of r i))))
  finish None (object i (λ c. c + bytes) (budget (payer_of r i) (λ a. account.charge a bytes) r))

-- "`uncharge` lowers both"
abbrev pub uncharge : (i bytes : ℕ) → Registry → RegistryReply
uncharge i bytes r = on r do
  ask refused.missing (has r i)
  ask refused.charge (leb bytes (entry r i).charge)
  finish None (object i (λ c. c - bytes) (budget (payer_of r i) (λ a. account.credit a bytes) r))

-- an account, renewed at this time where the test holds
abbrev pub renew_if : Bool → (time : ℕ) → Account → Account
renew_if b time a = cond b (account.renew a time) a

-- "`remove` returns a budget's reservations, then credits the charge". An entry that is no budget has no limits to return.
-- P2: "Once every question is passed, a removed budget's payer is renewed at that time, before the child is returned. A refused removal, or that of another kind, renews nothing."
-- P12: "drop the number from removal": 01's question 15 is not asked. On a sound registry no removal that passes these three misses it (Question15.antt).
abbrev pub remove : (i time : ℕ) → Registry → RegistryReply
remove i time r = on r do
  ask refused.missing (has r i)
  ask refused.root (not (eqb i 1))
  ask refused.pays (not (is_budget r i && pays_for r i))
  finish None (budget (payer_of r i) (λ a. account.credit (account.return (renew_if (is_budget r i) time a) (account_of r i)) (entry r i).charge) (drop i r))

-- a renewal of one budget
abbrev pub refill : (i time : ℕ) → Registry → RegistryReply
refill i time r = on r do
  ask refused.missing (is_budget r i)
  finish (Some (renewed (account.due (account_of r i) time))) (budget i (λ a. account.renew a time) r)

-- a CPU charge to one budget: "refused with 12, a CPU charge renews"
abbrev pub charge_cpu : (i ns time : ℕ) → Registry → RegistryReply
charge_cpu i ns time r = on r do
  ask refused.missing (is_budget r i)
  from (budget i (λ a. account.renew a time) r) do
    ask refused.limit (leb ns (account.renew (account_of r i) time).cpu_left)
    finish None (budget i (λ a. account.spend (account.renew a time) ns) r)

-- What the scheduler asks. Is i a live budget with CPU left?
abbrev pub has_cpu : Registry → ℕ → Bool
has_cpu r i = is_budget r i && ltb 0 (account_of r i).cpu_left

-- a live budget is charged ns "or, if less is left, all that is left"
abbrev pub charge_most : (i ns time : ℕ) → Registry → Registry
charge_most i ns time r = cond (is_budget r i) (budget i (λ a. account.spend (account.renew a time) (min ns (account.renew a time).cpu_left)) r) r

-- Readings. "For a missing id `pays_for_anything` says no."

abbrev pub pays_for_anything : (i : ℕ) → Registry → RegistryReply
pays_for_anything i r = accept (Some (pays (pays_for r i))) r

abbrev pub read_account : (i : ℕ) → Registry → RegistryReply
read_account i r = on r do
  ask refused.missing (is_budget r i)
  finish (Some (of_account (account_of r i))) r

abbrev pub charge_of : (i : ℕ) → Registry → RegistryReply
charge_of i r = on r do
  ask refused.missing (has r i)
  finish (Some (charge (payer_of r i) (entry r i).charge)) r
