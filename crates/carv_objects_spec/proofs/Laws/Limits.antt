-- Document 01's listed kinds, bytes, limits and refusal numbers, with the numbers written out: a field for each sentence, most of them a case on either side of a
-- limit. Assumes nothing.
use Rattle.std.specs.Prelude.{◌≡◌, refl, true, false, List, [], ◌∷◌, ℕ, zero, suc, eqb, ◌≤◌, ◌<◌, length, Some, None}
use Rattle.std.proofs.Common.{arith, le-leb, le-ltb, lt-ltb}
use Rattle.std.proofs.lemmas.Bool.{lt-leb}
use Rattle.carv_area.specs.Table.{Row}
use Rattle.carv_budget.specs.Account.{fresh, due, renew}
use Rattle.carv_objects_spec.specs.declared.kind.Kind.TheVariants.{Thread, AddressSpace, Frame, Endpoint, Notification, Budget, Irq, IrqControl}
use Rattle.carv_objects_spec.specs.Kinds.{code, listed, kind_of, bytes_of, is_budget_kind}
use Rattle.carv_objects_spec.proofs.Laws.Kinds.{budget_code}
use Rattle.carv_objects_spec.specs.declared.Entry.{Entry}
use Rattle.carv_objects_spec.specs.declared.kind.Kind.TheVariants as kinds
use Rattle.carv_objects_spec.specs.Refused as refused
use Rattle.carv_objects_spec.specs.Book as book
use Rattle.carv_objects_spec.specs.Demand1.{renewal_left}
use Rattle.carv_objects_spec.specs.Reply.{id, pays, charge}
use Rattle.carv_objects_spec.specs.Registry.{Registry, RegistryReply, account_of, has_place, has_next, plain, opening, create, insert, create_budget, charge_more, uncharge, remove, refill, charge_cpu, pays_for_anything, read_account, charge_of}
use Rattle.carv_objects_spec.specs.Totals.{read_totals}
use Rattle.carv_objects_spec.specs.Sound.{sound}
use Rattle.carv_objects_spec.proofs.Laws.SoundLaws.{sound_told}

-- "Opening: CPU 10,000,000, memory 1,000,000"
abbrev pub root : Registry
root = opening 10_000_000 1_000_000

-- a Frame, id 2, that the root pays for
abbrev pub framed : Registry
framed = (create 3 1 true root).after

-- what f gives for each kind from 0 to 10
abbrev pub by_kind : (ℕ → ℕ) → List ℕ
by_kind f = f 0 ∷ f 1 ∷ f 2 ∷ f 3 ∷ f 4 ∷ f 5 ∷ f 6 ∷ f 7 ∷ f 8 ∷ f 9 ∷ f 10 ∷ []

-- what a creation of this kind charges, read back
abbrev pub charged : (kind : ℕ) → RegistryReply
charged kind = charge_of 2 (create kind 1 true root).after

-- a Notification that the root pays nothing for
abbrev pub object : ℕ → Row Entry
object i = record { id = i; it = plain Notification 1 0 }

abbrev pub objects : (n i : ℕ) → List (Row Entry)
objects zero i = []
objects (suc n) i = object i ∷ objects n (suc i)

-- the root and n objects more, with this next id
abbrev pub crowd : (next n : ℕ) → Registry
crowd next n = record { next = next; rows = record { id = 1; it = record { kind = Budget; payer = 1; charge = 0; account = fresh 10_000_000 1_000_000 0 } } ∷ objects n 2 }

-- the three calls that take a place and an id, on one registry
abbrev pub takers : Registry → List RegistryReply
takers r = create 5 1 true r ∷ insert 5 1 0 r ∷ create_budget 1 0 0 0 r ∷ []

abbrev pub numbers : List RegistryReply → List ℕ
numbers [] = []
numbers (x ∷ xs) = x.number ∷ numbers xs

pub record Limits : Type 0 where
  -- the refusal numbers, by their names
  pub refusals : refused.unsound ∷ refused.share ∷ refused.tick ∷ refused.code ∷ refused.id ∷ refused.full ∷ refused.missing ∷ refused.state ∷ refused.root ∷ refused.pays
      ∷ refused.charge ∷ refused.limit ∷ refused.kind ∷ refused.backing ∷ []
      ≡ 1 ∷ 2 ∷ 3 ∷ 4 ∷ 5 ∷ 6 ∷ 7 ∷ 8 ∷ 9 ∷ 10 ∷ 11 ∷ 12 ∷ 13 ∷ 14 ∷ []
  -- "4. Is each kind .. listed?" "13. Is a created kind 2, 3, 4, 5 or 7?" "14. Is the backing there?": with the backing there, and without it
  pub create_kinds : by_kind (λ k. (create k 1 true root).number) ≡ 4 ∷ 13 ∷ 0 ∷ 0 ∷ 0 ∷ 0 ∷ 13 ∷ 0 ∷ 13 ∷ 13 ∷ 4 ∷ []
  pub create_unbacked : by_kind (λ k. (create k 1 false root).number) ≡ 4 ∷ 13 ∷ 14 ∷ 14 ∷ 0 ∷ 0 ∷ 13 ∷ 0 ∷ 13 ∷ 13 ∷ 4 ∷ []
  -- ".. and an inserted kind not 6?"
  pub insert_kinds : by_kind (λ k. (insert k 1 1 root).number) ≡ 4 ∷ 0 ∷ 0 ∷ 0 ∷ 0 ∷ 0 ∷ 4 ∷ 0 ∷ 0 ∷ 0 ∷ 4 ∷ []
  -- and every kind above
  pub kinds_above : (k : ℕ) → 9 < k → listed k ≡ false
  -- "1 Thread ..; 2 AddressSpace ..; .. 9 IrqControl": each kind's code, and the kind of each
  pub codes : code Thread ∷ code AddressSpace ∷ code Frame ∷ code Endpoint ∷ code Notification ∷ code Budget ∷ code kinds.Reply ∷ code Irq ∷ code IrqControl ∷ []
      ≡ 1 ∷ 2 ∷ 3 ∷ 4 ∷ 5 ∷ 6 ∷ 7 ∷ 8 ∷ 9 ∷ []
  pub kinds : kind_of 1 ∷ kind_of 2 ∷ kind_of 3 ∷ kind_of 4 ∷ kind_of 5 ∷ kind_of 6 ∷ kind_of 7 ∷ kind_of 8 ∷ kind_of 9 ∷ []
      ≡ Thread ∷ AddressSpace ∷ Frame ∷ Endpoint ∷ Notification ∷ Budget ∷ kinds.Reply ∷ Irq ∷ IrqControl ∷ []
  -- "1 Thread 33,792; 2 AddressSpace 16,384; 3 Frame 4,096; 4 Endpoint 128; 5 Notification 64; 6 Budget 128; 7 Reply 64; 8 Irq 64; 9 IrqControl 64"
  pub bytes : bytes_of (kind_of 1) ∷ bytes_of (kind_of 2) ∷ bytes_of (kind_of 3) ∷ bytes_of (kind_of 4) ∷ bytes_of (kind_of 5) ∷ bytes_of (kind_of 6) ∷ bytes_of (kind_of 7)
      ∷ bytes_of (kind_of 8) ∷ bytes_of (kind_of 9) ∷ []
      ≡ 33_792 ∷ 16_384 ∷ 4_096 ∷ 128 ∷ 64 ∷ 128 ∷ 64 ∷ 64 ∷ 64 ∷ []
  -- and of those that are created, what is charged
  pub address_space : (charged 2).value ≡ Some (charge 1 16_384)
  pub frame : (charged 3).value ≡ Some (charge 1 4_096)
  pub endpoint : (charged 4).value ≡ Some (charge 1 128)
  pub notification : (charged 5).value ≡ Some (charge 1 64)
  pub budget : (charge_of 2 (create_budget 1 0 0 0 root).after).value ≡ Some (charge 1 128)
  pub reply : (charged 7).value ≡ Some (charge 1 64)
  -- a Thread, which is charged for before its kind is refused: 33,792 bytes free and one fewer
  pub thread : ((create 1 1 true (opening 0 33_792)).number ≡ 13) × ((create 1 1 true (opening 0 33_791)).number ≡ 12)
  -- "6 Budget"
  pub budget_is : (n : ℕ) → is_budget_kind (kind_of n) ≡ eqb n 6
  -- "6. Has the table a place (512 objects ..)?": 511 objects and one more, then 512
  pub place_511 : (length (crowd 512 510).rows ≡ 511) × (numbers (takers (crowd 512 510)) ≡ 0 ∷ 0 ∷ 0 ∷ [])
  pub place_512 : (length (crowd 513 511).rows ≡ 512) × (numbers (takers (crowd 513 511)) ≡ 6 ∷ 6 ∷ 6 ∷ [])
  pub place : (r : Registry) → length r.rows < 512 → has_place r ≡ true
  pub no_place : (r : Registry) → 512 ≤ length r.rows → has_place r ≡ false
  -- ".. and is the next id below 2^64 − 1?"
  pub last_id : (create 5 1 true (crowd 18_446_744_073_709_551_614 0)).value ≡ Some (id 18_446_744_073_709_551_614)
  pub next_below : numbers (takers (crowd 18_446_744_073_709_551_614 0)) ≡ 0 ∷ 0 ∷ 0 ∷ []
  pub next_gone : numbers (takers (crowd 18_446_744_073_709_551_615 0)) ≡ 6 ∷ 6 ∷ 6 ∷ []
  pub next : (r : Registry) → r.next < 18_446_744_073_709_551_615 → has_next r ≡ true
  pub no_next : (r : Registry) → 18_446_744_073_709_551_615 ≤ r.next → has_next r ≡ false
  -- "7. Do the object, payer .. exist, and is the payer, or the account to be read, renewed or charged CPU, a budget?" Of id 9, and of a Frame, id 2
  pub missing : numbers (create 5 9 true root ∷ insert 5 9 0 root ∷ create_budget 9 0 0 0 root ∷ charge_more 9 0 root ∷ uncharge 9 0 root ∷ remove 9 0 root
      ∷ refill 9 0 root ∷ charge_cpu 9 0 0 root ∷ read_account 9 root ∷ charge_of 9 root ∷ read_totals 9 root ∷ [])
      ≡ 7 ∷ 7 ∷ 7 ∷ 7 ∷ 7 ∷ 7 ∷ 7 ∷ 7 ∷ 7 ∷ 7 ∷ 7 ∷ []
  pub no_budget : numbers (create 5 2 true framed ∷ insert 5 2 0 framed ∷ create_budget 2 0 0 0 framed ∷ charge_more 2 0 framed ∷ uncharge 2 0 framed ∷ remove 2 0 framed
      ∷ refill 2 0 framed ∷ charge_cpu 2 0 0 framed ∷ read_account 2 framed ∷ charge_of 2 framed ∷ read_totals 2 framed ∷ [])
      ≡ 7 ∷ 7 ∷ 7 ∷ 0 ∷ 0 ∷ 0 ∷ 7 ∷ 7 ∷ 7 ∷ 0 ∷ 7 ∷ []
  -- "For a missing id `pays_for_anything` .. say no"; the root pays for the Frame, but not for itself
  pub pays_for_it : ((pays_for_anything 9 framed).value ≡ Some (pays false)) × ((pays_for_anything 1 framed).value ≡ Some (pays true))
      × ((pays_for_anything 1 root).value ≡ Some (pays false)) × ((pays_for_anything 2 framed).value ≡ Some (pays false))
  -- "9. Is the removed object not the root?"
  pub root_stays : (remove 1 0 root).number ≡ 9
  -- "11. Is an uncharge at most the recorded charge?" "12. Can the payer cover the charge?": of a Frame, and at the root's limit
  pub charges : numbers (uncharge 2 4_096 framed ∷ uncharge 2 4_097 framed ∷ charge_more 2 995_904 framed ∷ charge_more 2 995_905 framed ∷ insert 1 1 995_904 framed
      ∷ insert 1 1 995_905 framed ∷ charge_cpu 1 10_000_000 0 framed ∷ charge_cpu 1 10_000_001 0 framed ∷ [])
      ≡ 0 ∷ 11 ∷ 0 ∷ 12 ∷ 0 ∷ 12 ∷ 0 ∷ 12 ∷ []
  -- "`create_budget` charges 128 to the parent, then carves": at the root's limits
  pub carvings : numbers (create_budget 1 10_000_000 995_776 0 framed ∷ create_budget 1 10_000_001 0 0 framed ∷ create_budget 1 0 995_777 0 framed ∷ [])
      ≡ 0 ∷ 12 ∷ 12 ∷ []
  -- "A CPU charge renews first, then is refused if it exceeds CPU left": more than all, where a renewal is due
  pub refused_renews : ((charge_cpu 1 10_000_001 10_000_000 root).number ≡ 12) × ((account_of (charge_cpu 1 10_000_001 10_000_000 root).after 1).period_start ≡ 10_000_000)
  -- "a carve-out or CPU charge refused after a renewal leaves that renewal": a carve-out with 127 bytes free, and with 128; the same refused with another number
  pub carving_left : (renewal_left (book.create_budget 1 0 1 25_000_000) 12 (opening 10_000_000 127) ≡ None)
      × (renewal_left (book.create_budget 1 0 1 25_000_000) 12 (opening 10_000_000 128) ≡ Some (1, 25_000_000))
      × (renewal_left (book.create_budget 1 0 1 25_000_000) 6 (opening 10_000_000 128) ≡ None)
  -- a CPU charge refused with 12, and with 7
  pub charging_left : (renewal_left (book.charge_cpu 3 5 25_000_000) 12 root ≡ Some (3, 25_000_000))
      × (renewal_left (book.charge_cpu 3 5 25_000_000) 7 root ≡ None)
  -- other calls with 12
  pub nothing_left : (renewal_left (book.create 3 1 true) 12 root ≡ None) × (renewal_left (book.insert 3 1 5) 12 root ≡ None)
      × (renewal_left (book.charge_more 1 5) 12 root ≡ None) × (renewal_left (book.refill 1 25_000_000) 12 root ≡ None)
  -- "Sound means: .. at most 512 objects"
  pub sound_512 : (r : Registry) → sound r ≡ true → length r.rows ≤ 512

pub limits_hold : Limits
unfolding due renew
limits_hold = record {
  refusals = refl;
  create_kinds = refl;
  create_unbacked = refl;
  insert_kinds = refl;
  kinds_above = λ k h. rw (le-leb 1 k (omega arith), lt-leb k 9 h);
  codes = refl;
  kinds = refl;
  bytes = refl;
  address_space = refl;
  frame = refl;
  endpoint = refl;
  notification = refl;
  budget = refl;
  reply = refl;
  thread = (refl, refl);
  budget_is = budget_code;
  place_511 = (refl, refl);
  place_512 = (refl, refl);
  place = λ r h. lt-ltb (length r.rows) 512 h;
  no_place = λ r h. le-ltb (length r.rows) 512 h;
  last_id = refl;
  next_below = refl;
  next_gone = refl;
  next = λ r h. lt-ltb r.next 18_446_744_073_709_551_615 h;
  no_next = λ r h. le-ltb r.next 18_446_744_073_709_551_615 h;
  missing = refl;
  no_budget = refl;
  pays_for_it = (refl, refl, refl, refl);
  root_stays = refl;
  charges = refl;
  carvings = refl;
  refused_renews = (refl, refl);
  carving_left = (refl, refl, refl);
  charging_left = (refl, refl);
  nothing_left = (refl, refl, refl, refl);
  sound_512 = λ r h. (sound_told r h).few;
}
