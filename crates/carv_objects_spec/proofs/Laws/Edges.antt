-- Document 01's marked cases, (m), as far as the registry shows them: one list, which the definitions satisfy together. Ticks and plannings are the scheduler's. Assumes nothing.
use Rattle.std.specs.Prelude.{Bool, true, false, not, ◌&&◌, List, [], ◌∷◌, ◌≡◌, refl, ℕ, eqb, Option, Some, None}
use Rattle.std.proofs.Common.{ap}
use Rattle.carv_area.specs.Table.{Row}
use Rattle.carv_budget.specs.declared.Account.{Account}
use Rattle.carv_budget.specs.Account.{blank, due, renew}
use Rattle.carv_objects_spec.specs.declared.kind.Kind.TheVariants.{Frame, Budget}
use Rattle.carv_objects_spec.specs.declared.Entry.{Entry}
use Rattle.carv_objects_spec.specs.Reply.{Value, id, renewed, pays, of_account, charge, of_totals}
use Rattle.carv_objects_spec.specs.Registry.{Registry, RegistryReply, entry, has, account_of, opening, create, create_budget, uncharge, remove, refill, charge_cpu}
use Rattle.carv_objects_spec.specs.Sound.{all}

-- refused with this number
abbrev refused : ℕ → RegistryReply → Bool
refused n x = eqb x.number n

abbrev accepted : RegistryReply → Bool
accepted x = eqb x.number 0

abbrev is_id : ℕ → Option Value → Bool
is_id i None = false
is_id i (Some (id j)) = eqb j i
is_id i (Some (renewed b)) = false
is_id i (Some (pays b)) = false
is_id i (Some (of_account a)) = false
is_id i (Some (charge p n)) = false
is_id i (Some (of_totals t)) = false

abbrev is_renewal : Option Value → Bool
is_renewal None = false
is_renewal (Some (id j)) = false
is_renewal (Some (renewed b)) = b
is_renewal (Some (pays b)) = false
is_renewal (Some (of_account a)) = false
is_renewal (Some (charge p n)) = false
is_renewal (Some (of_totals t)) = false

-- accepted, with this id
abbrev gives : ℕ → RegistryReply → Bool
gives i x = accepted x && is_id i x.value

-- the start and the line of budget i
abbrev reads : Registry → ℕ → (start left cpu_reserved used memory_reserved : ℕ) → Bool
reads r i start left cpu_reserved used memory_reserved = of (account_of r i) where
  of : Account → Bool
  of a = eqb a.period_start start && eqb a.cpu_left left && eqb a.cpu_reserved cpu_reserved && eqb a.memory_used used && eqb a.memory_reserved memory_reserved

-- "Opening: CPU 10,000,000, memory 1,000,000"
root : Registry
root = opening 10_000_000 1_000_000

-- "Frame for payer 1"
frame : RegistryReply
frame = create 3 1 true root

-- "Then carve 4,000,000 ns and 8,192 bytes at time 0"
carve : RegistryReply
carve = create_budget 1 4_000_000 8_192 0 frame.after

-- "6,000,000: accepted", as budget 4
second : RegistryReply
second = create_budget 1 6_000_000 0 0 carve.after

-- "Budget 3 takes two Frames", 5 and 6
full : Registry
full = (create 3 3 true (create 3 3 true second.after).after).after

-- "With both Frames gone"
empty : Registry
empty = (remove 6 0 (remove 5 0 full).after).after

-- 300,000 ns left of a root with this memory
low : ℕ → Registry
low memory = (charge_cpu 1 9_700_000 0 (opening 10_000_000 memory)).after

pub edges : List Bool
edges =
    -- "Frame for payer 1: id 2, used 4,096"
    (gives 2 frame && reads frame.after 1 0 10_000_000 0 4_096 0)
    -- "id 3, root used 4,224, memory reserved 8,192, CPU left 6,000,000"
    ∷ (gives 3 carve && reads carve.after 1 0 6_000_000 4_000_000 4_224 8_192)
    -- "then carving 6,000,001 ns and no memory at 0: 12; 6,000,000: accepted"
    ∷ refused 12 (create_budget 1 6_000_001 0 0 carve.after)
    ∷ (gives 4 second && reads second.after 1 0 0 10_000_000 4_352 8_192)
    -- "Budget 3 takes two Frames; an Endpoint more: 12"
    ∷ (has full 5 && has full 6 && reads full 3 0 4_000_000 0 8_192 0)
    ∷ refused 12 (create 4 3 true full)
    -- "Removing 3 meanwhile: 10. With both Frames gone: accepted, root CPU left unchanged", after the second carve-out and without it
    ∷ refused 10 (remove 3 0 full)
    ∷ (accepted (remove 3 0 empty) && reads (remove 3 0 empty).after 1 0 0 6_000_000 4_224 0)
    ∷ (accepted (remove 3 0 carve.after) && reads (remove 3 0 carve.after).after 1 0 6_000_000 0 4_096 0)
    -- "Start 0: at 9,999,999 no renewal; at 25,000,000 start is 20,000,000"
    ∷ (accepted (refill 1 9_999_999 (low 1_000_000)) && not (is_renewal (refill 1 9_999_999 (low 1_000_000)).value) && reads (refill 1 9_999_999 (low 1_000_000)).after 1 0 300_000 0 0 0)
    ∷ (is_renewal (refill 1 25_000_000 (low 1_000_000)).value && reads (refill 1 25_000_000 (low 1_000_000)).after 1 20_000_000 10_000_000 0 0 0)
    -- "Uncharging 4,097 of a Frame: 11; 4,096: charge 0"
    ∷ refused 11 (uncharge 2 4_097 frame.after)
    ∷ (accepted (uncharge 2 4_096 frame.after) && eqb (entry (uncharge 2 4_096 frame.after).after 2).charge 0 && reads (uncharge 2 4_096 frame.after).after 1 0 10_000_000 0 0 0)
    -- "Root memory 127, carve 0 and 0: 12, no renewal"
    ∷ (refused 12 (create_budget 1 0 0 25_000_000 (low 127)) && reads (create_budget 1 0 0 25_000_000 (low 127)).after 1 0 300_000 0 0 0)
    -- "Memory 128, carve 0 and 1: 12, renewed if due"
    ∷ (refused 12 (create_budget 1 0 1 25_000_000 (low 128)) && reads (create_budget 1 0 1 25_000_000 (low 128)).after 1 20_000_000 10_000_000 0 0 0)
    ∷ (refused 12 (create_budget 1 0 1 9_999_999 (low 128)) && reads (create_budget 1 0 1 9_999_999 (low 128)).after 1 0 300_000 0 0 0)
    ∷ []

-- The registries of the cases, written out, so that no call is computed twice.

abbrev pub budget : (i bytes allowance limit left cpu_reserved used memory_reserved : ℕ) → Row Entry
budget i bytes allowance limit left cpu_reserved used memory_reserved = record {
  id = i;
  it = record {
    kind = Budget;
    payer = 1;
    charge = bytes;
    account = record {
      cpu_allowance = allowance;
      memory_limit = limit;
      period_start = 0;
      cpu_left = left;
      cpu_reserved = cpu_reserved;
      memory_used = used;
      memory_reserved = memory_reserved;
    };
  };
}

-- a Frame
abbrev pub object : (i payer : ℕ) → Row Entry
object i payer = record { id = i; it = record { kind = Frame; payer = payer; charge = 4_096; account = blank } }

abbrev pub registry : ℕ → List (Row Entry) → Registry
registry next rows = record { next = next; rows = rows }

abbrev framed : Registry
framed = registry 3 (budget 1 0 10_000_000 1_000_000 10_000_000 0 4_096 0 ∷ object 2 1 ∷ [])

abbrev pub carved : Registry
carved = registry 4 (budget 1 0 10_000_000 1_000_000 6_000_000 4_000_000 4_224 8_192 ∷ object 2 1 ∷ budget 3 128 4_000_000 8_192 4_000_000 0 0 0 ∷ [])

-- root, Frame and the second carve-out around budget 3
abbrev around : (next used : ℕ) → List (Row Entry) → Registry
around next used rows =
    registry next (budget 1 0 10_000_000 1_000_000 0 10_000_000 4_352 8_192 ∷ object 2 1
    ∷ budget 3 128 4_000_000 8_192 4_000_000 0 used 0 ∷ budget 4 128 6_000_000 0 6_000_000 0 0 0 ∷ rows)

frame_is : frame ≡ record { number = 0; value = Some (id 2); after = framed }
unfolding frame root
frame_is = refl

carve_is : carve ≡ record { number = 0; value = Some (id 3); after = carved }
unfolding carve due renew
carve_is = ap (λ (x : RegistryReply). create_budget 1 4_000_000 8_192 0 x.after) frame_is

second_is : second ≡ record { number = 0; value = Some (id 4); after = around 5 0 [] }
unfolding second due renew
second_is = ap (λ (x : RegistryReply). create_budget 1 6_000_000 0 0 x.after) carve_is

one_is : (create 3 3 true second.after).after ≡ around 6 4_096 (object 5 3 ∷ [])
one_is = ap (λ (x : RegistryReply). (create 3 3 true x.after).after) second_is

full_is : full ≡ around 7 8_192 (object 5 3 ∷ object 6 3 ∷ [])
unfolding full
full_is = ap (λ (r : Registry). (create 3 3 true r).after) one_is

left_is : (remove 5 0 full).after ≡ around 7 4_096 (object 6 3 ∷ [])
left_is = ap (λ (r : Registry). (remove 5 0 r).after) full_is

empty_is : empty ≡ around 7 0 []
unfolding empty
empty_is = ap (λ (r : Registry). (remove 6 0 r).after) left_is

low_is : (memory : ℕ) → low memory ≡ registry 2 (budget 1 0 10_000_000 memory 300_000 0 0 0 ∷ [])
unfolding low due renew
low_is memory = refl

pub edges_hold : all edges ≡ true
unfolding edges due renew
edges_hold = rw (frame_is, carve_is, second_is, full_is, empty_is, low_is 1_000_000, low_is 127, low_is 128)
