-- P7, "Adding and splitting charges": what its sentences are said with. "The memory team books pages singly and in bulk." laws/Charging.antt has the sentences.
-- Assumes nothing.
use Rattle.std.specs.Prelude.{◌≡◌, Bool, true, cond, not, ◌&&◌, List, [], ◌∷◌, ℕ, ◌+◌, eqb, Option}
use Rattle.carv_objects_spec.specs.Reply.{Value}
use Rattle.carv_objects_spec.specs.Registry.{Registry, RegistryReply, has, payer_of, charge_more}

-- is a charge of n bytes on object i accepted? And the registry that it leaves, accepted or refused
abbrev pub passes : (i n : ℕ) → Registry → Bool
passes i n r = eqb (charge_more i n r).number 0

abbrev pub left_by : (i n : ℕ) → Registry → Registry
left_by i n r = (charge_more i n r).after

-- charges of these amounts on object i, one after the other: are they accepted throughout? And the registry that they leave
abbrev pub all_pass : (i : ℕ) → List ℕ → Registry → Bool
all_pass i [] r = true
all_pass i (n ∷ ns) r = passes i n r && all_pass i ns (left_by i n r)

abbrev pub left_by_all : (i : ℕ) → List ℕ → Registry → Registry
left_by_all i [] r = r
left_by_all i (n ∷ ns) r = left_by_all i ns (left_by i n r)

-- the number of the first that is refused, or 0
abbrev pub first_refusal : (i : ℕ) → List ℕ → Registry → ℕ
first_refusal i [] r = 0
first_refusal i (n ∷ ns) r = cond (passes i n r) (first_refusal i ns (left_by i n r)) (charge_more i n r).number

-- "in bulk": one charge of the sum
abbrev pub sum : List ℕ → ℕ
sum [] = 0
sum (n ∷ ns) = n + sum ns

-- the same amounts in any order: each stands in both lists equally often
abbrev pub times : ℕ → List ℕ → ℕ
times n [] = 0
times n (m ∷ ms) = cond (eqb m n) 1 0 + times n ms

abbrev pub Reordered : List ℕ → List ℕ → Type 0
Reordered ns ms = (n : ℕ) → times n ns ≡ times n ms

-- what a call answers: its number and its value
abbrev pub answer : RegistryReply → ℕ × Option Value
answer z = (z.number, z.value)

-- "objects of different payers". An id without an object has no payer, and shares none
abbrev pub payers_differ : Registry → (i j : ℕ) → Bool
payers_differ r i j = not (has r i && has r j && eqb (payer_of r i) (payer_of r j))
