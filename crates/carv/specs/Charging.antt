-- P7, "Adding and splitting charges", over areas of bytes and the exported functions: what its sentences are said with. laws/Charging.antt has them. Assumes nothing.
use Rattle.std.specs.Prelude.{◌≡◌, Bool, true, cond, ◌&&◌, List, [], ◌∷◌, ℕ, eqb}
use Rattle.carv_objects_spec.specs.Book as objects
use Rattle.carv_scheduler_spec.specs.Book.{on_objects}
use Rattle.carv.specs.C.{Made, Ensures, lent}
use Rattle.carv.specs.Demands.{Bytes}

-- e is the registry's call c, made on the area a: what its C function ensures, with 20 answer words lent, and with bytes left
pub record Makes (c : objects.Call) (a : List ℕ) (e : Made) : Type 0 where
  pub call : e.call ≡ on_objects c
  pub is_lent : lent e ≡ true
  pub ensures : Ensures a e
  pub bytes : Bytes e.left

-- charges of these amounts on object i, one after the other, each on the area that the last one left
abbrev pub Charges : (i : ℕ) → List ℕ → (a : List ℕ) → List Made → Type 0
Charges i [] a [] = Unit {0}
Charges i [] a (e ∷ es) = ⊥
Charges i (n ∷ ns) a [] = ⊥
Charges i (n ∷ ns) a (e ∷ es) = Makes (objects.charge_more i n) a e × Charges i ns e.left es

-- each of these calls was lent what it needs, and left bytes
abbrev pub EachLent : List Made → Type 0
EachLent [] = Unit {0}
EachLent (e ∷ es) = (lent e ≡ true) × Bytes e.left × EachLent es

-- are all of these calls accepted?
abbrev pub all_accepted : List Made → Bool
all_accepted [] = true
all_accepted (e ∷ es) = eqb e.returned 0 && all_accepted es

-- the number of the first that is refused, or 0
abbrev pub first_refusal : List Made → ℕ
first_refusal [] = 0
first_refusal (e ∷ es) = cond (eqb e.returned 0) (first_refusal es) e.returned
