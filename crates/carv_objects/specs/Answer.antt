-- Document 01's number of what the registry answers, and its value. Assumes nothing.
use Rattle.std.specs.Prelude.{Bool, ℕ, Option, Some, None, Result, Ok, Err}
use Rattle.carv_budget.specs.declared.Account.{Account}
use Rattle.carv_objects_spec.specs.declared.Totals.{Totals}
use Rattle.carv_objects_spec.specs.Reply.{Value, id, renewed, pays, of_account, charge, of_totals}
use Rattle.carv_objects.specs.declared.Charge.{Charge}
use Rattle.carv_objects.specs.declared.refusal.Refusal.{Refusal}
use Rattle.carv_objects.specs.Refusal.{refusal_number}

module _ {T : Type 0} where
  abbrev pub number : Result T Refusal → ℕ
  number (Ok x) = 0
  number (Err e) = refusal_number e

  -- what is answered tells a value; a refusal has none
  abbrev pub value : (T → Option Value) → Result T Refusal → Option Value
  value tells (Ok x) = tells x
  value tells (Err e) = None

-- What value is told by what the calls answer.

abbrev pub nothing : Unit {0} → Option Value
nothing x = None

abbrev pub id_of : ℕ → Option Value
id_of i = Some (id i)

-- was a renewal due?
abbrev pub renewed_of : Bool → Option Value
renewed_of b = Some (renewed b)

-- does the object pay for another?
abbrev pub pays_of : Bool → Option Value
pays_of b = Some (pays b)

abbrev pub account_of : Account → Option Value
account_of a = Some (of_account a)

abbrev pub charge_of : Charge → Option Value
charge_of c = Some (charge c.payer c.bytes)

abbrev pub totals_of : Totals → Option Value
totals_of t = Some (of_totals t)
