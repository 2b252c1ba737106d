-- What `cpu.rt` leaves and answers: a budget that is renewed, or charged what is left. Assumes nothing.
use Rattle.std.specs.Prelude.{◌≡◌, Bool, true, List, ℕ, min, ltb, get_or}
use Rattle.std.proofs.Common.{sym, ap, ◌∙◌}
use Rattle.carv_area.specs.Laws.Table.{at_alter}
use Rattle.carv_area.specs.Lookup.{Here}
use Rattle.carv_budget.specs.declared.Account.{Account}
use Rattle.carv_budget.specs.Account as account
use Rattle.carv_objects_spec.specs.declared.Entry.{Entry}
use Rattle.carv_objects_spec.specs.Kinds.{is_budget_kind}
use Rattle.carv_objects_spec.specs.Registry.{Registry, RegistryReply, or_missing, entry, is_budget, account_of, on_account, budget, refill, has_cpu, charge_most}
use Rattle.carv_objects_spec.proofs.Laws.Kept.{refill_kept, charge_most_kept}
use Rattle.carv_objects.specs.Area.{decode, sound_area, Is, Renews}
use Rattle.carv_objects.specs.Laws.Rows.{no_row}
use Rattle.carv_objects.specs.Laws.Formed.{Leaves, leaves_as}
use Rattle.carv_objects.specs.Laws.AreaSteps.{here_entry}
use Rattle.carv_objects.specs.Laws.Calls.{area_sound, is_area, budget_by}
use Rattle.carv_objects_spec.proofs.Laws.Questions.{refill_done}

-- the budget x stands at place i, with the account y
module _ (r : Registry) (x i : ℕ) (h : Here no_row r.rows x i) (b : is_budget r x ≡ true) (y : Account) (ey : y ≡ (get_or r.rows i no_row).it.account) (time : ℕ) where
  entry_renewed : entry (budget x (λ a. account.renew a time) r) x ≡ on_account (λ a. account.renew a time) (get_or r.rows i no_row).it
  entry_renewed = ap or_missing (at_alter r.rows x (on_account (λ a. account.renew a time)) (get_or r.rows i no_row).it h.is)

  kind_renewed : is_budget (budget x (λ a. account.renew a time) r) x ≡ true
  kind_renewed = ap (λ (e : Entry). is_budget_kind e.kind) entry_renewed ∙ ap (λ (e : Entry). is_budget_kind e.kind) (sym (here_entry r x i h)) ∙ b

  left_renewed : (account_of (budget x (λ a. account.renew a time) r) x).cpu_left ≡ (account.renew y time).cpu_left
  left_renewed = ap (λ (e : Entry). e.account.cpu_left) entry_renewed ∙ ap (λ (z : Account). (account.renew z time).cpu_left) (sym ey)

  refilled : (refill x time r).after ≡ budget x (λ a. account.renew a time) r
  refilled = ap (λ (z : RegistryReply). z.after) (refill_done x time r b)

  cpu_tested : (z : Account) → z ≡ account.renew y time → has_cpu (refill x time r).after x ≡ ltb 0 z.cpu_left
  cpu_tested z ez = rw (refilled, kind_renewed, left_renewed, ez)

  pub cpu_left : (z : Account) → z ≡ account.renew y time → ltb 0 z.cpu_left ≡ has_cpu (refill x time r).after x
  cpu_left z ez = sym (cpu_tested z ez)

  pub renewed_is : (z : Account) → z ≡ account.renew y time → budget x (λ _. z) r ≡ (refill x time r).after
  renewed_is z ez = budget_by r x i h (λ a. account.renew a time) z (ez ∙ ap (λ (a : Account). account.renew a time) ey) ∙ sym refilled

  pub charged_is : (ns : ℕ) (z : Account) → z ≡ account.spend (account.renew y time) (min ns (account.renew y time).cpu_left) → budget x (λ _. z) r ≡ charge_most x ns time r
  charged_is ns z ez =
      rw b (budget_by r x i h (λ a. account.spend (account.renew a time) (min ns (account.renew a time).cpu_left)) z
      (ez ∙ ap (λ (a : Account). account.spend (account.renew a time) (min ns (account.renew a time).cpu_left)) ey))

-- what is left is a sound area
module _ (a : List ℕ) (s : sound_area a ≡ true) (x time : ℕ) (a' : List ℕ) where
  pub renews : (r : Bool) → r ≡ has_cpu (refill x time (decode a)).after x → (t : Registry) → t ≡ (refill x time (decode a)).after → Leaves a' t → Renews x time a r a'
  renews r e t q l = record { answer = e; area = is_area a' (refill x time (decode a)).after (leaves_as a' t _ q l) (refill_kept x time (decode a) (area_sound a s)) }

  pub charges_most : (ns : ℕ) (t : Registry) → t ≡ charge_most x ns time (decode a) → Leaves a' t → Is a' (charge_most x ns time (decode a))
  charges_most ns t q l = is_area a' (charge_most x ns time (decode a)) (leaves_as a' t _ q l) (charge_most_kept x ns time (decode a) (area_sound a s))
