-- How a call's reply is met by what its code leaves: refused with the area as it came, or answered with the new state. Assumes nothing.
use Rattle.std.specs.Prelude.{◌≡◌, refl, Bool, true, false, ◌&&◌, List, ℕ, get_or, leb, Option, Some, None, Result, Err}
use Rattle.std.proofs.Common.{sym, ap, ◌∙◌, subst, leb-true}
use Rattle.carv_area.specs.Table.{Row}
use Rattle.carv_area.specs.Laws.Table.{alter_known}
use Rattle.carv_area.specs.Lookup.{Here}
use Rattle.carv_budget.specs.declared.Account.{Account}
use Rattle.carv_budget.specs.Account as account
use Rattle.carv_budget.proofs.Laws.Account.{charge_sound}
use Rattle.carv_budget.proofs.Laws.Refines.{renew_charged}
use Rattle.carv_objects_spec.specs.declared.kind.Kind.{Kind}
use Rattle.carv_objects_spec.specs.declared.kind.Kind.TheVariants.{Budget}
use Rattle.carv_objects_spec.specs.declared.Entry.{Entry}
use Rattle.carv_objects.specs.declared.refusal.Refusal.{Refusal}
use Rattle.carv_objects.specs.declared.refusal.Refusal.TheVariants.{Limit}
use Rattle.carv_objects.specs.Refusal.{refusal_number}
use Rattle.carv_objects.specs.Laws.Booked.{Books, Carves}
use Rattle.carv_objects_spec.specs.Reply.{Value, refuse}
use Rattle.carv_objects.specs.Answer.{number, value}
use Rattle.carv_objects_spec.specs.Registry.{Registry, RegistryReply, account_of, on_account, budget, add, plain, carved as carved_entry}
use Rattle.carv_objects_spec.proofs.Laws.SoundFacts.{Sound}
use Rattle.carv_objects_spec.proofs.Laws.SoundLaws.{account_sound}
use Rattle.carv_objects.specs.Area.{decode, sound_area, Is, Serves}
use Rattle.carv_objects.specs.Laws.AreaLaws.{sound_formed, formed_sound}
use Rattle.carv_objects.specs.Laws.Rows.{no_row}
use Rattle.carv_objects.specs.Laws.Formed.{WellFormed, Leaves, leaves_as}
use Rattle.carv_objects.specs.Laws.AreaSteps.{here_entry}

-- a sound area is well formed
module _ (a : List ℕ) (s : sound_area a ≡ true) where
  pub area_sound : Sound (decode a)
  area_sound = (sound_formed a s).1

  pub area_formed : WellFormed a
  area_formed = record { size = (sound_formed a s).0; next = refl; rows = (sound_formed a s).2; rising = area_sound.rising }

  -- the account of an entry is sound
  pub account_at_sound : (x i : ℕ) → Here no_row (decode a).rows x i → (y : Account) → y ≡ (get_or (decode a).rows i no_row).it.account → account.sound y ≡ true
  account_at_sound x i h y e = rw e (account_sound (area_sound.each x (get_or (decode a).rows i no_row).it h.is))

-- what is left of a sound registry is a sound area
pub is_area : (a : List ℕ) (s : Registry) → Leaves a s → Sound s → Is a s
is_area a s l h = record { sound = formed_sound a l.formed.size (subst Sound (sym l.is) h) l.formed.rows; same = l.is }

module _ {T : Type 0} {tells : T → Option Value} (call : Registry → RegistryReply) (a : List ℕ) (s : sound_area a ≡ true) where
  -- refused, and left as it came
  pub refused : (n : Refusal) → call (decode a) ≡ refuse (refusal_number n) (decode a) → Serves call tells a (Err n) a
  refused n e = record {
    number = sym (ap (λ (z : RegistryReply). z.number) e);
    value = sym (ap (λ (z : RegistryReply). z.value) e);
    area = record { sound = s; same = sym (ap (λ (z : RegistryReply). z.after) e) };
  }

  -- answered, with the reply z
  pub answered : (z : RegistryReply) → call (decode a) ≡ z → (r : Result T Refusal) → number r ≡ z.number → value tells r ≡ z.value → (a' : List ℕ) → Leaves a' z.after → Sound z.after
      → Serves call tells a r a'
  answered z e r n v a' l h = record {
    number = n ∙ sym (ap (λ (w : RegistryReply). w.number) e);
    value = v ∙ sym (ap (λ (w : RegistryReply). w.value) e);
    area = is_area a' (call (decode a)).after (leaves_as a' _ _ (sym (ap (λ (w : RegistryReply). w.after) e)) l) (subst Sound (sym (ap (λ (w : RegistryReply). w.after) e)) h);
  }

-- writing what f gives of the account that stands there is going by f
module _ (r : Registry) (x i : ℕ) (h : Here no_row r.rows x i) where
  pub budget_by : (f : Account → Account) (y : Account) → y ≡ f (get_or r.rows i no_row).it.account → budget x (λ _. y) r ≡ budget x f r
  budget_by f y e =
      ap (λ (m : List (Row Entry)). record { next = r.next; rows = m })
      (alter_known r.rows x (on_account (λ _. y)) (on_account f) (get_or r.rows i no_row).it h.is (ap (λ (z : Account). on_account (λ _. z) (get_or r.rows i no_row).it) e))

  pub account_here : account_of r x ≡ (get_or r.rows i no_row).it.account
  account_here = ap (λ (e : Entry). e.account) (here_entry r x i h)

-- what is booked, and what is refused
pub booked_yes : (b : Bool) (x : Account) (p : Option Account) → Books b x p → (y : Account) → p ≡ Some y → (b ≡ true) × (y ≡ x)
booked_yes b x p h y e = subst (Books b x) e h

pub booked_no : (b : Bool) (x : Account) (p : Option Account) → Books b x p → p ≡ None → b ≡ false
booked_no b x p h e = subst (Books b x) e h

-- the test of free memory, of the account that stands at place i
module _ (r : Registry) (x i : ℕ) (h : Here no_row r.rows x i) (y : Account) (e : y ≡ (get_or r.rows i no_row).it.account) (n : ℕ) (b : Bool) where
  pub free_here : leb n (account.free y) ≡ b → leb n (account.free (account_of r x)) ≡ b
  free_here p = rw (account_here r x i h, ← e) p

-- `insert` and `create` leave the payer charged and the new object
module _ (r : Registry) (payer i bytes : ℕ) (kind : Kind) (h : Here no_row r.rows payer i) (y z : Account) (ey : y ≡ (get_or r.rows i no_row).it.account) (ez : z ≡ account.charge y bytes) where
  pub stored_plain : add (plain kind payer bytes) (budget payer (λ _. z) r) ≡ add (plain kind payer bytes) (budget payer (λ a. account.charge a bytes) r)
  stored_plain = ap (add (plain kind payer bytes)) (budget_by r payer i h (λ a. account.charge a bytes) z (ez ∙ ap (λ (a : Account). account.charge a bytes) ey))

-- what a call leaves of a sound registry is sound
pub kept_at : (x z : RegistryReply) → Sound x.after → x ≡ z → Sound z.after
kept_at x z h e = subst (λ (w : RegistryReply). Sound w.after) e h

-- a carve-out, made or refused
pub carved_yes : (a : Account) (cpu memory time : ℕ) (p : Option (Account × Account)) → Carves a cpu memory time p → (q : Account × Account) → p ≡ Some q
    → Carves a cpu memory time (Some q)
carved_yes a cpu memory time p h q e = subst (Carves a cpu memory time) e h

pub carved_no : (a : Account) (cpu memory time : ℕ) (p : Option (Account × Account)) → Carves a cpu memory time p → p ≡ None → Carves a cpu memory time None
carved_no a cpu memory time p h e = subst (Carves a cpu memory time) e h

-- a renewal leaves the memory, and a charge of memory the CPU time
free_renewed : (a : Account) (t : ℕ) → account.free (account.renew a t) ≡ account.free a
unfolding account.renew
free_renewed a t = refl

-- `create_budget`: the account at place i, y, with the 128 bytes charged, p, was carved
module _ (r : Registry) (x i : ℕ) (h : Here no_row r.rows x i) (y p : Account) (ey : y ≡ (get_or r.rows i no_row).it.account) (ep : p ≡ account.charge y 128) (cpu memory time : ℕ) where
  here_is : account_of r x ≡ y
  here_is = account_here r x i h ∙ sym ey

  left_same : (account.renew p time).cpu_left ≡ (account.renew (account_of r x) time).cpu_left
  left_same = rw (ep, here_is) (ap (λ (a : Account). a.cpu_left) (renew_charged y 128 time))

  free_same : account.free (account.renew p time) ≡ account.free (account.charge (account_of r x) 128)
  free_same = free_renewed p time ∙ rw (ep, here_is)

  pub carve_refused : (leb cpu (account.renew p time).cpu_left && leb memory (account.free (account.renew p time))) ≡ false
      → (leb cpu (account.renew (account_of r x) time).cpu_left && leb memory (account.free (account.charge (account_of r x) 128))) ≡ false
  carve_refused q = rw (left_same, free_same) at q

  pub carve_left : leb cpu (account.renew p time).cpu_left ≡ true → leb cpu (account.renew (account_of r x) time).cpu_left ≡ true
  carve_left q = rw left_same at q

  pub carve_memory : leb memory (account.free (account.renew p time)) ≡ true → leb memory (account.free (account.charge (account_of r x) 128)) ≡ true
  carve_memory q = rw free_same at q

  pub stored_budget : (z w : Account) → z ≡ account.reserve (account.renew p time) cpu memory → w ≡ account.fresh cpu memory (account.renew p time).period_start
      → add (record { kind = Budget; payer = x; charge = 128; account = w }) (budget x (λ _. z) r)
      ≡ add (carved_entry x cpu memory (account.renew (account_of r x) time)) (budget x (λ a. account.reserve (account.charge (account.renew a time) 128) cpu memory) r)
  stored_budget z w ez ew =
      let q : account.renew p time ≡ account.charge (account.renew y time) 128 = ap (λ (a : Account). account.renew a time) ep ∙ renew_charged y 128 time in
      let f : Account → Account = λ a. account.reserve (account.charge (account.renew a time) 128) cpu memory in
      let s : budget x (λ _. z) r ≡ budget x f r = budget_by r x i h f z (ez ∙ ap (λ (a : Account). account.reserve a cpu memory) q ∙ ap f ey) in
      let c : w ≡ account.fresh cpu memory (account.renew (account_of r x) time).period_start =
      ew ∙ ap (λ (a : Account). account.fresh cpu memory a.period_start) q ∙ ap (λ (a : Account). account.fresh cpu memory (account.renew a time).period_start) (sym here_is) in
      ap (λ (a : Account). add (record { kind = Budget; payer = x; charge = 128; account = a }) (budget x (λ _. z) r)) c
      ∙ ap (add (carved_entry x cpu memory (account.renew (account_of r x) time))) s

-- the same of a CPU charge
module _ (r : Registry) (x i : ℕ) (h : Here no_row r.rows x i) (y : Account) (ey : y ≡ (get_or r.rows i no_row).it.account) (ns time : ℕ) where
  pub spend_left : (b : Bool) → leb ns (account.renew y time).cpu_left ≡ b → leb ns (account.renew (account_of r x) time).cpu_left ≡ b
  spend_left b q = rw (account_here r x i h, ← ey) q

  pub spent_by : (z : Account) → z ≡ account.spend (account.renew y time) ns → budget x (λ _. z) r ≡ budget x (λ a. account.spend (account.renew a time) ns) r
  spent_by z e = budget_by r x i h (λ a. account.spend (account.renew a time) ns) z (e ∙ ap (λ (a : Account). account.spend (account.renew a time) ns) ey)

  pub renewed_by : (z : Account) → z ≡ account.renew y time → budget x (λ _. z) r ≡ budget x (λ a. account.renew a time) r
  renewed_by z e = budget_by r x i h (λ a. account.renew a time) z (e ∙ ap (λ (a : Account). account.renew a time) ey)

  pub due_here : account.due y time ≡ account.due (account_of r x) time
  due_here = ap (λ (a : Account). account.due a time) (ey ∙ sym (account_here r x i h))

-- refused, with a renewal that stays
pub refused_after : {T : Type 0} {tells : T → Option Value} (call : Registry → RegistryReply) (a : List ℕ) → sound_area a ≡ true → (s : Registry) → call (decode a) ≡ refuse 12 s → (a' : List ℕ) → Leaves a' s → Sound s
    → Serves call tells a (Err Limit) a'
refused_after call a t s e a' l h = answered call a t (refuse 12 s) e (Err Limit) refl refl a' l h

-- an amount n that was computed as m
pub free_of : (r : Registry) (x i : ℕ) (h : Here no_row r.rows x i) (y : Account) → y ≡ (get_or r.rows i no_row).it.account → (m n : ℕ) → m ≡ n → (b : Bool) → leb m (account.free y) ≡ b
    → leb n (account.free (account_of r x)) ≡ b
free_of r x i h y e m n q b p = free_here r x i h y e n b (rw q at p)

pub stored_of : (r : Registry) (payer i m n : ℕ) (kind : Kind) (h : Here no_row r.rows payer i) (y z : Account) → y ≡ (get_or r.rows i no_row).it.account → z ≡ account.charge y m → m ≡ n
    → add (plain kind payer m) (budget payer (λ _. z) r) ≡ add (plain kind payer n) (budget payer (λ a. account.charge a n) r)
stored_of r payer i m n kind h y z ey ez q = rw (← q) (stored_plain r payer i m kind h y z ey ez)

pub charged_sound : (y z : Account) (n : ℕ) → z ≡ account.charge y n → account.sound y ≡ true → leb n (account.free y) ≡ true → account.sound z ≡ true
charged_sound y z n e s p = rw e (charge_sound y n s (leb-true n (account.free y) p))

-- a reading answers with the area as it came
pub read_serves : {T : Type 0} {tells : T → Option Value} (call : Registry → RegistryReply) (a : List ℕ) → sound_area a ≡ true → (z : RegistryReply) → call (decode a) ≡ z → z.after ≡ decode a → (r : Result T Refusal)
    → number r ≡ z.number → value tells r ≡ z.value → Serves call tells a r a
read_serves call a s z e q r n v = record {
  number = n ∙ sym (ap (λ (w : RegistryReply). w.number) e);
  value = v ∙ sym (ap (λ (w : RegistryReply). w.value) e);
  area = record { sound = s; same = sym (ap (λ (w : RegistryReply). w.after) e ∙ q) };
}
