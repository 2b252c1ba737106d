-- What `charge_more`, `uncharge` and `remove` leave: a place stays right where an account is written, and what is written by place is what document 01 says by id.
-- Assumes nothing.
use Rattle.std.specs.Prelude.{◌≡◌, refl, true, false, List, [], ◌∷◌, ℕ, ◌+◌, ◌*◌, ◌-◌, ◌^◌, ◌≤◌, ◌<◌, eqb, leb, length, get_or, Some, None, Ok, Err}
use Rattle.std.proofs.Common.{sym, ap, ◌∙◌, subst, arith, eqb-true, leb-true, le-leb}
use Rattle.std.proofs.lemmas.List.{length-map}
use Rattle.std.proofs.Math.ListN.{get_or-map}
use Rattle.carv_area.specs.Table.{Row, Rising, at, alter}
use Rattle.carv_area.specs.Laws.Table.{test, alter_known, erase_alter}
use Rattle.carv_area.specs.Laws.Words.{word_below}
use Rattle.carv_area.specs.Laws.Parts.{part_bytes}
use Rattle.carv_area.specs.Rows.{remove_at}
use Rattle.carv_area.specs.Keys.{find_in}
use Rattle.carv_area.specs.Laws.Keys.{find_there}
use Rattle.carv_area.specs.Lookup.{Here, Located}
use Rattle.carv_area.specs.Laws.Lookup.{ids, located, rising_ids}
use Rattle.carv_budget.specs.declared.Account.{Account}
use Rattle.carv_budget.specs.Account as account
use Rattle.carv_budget.proofs.Laws.Account.{renew_sound, renewal, return_sound, sound_told}
use Rattle.carv_objects_spec.specs.declared.Entry.{Entry}
use Rattle.carv_objects.specs.declared.refusal.Refusal.TheVariants.{Pays}
use Rattle.carv_objects_spec.specs.Reply.{accept}
use Rattle.carv_objects.specs.Answer.{nothing}
use Rattle.carv_objects_spec.specs.Kinds.{is_budget_kind}
use Rattle.carv_objects_spec.specs.Registry.{Registry, found, entry, has, account_of, payer_of, pays_for, on_account, on_charge, budget, object, drop, charge_more, uncharge, remove}
use Rattle.carv_objects_spec.proofs.Laws.SoundFacts.{Sound}
use Rattle.carv_objects_spec.proofs.Laws.SoundLaws.{account_sound}
use Rattle.carv_objects_spec.proofs.Laws.Steps.{ObjectEntry, budget_entry, at_on_account}
use Rattle.carv_objects_spec.proofs.Laws.Kept as kept
use Rattle.carv_objects_spec.proofs.Laws.Refines.{return_blank}
use Rattle.carv_objects.specs.Area.{table, decode, LaidOut, sound_area, Serves}
use Rattle.carv_objects.specs.Laws.Rows.{no_row}
use Rattle.carv_objects.specs.Laws.AreaLaws.{sound_laid}
use Rattle.carv_objects.specs.Laws.Formed.{Leaves, leaves_as}
use Rattle.carv_objects.specs.Laws.AreaSteps.{at_is, with_rows, here_entry, here_has, here_budget, here_other}
use Rattle.carv_objects.specs.Laws.Calls.{area_sound, refused, answered, budget_by, account_here, kept_at}
use Rattle.carv_objects_spec.proofs.Laws.Questions as asks

module _ {A : Type 0} where
  -- an alteration moves no id
  ids_alter : (m : List (Row A)) (p : ℕ) (f : A → A) → ids (alter p f m) ≡ ids m
  ids_alter [] p f = refl
  ids_alter (r ∷ m) p f = test (eqb r.id p)
      (λ e. rw e (ap (λ (n : ℕ). n ∷ ids m) (sym (eqb-true r.id p e))))
      (λ e. rw e (ap (◌∷◌ r.id) (ids_alter m p f)))

  -- the row with id x stays where it stands
  pub here_moved : (d : Row A) (m : List (Row A)) (l n : ℕ) → d.id ≡ 0 → Rising l n m → (p : ℕ) (f : A → A) (x i : ℕ) → Here d m x i → Here d (alter p f m) x i
  here_moved d m l n z up p f x i h =
      let same : get_or (ids m) i 0 ≡ x = subst (λ (k : ℕ). get_or (ids m) i k ≡ (get_or m i d).id) z (get_or-map (λ r. r.id) m i d) ∙ h.same in
      let k : find_in (ids (alter p f m)) x ≡ Some i = ap (λ (ks : List ℕ). find_in ks x) (ids_alter m p f)
      ∙ find_there (ids m) x i (rising_ids m l n up) (omega (arith, length-map m (λ r. r.id), h.within)) same in
      subst (Located d (alter p f m) x) k (located d (alter p f m) x)

-- the account of p was written
module _ (r r₁ : Registry) (p : ℕ) (y : Account) (l : r₁ ≡ budget p (λ _. y) r) where
  pub moved_here : Rising 1 r.next r.rows → (x i : ℕ) → Here no_row r.rows x i → Here no_row r₁.rows x i
  moved_here up x i h =
      subst (λ (s : Registry). Here no_row s.rows x i) (sym l) (here_moved no_row r.rows 1 r.next refl up p (on_account (λ _. y)) x i h)

-- The object x at place i, its entry e; its payer at place j, with the account y.
module _ (r : Registry) (s : Sound r) (x i : ℕ) (h : Here no_row r.rows x i) (e : Entry) (q : e ≡ (get_or r.rows i no_row).it) where
  object_at : at r.rows x ≡ Some e
  object_at = h.is ∙ ap Some (sym q)

  pub object_read : entry r x ≡ e
  object_read = here_entry r x i h ∙ sym q

  pub payer_has : has r e.payer ≡ true
  payer_has = let (d, B) = budget_entry r e.payer (s.each x e object_at).paid in ap found B.here

  pub child_sound : account.sound e.account ≡ true
  child_sound = account_sound (s.each x e object_at)

  module _ (j : ℕ) (p : Here no_row r.rows e.payer j) (y : Account) (w : y ≡ (get_or r.rows j no_row).it.account) where
    object_entry : ObjectEntry r x e (get_or r.rows j no_row).it
    object_entry = record {
      here = object_at;
      read = object_read;
      payer = record {
        here = p.is;
        kind = ap (λ (z : Entry). z.kind) (sym (here_entry r e.payer j p)) ∙ (s.each x e object_at).paid;
        read = here_entry r e.payer j p;
      };
    }

    pub payer_account : account_of r (payer_of r x) ≡ y
    payer_account = ap (λ (z : Entry). account_of r z.payer) object_read ∙ account_here r e.payer j p ∙ sym w

    pub payer_sound : account.sound y ≡ true
    payer_sound = rw w (account_sound (s.each e.payer (get_or r.rows j no_row).it p.is))

    -- what the object is charged, its payer has used
    pub charge_used : e.charge ≤ y.memory_used
    charge_used = rw w (kept.charge_within r x e (get_or r.rows j no_row).it s object_entry)

    pub credit_asks : (n : ℕ) → n ≤ e.charge → (account.sound y ≡ true) × (n ≤ y.memory_used)
    credit_asks n b = (payer_sound, omega (arith, charge_used))

    pub returned_asks : (time : ℕ) (z : Account) → z ≡ account.return (account.renew y time) e.account → (account.sound z ≡ true) × (e.charge ≤ z.memory_used)
    returned_asks time z u = rw u (return_sound (account.renew y time) e.account (renew_sound y time payer_sound), omega (arith, charge_used, (renewal y time).used))

    -- a charge that the payer covers is within its limit
    charge_within_limit : (n : ℕ) → leb n (account.free y) ≡ true → e.charge + n ≤ y.memory_limit
    charge_within_limit n b = omega (arith, charge_used, leb-true n (account.free y) b, (sound_told payer_sound).memory)

    -- the payer's account goes by f, and the charge by g
    pub booked_is : (f : Account → Account) (g : ℕ → ℕ) (z : Account) → z ≡ f y
        → object x (λ _. g e.charge) (budget e.payer (λ _. z) r) ≡ object x g (budget (payer_of r x) f r)
    booked_is f g z k =
        let (d, at_d, payer, charge) = at_on_account r.rows e.payer x f e object_at in
        ap (object x (λ _. g e.charge)) (budget_by r e.payer j p f z (k ∙ ap f w))
        ∙ ap (λ (m : List (Row Entry)). with_rows m r)
        (alter_known (alter e.payer (on_account f) r.rows) x (on_charge (λ _. g e.charge)) (on_charge g) d at_d
        (ap (λ (c : ℕ). on_charge (λ _. g c) d) (sym charge)))
        ∙ ap (λ (c : Entry). object x g (budget c.payer f r)) (sym object_read)

    -- the payer's account goes by f, and the object is taken out
    pub released_is : (x ≡ 1 → ⊥) → (f : Account → Account) (z : Account) → z ≡ f y
        → with_rows (remove_at (budget e.payer (λ _. z) r).rows i) r ≡ budget (payer_of r x) f (drop x r)
    released_is not_root f z k =
        let low = (s.each x e object_at).lower not_root in
        ap (λ (t : Registry). with_rows (remove_at t.rows i) r) (budget_by r e.payer j p f z (k ∙ ap f w))
        ∙ ap (λ (m : List (Row Entry)). with_rows m r)
        (sym (here_moved no_row r.rows 1 r.next refl s.rising e.payer (on_account f) x i h).erased
        ∙ erase_alter r.rows x e.payer (on_account f) (λ z. omega arith))
        ∙ ap (λ (c : Entry). budget c.payer f (drop x r)) (sym object_read)

-- the limit of an account is a word of the area
pub limit_fits : (a : List ℕ) → LaidOut a → ((k : ℕ) → get_or a k 0 < 256) → (j : ℕ) → j < length (decode a).rows
    → (get_or (decode a).rows j no_row).it.account.memory_limit < 2 ^ 64
unfolding table
limit_fits a k b j h =
    subst (λ (t : Row Entry). t.it.account.memory_limit < 2 ^ 64) (at_is a k j h)
    (word_below (table a) (j * 11 + 6) (part_bytes 8 45_064 a (omega (arith, k.size)) b))

-- The calls, of the object x at place i of a sound area, its entry e; its payer at place j, with the account y.
module _ (a : List ℕ) (s : sound_area a ≡ true) (x i : ℕ) (h : Here no_row (decode a).rows x i) (e : Entry) (q : e ≡ (get_or (decode a).rows i no_row).it)
    (j : ℕ) (p : Here no_row (decode a).rows e.payer j) (y : Account) (w : y ≡ (get_or (decode a).rows j no_row).it.account) where
  abbrev r : Registry
  r = decode a

  abbrev S : Sound r
  S = area_sound a s

  -- a charge that the payer covers is a word
  pub charge_fits : ((k : ℕ) → get_or a k 0 < 256) → (n : ℕ) → leb n (account.free y) ≡ true → e.charge + n < 2 ^ 64
  charge_fits b n c =
      omega (
        arith,
        charge_within_limit r S x i h e q j p y w n c,
        limit_fits a (sound_laid a s) b j p.within,
        ap (λ (z : Account). z.memory_limit) w,
      )

  pub charge_more_served : (n : ℕ) (z : Account) → (leb n (account.free y) ≡ true) × (z ≡ account.charge y n) → (a' : List ℕ)
      → Leaves a' (object x (λ _. e.charge + n) (budget e.payer (λ _. z) r)) → Serves (charge_more x n) nothing a (Ok tt) a'
  charge_more_served n z b a' l =
      let k = asks.charge_more_done x n r (here_has r x i h) (rw (payer_account r S x i h e q j p y w) b.0) in
      answered (charge_more x n) a s _ k (Ok tt) refl refl a'
      (leaves_as a' _ _ (booked_is r S x i h e q j p y w (λ c. account.charge c n) (λ c. c + n) z b.1) l)
      (kept_at _ _ (kept.charge_more_kept x n r S) k)

  pub uncharge_served : (n : ℕ) → n ≤ e.charge → (z : Account) → z ≡ account.credit y n → (a' : List ℕ)
      → Leaves a' (object x (λ _. e.charge - n) (budget e.payer (λ _. z) r)) → Serves (uncharge x n) nothing a (Ok tt) a'
  uncharge_served n b z u a' l =
      let k = asks.uncharge_done x n r (here_has r x i h) (rw (object_read r S x i h e q) (le-leb n e.charge b)) in
      answered (uncharge x n) a s _ k (Ok tt) refl refl a'
      (leaves_as a' _ _ (booked_is r S x i h e q j p y w (λ c. account.credit c n) (λ c. c - n) z u) l)
      (kept_at _ _ (kept.uncharge_kept x n r S) k)

  module _ (not_root : x ≡ 1 → ⊥) (time : ℕ) where
    module _ (f : Account → Account) where
      -- the payer's account goes by f, which is nothing or a renewal, then by the return and the credit
      abbrev back : Account → Account
      back c = account.credit (account.return (f c) (account_of r x)) (entry r x).charge

      back_read : back y ≡ account.credit (account.return (f y) e.account) e.charge
      back_read = ap (λ (c : Entry). account.credit (account.return (f y) c.account) c.charge) (object_read r S x i h e q)

      removed : (z : Account) → z ≡ back y → (k : remove x time r ≡ accept None (budget (payer_of r x) back (drop x r))) → (a' : List ℕ)
          → Leaves a' (with_rows (remove_at (budget e.payer (λ _. z) r).rows i) r) → Serves (remove x time) nothing a (Ok tt) a'
      removed z u k a' l =
          answered (remove x time) a s _ k (Ok tt) refl refl a'
          (leaves_as a' _ _ (released_is r S x i h e q j p y w not_root back z u) l)
          (kept_at _ _ (kept.remove_kept x time r S) k)

    -- an object that is no budget
    pub remove_plain : is_budget_kind e.kind ≡ false → (z : Account) → z ≡ account.credit y e.charge → (a' : List ℕ)
        → Leaves a' (with_rows (remove_at (budget e.payer (λ _. z) r).rows i) r) → Serves (remove x time) nothing a (Ok tt) a'
    remove_plain other z u =
        let blank : e.account ≡ account.blank = (S.each x e (h.is ∙ ap Some (sym q))).plain other in
        let same : account.return y e.account ≡ y = ap (account.return y) blank ∙ return_blank y in
        removed (λ c. c) z (u ∙ sym (back_read (λ c. c) ∙ ap (λ (c : Account). account.credit c e.charge) same))
        (asks.remove_object x time r (here_has r x i h) not_root (here_other r x i h e q other))

    module _ (k : is_budget_kind e.kind ≡ true) where
      pub remove_in_use : pays_for r x ≡ true → Serves (remove x time) nothing a (Err Pays) a
      remove_in_use d = refused (remove x time) a s Pays (asks.remove_paying x time r (here_has r x i h) not_root (here_budget r x i h e q k).1 d)

      module _ (d : pays_for r x ≡ false) where
        -- it can be returned
        pub remove_returnable : account.returnable y e.account ≡ true
        remove_returnable =
            sym (ap (λ (c : Account). account.returnable c (account_of r x)) (payer_account r S x i h e q j p y w)
            ∙ ap (λ (c : Entry). account.returnable y c.account) (object_read r S x i h e q))
            ∙ kept.removal_returnable r x S (here_has r x i h) not_root (here_budget r x i h e q k).1 d

        pub remove_served : (z : Account) → z ≡ account.return (account.renew y time) e.account → (t : Account) → t ≡ account.credit z e.charge
            → (a' : List ℕ)
            → Leaves a' (with_rows (remove_at (budget e.payer (λ _. t) r).rows i) r) → Serves (remove x time) nothing a (Ok tt) a'
        remove_served z b t u =
            removed (λ c. account.renew c time) t (u ∙ ap (λ (c : Account). account.credit c e.charge) b ∙ sym (back_read (λ c. account.renew c time)))
            (asks.remove_budget x time r (here_has r x i h) not_root (here_budget r x i h e q k).1 d)
