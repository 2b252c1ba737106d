-- Four steps that keep a registry sound: a budget's account moves, an entry is added, an entry's charge moves, an entry is removed. Assumes nothing.
use Rattle.std.specs.Prelude.{◌≡◌, refl, Bool, true, false, cond, not, ◌&&◌, List, [], ◌∷◌, ℕ, ◌+◌, ◌<◌, eqb, ltb, length, Option, Some, None}
use Rattle.std.proofs.Common.{sym, ◌∙◌, ap, arith, length-append, eqb-true, eq-eqb, ne_eqb, ltb-true, ltb-false}
use Rattle.std.proofs.lemmas.Bool.{eqb-false}
use Rattle.carv_area.specs.Laws.Table
use Rattle.carv_area.specs.Table.{Row, at, alter, total}
use Rattle.carv_area.specs.Laws.Table.{test}
use Rattle.carv_budget.specs.declared.Account.{Account}
use Rattle.carv_budget.specs.Account as account
use Rattle.carv_budget.proofs.Laws.Account as account_laws
use Rattle.carv_objects_spec.specs.declared.kind.Kind.TheVariants.{Budget, IrqControl}
use Rattle.carv_objects_spec.specs.Kinds.{is_budget_kind}
use Rattle.carv_objects_spec.proofs.Laws.Kinds.{kind_apart}
use Rattle.carv_objects_spec.specs.declared.Entry.{Entry}
use Rattle.carv_objects_spec.specs.Registry.{Registry, or_missing, entry, on_account, on_charge, budget, object, drop, add}
use Rattle.carv_objects_spec.specs.Sound.{kind_at, charge_by, memory_by, cpu_by}
use Rattle.carv_objects_spec.proofs.Laws.SoundFacts.{SoundEntry, Sound}

-- i is a live budget, its entry e
pub record BudgetEntry (r : Registry) (i : ℕ) (e : Entry) : Type 0 where
  pub here : at r.rows i ≡ Some e
  pub kind : e.kind ≡ Budget
  pub read : entry r i ≡ e

pub budget_entry : (r : Registry) (i : ℕ) → kind_at r.rows i ≡ Budget → (e : Entry) × BudgetEntry r i e
budget_entry r i h = go (at r.rows i) refl
  where
    go : (o : Option Entry) → at r.rows i ≡ o → (e : Entry) × BudgetEntry r i e
    go None q = let b : IrqControl ≡ Budget = rw (q, kind_at) at h in absurd (kind_apart IrqControl refl b)
    go (Some e) q = (e, record { here = q; kind = rw (q, kind_at) at h; read = ap or_missing q })

-- ids of entries lie below the next id
pub below_next : (r : Registry) → Sound r → (i : ℕ) (e : Entry) → at r.rows i ≡ Some e → i < r.next
below_next r s i e h = test (ltb i r.next) (λ a. ltb-true i r.next a)
    (λ a. let z = Table.at_above r.rows 1 r.next i s.rising (ltb-false i r.next a) in
    let b : ◌≡◌ {A = ℕ} 0 1 = cc in absurd (omega arith))

-- no entry names p as its payer: p has nothing to pay for and nothing reserved
abbrev pub Unpaid : Registry → ℕ → Type 0
Unpaid r p = (j : ℕ) (d : Entry) → at r.rows j ≡ Some d → p ≡ d.payer → ⊥

pub record NoWeight (m : List (Row Entry)) (p : ℕ) : Type 0 where
  pub charge : total (charge_by p) m ≡ 0
  pub memory : total (memory_by p) m ≡ 0
  pub cpu : total (cpu_by p) m ≡ 0

pub unpaid_weight : (r : Registry) (p : ℕ) → Sound r → Unpaid r p → NoWeight r.rows p
unpaid_weight r p s u = record {
  charge = no_weight (charge_by p) (λ i d h. rw h);
  memory = no_weight (memory_by p) (λ i d h. rw h);
  cpu = no_weight (cpu_by p) (λ i d h. rw h);
}
  where
    no_weight : (w : ℕ → Entry → ℕ) → ((i : ℕ) (d : Entry) → eqb d.payer p ≡ false → w i d ≡ 0) → total w r.rows ≡ 0
    no_weight w h = Table.total_zero w r.rows (Table.all_at (λ i d. w i d ≡ 0) r.rows 1 r.next s.rising
        (λ i d at_i. h i d (ne_eqb d.payer p (λ q. u i d at_i (sym q)))))

-- What a step does to the figures of one budget, p: each goes down by one number and up by another.

pub record Sums : Type 0 where
  pub charge : ℕ
  pub memory : ℕ
  pub cpu : ℕ

abbrev pub zeros : Sums
zeros = record { charge = 0; memory = 0; cpu = 0 }

-- a charge of so many bytes
abbrev pub bytes : ℕ → Sums
bytes n = record { charge = n; memory = 0; cpu = 0 }

-- what an entry weighs for its payer
abbrev pub weight : Entry → Sums
weight e = record { charge = e.charge; memory = e.account.memory_limit; cpu = e.account.cpu_allowance }

-- the account a goes by f
pub record AccountMoves (f : Account → Account) (a : Account) (down up : Sums) : Type 0 where
  pub allowance : (b : Account) → (f b).cpu_allowance ≡ b.cpu_allowance
  pub limit : (b : Account) → (f b).memory_limit ≡ b.memory_limit
  pub used : (f a).memory_used + down.charge ≡ a.memory_used + up.charge
  pub memory_reserved : (f a).memory_reserved + down.memory ≡ a.memory_reserved + up.memory
  pub cpu_reserved : (f a).cpu_reserved + down.cpu ≡ a.cpu_reserved + up.cpu
  pub sound : account.sound (f a) ≡ true

-- the totals go by as much, from the rows m to the rows n
abbrev Shifted : (ℕ → ℕ → Entry → ℕ) → (m n : List (Row Entry)) (p down up : ℕ) → Type 0
Shifted w m n p down up = (j : ℕ) → total (w j) n + cond (eqb p j) down 0 ≡ total (w j) m + cond (eqb p j) up 0

record TotalsMove (m n : List (Row Entry)) (p : ℕ) (down up : Sums) : Type 0 where
  charge : Shifted charge_by m n p down.charge up.charge
  memory : Shifted memory_by m n p down.memory up.memory
  cpu : Shifted cpu_by m n p down.cpu up.cpu

-- then the entries of m, budget p's account moved, are sound among n
module _ (m n : List (Row Entry)) (p : ℕ) (y : Entry) (f : Account → Account) (down up : Sums)
    (there : at m p ≡ Some y) (is_budget : y.kind ≡ Budget) (moves : AccountMoves f y.account down up) (totals : TotalsMove m n p down up)
    (each : (j : ℕ) (d : Entry) → at m j ≡ Some d → SoundEntry m j d) where
  payer_entry : kind_at n y.payer ≡ Budget → SoundEntry n p (on_account f y)
  payer_entry paid =
      let F = each p y there in
      let a = account_laws.sound_told moves.sound in
      let on = eq-eqb p p refl in
      record {
        plain = λ h. absurd (kind_apart y.kind h is_budget);
        root = F.root;
        lower = F.lower;
        paid = paid;
        used = let h = rw on at (totals.charge p) in omega (arith, F.used, moves.used);
        memory_reserved = let h = rw on at (totals.memory p) in omega (arith, F.memory_reserved, moves.memory_reserved);
        cpu_reserved = let h = rw on at (totals.cpu p) in omega (arith, F.cpu_reserved, moves.cpu_reserved);
        memory = a.memory;
        cpu = a.cpu;
        share = a.share;
      }

  other_entry : (j : ℕ) (d : Entry) → at m j ≡ Some d → eqb p j ≡ false → kind_at n d.payer ≡ Budget → SoundEntry n j d
  other_entry j d h off paid =
      let F = each j d h in
      record {
        plain = F.plain;
        root = F.root;
        lower = F.lower;
        paid = paid;
        used = let h = rw off at (totals.charge j) in omega (arith, F.used);
        memory_reserved = let h = rw off at (totals.memory j) in omega (arith, F.memory_reserved);
        cpu_reserved = let h = rw off at (totals.cpu j) in omega (arith, F.cpu_reserved);
        memory = F.memory;
        cpu = F.cpu;
        share = F.share;
      }

  each_entry : (j : ℕ) → ((d : Entry) → at m j ≡ Some d → kind_at n d.payer ≡ Budget)
      → (d : Entry) → at (alter p (on_account f) m) j ≡ Some d → SoundEntry n j d
  each_entry j paid d h = test (eqb p j)
      (λ a. let q = eqb-true p j a in
      let z : on_account f y ≡ d = cc (Table.at_alter m p (on_account f) y there) in
      rw (← q, ← z) (payer_entry (paid y (cc))))
      (λ a. let k = sym (Table.at_alter_other m p j (on_account f) (eqb-false p j a)) ∙ h in other_entry j d k a (paid d k))

-- Kinds, and totals of an account that moves.

pub kind_alter : (m : List (Row Entry)) (i p : ℕ) (g : Entry → Entry) → ((e : Entry) → (g e).kind ≡ e.kind) → kind_at (alter i g m) p ≡ kind_at m p
kind_alter [] i p g h = refl
kind_alter (r ∷ m) i p g h = test (eqb r.id i)
    (λ a. let q = eqb-true r.id i a in rw (a, q)
    (test (eqb i p) (λ b. rw (b, kind_at) (h r.it)) (λ b. rw (b, kind_at))))
    (λ a. rw a (test (eqb r.id p) (λ b. rw (b, kind_at)) (λ b. rw (b, kind_at) (kind_alter m i p g h))))

nothing : (b : Bool) → ◌≡◌ {A = ℕ} (cond b 0 0) 0
nothing true = refl
nothing false = refl

-- a child i of another budget p weighs for p, and for no other
child_weight : (i p j v : ℕ) → (i ≡ p → ⊥) → cond (eqb p j && not (eqb i j)) v 0 ≡ cond (eqb p j) v 0
child_weight i p j v apart = test (eqb p j)
    (λ a. rw (a, ne_eqb i j (λ q. apart (q ∙ sym (eqb-true p j a)))))
    (λ a. rw a)

module _ {f : Account → Account} {a : Account} {down up : Sums} (c : AccountMoves f a down up) (m : List (Row Entry)) (p j : ℕ) where
  same_charge : total (charge_by j) (alter p (on_account f) m) ≡ total (charge_by j) m
  same_charge = Table.total_same (charge_by j) m p (on_account f) (λ e. refl)

  same_memory : total (memory_by j) (alter p (on_account f) m) ≡ total (memory_by j) m
  same_memory = Table.total_same (memory_by j) m p (on_account f) (λ e. rw (c.limit e.account))

  same_cpu : total (cpu_by j) (alter p (on_account f) m) ≡ total (cpu_by j) m
  same_cpu = Table.total_same (cpu_by j) m p (on_account f) (λ e. rw (c.allowance e.account))

-- a budget's account moves, with the same sums

pub account_step : (r : Registry) (i : ℕ) (e : Entry) (f : Account → Account) → Sound r → BudgetEntry r i e → AccountMoves f e.account zeros zeros
    → Sound (budget i f r)
account_step r i e f s B c =
    let kind : (q : ℕ) → kind_at (budget i f r).rows q ≡ kind_at r.rows q = λ q. kind_alter r.rows i q (on_account f) (λ a. refl) in
    record {
      few = rw Table.length_alter s.few;
      rising = Table.rising_alter r.rows 1 r.next i (on_account f) s.rising;
      root = kind 1 ∙ s.root;
      each = λ j d h. each_entry r.rows (budget i f r).rows i e f zeros zeros B.here B.kind c
          (record {
            charge = λ j. rw (same_charge c r.rows i j);
            memory = λ j. rw (same_memory c r.rows i j);
            cpu = λ j. rw (same_cpu c r.rows i j);
          })
          s.each j (λ d h. kind d.payer ∙ (s.each j d h).paid) d h;
    }

-- an entry x is added, and its payer's account moves

pub record EntryAdded (r : Registry) (x : Entry) : Type 0 where
  pub few : length r.rows < 512
  pub plain : is_budget_kind x.kind ≡ false → x.account ≡ account.blank
  pub used : x.account.memory_used ≡ 0
  pub memory_reserved : x.account.memory_reserved ≡ 0
  pub cpu_reserved : x.account.cpu_reserved ≡ 0
  pub sound : account.sound x.account ≡ true

abbrev pub added : Registry → (Account → Account) → Entry → Registry
added r f x = add x (budget x.payer f r)

module _ (r : Registry) (e : Entry) (f : Account → Account) (x : Entry)
    (s : Sound r) (B : BudgetEntry r x.payer e) (c : AccountMoves f e.account zeros (weight x)) (g : EntryAdded r x) where
  add_no_entry : at (budget x.payer f r).rows r.next ≡ None
  add_no_entry = Table.at_above (budget x.payer f r).rows 1 r.next r.next
      (Table.rising_alter r.rows 1 r.next x.payer (on_account f) s.rising) (omega arith)

  add_apart : r.next ≡ x.payer → ⊥
  add_apart q = omega (arith, below_next r s x.payer e B.here)

  add_totals : TotalsMove r.rows (added r f x).rows x.payer zeros (weight x)
  add_totals = record {
    charge = λ j. omega (
      arith,
      Table.total_snoc (charge_by j) (budget x.payer f r).rows r.next x,
      same_charge c r.rows x.payer j,
      nothing (eqb x.payer j),
    );
    memory = λ j. omega (
      arith,
      Table.total_snoc (memory_by j) (budget x.payer f r).rows r.next x,
      same_memory c r.rows x.payer j,
      nothing (eqb x.payer j),
      child_weight r.next x.payer j x.account.memory_limit add_apart,
    );
    cpu = λ j. omega (
      arith,
      Table.total_snoc (cpu_by j) (budget x.payer f r).rows r.next x,
      same_cpu c r.rows x.payer j,
      nothing (eqb x.payer j),
      child_weight r.next x.payer j x.account.cpu_allowance add_apart,
    );
  }

  add_paid : (q : ℕ) → kind_at r.rows q ≡ Budget → kind_at (added r f x).rows q ≡ Budget
  add_paid q k =
      let (d, D) = budget_entry r q k in
      ap (λ (o : Option Entry). (or_missing o).kind)
      (Table.at_snoc_other (budget x.payer f r).rows r.next q x (λ z. omega (arith, below_next r s q d D.here)))
      ∙ kind_alter r.rows x.payer q (on_account f) (λ a. refl) ∙ k

  -- no payer is the new id yet
  add_unpaid : Unpaid r r.next
  add_unpaid i d h q = let (b, P) = budget_entry r d.payer (s.each i d h).paid in omega (arith, below_next r s d.payer b P.here)

  add_new : SoundEntry (added r f x).rows r.next x
  add_new =
      let a = account_laws.sound_told g.sound in
      let off = ne_eqb x.payer r.next (λ q. add_apart (sym q)) in
      let none_yet = unpaid_weight r r.next s add_unpaid in
      record {
        plain = g.plain;
        root = λ q. let (d, D) = budget_entry r 1 s.root in absurd (omega (arith, below_next r s 1 d D.here));
        lower = λ q. below_next r s x.payer e B.here;
        paid = add_paid x.payer (ap (λ (o : Option Entry). (or_missing o).kind) B.here ∙ B.kind);
        used = let h = rw off at (add_totals.charge r.next) in omega (arith, g.used, none_yet.charge);
        memory_reserved = let h = rw off at (add_totals.memory r.next) in omega (arith, g.memory_reserved, none_yet.memory);
        cpu_reserved = let h = rw off at (add_totals.cpu r.next) in omega (arith, g.cpu_reserved, none_yet.cpu);
        memory = a.memory;
        cpu = a.cpu;
        share = a.share;
      }

  pub add_step : Sound (added r f x)
  add_step = record {
    few = simp (length-append, Table.length_alter) (omega (arith, g.few));
    rising = Table.rising_snoc (budget x.payer f r).rows 1 r.next x
        (Table.rising_alter r.rows 1 r.next x.payer (on_account f) s.rising);
    root = add_paid 1 s.root;
    each = λ j d h. test (eqb r.next j)
        (λ a. let q = eqb-true r.next j a in
        let z : x ≡ d = cc (Table.at_snoc (budget x.payer f r).rows r.next 0 x add_no_entry) in
        rw (← q, ← z) add_new)
        (λ a. each_entry r.rows (added r f x).rows x.payer e f zeros (weight x) B.here B.kind c add_totals s.each
        j (λ b k. add_paid b.payer (s.each j b k).paid) d
        (sym (Table.at_snoc_other (budget x.payer f r).rows r.next j x (eqb-false r.next j a)) ∙ h));
  }

-- the charge of entry i goes by g, and its payer's account moves

-- i is there, its entry e, and its payer's entry y
pub record ObjectEntry (r : Registry) (i : ℕ) (e y : Entry) : Type 0 where
  pub here : at r.rows i ≡ Some e
  pub read : entry r i ≡ e
  pub payer : BudgetEntry r e.payer y

-- the entry where an account moves
pub at_on_account : (m : List (Row Entry)) (p i : ℕ) (f : Account → Account) (e : Entry) → at m i ≡ Some e
    → (d : Entry) × (at (alter p (on_account f) m) i ≡ Some d) × (d.payer ≡ e.payer) × (d.charge ≡ e.charge)
at_on_account m p i f e h = test (eqb p i)
    (λ a. (on_account f e, rw (← eqb-true p i a) (Table.at_alter m p (on_account f) e (rw (eqb-true p i a) h)), refl, refl))
    (λ a. (e, Table.at_alter_other m p i (on_account f) (eqb-false p i a) ∙ h, refl, refl))

-- soundness does not ask an entry's own charge
entry_charge : (m : List (Row Entry)) (j : ℕ) (d : Entry) (g : ℕ → ℕ) → SoundEntry m j d → SoundEntry m j (on_charge g d)
entry_charge m j d g F = record {
  plain = F.plain;
  root = F.root;
  lower = F.lower;
  paid = F.paid;
  used = F.used;
  memory_reserved = F.memory_reserved;
  cpu_reserved = F.cpu_reserved;
  memory = F.memory;
  cpu = F.cpu;
  share = F.share;
}

abbrev pub charged : Registry → ℕ → Entry → (Account → Account) → (ℕ → ℕ) → Registry
charged r i e f g = object i g (budget e.payer f r)

module _ (r : Registry) (i : ℕ) (e y : Entry) (f : Account → Account) (g : ℕ → ℕ)
    (s : Sound r) (O : ObjectEntry r i e y) (c : AccountMoves f y.account (bytes e.charge) (bytes (g e.charge))) where
  charge_totals : TotalsMove r.rows (charged r i e f g).rows e.payer (bytes e.charge) (bytes (g e.charge))
  charge_totals = record {
    charge = λ j.
        let (d, at_d, payer, charge) = at_on_account r.rows e.payer i f e O.here in
        let h = rw (payer, charge) at (Table.total_alter (charge_by j) (budget e.payer f r).rows i (on_charge g) d at_d) in
        omega (arith, same_charge c r.rows e.payer j);
    memory = λ j. rw (Table.total_same (memory_by j) (budget e.payer f r).rows i (on_charge g) (λ a. refl), same_memory c r.rows e.payer j);
    cpu = λ j. rw (Table.total_same (cpu_by j) (budget e.payer f r).rows i (on_charge g) (λ a. refl), same_cpu c r.rows e.payer j);
  }

  charge_kind : (q : ℕ) → kind_at (charged r i e f g).rows q ≡ kind_at r.rows q
  charge_kind q = kind_alter (budget e.payer f r).rows i q (on_charge g) (λ a. refl)
      ∙ kind_alter r.rows e.payer q (on_account f) (λ a. refl)

  charge_each : (j : ℕ) (d : Entry) → at (budget e.payer f r).rows j ≡ Some d → SoundEntry (charged r i e f g).rows j d
  charge_each j d h = each_entry r.rows (charged r i e f g).rows e.payer y f (bytes e.charge) (bytes (g e.charge))
      O.payer.here O.payer.kind c charge_totals s.each j (λ b k. charge_kind b.payer ∙ (s.each j b k).paid) d h

  pub charge_step : Sound (charged r i e f g)
  charge_step = record {
    few = simp Table.length_alter s.few;
    rising = Table.rising_alter (budget e.payer f r).rows 1 r.next i (on_charge g)
        (Table.rising_alter r.rows 1 r.next e.payer (on_account f) s.rising);
    root = charge_kind 1 ∙ s.root;
    each = λ j d h.
        let (x, at_x, payer, charge) = at_on_account r.rows e.payer i f e O.here in
        test (eqb i j)
        (λ b. let q = eqb-true i j b in
        let z : on_charge g x ≡ d = cc (Table.at_alter (budget e.payer f r).rows i (on_charge g) x at_x) in
        rw (← q, ← z) (entry_charge (charged r i e f g).rows i x g (charge_each i x at_x)))
        (λ b. charge_each j d (sym (Table.at_alter_other (budget e.payer f r).rows i j (on_charge g) (eqb-false i j b)) ∙ h));
  }

-- an entry that pays for nothing goes, and its payer's account moves

abbrev pub removed : Registry → ℕ → Entry → (Account → Account) → Registry
removed r i e f = budget e.payer f (drop i r)

module _ (r : Registry) (i : ℕ) (e y : Entry) (f : Account → Account)
    (s : Sound r) (O : ObjectEntry r i e y) (not_root : i ≡ 1 → ⊥) (unpaid : Unpaid r i) (c : AccountMoves f y.account (weight e) zeros) where
  remove_apart : i ≡ e.payer → ⊥
  remove_apart q = omega (arith, (s.each i e O.here).lower not_root)

  remove_totals : TotalsMove r.rows (removed r i e f).rows e.payer (weight e) zeros
  remove_totals = record {
    charge = λ j. omega (
      arith,
      Table.total_erase (charge_by j) r.rows i e O.here,
      same_charge c (drop i r).rows e.payer j,
      nothing (eqb e.payer j),
    );
    memory = λ j. omega (
      arith,
      Table.total_erase (memory_by j) r.rows i e O.here,
      same_memory c (drop i r).rows e.payer j,
      nothing (eqb e.payer j),
      child_weight i e.payer j e.account.memory_limit remove_apart,
    );
    cpu = λ j. omega (
      arith,
      Table.total_erase (cpu_by j) r.rows i e O.here,
      same_cpu c (drop i r).rows e.payer j,
      nothing (eqb e.payer j),
      child_weight i e.payer j e.account.cpu_allowance remove_apart,
    );
  }

  remove_kind : (q : ℕ) → (i ≡ q → ⊥) → kind_at (removed r i e f).rows q ≡ kind_at r.rows q
  remove_kind q h = kind_alter (drop i r).rows e.payer q (on_account f) (λ a. refl)
      ∙ ap (λ (o : Option Entry). (or_missing o).kind) (Table.at_erase_other r.rows i q h)

  -- the other entries are those where only the account moves
  remove_other : (j : ℕ) → (i ≡ j → ⊥) → at (removed r i e f).rows j ≡ at (budget e.payer f r).rows j
  remove_other j apart = test (eqb e.payer j)
      (λ a. rw (← eqb-true e.payer j a)
      (Table.at_alter (drop i r).rows e.payer (on_account f) y (Table.at_erase_other r.rows i e.payer remove_apart ∙ O.payer.here)
      ∙ sym (Table.at_alter r.rows e.payer (on_account f) y O.payer.here)))
      (λ a. Table.at_alter_other (drop i r).rows e.payer j (on_account f) (eqb-false e.payer j a)
      ∙ Table.at_erase_other r.rows i j apart
      ∙ sym (Table.at_alter_other r.rows e.payer j (on_account f) (eqb-false e.payer j a)))

  pub remove_step : Sound (removed r i e f)
  remove_step = record {
    few = simp Table.length_alter (omega (arith, Table.length_erase r.rows i, s.few));
    rising = Table.rising_alter (drop i r).rows 1 r.next e.payer (on_account f)
        (Table.rising_erase r.rows 1 r.next i s.rising);
    root = remove_kind 1 not_root ∙ s.root;
    each = λ j d h. test (eqb i j)
        (λ b. let q = eqb-true i j b in
        let gone = Table.at_alter_other (drop i r).rows e.payer i (on_account f) (λ p. remove_apart (sym p))
        ∙ Table.at_erase r.rows 1 r.next i s.rising in
        let z : ◌≡◌ {A = ℕ} 0 1 = cc in absurd (omega arith))
        (λ b. let apart = eqb-false i j b in
        each_entry r.rows (removed r i e f).rows e.payer y f (weight e) zeros O.payer.here O.payer.kind c remove_totals s.each
        j (λ x k. remove_kind x.payer (unpaid j x k) ∙ (s.each j x k).paid) d (sym (remove_other j apart) ∙ h));
  }
