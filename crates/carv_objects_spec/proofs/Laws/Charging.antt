-- P7 on every sound registry: charges add up and split, are undone, and commute where the payers differ; and whole lists of them. None of it asks that a sum is below 2^64: that
-- a sum can be an argument of the C function is asked where there are C functions. Assumes nothing.
use Rattle.std.specs.Prelude.{◌≡◌, refl, Bool, true, false, cond, ◌&&◌, List, [], ◌∷◌, ◌++◌, ℕ, ◌+◌, ◌-◌, ◌≤◌, eqb, leb, Option, Some, None}
use Rattle.std.proofs.Common.{sym, ◌∙◌, ap, arith, eqb-true, eq-eqb, ne_eqb, leb-true, leb-false, le-leb}
use Rattle.std.proofs.lemmas.Bool.{false≢true, eqb-false, lt-leb}
use Rattle.carv_area.specs.Table.{Row, at, alter}
use Rattle.carv_area.specs.Laws.Table.{test, at_alter_other, at_alter_same, alter_alter, alter_id, alter_swap}
use Rattle.carv_budget.specs.declared.Account.{Account}
use Rattle.carv_budget.specs.Account.{free, charge, credit, with_memory}
use Rattle.carv_budget.proofs.Laws.Account.{first, second}
use Rattle.carv_objects_spec.specs.declared.Entry.{Entry}
use Rattle.carv_objects_spec.specs.Reply.{Value, accept, refuse}
use Rattle.carv_objects_spec.specs.Registry.{Registry, RegistryReply, or_missing, found, entry, has, payer_of, account_of, on_account, on_charge, budget, object, charge_more, uncharge}
use Rattle.carv_objects_spec.specs.Sound.{sound}
use Rattle.carv_objects_spec.specs.Charging.{passes, left_by, all_pass, left_by_all, first_refusal, sum, times, Reordered, answer, payers_differ}
use Rattle.carv_objects_spec.proofs.Laws.SoundFacts.{Sound}
use Rattle.carv_objects_spec.proofs.Laws.SoundLaws.{sound_told, sound_shown}
use Rattle.carv_objects_spec.proofs.Laws.Kept.{live_object, charge_more_kept}
use Rattle.carv_objects_spec.proofs.Laws.Questions as asks
use Rattle.carv_objects_spec.proofs.Laws.Totals.{and_true}

-- the entry of i, where it was altered
read_altered : (i : ℕ) (f : Entry → Entry) (m : List (Row Entry)) → found (at m i) ≡ true → or_missing (at (alter i f m) i) ≡ f (or_missing (at m i))
read_altered i f [] h = absurd (false≢true h)
read_altered i f (r ∷ m) h = test (eqb r.id i)
    (λ e. rw (e, eq-eqb i i refl))
    (λ e. rw (e, e) (read_altered i f m (rw e at h)))

-- Both calls move the charge of an object i by g, and the account of its payer p by f.

abbrev moved : Registry → (i p : ℕ) → (Account → Account) → (ℕ → ℕ) → Registry
moved r i p f g = object i g (budget p f r)

module _ (r : Registry) (i p : ℕ) (f : Account → Account) (g : ℕ → ℕ) where
  -- what neither changes
  stays : {A : Type 0} (h : Option Entry → A) → ((g : ℕ → ℕ) (e : Entry) → h (Some (on_charge g e)) ≡ h (Some e)) → ((f : Account → Account) (e : Entry) → h (Some (on_account f e)) ≡ h (Some e))
      → (j : ℕ) → h (at (moved r i p f g).rows j) ≡ h (at r.rows j)
  stays h k l j = at_alter_same h i (on_charge g) (k g) (alter p (on_account f) r.rows) j ∙ at_alter_same h p (on_account f) (l f) r.rows j

  -- a charge that moves leaves every account
  account_stays : (q : ℕ) → account_of (moved r i p f g) q ≡ account_of (budget p f r) q
  account_stays q = at_alter_same (λ o. (or_missing o).account) i (on_charge g) (λ e. refl) (alter p (on_account f) r.rows) q

  moved_has : (j : ℕ) → has (moved r i p f g) j ≡ has r j
  moved_has j = stays found (λ g e. refl) (λ f e. refl) j

  moved_payer : (j : ℕ) → payer_of (moved r i p f g) j ≡ payer_of r j
  moved_payer j = stays (λ o. (or_missing o).payer) (λ g e. refl) (λ f e. refl) j

  moved_charge : has r i ≡ true → (entry (moved r i p f g) i).charge ≡ g (entry r i).charge
  moved_charge h =
      ap (λ (e : Entry). e.charge) (read_altered i (on_charge g) (alter p (on_account f) r.rows) (at_alter_same found p (on_account f) (λ e. refl) r.rows i ∙ h))
      ∙ ap g (at_alter_same (λ o. (or_missing o).charge) p (on_account f) (λ e. refl) r.rows i)

  moved_account : has r p ≡ true → account_of (moved r i p f g) p ≡ f (account_of r p)
  moved_account h = account_stays p ∙ ap (λ (e : Entry). e.account) (read_altered p (on_account f) r.rows h)

  other_account : (q : ℕ) → (p ≡ q → ⊥) → account_of (moved r i p f g) q ≡ account_of r q
  other_account q apart = account_stays q ∙ ap (λ (o : Option Entry). (or_missing o).account) (at_alter_other r.rows p q (on_account f) apart)

abbrev with_rows : Registry → List (Row Entry) → Registry
with_rows r m = record { next = r.next; rows = m }

moved_twice : (r : Registry) (i p : ℕ) (f f' : Account → Account) (g g' : ℕ → ℕ) → moved (moved r i p f g) i p f' g' ≡ moved r i p (λ a. f' (f a)) (λ c. g' (g c))
moved_twice r i p f f' g g' = ap (with_rows r) (
    ap (alter i (on_charge g')) (alter_swap (alter p (on_account f) r.rows) p i (on_account f') (on_charge g) (λ e. refl))
    ∙ alter_alter (alter p (on_account f') (alter p (on_account f) r.rows)) i (on_charge g) (on_charge g')
    ∙ ap (alter i (on_charge (λ c. g' (g c)))) (alter_alter r.rows p (on_account f) (on_account f'))
    )

moved_as : (r : Registry) (i p : ℕ) (f f' : Account → Account) (g g' : ℕ → ℕ) → ((a : Account) → f a ≡ f' a) → ((c : ℕ) → g c ≡ g' c) → moved r i p f g ≡ moved r i p f' g'
moved_as r i p f f' g g' h k = λ t. moved r i p (λ a. h a t) (λ c. k c t)

moved_none : (r : Registry) (i p : ℕ) → moved r i p (λ a. a) (λ c. c) ≡ r
moved_none r i p = ap (with_rows r) (alter_id (alter p (λ e. e) r.rows) i ∙ alter_id r.rows p)

-- two moves that commute
moved_swap : (r : Registry) (i j p q : ℕ) (f f' : Account → Account) (g g' : ℕ → ℕ) → ((a : Account) → f' (f a) ≡ f (f' a)) → ((c : ℕ) → g' (g c) ≡ g (g' c))
    → moved (moved r i p f g) j q f' g' ≡ moved (moved r j q f' g') i p f g
moved_swap r i j p q f f' g g' h k = ap (with_rows r) (
    ap (alter j (on_charge g')) (alter_swap (alter p (on_account f) r.rows) q i (on_account f') (on_charge g) (λ e. refl))
    ∙ alter_swap (alter q (on_account f') (alter p (on_account f) r.rows)) j i (on_charge g') (on_charge g) (λ e. ap (λ (c : ℕ). on_charge (λ _. c) e) (k e.charge))
    ∙ ap (λ (m : List (Row Entry)). alter i (on_charge g) (alter j (on_charge g') m))
    (alter_swap r.rows q p (on_account f') (on_account f) (λ e. ap (λ (a : Account). on_account (λ _. a) e) (h e.account)))
    ∙ ap (alter i (on_charge g)) (alter_swap (alter q (on_account f') r.rows) j p (on_charge g') (on_account f) (λ e. refl))
    )

-- an account whose memory used goes from one equal number to another
used_as : (x : Account) (n m : ℕ) → n ≡ m → with_memory x n x.memory_reserved ≡ with_memory x m x.memory_reserved
used_as x n m h = ap (λ (u : ℕ). with_memory x u x.memory_reserved) h

covers : (F a b : ℕ) → (leb a F && leb b (F - a)) ≡ leb (a + b) F
covers F a b = test (leb (a + b) F)
    (λ h. let k = leb-true (a + b) F h in rw (h, le-leb a F (omega arith), le-leb b (F - a) (omega arith)))
    (λ h. let k = leb-false (a + b) F h in rw h (test (leb a F)
    (λ x. let y = leb-true a F x in rw x (lt-leb b (F - a) (omega arith)))
    (λ x. rw x)))

-- The calls on an object that is there.

-- the account that pays for i
abbrev paying : Registry → ℕ → Account
paying r i = account_of r (payer_of r i)

-- "`charge_more` raises entry and payer"
abbrev raised : Registry → (i n : ℕ) → Registry
raised r i n = moved r i (payer_of r i) (λ a. charge a n) (λ c. c + n)

-- a charge is accepted exactly where it is covered
passes_is : (i n : ℕ) (r : Registry) → has r i ≡ true → passes i n r ≡ leb n (free (paying r i))
passes_is i n r h = test (leb n (free (paying r i))) (λ c. rw (h, c)) (λ c. rw (h, c))

passed : (i n : ℕ) (r : Registry) → has r i ≡ true → passes i n r ≡ true → charge_more i n r ≡ accept None (raised r i n)
passed i n r h k = asks.charge_more_done i n r h (sym (passes_is i n r h) ∙ k)

left_is : (i n : ℕ) (r : Registry) → has r i ≡ true → passes i n r ≡ true → left_by i n r ≡ raised r i n
left_is i n r h k = ap (λ (z : RegistryReply). z.after) (passed i n r h k)

failed : (i n : ℕ) (r : Registry) → has r i ≡ true → passes i n r ≡ false → charge_more i n r ≡ refuse 12 r
failed i n r h k = asks.charge_more_cover i n r h (sym (passes_is i n r h) ∙ k)

missing_fails : (i n : ℕ) (r : Registry) → has r i ≡ false → passes i n r ≡ false
missing_fails i n r h = rw h

-- what is accepted is there, and covered
passing_there : (i n : ℕ) (r : Registry) → passes i n r ≡ true → has r i ≡ true
passing_there i n r k = test (has r i) (λ h. h) (λ h. absurd (false≢true (sym (missing_fails i n r h) ∙ k)))

pub covered : (i n : ℕ) (r : Registry) → passes i n r ≡ true → n ≤ free (account_of r (payer_of r i))
covered i n r k = leb-true n (free (paying r i)) (sym (passes_is i n r (passing_there i n r k)) ∙ k)

-- a refused charge leaves the registry
pub refused_stays : (i n : ℕ) (r : Registry) → passes i n r ≡ false → left_by i n r ≡ r
refused_stays i n r k = test (has r i)
    (λ h. ap (λ (z : RegistryReply). z.after) (failed i n r h k))
    (λ h. ap (λ (z : RegistryReply). z.after) (asks.charge_more_missing i n r h))

left_has : (i n j : ℕ) (r : Registry) → has (left_by i n r) j ≡ has r j
left_has i n j r = test (passes i n r)
    (λ k. ap (λ (z : Registry). has z j) (left_is i n r (passing_there i n r k) k) ∙ moved_has r i (payer_of r i) (λ a. charge a n) (λ c. c + n) j)
    (λ k. ap (λ (z : Registry). has z j) (refused_stays i n r k))

left_payer : (i n j : ℕ) (r : Registry) → payer_of (left_by i n r) j ≡ payer_of r j
left_payer i n j r = test (passes i n r)
    (λ k. ap (λ (z : Registry). payer_of z j) (left_is i n r (passing_there i n r k) k) ∙ moved_payer r i (payer_of r i) (λ a. charge a n) (λ c. c + n) j)
    (λ k. ap (λ (z : Registry). payer_of z j) (refused_stays i n r k))

payer_there : (r : Registry) (i : ℕ) → Sound r → has r i ≡ true → has r (payer_of r i) ≡ true
payer_there r i s h = let (e, y, O) = live_object r i s h in rw (O.read, payer_of) (rw O.payer.here)

-- Two charges on one object, or on two with one payer.

module _ (i a : ℕ) (r : Registry) (s : Sound r) (k : passes i a r ≡ true) where
  there : has r i ≡ true
  there = passing_there i a r k

  -- whoever has the same payer
  module _ (j : ℕ) (h : has r j ≡ true) (q : payer_of r j ≡ payer_of r i) where
    paying_after : paying (left_by i a r) j ≡ charge (paying r j) a
    paying_after =
        ap (account_of (left_by i a r)) (left_payer i a j r ∙ q) ∙ ap (λ (z : Registry). account_of z (payer_of r i)) (left_is i a r there k)
        ∙ moved_account r i (payer_of r i) (λ x. charge x a) (λ c. c + a) (payer_there r i s there) ∙ ap (λ (p : ℕ). charge (account_of r p) a) (sym q)

    passes_next : (b : ℕ) → passes j b (left_by i a r) ≡ leb b (free (paying r j) - a)
    passes_next b =
        passes_is j b (left_by i a r) (left_has i a j r ∙ h) ∙ ap (λ (x : Account). leb b (free x)) paying_after ∙ ap (leb b) (omega arith)

  -- accepted one after the other exactly where the sum is covered
  both_covered : (j : ℕ) → has r j ≡ true → payer_of r j ≡ payer_of r i → (b : ℕ) → passes j b (left_by i a r) ≡ leb (a + b) (free (paying r i))
  both_covered j h q b =
      passes_next j h q b ∙ ap (λ (p : ℕ). leb b (free (account_of r p) - a)) q
      ∙ sym (ap (λ (z : Bool). z && leb b (free (paying r i) - a)) (sym (passes_is i a r there) ∙ k)) ∙ covers (free (paying r i)) a b

  left_next : (b : ℕ) → passes i b (left_by i a r) ≡ true → left_by i b (left_by i a r) ≡ raised r i (a + b)
  left_next b l =
      left_is i b (left_by i a r) (left_has i a i r ∙ there) l
      ∙ ap (λ (p : ℕ). moved (left_by i a r) i p (λ x. charge x b) (λ c. c + b)) (left_payer i a i r)
      ∙ ap (λ (z : Registry). moved z i (payer_of r i) (λ x. charge x b) (λ c. c + b)) (left_is i a r there k)
      ∙ moved_twice r i (payer_of r i) (λ x. charge x a) (λ x. charge x b) (λ c. c + a) (λ c. c + b)
      ∙ moved_as r i (payer_of r i) (λ x. charge (charge x a) b) (λ x. charge x (a + b)) (λ c. c + a + b) (λ c. c + (a + b))
      (λ x. used_as x (x.memory_used + a + b) (x.memory_used + (a + b)) (omega arith)) (λ c. omega arith)

module _ (i : ℕ) (r : Registry) where
  -- where a fails, a + b is answered as a; neither changes anything (`refused_stays`)
  pub first_fails : (a b : ℕ) → passes i a r ≡ false → charge_more i (a + b) r ≡ charge_more i a r
  first_fails a b k = test (has r i)
      (λ h. let l = leb-false a (free (paying r i)) (sym (passes_is i a r h) ∙ k) in
      asks.charge_more_cover i (a + b) r h (lt-leb (a + b) (free (paying r i)) (omega arith)) ∙ sym (failed i a r h k))
      (λ h. asks.charge_more_missing i (a + b) r h ∙ sym (asks.charge_more_missing i a r h))

  -- a charge of 0 is accepted wherever the object is there, nothing free or not, and changes nothing
  pub nothing : has r i ≡ true → charge_more i 0 r ≡ accept None r
  nothing h =
      let p = payer_of r i in
      passed i 0 r h (passes_is i 0 r h ∙ le-leb 0 (free (paying r i)) (omega arith))
      ∙ ap (λ (z : Registry). accept None z)
      (moved_as r i p (λ x. charge x 0) (λ x. x) (λ c. c + 0) (λ c. c) (λ x. used_as x (x.memory_used + 0) x.memory_used (omega arith)) (λ c. omega arith)
      ∙ moved_none r i p)

module _ (i : ℕ) (r : Registry) (s : sound r ≡ true) where
  S : Sound r
  S = sound_told r s

  -- "`charge_more` of a and then b is accepted throughout exactly when a + b is"
  pub added : (a b : ℕ) → (passes i a r && passes i b (left_by i a r)) ≡ passes i (a + b) r
  added a b = test (passes i a r)
      (λ k. let h = passing_there i a r k in
      ap (λ (z : Bool). z && passes i b (left_by i a r)) k ∙ both_covered i a r S k i h refl b ∙ sym (passes_is i (a + b) r h))
      (λ k. ap (λ (z : Bool). z && passes i b (left_by i a r)) k ∙ sym (ap (λ (z : RegistryReply). eqb z.number 0) (first_fails i r a b k) ∙ k))

  -- ".. and leaves the same state": b is answered as a + b, and leaves what that leaves
  pub same : (a b : ℕ) → passes i (a + b) r ≡ true → charge_more i b (left_by i a r) ≡ charge_more i (a + b) r
  same a b k =
      let parts = added a b ∙ k in
      let one = first (passes i a r) (passes i b (left_by i a r)) parts in
      let two = second (passes i a r) (passes i b (left_by i a r)) parts in
      let h = passing_there i a r one in
      passed i b (left_by i a r) (left_has i a i r ∙ h) two
      ∙ ap (λ (z : Registry). accept None z) (sym (left_is i b (left_by i a r) (left_has i a i r ∙ h) two) ∙ left_next i a r S one b two)
      ∙ sym (passed i (a + b) r h k)

  -- "Where a passes and b fails, the state keeps a": b is refused with 12 and leaves what a left; so is a + b, and leaves what was there
  pub kept : (a b : ℕ) → passes i a r ≡ true → passes i b (left_by i a r) ≡ false
      → (charge_more i b (left_by i a r) ≡ refuse 12 (left_by i a r)) × (charge_more i (a + b) r ≡ refuse 12 r)
  kept a b k l =
      let h = passing_there i a r k in (
        failed i b (left_by i a r) (left_has i a i r ∙ h) l,
        failed i (a + b) r h (sym (added a b) ∙ ap (λ (z : Bool). z && passes i b (left_by i a r)) k ∙ l),
      )

  -- where a passes, b is answered with the number of a + b
  pub numbered : (a b : ℕ) → passes i a r ≡ true → (charge_more i b (left_by i a r)).number ≡ (charge_more i (a + b) r).number
  numbered a b k = test (passes i b (left_by i a r))
      (λ l. ap (λ (z : RegistryReply). z.number) (same a b (sym (added a b) ∙ ap (λ (z : Bool). z && passes i b (left_by i a r)) k ∙ l)))
      (λ l. let (second_kept, whole_kept) = kept a b k l in ap (λ (z : RegistryReply). z.number) second_kept ∙ sym (ap (λ (z : RegistryReply). z.number) whole_kept))

  -- "An accepted charge followed by its uncharge restores the state"
  pub restored : (a : ℕ) → passes i a r ≡ true → uncharge i a (left_by i a r) ≡ accept None r
  restored a k =
      let h = passing_there i a r k in
      let p = payer_of r i in
      let charge_after : (entry (left_by i a r) i).charge ≡ (entry r i).charge + a =
      ap (λ (z : Registry). (entry z i).charge) (left_is i a r h k) ∙ moved_charge r i p (λ x. charge x a) (λ c. c + a) h in
      asks.uncharge_done i a (left_by i a r) (left_has i a i r ∙ h) (le-leb a (entry (left_by i a r) i).charge (omega (arith, charge_after)))
      ∙ ap (λ (z : Registry). accept None z) (
      ap (λ (q : ℕ). moved (left_by i a r) i q (λ x. credit x a) (λ c. c - a)) (left_payer i a i r)
      ∙ ap (λ (z : Registry). moved z i p (λ x. credit x a) (λ c. c - a)) (left_is i a r h k)
      ∙ moved_twice r i p (λ x. charge x a) (λ x. credit x a) (λ c. c + a) (λ c. c - a)
      ∙ moved_as r i p (λ x. credit (charge x a) a) (λ x. x) (λ c. c + a - a) (λ c. c)
      (λ x. used_as x (x.memory_used + a - a) x.memory_used (omega arith)) (λ c. omega arith)
      ∙ moved_none r i p
      )

-- Two charges, on objects i and j, in either order.

-- an answer goes by what the call reads
answer_is : (i n : ℕ) (r : Registry) → answer (charge_more i n r) ≡ cond (has r i) (cond (leb n (free (paying r i))) (0, None) (12, None)) (7, None)
answer_is i n r = test (has r i) (λ h. rw h (test (leb n (free (paying r i))) (λ c. rw c) (λ c. rw c))) (λ h. rw h)

-- a charge on j doesn't reach what another payer's object i reads
module _ (i j : ℕ) (r : Registry) (apart : has r i ≡ true → has r j ≡ true → payer_of r i ≡ payer_of r j → ⊥) where
  paying_apart : (b : ℕ) → has r i ≡ true → paying (left_by j b r) i ≡ paying r i
  paying_apart b h = test (passes j b r)
      (λ k. let l = passing_there j b r k in
      ap (account_of (left_by j b r)) (left_payer j b i r) ∙ ap (λ (z : Registry). account_of z (payer_of r i)) (left_is j b r l k)
      ∙ other_account r j (payer_of r j) (λ x. charge x b) (λ c. c + b) (payer_of r i) (λ q. apart h l (sym q)))
      (λ k. ap (λ (z : Registry). paying z i) (refused_stays j b r k))

  answer_apart : (a b : ℕ) → answer (charge_more i a (left_by j b r)) ≡ answer (charge_more i a r)
  answer_apart a b = test (has r i)
      (λ h. answer_is i a (left_by j b r) ∙ ap (λ (z : Bool). cond z (cond (leb a (free (paying (left_by j b r) i))) (0, None) (12, None)) (7, None)) (left_has j b i r)
      ∙ ap (λ (x : Account). cond (has r i) (cond (leb a (free x)) (0, None) (12, None)) (7, None)) (paying_apart b h) ∙ sym (answer_is i a r))
      (λ h. ap answer (asks.charge_more_missing i a (left_by j b r) (left_has j b i r ∙ h)) ∙ sym (ap answer (asks.charge_more_missing i a r h)))

  passes_apart : (a b : ℕ) → passes i a (left_by j b r) ≡ passes i a r
  passes_apart a b = ap (λ (x : ℕ × Option Value). eqb x.0 0) (answer_apart a b)

-- both accepted, in both orders: the same is left
swapped : (i j a b : ℕ) (r : Registry) → passes i a r ≡ true → passes j b (left_by i a r) ≡ true → passes j b r ≡ true → passes i a (left_by j b r) ≡ true
    → left_by j b (left_by i a r) ≡ left_by i a (left_by j b r)
swapped i j a b r k l' l k' =
    let h = passing_there i a r k in
    let g = passing_there j b r l in
    left_is j b (left_by i a r) (left_has i a j r ∙ g) l'
    ∙ ap (λ (q : ℕ). moved (left_by i a r) j q (λ x. charge x b) (λ c. c + b)) (left_payer i a j r)
    ∙ ap (λ (z : Registry). moved z j (payer_of r j) (λ x. charge x b) (λ c. c + b)) (left_is i a r h k)
    ∙ moved_swap r i j (payer_of r i) (payer_of r j) (λ x. charge x a) (λ x. charge x b) (λ c. c + a) (λ c. c + b)
    (λ x. used_as x (x.memory_used + a + b) (x.memory_used + b + a) (omega arith)) (λ c. omega arith)
    ∙ ap (λ (z : Registry). moved z i (payer_of r i) (λ x. charge x a) (λ c. c + a)) (sym (left_is j b r g l))
    ∙ ap (λ (p : ℕ). moved (left_by j b r) i p (λ x. charge x a) (λ c. c + a)) (sym (left_payer j b i r))
    ∙ sym (left_is i a (left_by j b r) (left_has j b i r ∙ h) k')

module _ (i j : ℕ) (r : Registry) (d : payers_differ r i j ≡ true) where
  apart : has r i ≡ true → has r j ≡ true → payer_of r i ≡ payer_of r j → ⊥
  apart h k q =
      let shared : payers_differ r i j ≡ false = rw (h, k, eq-eqb (payer_of r i) (payer_of r j) q) in
      false≢true (sym shared ∙ d)

  -- "Two charges on objects of different payers give the same answers and state in either order", accepted or refused, the objects there or not
  pub either_order : (a b : ℕ) → (answer (charge_more i a r) ≡ answer (charge_more i a (left_by j b r)))
      × (answer (charge_more j b (left_by i a r)) ≡ answer (charge_more j b r))
      × (left_by j b (left_by i a r) ≡ left_by i a (left_by j b r))
  either_order a b = (sym first_same, second_same, state)
    where
      first_same : answer (charge_more i a (left_by j b r)) ≡ answer (charge_more i a r)
      first_same = answer_apart i j r apart a b

      second_same : answer (charge_more j b (left_by i a r)) ≡ answer (charge_more j b r)
      second_same = answer_apart j i r (λ k h q. apart h k (sym q)) b a

      i_passes : passes i a (left_by j b r) ≡ passes i a r
      i_passes = passes_apart i j r apart a b

      j_passes : passes j b (left_by i a r) ≡ passes j b r
      j_passes = passes_apart j i r (λ k h q. apart h k (sym q)) b a

      state : left_by j b (left_by i a r) ≡ left_by i a (left_by j b r)
      state = test (passes i a r)
          (λ k. test (passes j b r)
          (λ l. swapped i j a b r k (j_passes ∙ l) l (i_passes ∙ k))
          (λ l. refused_stays j b (left_by i a r) (j_passes ∙ l) ∙ sym (ap (left_by i a) (refused_stays j b r l))))
          (λ k. ap (left_by j b) (refused_stays i a r k) ∙ sym (refused_stays i a (left_by j b r) (i_passes ∙ k)))

-- all objects with different payers are meant, and all ids without an object
pub differing : (i j : ℕ) (r : Registry) → (has r i ≡ true → has r j ≡ true → payer_of r i ≡ payer_of r j → ⊥) → payers_differ r i j ≡ true
differing i j r apart = test (has r i)
    (λ h. test (has r j) (λ k. rw (h, k, ne_eqb (payer_of r i) (payer_of r j) (apart h k))) (λ k. rw (h, k)))
    (λ h. rw h)

-- Whatever the payers: two charges that are accepted one after the other are so in the other order, and leave the same.
pub both_either_order : (i j a b : ℕ) (r : Registry) → sound r ≡ true → passes i a r ≡ true → passes j b (left_by i a r) ≡ true
    → (passes j b r ≡ true) × (passes i a (left_by j b r) ≡ true) × (left_by j b (left_by i a r) ≡ left_by i a (left_by j b r))
both_either_order i j a b r s k l = test (eqb (payer_of r j) (payer_of r i))
    (λ e. let q = eqb-true (payer_of r j) (payer_of r i) e in
    let m = leb-true (a + b) (free (paying r i)) (sym (both_covered i a r (sound_told r s) k j g q b) ∙ l) in
    let j_first : passes j b r ≡ true = passes_is j b r g ∙ ap (λ (p : ℕ). leb b (free (account_of r p))) q ∙ le-leb b (free (paying r i)) (omega arith) in
    let i_next : passes i a (left_by j b r) ≡ true = both_covered j b r (sound_told r s) j_first i h (sym q) a ∙ ap (λ (p : ℕ). leb (b + a) (free (account_of r p))) q
    ∙ le-leb (b + a) (free (paying r i)) (omega arith) in
    (j_first, i_next, swapped i j a b r k l j_first i_next))
    (λ e. let q = eqb-false (payer_of r j) (payer_of r i) e in
    let j_first : passes j b r ≡ true = sym (passes_apart j i r (λ _ _ z. q z) b a) ∙ l in
    let i_next : passes i a (left_by j b r) ≡ true = passes_apart i j r (λ _ _ z. q (sym z)) a b ∙ k in
    (j_first, i_next, swapped i j a b r k l j_first i_next))
  where
    h : has r i ≡ true
    h = passing_there i a r k

    g : has r j ≡ true
    g = sym (left_has i a j r) ∙ passing_there j b (left_by i a r) l

-- Lists of charges on one object. An empty one is accepted anywhere, a charge of 0 where the object is there (`nothing`), so a list has a first charge here.

-- a registry that a charge leaves is sound
left_sound : (i n : ℕ) (r : Registry) → sound r ≡ true → sound (left_by i n r) ≡ true
left_sound i n r s = sound_shown (left_by i n r) (charge_more_kept i n r (sound_told r s))

pub all_added : (i n : ℕ) (ns : List ℕ) (r : Registry) → sound r ≡ true → all_pass i (n ∷ ns) r ≡ passes i (sum (n ∷ ns)) r
all_added i n [] r s = and_true (passes i n r) refl ∙ ap (λ (m : ℕ). passes i m r) (omega arith)
all_added i n (m ∷ ms) r s =
    ap (λ (z : Bool). passes i n r && z) (all_added i m ms (left_by i n r) (left_sound i n r s)) ∙ added i r s n (sum (m ∷ ms))

pub all_same : (i n : ℕ) (ns : List ℕ) (r : Registry) → sound r ≡ true → all_pass i (n ∷ ns) r ≡ true → left_by_all i (n ∷ ns) r ≡ left_by i (sum (n ∷ ns)) r
all_same i n [] r s k = ap (λ (m : ℕ). left_by i m r) (omega arith)
all_same i n (m ∷ ms) r s k =
    all_same i m ms (left_by i n r) (left_sound i n r s) (second (passes i n r) (all_pass i (m ∷ ms) (left_by i n r)) k)
    ∙ ap (λ (z : RegistryReply). z.after) (same i r s n (sum (m ∷ ms)) (sym (all_added i n (m ∷ ms) r s) ∙ k))

-- the first refusal has the number with which the sum is refused
pub all_numbered : (i n : ℕ) (ns : List ℕ) (r : Registry) → sound r ≡ true → first_refusal i (n ∷ ns) r ≡ (charge_more i (sum (n ∷ ns)) r).number
all_numbered i n [] r s =
    let alone : n ≡ n + 0 = omega arith in
    test (passes i n r)
    (λ k. ap (λ (z : Bool). cond z 0 (charge_more i n r).number) k ∙ sym (eqb-true (charge_more i n r).number 0 k))
    (λ k. ap (λ (z : Bool). cond z 0 (charge_more i n r).number) k) ∙ ap (λ (m : ℕ). (charge_more i m r).number) alone
all_numbered i n (m ∷ ms) r s = test (passes i n r)
    (λ k. ap (λ (z : Bool). cond z (first_refusal i (m ∷ ms) (left_by i n r)) (charge_more i n r).number) k
    ∙ all_numbered i m ms (left_by i n r) (left_sound i n r s) ∙ numbered i r s n (sum (m ∷ ms)) k)
    (λ k. ap (λ (z : Bool). cond z (first_refusal i (m ∷ ms) (left_by i n r)) (charge_more i n r).number) k
    ∙ sym (ap (λ (z : RegistryReply). z.number) (first_fails i r n (sum (m ∷ ms)) k)))

-- The same amounts have the same sum.

abbrev take_out : ℕ → List ℕ → List ℕ
take_out n [] = []
take_out n (m ∷ ms) = cond (eqb m n) ms (m ∷ take_out n ms)

taken_out : (n : ℕ) (ms : List ℕ) → (times n ms ≡ 0 → ⊥) → (sum ms ≡ n + sum (take_out n ms)) × ((k : ℕ) → times k ms ≡ cond (eqb n k) 1 0 + times k (take_out n ms))
taken_out n [] h = absurd (h refl)
taken_out n (m ∷ ms) h = test (eqb m n)
    (λ e. let q = eqb-true m n e in rw (e, q) (refl, λ k. refl))
    (λ e. let (sum_is_lem, times_are) = taken_out n ms (λ z. h (rw e (omega (arith, z)))) in rw e (omega arith, λ k. omega (arith, times_are k)))

-- nothing but the empty list is the empty one in another order
pub not_empty : (m : ℕ) (ms : List ℕ) → Reordered (m ∷ ms) [] → ⊥
not_empty m ms h = let z = rw (eq-eqb m m refl) at (h m) in omega arith

sum_reordered : (ns ms : List ℕ) → Reordered ns ms → sum ns ≡ sum ms
sum_reordered [] [] h = refl
sum_reordered [] (m ∷ ms) h = absurd (not_empty m ms (λ n. sym (h n)))
sum_reordered (n ∷ ns) ms h =
    let here = rw (eq-eqb n n refl) at (h n) in
    let (sum_is_lem, times_are) = taken_out n ms (λ z. omega arith) in
    let rest = sum_reordered ns (take_out n ms) (λ k. omega (arith, h k, times_are k)) in omega arith

-- neighbours may change places, so that every order is meant
pub neighbours_reordered : (ns : List ℕ) (n m : ℕ) (ms : List ℕ) → Reordered (ns ++ (n ∷ m ∷ ms)) (ns ++ (m ∷ n ∷ ms))
neighbours_reordered [] n m ms k = omega arith
neighbours_reordered (x ∷ ns) n m ms k = ap (λ (t : ℕ). cond (eqb x k) 1 0 + t) (neighbours_reordered ns n m ms k)

-- No order of the charges matters: accepted throughout in one, they are in each, and leave the same.
pub no_order : (i : ℕ) (ns ms : List ℕ) (r : Registry) → sound r ≡ true → Reordered ns ms
    → (all_pass i ns r ≡ all_pass i ms r) × (all_pass i ns r ≡ true → left_by_all i ns r ≡ left_by_all i ms r)
no_order i [] [] r s h = (refl, λ _. refl)
no_order i [] (m ∷ ms) r s h = absurd (not_empty m ms (λ n. sym (h n)))
no_order i (n ∷ ns) [] r s h = absurd (not_empty n ns h)
no_order i (n ∷ ns) (m ∷ ms) r s h =
    let q = sum_reordered (n ∷ ns) (m ∷ ms) h in
    let alike : all_pass i (n ∷ ns) r ≡ all_pass i (m ∷ ms) r = all_added i n ns r s ∙ ap (λ (x : ℕ). passes i x r) q ∙ sym (all_added i m ms r s) in (
      alike,
      λ k. all_same i n ns r s k ∙ ap (λ (x : ℕ). left_by i x r) q ∙ sym (all_same i m ms r s (sym alike ∙ k)),
    )
