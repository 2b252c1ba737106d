-- P1's totals as the code sums them, in one pass over the rows that marks those within the budget. Assumes nothing.
use Rattle.std.specs.Prelude.{◌≡◌, refl, Bool, true, false, cond, not, ◌||◌, List, [], ◌∷◌, ℕ, zero, suc, ◌+◌, ◌^◌, ◌≤◌, ◌<◌, eqb, length, take, get_or, set, Some, None}
use Rattle.std.proofs.Common.{sym, ◌∙◌, ap, arith, add-one, take-suc, take_all, get_or-set_same, get_or-set_other, eqb-true, eq-eqb, ne_eqb}
use Rattle.std.proofs.lemmas.Bool.{eqb-false, not-false}
use Rattle.carv_area.specs.Table.{Row, at, total, Rising}
use Rattle.carv_area.specs.Laws.Table
use Rattle.carv_area.specs.Laws.Table.{test}
use Rattle.carv_area.specs.Laws.Sums.{total_append, total_take}
use Rattle.carv_area.specs.Lookup.{Here}
use Rattle.carv_budget.specs.declared.Account.{Account}
use Rattle.carv_budget.specs.Account as account
use Rattle.carv_objects_spec.specs.declared.Entry.{Entry}
use Rattle.carv_objects_spec.specs.declared.Totals.{Totals}
use Rattle.carv_objects_spec.specs.Registry.{Registry, found, has, is_budget, account_of, payer_of}
use Rattle.carv_objects_spec.specs.Within.{within}
use Rattle.carv_objects_spec.specs.Totals.{over, used, free, left, totals}
use Rattle.carv_objects_spec.proofs.Laws.SoundFacts.{Sound}
use Rattle.carv_objects_spec.proofs.Laws.SoundLaws.{account_sound}
use Rattle.carv_objects_spec.proofs.Laws.Steps.{budget_entry}
use Rattle.carv_objects_spec.proofs.Laws.Kept.{live_object}
use Rattle.carv_objects_spec.proofs.Laws.Within.{payer_at, within_self, within_root, within_step}
use Rattle.carv_objects_spec.proofs.Laws.Totals.{over_inside, memory_total, cpu_total}
use Rattle.carv_objects.specs.Area.{decode, sound_area}
use Rattle.carv_objects.specs.Laws.Rows.{no_row}
use Rattle.carv_objects.specs.Laws.AreaLaws.{sound_laid}
use Rattle.carv_objects.specs.Laws.AreaSteps.{here_entry}
use Rattle.carv_objects.specs.Laws.Calls.{area_sound}
use Rattle.carv_objects.specs.Laws.CallSteps.{limit_fits}

-- The marks of the first places: whether the object that stands there is within b.
pub record Marked (r : Registry) (b : ℕ) (marks : List Bool) (known : ℕ) : Type 0 where
  pub fits : known ≤ 512
  pub right : (k : ℕ) → k < known → get_or marks k false ≡ within r b (get_or r.rows k no_row).id

-- the figures of the account at place i, if they count, else zeros
pub record Part (r : Registry) (i : ℕ) (counts : Bool) (t : Totals) : Type 0 where
  pub used : t.memory_used ≡ cond counts (used (get_or r.rows i no_row).it.account) 0
  pub free : t.memory_free ≡ cond counts (free (get_or r.rows i no_row).it.account) 0
  pub left : t.cpu_left ≡ cond counts (left (get_or r.rows i no_row).it.account) 0

-- Going up.

module _ (r : Registry) (s : Sound r) (b i : ℕ) where
  pub here_within : i ≡ b → true ≡ within r b i
  here_within q = sym (rw q (within_self r s b))

  pub root_not_within : (i ≡ b → ⊥) → i ≡ 1 → false ≡ within r b i
  root_not_within k q = sym (rw q (within_root r s b ∙ ne_eqb 1 b (λ z. k (q ∙ z))))

-- the payer p of the object i: lower, there, and within what i is within
pub record Up (r : Registry) (i p : ℕ) : Type 0 where
  pub low : p < i
  pub there : has r p ≡ true
  pub same : (b : ℕ) → (i ≡ b → ⊥) → within r b i ≡ within r b p

goes_up : (r : Registry) → Sound r → (i p : ℕ) → has r i ≡ true → (i ≡ 1 → ⊥) → p ≡ payer_of r i → Up r i p
goes_up r s i p h k q =
    let (e, y, O) = live_object r i s h in
    let z : p ≡ e.payer = q ∙ ap (λ (x : Entry). x.payer) O.read in
    rw z (record {
      low = (s.each i e O.here).lower k;
      there = ap found O.payer.here;
      same = λ b n. within_step r s b i e O.here ∙ ap (λ (c : Bool). c || within r b e.payer) (ne_eqb i b n);
    })

-- the same from the place of the object
pub place_up : (r : Registry) → Sound r → (id i p : ℕ) → has r id ≡ true → (id ≡ 1 → ⊥) → Here no_row r.rows id i → p ≡ (get_or r.rows i no_row).it.payer → Up r id p
place_up r s id i p h k at_i q = goes_up r s id p h k (q ∙ sym (ap (λ (x : Entry). x.payer) (here_entry r id i at_i)))

-- the root stands first, so another object stands behind a place
pub not_first : (r : Registry) → Sound r → (id i : ℕ) → Here no_row r.rows id i → (id ≡ 1 → ⊥) → 1 ≤ i
not_first r s id zero H k = absurd (go r.rows s.rising H.within H.same (has_root r s))
  where
    go : (m : List (Row Entry)) → Rising 1 r.next m → 0 < length m → (get_or m 0 no_row).id ≡ id → (at m 1 ≡ None → ⊥) → ⊥
    go [] u l q h = omega arith
    go (x ∷ m) u l q h = h (rw (ne_eqb x.id 1 (λ z. k (sym q ∙ z))) (Table.at_below m (suc x.id) r.next 1 u.1 (omega (arith, u.0))))

    has_root : (r : Registry) → Sound r → at r.rows 1 ≡ None → ⊥
    has_root r s q = let (e, B) = budget_entry r 1 s.root in let z : ◌≡◌ {A = ℕ} 0 1 = cc in omega arith
not_first r s id (suc i) H k = omega arith

-- The pass.

-- the object at a place
at_place : (m : List (Row Entry)) (l n k : ℕ) → Rising l n m → k < length m → at m (get_or m k no_row).id ≡ Some (get_or m k no_row).it
at_place [] l n k u h = absurd (omega arith)
at_place (x ∷ m) l n zero u h = rw (eq-eqb x.id x.id refl)
at_place (x ∷ m) l n (suc k) u h =
    let ih = at_place m (suc x.id) n k u.1 (omega arith) in
    rw (ne_eqb x.id (get_or m k no_row).id (λ q. let z = Table.at_below m (suc x.id) n (get_or m k no_row).id u.1 (omega arith) in
    let o : ◌≡◌ {A = ℕ} 0 1 = cc in omega arith)) ih

module _ (r : Registry) (s : Sound r) (k : ℕ) (h : k < length r.rows) where
  place_is : at r.rows (get_or r.rows k no_row).id ≡ Some (get_or r.rows k no_row).it
  place_is = at_place r.rows 1 r.next k s.rising h

  pub place_sound : (c : Account) → c ≡ (get_or r.rows k no_row).it.account → account.sound c ≡ true
  place_sound c q = rw q (account_sound (s.each (get_or r.rows k no_row).id (get_or r.rows k no_row).it place_is))

-- the row at place k, whose payer is p
module _ (r : Registry) (s : Sound r) (b k : ℕ) (h : k < length r.rows) where
  pub row_payer : (p : ℕ) → p ≡ (get_or r.rows k no_row).it.payer → has r p ≡ true
  row_payer p q =
      let (y, B) = payer_at r s (get_or r.rows k no_row).id (get_or r.rows k no_row).it (place_is r s k h) in rw q (ap found B.here)

  pub row_by_payer : (x : ℕ) → x ≡ (get_or r.rows k no_row).id → (x ≡ b → ⊥) → (p : ℕ) → p ≡ (get_or r.rows k no_row).it.payer → (t : Bool) → t ≡ within r b p
      → t ≡ within r b (get_or r.rows k no_row).id
  row_by_payer x q n p e t w =
      w ∙ ap (within r b) e ∙ sym (within_step r s b _ _ (place_is r s k h) ∙ ap (λ (c : Bool). c || within r b (get_or r.rows k no_row).it.payer) (ne_eqb _ b (λ z. n (q ∙ z))))

pub counted : (r : Registry) (i : ℕ) (counts : Bool) (c : Account) (f : ℕ) → not counts ≡ false → c ≡ (get_or r.rows i no_row).it.account → f ≡ account.free c
    → Part r i counts (record { memory_used = c.memory_used; memory_free = f; cpu_left = c.cpu_left })
counted r i counts c f h q p = let on = not-false counts h in rw (p, q) (record { used = rw on; free = rw on; left = rw on })

-- what an object's account adds, and the sum of the first places
abbrev weight : (Account → ℕ) → Registry → (b : ℕ) → ℕ → Entry → ℕ
weight f r b i e = cond (within r b i) (f e.account) 0

abbrev so_far : (Account → ℕ) → Registry → (b k : ℕ) → ℕ
so_far f r b k = total (weight f r b) (take k r.rows)

-- what is known before place k: the marks, and the three sums
pub record Passed (r : Registry) (b : ℕ) (marks : List Bool) (u f l k : ℕ) : Type 0 where
  pub marked : Marked r b marks k
  pub used : u ≡ so_far used r b k
  pub free : f ≡ so_far free r b k
  pub left : l ≡ so_far left r b k

pub starts : (r : Registry) (b : ℕ) (marks : List Bool) → Passed r b marks 0 0 0 0
starts r b marks = record { marked = record { fits = omega arith; right = λ k h. absurd (omega arith) }; used = refl; free = refl; left = refl }

-- the object at place k: its mark t, and its part
module _ (r : Registry) (b k : ℕ) (h : k < length r.rows) (marks : List Bool) (size : length marks ≡ 512) (room : k < 512) (t : Bool)
    (counts : t ≡ within r b (get_or r.rows k no_row).id)
    (p : Totals) (P : Part r k t p) (u f l : ℕ) (A : Passed r b marks u f l k) where
  more : (g : Account → ℕ) (n v : ℕ) → n ≡ so_far g r b k → v ≡ cond t (g (get_or r.rows k no_row).it.account) 0 → n + v ≡ so_far g r b (k + 1)
  more g n v e d = rw (add-one, take-suc r.rows k no_row h) (omega (
    arith,
    total_append (weight g r b) (take k r.rows) (get_or r.rows k no_row ∷ []),
    d,
    ap (λ (c : Bool). cond c (g (get_or r.rows k no_row).it.account) 0) counts,
  ))

  marks_on : Marked r b (set marks k t) (k + 1)
  marks_on = record {
    fits = omega arith;
    right = λ i d. test (eqb i k)
        (λ e. let z : i ≡ k = eqb-true i k e in rw z (get_or-set_same marks k t false (omega arith) ∙ counts))
        (λ e. let z = eqb-false i k e in get_or-set_other marks k i t false z ∙ A.marked.right i (omega arith));
  }

  pub passes : Passed r b (set marks k t) (u + p.memory_used) (f + p.memory_free) (l + p.cpu_left) (k + 1)
  passes = record {
    marked = marks_on;
    used = more used u p.memory_used A.used P.used;
    free = more free f p.memory_free A.free P.free;
    left = more left l p.cpu_left A.left P.left;
  }

-- no sum passes the whole
within_all : (g : Account → ℕ) → g account.blank ≡ 0 → (r : Registry) → Sound r → (b k n : ℕ) → n ≡ so_far g r b k → n ≤ over g r b
within_all g z r s b k n q = omega (arith, total_take (weight g r b) k r.rows, over_inside r s g z b)

pub ends : (r : Registry) → Sound r → (b k : ℕ) (marks : List Bool) (u f l : ℕ) → Passed r b marks u f l k → length r.rows ≤ k
    → record { memory_used = u; memory_free = f; cpu_left = l } ≡ totals r b
ends r s b k marks u f l A h =
    let whole : (g : Account → ℕ) → g account.blank ≡ 0 → so_far g r b k ≡ over g r b = λ g z. ap (total (weight g r b)) (take_all k r.rows h) ∙ sym (over_inside r s g z b) in
    rw (A.used ∙ whole used refl, A.free ∙ whole free refl, A.left ∙ whole left refl)

-- the sums with the next part are words, for the budget b at place j of an area
module _ (a : List ℕ) (s : sound_area a ≡ true) (b j : ℕ) (H : Here no_row (decode a).rows b j) (live : is_budget (decode a) b ≡ true) (bytes : (k : ℕ) → get_or a k 0 < 256)
    (marks : List Bool) (u f l k : ℕ) (A : Passed (decode a) b marks u f l k) where
  limit : (account_of (decode a) b).memory_limit < 2 ^ 64
  limit = omega (arith, limit_fits a (sound_laid a s) bytes j H.within, ap (λ (e : Entry). e.account.memory_limit) (here_entry (decode a) b j H))

  share : (account_of (decode a) b).cpu_allowance ≤ 10_000_000
  share = omega (arith, ((area_sound a s).each b (get_or (decode a).rows j no_row).it H.is).share, ap (λ (e : Entry). e.account.cpu_allowance) (here_entry (decode a) b j H))

  pub used_fits : u < 2 ^ 64
  used_fits = omega (arith, within_all used refl (decode a) (area_sound a s) b k u A.used, memory_total (decode a) (area_sound a s) b live, limit)

  pub free_fits : f < 2 ^ 64
  free_fits = omega (arith, within_all free refl (decode a) (area_sound a s) b k f A.free, memory_total (decode a) (area_sound a s) b live, limit)

  pub left_fits : l < 2 ^ 64
  left_fits = omega (arith, within_all left refl (decode a) (area_sound a s) b k l A.left, cpu_total (decode a) (area_sound a s) b live, share)
