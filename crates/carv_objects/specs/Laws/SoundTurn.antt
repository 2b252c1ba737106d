-- Question 1's walk: its begin, one turn, and its end. Assumes nothing.
use Rattle.std.specs.Prelude.{◌≡◌, ◌≢◌, Bool, true, false, cond, List, [], ◌∷◌, ◌++◌, ◌&&◌, eqb, length, map, get_or, set, replicate, Option, Some, None}
use Rattle.std.proofs.Math.Path.{refl}
use Rattle.std.proofs.Common.{sym, ◌∙◌, ap, subst, ⊎_elim, eq-or-lt_of_le, arith, length-set, get_or-set_same, get_or-set_other, ext_get_or, eq-eqb, ne_eqb}
use Prim.Native.Nat.{ℕ, zero, suc, ◌+◌, ◌-◌, ◌≤◌, ◌<◌}
use Rattle.std.proofs.Math.Numerals.{add-one}
use Rattle.std.proofs.lemmas.List.{length-replicate, get_or-replicate, length-map, map-set}
use Rattle.std.proofs.Math.ListN.{get_or-eq_default}
use Rattle.std.proofs.lemmas.List.{get_or-map}
use Rattle.std.specs.List.{list_all, fold}
use Rattle.std.proofs.Math.Bool.{and_assoc, and-true}
use Rattle.std.specs.Bool.{then_some}
use Rattle.carv_budget.proofs.Laws.Account.{both, first, second}
use Rattle.carv_area.specs.Laws.Table as Table
use Rattle.carv_area.specs.Table.{Row, total}
use Rattle.carv_area.specs.Lists.{tab}
use Rattle.carv_area.specs.Laws.Lists.{lt_or_ge, apart, same_or_not}
use Rattle.carv_area.specs.Moves.{zeros}
use Rattle.carv_area.specs.Zero.{all_zero}
use Rattle.carv_area.specs.Laws.Zero.{all_zero_lem, zeros_zero}
use Rattle.carv_budget.specs.declared.Account.{Account}
use Rattle.carv_objects_spec.specs.declared.Entry.{Entry}
use Rattle.carv_objects_spec.specs.Sound.{is_child, charge_by, memory_by, cpu_by}
use Rattle.carv_objects.specs.declared.sound.Figures.{Figures}
use Rattle.carv_objects.specs.Area.{kind_word, row_at}
use Rattle.carv_objects.specs.Laws.SoundWalk.{id_at, entry_at, Plain, Paid, Owner, Front, Left, Rise, Walk, Sums, Whole, Lessened, ReservedFor, spent, left_used, left_memory, left_cpu, used, memory_reserved, cpu_reserved}

-- ---- the order of the rows

-- rows in order have rising ids
pub front_rise : {w : List ℕ} {next i : ℕ} → Front w next i → Rise w i
front_rise F j zero h l = absurd (omega arith)
front_rise {w} F j (suc k) h l =
    let s = ((F.paid (suc k) l).is.later k (omega arith)).0 in
    ⊎_elim (λ (e : j ≡ k). omega (arith, ap (id_at w) e)) (λ (g : j < k). omega (arith, front_rise F j k g (omega arith))) (eq-or-lt_of_le (omega arith))

-- rows at two places have two ids
pub rise_same : (w : List ℕ) (i : ℕ) → Rise w i → (j k : ℕ) → j < i → k < i → j ≢ k → id_at w j ≢ id_at w k
rise_same w i r j k a b ne e = ⊎_elim (λ h. omega (arith, r j k h b)) (λ h. omega (arith, r k j h a)) (apart j k ne)

-- and an id has one place
pub rise_inj : (w : List ℕ) (i : ℕ) → Rise w i → (j k : ℕ) → j < i → k < i → id_at w j ≡ id_at w k → j ≡ k
rise_inj w i r j k a b e = ⊎_elim (λ h. h) (λ ne. absurd (rise_same w i r j k a b ne e)) (same_or_not j k)

-- one row more is in order
front_more : {w : List ℕ} {next i j : ℕ} → Front w next i → Plain (kind_word w i) (entry_at w i) → Paid w next i j → Front w next (i + 1)
front_more {w} {next} {i} {j} F p q = record {
  plain = λ k l. ⊎_elim (F.plain k) (λ (a : i ≤ k). let e : k ≡ i = omega arith in rw e p) (lt_or_ge k i);
  paid = λ k l. ⊎_elim (F.paid k) (λ (a : i ≤ k). let e : k ≡ i = omega arith in rw e record { place = j; is = q }) (lt_or_ge k i);
}

-- a payer stands no later than what it pays for
pub in_place : {w : List ℕ} {next i j : ℕ} → Paid w next i j → j ≤ i
in_place {w} {next} {i} {j} p = ⊎_elim
    (λ (z : i < 1). omega (arith, p.first (omega arith)))
    (λ (z : 1 ≤ i). omega (arith, p.later (i - 1) (omega arith)))
    (lt_or_ge i 1)

-- the payer that was asked for: row j, if b
pub owner_told : (w : List ℕ) (next i j : ℕ) (b : Bool) (r : Option ℕ) → r ≡ then_some b j → (b ≡ true → Paid w next i j) → (b ≡ false → (k : ℕ) → Paid w next i k → ⊥)
    → Owner w next i r
owner_told w next i j true r e y n = subst (Owner w next i) (sym e) (y refl)
owner_told w next i j false r e y n = subst (Owner w next i) (sym e) (n refl)

-- the payer that was found
pub owner_here : (w : List ℕ) (next i : ℕ) (f : Option ℕ) → Owner w next i f → (j : ℕ) → f ≡ Some j → Paid w next i j
owner_here w next i f h j e = subst (Owner w next i) e h

-- or none
pub owner_none : (w : List ℕ) (next i : ℕ) (f : Option ℕ) → Owner w next i f → f ≡ None → (j : ℕ) → Paid w next i j → ⊥
owner_none w next i f h e = subst (Owner w next i) e h

-- ---- sums over the first rows

tab_snoc {ℓ} : {A : Type ℓ} (n : ℕ) (f : ℕ → A) → tab (suc n) f ≡ tab n f ++ (f n ∷ [])
unfolding tab
tab_snoc zero f = refl
tab_snoc {A = A} (suc n) f = ap (λ (l : List A). f zero ∷ l) (tab_snoc n (λ i. f (suc i)))

module _ {A : Type 0} (v : ℕ → A → ℕ) (f : ℕ → Row A) where
  -- one row more
  total_more : (i : ℕ) → total v (tab (i + 1) f) ≡ total v (tab i f) + v (f i).id (f i).it
  total_more i = rw (add-one, tab_snoc) (Table.total_snoc v (tab i f) (f i).id (f i).it)

  -- d rows more
  total_most : (d i : ℕ) → total v (tab i f) ≤ total v (tab (i + d) f)
  total_most zero i = let e : i + zero ≡ i = omega arith in rw e (omega arith)
  total_most (suc d) i = let e : i + suc d ≡ (i + d) + 1 = omega arith in rw e (omega (arith, total_more (i + d), total_most d i))

  -- the sum grows with the rows
  total_up : (i n : ℕ) → i ≤ n → total v (tab i f) ≤ total v (tab n f)
  total_up i n h = let e : i + (n - i) ≡ n = omega arith in let z = total_most (n - i) i in rw e at z

  -- rows that weigh nothing
  total_none : (i : ℕ) → ((k : ℕ) → k < i → v (f k).id (f k).it ≡ 0) → total v (tab i f) ≡ 0
  unfolding tab
  total_none zero h = refl
  total_none (suc i) h =
      let z : total v (tab (suc i) f) ≡ total v (tab i f) + v (f i).id (f i).it = rw add-one at (total_more i) in
      z ∙ omega (arith, total_none i (λ k l. h k (omega arith)), h i (omega arith))

-- ---- one row more is taken off

-- y stands at place i; x is taken off place j; the other rows up to i take nothing of row i, and the rows before i nothing of i's figure
module _ {v : ℕ → ℕ → Entry → ℕ} {f : Account → ℕ} {w : List ℕ} {i : ℕ} {xs : List ℕ} (L : Left v f w i xs) (low : i < 512)
    (y : ℕ) (is_y : y ≡ f (entry_at w i).account) (j : ℕ) (in_j : j ≤ i) (x : ℕ)
    (fresh : total (v (id_at w i)) (tab i (row_at w)) ≡ 0)
    (at_j : v (id_at w j) (id_at w i) (entry_at w i) ≡ x)
    (others : (k : ℕ) → k ≤ i → k ≢ j → v (id_at w k) (id_at w i) (entry_at w i) ≡ 0) where
  -- with y in its place
  entered : (k : ℕ) → k ≤ i → get_or (set xs i y) k 0 + total (v (id_at w k)) (tab i (row_at w)) ≡ f (entry_at w k).account
  entered k h = ⊎_elim
      (λ (a : k < i). rw (get_or-set_other xs i k y 0 (λ e. omega arith)) (L.sum k a))
      (λ (a : i ≤ k). let e : k ≡ i = omega arith in
      rw e (let z = get_or-set_same xs i y 0 (omega (arith, L.size)) in omega arith))
      (lt_or_ge k i)

  -- what is left is less than x: the sum is above the figure
  left_over : get_or (set xs i y) j 0 < x → f (entry_at w j).account < total (v (id_at w j)) (tab (i + 1) (row_at w))
  left_over h = omega (arith, entered j in_j, total_more (v (id_at w j)) (row_at w) i)

  -- or x is taken off
  left_more : x ≤ get_or (set xs i y) j 0 → (zs : List ℕ) → zs ≡ set (set xs i y) j (get_or (set xs i y) j 0 - x) → Left v f w (i + 1) zs
  left_more h zs e = rw e record {
    size = simp length-set L.size;
    sum = λ k l. ⊎_elim
        (λ (q : k ≡ j). rw q (
        let z = get_or-set_same (set xs i y) j (get_or (set xs i y) j 0 - x) 0 (rw length-set (omega (arith, L.size))) in
        omega (arith, entered j in_j, total_more (v (id_at w j)) (row_at w) i)))
        (λ (q : k ≢ j).
        let z = get_or-set_other (set xs i y) j k (get_or (set xs i y) j 0 - x) 0 q in
        omega (arith, entered k (omega arith), total_more (v (id_at w k)) (row_at w) i, others k (omega arith) q))
        (same_or_not k j);
    rest = λ k l.
        get_or-set_other (set xs i y) j k (get_or (set xs i y) j 0 - x) 0 (λ q. omega arith)
        ∙ get_or-set_other xs i k y 0 (λ q. omega arith) ∙ L.rest k (omega arith);
  }

-- v is a weight that only the payer bears
module _ (v : ℕ → ℕ → Entry → ℕ) (f : Account → ℕ) (away : (p q : ℕ) (e : Entry) → e.payer ≢ p → v p q e ≡ 0)
    {w : List ℕ} {next i j : ℕ} {xs : List ℕ} (L : Left v f w i xs) (low : i < 512) (F : Front w next (i + 1)) (P : Paid w next i j)
    (x : ℕ) (is_x : v (id_at w j) (id_at w i) (entry_at w i) ≡ x) (y : ℕ) (is_y : y ≡ f (entry_at w i).account) where
  rise : Rise w (i + 1)
  rise = front_rise F

  -- no row before row i is paid for by it
  fresh : total (v (id_at w i)) (tab i (row_at w)) ≡ 0
  fresh = total_none (v (id_at w i)) (row_at w) i
      (λ k l. let o = F.paid k (omega arith) in
      away (id_at w i) (id_at w k) (entry_at w k)
      (λ e. let b = in_place o.is in omega (arith, o.is.payer, rise o.place i (omega arith) (omega arith))))

  -- no row but row j pays for row i
  others : (k : ℕ) → k ≤ i → k ≢ j → v (id_at w k) (id_at w i) (entry_at w i) ≡ 0
  others k l ne = away (id_at w k) (id_at w i) (entry_at w i)
      (λ e. let b = in_place P in rise_same w (i + 1) rise k j (omega arith) (omega arith) ne (sym e ∙ P.payer))

  took_on : x ≤ get_or (set xs i y) j 0 → Left v f w (i + 1) (set (set xs i y) j (get_or (set xs i y) j 0 - x))
  took_on h = left_more L low y is_y j (in_place P) x fresh is_x others h _ refl

  took_off : get_or (set xs i y) j 0 < x → (n : ℕ) → i < n → Sums v f w n → ⊥
  took_off h n l s =
      let z = left_over L low y is_y j (in_place P) x fresh is_x others h in
      let b = in_place P in
      omega (arith, total_up (v (id_at w j)) (row_at w) (i + 1) n (omega arith), s j (omega arith))

-- ---- one turn

-- what an entry's payer reserves for it, of its account's figure g: `memory_by` and `cpu_by` are of this form
abbrev child_by : (Account → ℕ) → (p i : ℕ) → Entry → ℕ
child_by g p i e = cond (is_child p i e) (g e.account) 0

away_charge : (p q : ℕ) (e : Entry) → e.payer ≢ p → charge_by p q e ≡ 0
away_charge p q e h = rw (ne_eqb e.payer p h)

away_child : (g : Account → ℕ) (p q : ℕ) (e : Entry) → e.payer ≢ p → child_by g p q e ≡ 0
away_child g p q e h = rw (ne_eqb e.payer p h)

-- row i's entry, e, is in order, and row j pays for it
module _ {w : List ℕ} {next i j : ℕ} {fs : List Figures} (W : Walk w next i fs) (low : i < 512) (more : i < get_or w 0 0)
    {e : Entry} (is_e : e ≡ entry_at w i) (p : Plain (kind_word w i) e) (P : Paid w next i j) where
  pub front : Front w next (i + 1)
  front = front_more W.front (rw is_e at p) P

  -- is row i another one than its payer?
  same_payer : i ≡ 0 → eqb (id_at w i) (id_at w j) ≡ true
  same_payer e = let q : j ≡ i = (P.first e).1 in eq-eqb (id_at w i) (id_at w j) (ap (id_at w) (sym q))

  other_payer : (i ≡ 0 → ⊥) → eqb (id_at w i) (id_at w j) ≡ false
  other_payer ne =
      let l = (P.later (i - 1) (omega arith)).1 in
      ne_eqb (id_at w i) (id_at w j) (λ e. omega (arith, front_rise front j i l (omega arith)))

  at_charge : charge_by (id_at w j) (id_at w i) (entry_at w i) ≡ e.charge
  at_charge = rw (eq-eqb (entry_at w i).payer (id_at w j) P.payer) (sym (ap (λ (x : Entry). x.charge) is_e))

  at_child : (g : Account → ℕ) (x : ℕ) → ReservedFor i (g e.account) x → child_by g (id_at w j) (id_at w i) (entry_at w i) ≡ x
  at_child g x l = ⊎_elim
      (λ (z : i < 1). let q : i ≡ 0 = omega arith in
      rw (eq-eqb (entry_at w i).payer (id_at w j) P.payer, same_payer q) (sym (l.root q)))
      (λ (z : 1 ≤ i). let ne : i ≢ 0 = λ q. omega arith in
      rw (eq-eqb (entry_at w i).payer (id_at w j) P.payer, other_payer ne) (sym (l.child ne ∙ ap (λ (x : Entry). g x.account) is_e)))
      (lt_or_ge i 1)

  is_figure : (f : Account → ℕ) → f e.account ≡ f (entry_at w i).account
  is_figure f = ap (λ (x : Entry). f x.account) is_e

  -- the row's own figures
  abbrev own : Figures
  own = record { used = e.account.memory_used; memory = e.account.memory_reserved; cpu = e.account.cpu_reserved }

  -- m and c are what the payer reserves for the row
  module _ (m c : ℕ) (lm : ReservedFor i e.account.memory_limit m) (lc : ReservedFor i e.account.cpu_allowance c) (d : Figures) where
    -- what stands at place j then
    abbrev f : Figures
    f = get_or (set fs i own) j d

    within : j < length (set fs i own)
    within = rw length-set (omega (arith, in_place P, W.used.size, length-map fs (λ (x : Figures). x.used)))

    -- what is read, and what is written, of one of the three
    read : (g : Figures → ℕ) → get_or (set (map g fs) i (g own)) j 0 ≡ g f
    read g = ap (λ (xs : List ℕ). get_or xs j 0) (sym (map-set g fs i own)) ∙ get_or-map g (set fs i own) j d 0 within

    wrote : (g : Figures → ℕ) (h : Figures) (x : ℕ) → g h ≡ g f - x
        → map g (set (set fs i own) j h) ≡ set (set (map g fs) i (g own)) j (get_or (set (map g fs) i (g own)) j 0 - x)
    wrote g h x q = rw (map-set g (set fs i own) j h, map-set g fs i own, read g) (ap (set (set (map g fs) i (g own)) j) q)

    pub turned_on : (r : Option Figures) → Lessened f (record { used = e.charge; memory = m; cpu = c }) r → (h : Figures) → r ≡ Some h → Walk w next (i + 1) (set (set fs i own) j h)
    turned_on r l h k =
        let (a, b, v, q) = subst (Lessened f (record { used = e.charge; memory = m; cpu = c })) k l in
        record {
          front = front;
          used = rw (wrote (λ x. x.used) h e.charge (ap (λ (x : Figures). x.used) q))
              (took_on charge_by used away_charge W.used low front P e.charge at_charge e.account.memory_used (is_figure used) (rw (read (λ x. x.used)) a));
          memory = rw (wrote (λ x. x.memory) h m (ap (λ (x : Figures). x.memory) q))
              (took_on memory_by memory_reserved (away_child (λ x. x.memory_limit)) W.memory low front P m (at_child (λ x. x.memory_limit) m lm) e.account.memory_reserved (is_figure memory_reserved)
              (rw (read (λ x. x.memory)) b));
          cpu = rw (wrote (λ x. x.cpu) h c (ap (λ (x : Figures). x.cpu) q))
              (took_on cpu_by cpu_reserved (away_child (λ x. x.cpu_allowance)) W.cpu low front P c (at_child (λ x. x.cpu_allowance) c lc) e.account.cpu_reserved (is_figure cpu_reserved)
              (rw (read (λ x. x.cpu)) v));
        }

    pub turned_off : (r : Option Figures) → Lessened f (record { used = e.charge; memory = m; cpu = c }) r → r ≡ None → Whole w next → ⊥
    turned_off r l k all =
        let z = subst (Lessened f (record { used = e.charge; memory = m; cpu = c })) k l in
        ⊎_elim
        (λ (a : f.used < e.charge). took_off charge_by used away_charge W.used low front P e.charge at_charge e.account.memory_used (is_figure used) (rw (read (λ x. x.used)) a) (get_or w 0 0) more all.used)
        (λ (a : e.charge ≤ f.used). ⊎_elim
        (λ (b : f.memory < m). took_off memory_by memory_reserved (away_child (λ x. x.memory_limit)) W.memory low front P m (at_child (λ x. x.memory_limit) m lm) e.account.memory_reserved (is_figure memory_reserved)
        (rw (read (λ x. x.memory)) b) (get_or w 0 0) more all.memory)
        (λ (b : m ≤ f.memory). ⊎_elim
        (λ (v : f.cpu < c). took_off cpu_by cpu_reserved (away_child (λ x. x.cpu_allowance)) W.cpu low front P c (at_child (λ x. x.cpu_allowance) c lc) e.account.cpu_reserved (is_figure cpu_reserved)
        (rw (read (λ x. x.cpu)) v) (get_or w 0 0) more all.cpu)
        (λ (v : c ≤ f.cpu). z a b v)
        (lt_or_ge f.cpu c))
        (lt_or_ge f.memory m))
        (lt_or_ge f.used e.charge)

-- ---- begin and end

left_none : (v : ℕ → ℕ → Entry → ℕ) (f : Account → ℕ) (w : List ℕ) → Left v f w 0 (zeros 512)
left_none v f w = record {
  size = length-replicate {A = ℕ} 512 0;
  sum = λ k l. absurd (omega arith);
  rest = λ k l. ⊎_elim
      (λ (a : k < 512). get_or-replicate {A = ℕ} 512 k 0 0 a)
      (λ (a : 512 ≤ k). get_or-eq_default (zeros 512) 0 {n = k} (rw (length-replicate {A = ℕ} 512 0) a))
      (lt_or_ge k 512);
}

map_zeros : (g : Figures → ℕ) (x : Figures) → g x ≡ 0 → (n : ℕ) → map g (replicate n x) ≡ zeros n
map_zeros g x e zero = refl
map_zeros g x e (suc n) = rw (e, map_zeros g x e n)

pub walk_none : (w : List ℕ) (next : ℕ) → Walk w next 0 (replicate 512 (record { used = 0; memory = 0; cpu = 0 }))
walk_none w next =
    let none : Figures = record { used = 0; memory = 0; cpu = 0 } in
    record {
      front = record { plain = λ k l. absurd (omega arith); paid = λ k l. absurd (omega arith) };
      used = rw (map_zeros (λ x. x.used) none refl 512) (left_none charge_by used w);
      memory = rw (map_zeros (λ x. x.memory) none refl 512) (left_none memory_by memory_reserved w);
      cpu = rw (map_zeros (λ x. x.cpu) none refl 512) (left_none cpu_by cpu_reserved w);
    }

-- nothing is left just if the figures are the sums
module _ {v : ℕ → ℕ → Entry → ℕ} {f : Account → ℕ} {w : List ℕ} {n : ℕ} {xs : List ℕ} (L : Left v f w n xs) (few : n ≤ 512) where
  left_so : all_zero xs ≡ true → Sums v f w n
  left_so z k l =
      let e : get_or xs k 0 ≡ 0 = ap (λ (q : List ℕ). get_or q k 0) (all_zero_lem xs z) ∙ get_or-replicate (length xs) k 0 0 (omega (arith, L.size)) in
      omega (arith, L.sum k l)

  left_back : Sums v f w n → all_zero xs ≡ true
  left_back h =
      let e : xs ≡ zeros (length xs) = ext_get_or 0 xs (zeros (length xs)) (sym (length-replicate (length xs) 0))
      (λ k b. ⊎_elim (λ (a : k < n). omega (arith, L.sum k a, h k a)) (λ (a : n ≤ k). L.rest k a) (lt_or_ge k n)
      ∙ sym (get_or-replicate (length xs) k 0 0 b)) in
      ap all_zero e ∙ zeros_zero (length xs)

-- nothing is left of each of the three
spent_out : (fs : List Figures) → list_all spent fs ≡ true → (all_zero (left_used fs) ≡ true) × (all_zero (left_memory fs) ≡ true) × (all_zero (left_cpu fs) ≡ true)
unfolding all_zero
spent_out [] h = (refl, refl, refl)
spent_out (f ∷ fs) h =
    let s = first (spent f) (list_all spent fs) h in
    let (u, m, c) = spent_out fs (second (spent f) (list_all spent fs) h) in
    let t = second (eqb f.used 0) (eqb f.memory 0 && eqb f.cpu 0) s in (
      both (eqb f.used 0) (all_zero (left_used fs)) (first (eqb f.used 0) (eqb f.memory 0 && eqb f.cpu 0) s) u,
      both (eqb f.memory 0) (all_zero (left_memory fs)) (first (eqb f.memory 0) (eqb f.cpu 0) t) m,
      both (eqb f.cpu 0) (all_zero (left_cpu fs)) (second (eqb f.memory 0) (eqb f.cpu 0) t) c,
    )

spent_in : (fs : List Figures) → all_zero (left_used fs) ≡ true → all_zero (left_memory fs) ≡ true → all_zero (left_cpu fs) ≡ true → list_all spent fs ≡ true
unfolding all_zero
spent_in [] u m c = refl
spent_in (f ∷ fs) u m c =
    both (spent f) (list_all spent fs)
    (both (eqb f.used 0) (eqb f.memory 0 && eqb f.cpu 0) (first (eqb f.used 0) (all_zero (left_used fs)) u)
    (both (eqb f.memory 0) (eqb f.cpu 0) (first (eqb f.memory 0) (all_zero (left_memory fs)) m) (first (eqb f.cpu 0) (all_zero (left_cpu fs)) c)))
    (spent_in fs (second (eqb f.used 0) (all_zero (left_used fs)) u) (second (eqb f.memory 0) (all_zero (left_memory fs)) m) (second (eqb f.cpu 0) (all_zero (left_cpu fs)) c))

-- and as `are_spent` asks it
abbrev pub and_spent : Bool → Figures → Bool
and_spent z f = ((z && eqb f.used 0) && eqb f.memory 0) && eqb f.cpu 0

pub spent_fold : (z : Bool) (fs : List Figures) → fold and_spent z fs ≡ (z && list_all spent fs)
spent_fold z [] = sym (and-true z)
spent_fold true (f ∷ fs) = spent_fold (and_spent true f) fs ∙ ap (λ (b : Bool). b && list_all spent fs) (and_assoc (eqb f.used 0) (eqb f.memory 0) (eqb f.cpu 0))
spent_fold false (f ∷ fs) = spent_fold false fs

-- after the last row
module _ {w : List ℕ} {next i : ℕ} {fs : List Figures} (W : Walk w next i fs) (e : i ≡ get_or w 0 0) (few : i ≤ 512) where
  last : Walk w next (get_or w 0 0) fs
  last = subst (λ (n : ℕ). Walk w next n fs) e W

  pub ended_back : Whole w next → list_all spent fs ≡ true
  ended_back all = spent_in fs (left_back last.used (omega arith) all.used) (left_back last.memory (omega arith) all.memory) (left_back last.cpu (omega arith) all.cpu)

  pub ended : 0 < i → list_all spent fs ≡ true → Whole w next
  ended h z =
      let (u, m, c) = spent_out fs z in
      record {
        some = omega arith;
        front = last.front;
        used = left_so last.used (omega arith) u;
        memory = left_so last.memory (omega arith) m;
        cpu = left_so last.cpu (omega arith) c;
      }
