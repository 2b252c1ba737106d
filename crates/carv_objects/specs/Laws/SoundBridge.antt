-- What question 1's walk finds by place is what the test of specs/Area.antt asks by id. Assumes nothing.
use Rattle.std.proofs.Math.Path.{◌≡◌}
use Rattle.std.specs.Prelude.{refl, ◌≢◌, Bool, true, false, List, eqb, length, get_or, Option, Some, None}
use Rattle.std.proofs.Common.{sym, ◌∙◌, ap, subst, ⊎_elim, eq-or-lt_of_le, arith}
use Prim.Native.Nat.{ℕ, zero, suc, ◌-◌, ◌≤◌, ◌<◌}
use borrow.Author.Tests.{eqb-true, eq-eqb, ne_eqb}
use Rattle.carv_area.specs.Laws.Table as Table
use Rattle.carv_area.specs.Table.{Row, at, Rising}
use Rattle.carv_area.specs.Laws.Table.{test}
use Rattle.carv_area.specs.Lists.{tab}
use Rattle.carv_area.specs.Laws.Lists.{lt_or_ge, length_tab}
use Rattle.carv_area.specs.Words.{words}
use Rattle.carv_budget.proofs.Laws.Account.{first, second}
use Rattle.carv_budget.specs.declared.Account.{Account}
use Rattle.carv_budget.specs.Account.{blank}
use Rattle.carv_budget.proofs.Laws.Account as account_laws
use Rattle.carv_objects_spec.specs.declared.kind.Kind.TheVariants as kinds
use Rattle.carv_objects_spec.specs.declared.Entry.{Entry}
use Rattle.carv_objects_spec.specs.Kinds.{is_budget_kind}
use Rattle.carv_objects_spec.specs.Registry.{Registry, or_missing}
use Rattle.carv_objects_spec.specs.Sound.{kind_at, sound}
use Rattle.carv_objects_spec.proofs.Laws.SoundFacts.{Sound, SoundEntry}
use Rattle.carv_objects_spec.proofs.Laws.SoundLaws.{sound_told, sound_shown, account_sound}
use Rattle.carv_objects.specs.Area.{table, kind_word, row_at, rows_in, decode, kinds_listed, sound_area}
use Rattle.carv_objects.specs.Laws.AreaLaws.{Listed, listed_told, listed_shown}
use Rattle.carv_objects_spec.proofs.Laws.Kinds.{kind_apart}
use Rattle.carv_objects.specs.Laws.SoundWalk.{Tells, id_at, entry_at, Plain, Owned, Rise, Whole, SoundTable}
use Rattle.carv_objects.specs.Laws.SoundTurn.{front_rise, in_place}

-- ---- rows given by place, and by id

module _ {A : Type 0} where
  -- the row at place k lies between the bounds
  record Between (f : ℕ → Row A) (l n k : ℕ) : Type 0 where
    low : l ≤ (f k).id
    high : (f k).id < n

  rising_out : (n : ℕ) (f : ℕ → Row A) (l m : ℕ) → Rising l m (tab n f) → (k : ℕ) → k < n → Between f l m k
  unfolding tab
  rising_out zero f l m u k h = absurd (omega arith)
  rising_out (suc n) f l m u zero h = record { low = u.0; high = omega (arith, Table.rising_le (tab n (λ i. f (suc i))) (suc (f zero).id) m u.1) }
  rising_out (suc n) f l m u (suc k) h =
      let r = rising_out n (λ i. f (suc i)) (suc (f zero).id) m u.1 k (omega arith) in
      record { low = omega (arith, r.low, u.0); high = r.high }

  rising_rise : (n : ℕ) (f : ℕ → Row A) (l m : ℕ) → Rising l m (tab n f) → (j k : ℕ) → j < k → k < n → (f j).id < (f k).id
  unfolding tab
  rising_rise zero f l m u j k h g = absurd (omega arith)
  rising_rise (suc n) f l m u j zero h g = absurd (omega arith)
  rising_rise (suc n) f l m u zero (suc k) h g = omega (arith, (rising_out n (λ i. f (suc i)) (suc (f zero).id) m u.1 k (omega arith)).low)
  rising_rise (suc n) f l m u (suc j) (suc k) h g = rising_rise n (λ i. f (suc i)) (suc (f zero).id) m u.1 j k (omega arith) (omega arith)

  rising_in : (n : ℕ) (f : ℕ → Row A) (l m : ℕ) → l ≤ m → ((k : ℕ) → k < n → Between f l m k)
      → ((j k : ℕ) → j < k → k < n → (f j).id < (f k).id) → Rising l m (tab n f)
  unfolding tab
  rising_in zero f l m h b r = h
  rising_in (suc n) f l m h b r = (
    (b zero (omega arith)).low,
    rising_in n (λ i. f (suc i)) (suc (f zero).id) m (b zero (omega arith)).high
        (λ k g. record { low = r zero (suc k) (omega arith) (omega arith); high = (b (suc k) (omega arith)).high })
        (λ j k x y. r (suc j) (suc k) (omega arith) (omega arith)),
  )

  -- what stands under the id at place k
  at_tab : (n : ℕ) (f : ℕ → Row A) → ((j k : ℕ) → j < k → k < n → (f j).id < (f k).id) → (k : ℕ) → k < n → at (tab n f) (f k).id ≡ Some (f k).it
  unfolding tab
  at_tab zero f r k h = absurd (omega arith)
  at_tab (suc n) f r zero h = rw (eq-eqb (f zero).id (f zero).id refl)
  at_tab (suc n) f r (suc k) h =
      rw (ne_eqb (f zero).id (f (suc k)).id (λ e. omega (arith, r zero (suc k) (omega arith) h)))
      (at_tab n (λ i. f (suc i)) (λ j k x y. r (suc j) (suc k) (omega arith) (omega arith)) k (omega arith))

  -- and the place of what stands under i
  record Stands (n : ℕ) (f : ℕ → Row A) (i : ℕ) (a : A) : Type 0 where
    place : ℕ
    inside : place < n
    id : (f place).id ≡ i
    it : (f place).it ≡ a

  at_out : (n : ℕ) (f : ℕ → Row A) (i : ℕ) (a : A) → at (tab n f) i ≡ Some a → Stands n f i a
  unfolding tab
  at_out zero f i a q = let z : ◌≡◌ {A = ℕ} 0 1 = cc in absurd (omega arith)
  at_out (suc n) f i a q = test (eqb (f zero).id i)
      (λ e. let q' : Some (f zero).it ≡ Some a = rw e at q in
      record { place = zero; inside = omega arith; id = eqb-true (f zero).id i e; it = cc })
      (λ e. let s = at_out n (λ j. f (suc j)) i a (rw e at q) in
      record { place = suc s.place; inside = omega (arith, s.inside); id = s.id; it = s.it })

-- a live budget
record Budget (n : ℕ) (f : ℕ → Row Entry) (p : ℕ) : Type 0 where
  place : ℕ
  inside : place < n
  id : (f place).id ≡ p
  kind : (f place).it.kind ≡ kinds.Budget

budget_out : (n : ℕ) (f : ℕ → Row Entry) (p : ℕ) → kind_at (tab n f) p ≡ kinds.Budget → Budget n f p
budget_out n f p h = go (at (tab n f) p) refl
  where
    go : (o : Option Entry) → at (tab n f) p ≡ o → Budget n f p
    go None q = absurd (kind_apart kinds.IrqControl refl (sym (ap (λ (x : Option Entry). (or_missing x).kind) q) ∙ h))
    go (Some e) q =
        let s = at_out n f p e q in
        let z : e.kind ≡ kinds.Budget = sym (ap (λ (x : Option Entry). (or_missing x).kind) q) ∙ h in
        record { place = s.place; inside = s.inside; id = s.id; kind = ap (λ (x : Entry). x.kind) s.it ∙ z }

-- the registry that the words w of a table and a next id say
abbrev registry_in : List ℕ → ℕ → Registry
registry_in w next = record { next = next; rows = tab (get_or w 0 0) (row_at w) }

-- ---- sound, then whole

module _ (w : List ℕ) (next : ℕ) (S : Sound (registry_in w next)) (named : Listed w (get_or w 0 0)) where
  rise : Rise w (get_or w 0 0)
  rise = rising_rise (get_or w 0 0) (row_at w) 1 next S.rising

  within : (k : ℕ) → k < get_or w 0 0 → Between (row_at w) 1 next k
  within = rising_out (get_or w 0 0) (row_at w) 1 next S.rising

  fits : (k : ℕ) → k < get_or w 0 0 → SoundEntry (tab (get_or w 0 0) (row_at w)) (id_at w k) (entry_at w k)
  fits k l = S.each (id_at w k) (entry_at w k) (at_tab (get_or w 0 0) (row_at w) rise k l)

  root : Budget (get_or w 0 0) (row_at w) 1
  root = budget_out (get_or w 0 0) (row_at w) 1 S.root

  upto : (j k : ℕ) → j ≤ k → k < get_or w 0 0 → id_at w j ≤ id_at w k
  upto j k h l = ⊎_elim (λ (e : j ≡ k). omega (arith, ap (id_at w) e)) (λ g. omega (arith, rise j k g l)) (eq-or-lt_of_le h)

  first_id : id_at w 0 ≡ 1
  first_id = omega (arith, root.inside, (within 0 (omega (arith, root.inside))).low, upto 0 root.place (omega arith) root.inside, root.id)

  plain : (k : ℕ) → k < get_or w 0 0 → Plain (kind_word w k) (entry_at w k)
  plain k l =
      let F = fits k l in
      record {
        named = named k l;
        sound = account_sound F;
        no_cpu = λ ne. ap (λ (a : Account). a.cpu_allowance) (F.plain ne);
        no_memory = λ ne. ap (λ (a : Account). a.memory_limit) (F.plain ne);
        no_start = λ ne. ap (λ (a : Account). a.period_start) (F.plain ne);
      }

  owned : (k : ℕ) → k < get_or w 0 0 → Owned w next k
  owned zero l =
      let r = (fits zero l).root first_id in
      record {
        place = zero;
        is = record { below = (within zero l).high; kind = r.0; payer = omega (arith, first_id, r.1); first = λ e. (first_id, refl); later = λ h e. absurd (omega arith) };
      }
  owned (suc k) l =
      let F = fits (suc k) l in
      let b = budget_out (get_or w 0 0) (row_at w) (entry_at w (suc k)).payer F.paid in
      let ne : id_at w (suc k) ≢ 1 = λ e. omega (arith, first_id, rise 0 (suc k) (omega arith) l) in
      let lower = F.lower ne in
      let under : b.place < suc k = ⊎_elim (λ h. h) (λ (h : suc k ≤ b.place). absurd (omega (arith, upto (suc k) b.place h b.inside, b.id))) (lt_or_ge b.place (suc k)) in
      record {
        place = b.place;
        is = record {
          below = (within (suc k) l).high;
          kind = b.kind;
          payer = sym b.id;
          first = λ e. absurd (omega arith);
          later = λ h e. (rise h (suc k) (omega arith) l, under);
        };
      }

  sound_whole : Whole w next
  sound_whole = record {
    some = omega (arith, root.inside);
    front = record { plain = plain; paid = owned };
    used = λ k l. sym (fits k l).used;
    memory = λ k l. sym (fits k l).memory_reserved;
    cpu = λ k l. sym (fits k l).cpu_reserved;
  }

-- ---- whole, then sound

module _ (w : List ℕ) (next : ℕ) (W : Whole w next) (few : get_or w 0 0 ≤ 512) where
  order : Rise w (get_or w 0 0)
  order = front_rise W.front

  here : (k : ℕ) → k < get_or w 0 0 → at (tab (get_or w 0 0) (row_at w)) (id_at w k) ≡ Some (entry_at w k)
  here = at_tab (get_or w 0 0) (row_at w) order

  one : id_at w 0 ≡ 1
  one = ((W.front.paid 0 W.some).is.first refl).0

  clean : (k : ℕ) → k < get_or w 0 0 → is_budget_kind (entry_at w k).kind ≡ false → (entry_at w k).account ≡ blank
  clean k l ne =
      let p = W.front.plain k l in
      let a = (entry_at w k).account in
      let s = account_laws.sound_told {a = a} p.sound in
      let c : a.cpu_allowance ≡ 0 = p.no_cpu ne in
      let m : a.memory_limit ≡ 0 = p.no_memory ne in
      let q : a.period_start ≡ 0 = p.no_start ne in
      let x : a.cpu_left ≡ 0 = omega (arith, s.cpu) in
      let y : a.cpu_reserved ≡ 0 = omega (arith, s.cpu) in
      let u : a.memory_used ≡ 0 = omega (arith, s.memory) in
      let v : a.memory_reserved ≡ 0 = omega (arith, s.memory) in
      λ t. record {
        cpu_allowance = c t;
        memory_limit = m t;
        period_start = q t;
        cpu_left = x t;
        cpu_reserved = y t;
        memory_used = u t;
        memory_reserved = v t;
      }

  fit : (k : ℕ) → k < get_or w 0 0 → SoundEntry (tab (get_or w 0 0) (row_at w)) (id_at w k) (entry_at w k)
  fit k l =
      let p = W.front.plain k l in
      let s = account_laws.sound_told {a = (entry_at w k).account} p.sound in
      let o = W.front.paid k l in
      let b = in_place o.is in
      let at_0 : (i : ℕ) → i < get_or w 0 0 → id_at w i ≡ 1 → i ≡ 0 = λ i h e.
      ⊎_elim (λ (g : i < 1). omega arith) (λ (g : 1 ≤ i). absurd (omega (arith, order 0 i g h, one))) (lt_or_ge i 1) in
      record {
        plain = clean k l;
        root = λ e. (let f = (o.is.first (at_0 k l e)).1 in
            (rw f at o.is.kind, omega (arith, o.is.payer, ap (id_at w) f)));
        lower = λ ne. ⊎_elim
            (λ (g : k < 1). let q : k ≡ 0 = omega arith in absurd (ne (ap (id_at w) q ∙ one)))
            (λ (g : 1 ≤ k). omega (arith, o.is.payer, order o.place k (o.is.later (k - 1) (omega arith)).1 l))
            (lt_or_ge k 1);
        paid = rw o.is.payer (ap (λ (x : Option Entry). (or_missing x).kind) (here o.place (omega arith)) ∙ o.is.kind);
        used = sym (W.used k l);
        memory_reserved = sym (W.memory k l);
        cpu_reserved = sym (W.cpu k l);
        memory = s.memory;
        cpu = s.cpu;
        share = s.share;
      }

  moved : (k i : ℕ) (e : Entry) → id_at w k ≡ i → entry_at w k ≡ e
      → SoundEntry (tab (get_or w 0 0) (row_at w)) (id_at w k) (entry_at w k) → SoundEntry (tab (get_or w 0 0) (row_at w)) i e
  moved k i e p q z =
      subst (λ (x : Entry). SoundEntry (tab (get_or w 0 0) (row_at w)) i x) q
      (subst (λ (x : ℕ). SoundEntry (tab (get_or w 0 0) (row_at w)) x (entry_at w k)) p z)

  whole_sound : Sound (registry_in w next)
  whole_sound = record {
    few = rw length_tab few;
    rising = rising_in (get_or w 0 0) (row_at w) 1 next (omega (arith, (W.front.paid 0 W.some).is.below, one))
        (λ k l. record {
          low = ⊎_elim (λ (g : k < 1). let q : k ≡ 0 = omega arith in omega (arith, ap (id_at w) q, one)) (λ (g : 1 ≤ k). omega (arith, order 0 k g l, one)) (lt_or_ge k 1);
          high = (W.front.paid k l).is.below;
        }) order;
    root = ap (λ (x : Option Entry). (or_missing x).kind) (rw one at (here 0 W.some))
        ∙ (let o = W.front.paid 0 W.some in let f = (o.is.first refl).1 in rw f at o.is.kind);
    each = λ i e q. (let s = at_out (get_or w 0 0) (row_at w) i e q in
        moved s.place i e s.id s.it (fit s.place s.inside));
  }

-- ---- question 1

-- a sound area has a table that is in order
asked_out : (a : List ℕ) → sound_area a ≡ true → (length a ≡ 45_072) × SoundTable (words (table a)) (decode a).next
unfolding sound_area rows_in
asked_out a h =
    let l = words (table a) in
    let full = second (eqb (length a) 45_072) _ h in
    let S = sound_told (decode a) (first (sound (decode a)) _ full) in
    let words_full = second (sound (decode a)) _ full in
    let named = listed_told l (first (kinds_listed l) _ words_full) in (
      eqb-true (length a) 45_072 (first (eqb (length a) 45_072) _ h),
      record {
        few = rw length_tab at S.few;
        rest = second (kinds_listed l) _ words_full;
        whole = sound_whole l (decode a).next S named;
      },
    )

-- and back
asked_in : (a : List ℕ) → length a ≡ 45_072 → SoundTable (words (table a)) (decode a).next → sound_area a ≡ true
unfolding sound_area rows_in
asked_in a e t =
    let l = words (table a) in
    rw (eq-eqb (length a) 45_072 e, sound_shown (decode a) (whole_sound l (decode a).next t.whole t.few), listed_shown l (λ i b. (t.whole.front.plain i b).named)) t.rest

refused : (a : List ℕ) → (sound_area a ≡ true → ⊥) → false ≡ sound_area a
refused a h = test (sound_area a) (λ e. absurd (h e)) (λ e. sym e)

-- an area of another length is not sound
pub asked_size : (a : List ℕ) → (length a ≡ 45_072 → ⊥) → false ≡ sound_area a
asked_size a h = refused a (λ e. h (asked_out a e).0)

-- one of its length is sound just if its table is in order
pub asked : (a : List ℕ) (next : ℕ) (r : Bool) → length a ≡ 45_072 → next ≡ (decode a).next → Tells r (SoundTable (words (table a)) next) → r ≡ sound_area a
asked a next r size e t = test r
    (λ q. q ∙ sym (asked_in a size (rw e at (t.so q))))
    (λ q. q ∙ refused a (λ s. t.not q (rw e (asked_out a s).1)))
