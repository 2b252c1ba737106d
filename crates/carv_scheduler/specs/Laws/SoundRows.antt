-- Rows by place and by id, for question 1: tests of a list made of a function, the order of the threads' ids, and what stands under an id. Assumes nothing.
use Rattle.std.specs.Prelude.{◌≡◌, ℕ, zero, suc, ◌+◌, ◌-◌, ◌*◌, ◌^◌, ◌<◌, ◌≤◌, Bool, true, false, List, [], ◌∷◌, ◌++◌, map, length, ◌≢◌, slice_index, slice_index_or, Option, Some, None}
use Rattle.std.proofs.Math.Path.{refl, sym, ap}
use Rattle.std.proofs.Common.{◌∙◌, subst, ⊎_elim, mul-one, arith}
use Rattle.std.proofs.lemmas.Bool.{true≢false, false≢true}
use Rattle.std.proofs.lemmas.List.FromFn.{length-range_with_len, get_or-range_with_len}
use Rattle.std.specs.Bool.{MatchBool}
use Rattle.std.specs.List.{AllWithin, HoldsAt, range_with_len}
use Rattle.carv_area.specs.Table.{Row, at}
use Rattle.carv_area.specs.Lists.{tab}
use Rattle.carv_area.specs.Laws.Lists.{length_tab, get_or_tab, lt_or_ge}
use Rattle.carv_area.specs.Words.{words}
use Rattle.carv_area.specs.Keys as keys
use Rattle.carv_area.specs.Keys.{keys, find_in}
use Rattle.carv_area.specs.Laws.Keys.{length_keys, get_or_keys}
use Rattle.carv_area.specs.Stored.{Keyed}
use Rattle.carv_area.specs.Laws.Stored.{keyed_of}
use Rattle.carv_area.specs.Lookup.{Located}
use Rattle.carv_area.specs.Laws.Lookup.{ids, located, rising_ids, ids_rising}
use Rattle.carv_objects.specs.Laws.SoundWalk.{Tells}
use Rattle.carv_budget.proofs.Laws.Account.{first, second}
use Rattle.carv_objects_spec.specs.Sound.{every}
use Rattle.carv_scheduler_spec.specs.declared.Thread.{Thread}
use Rattle.carv_scheduler_spec.specs.Scheduler.{or_fresh, found, thread, has}
use Rattle.carv_scheduler.specs.Area.{thread_at, threads_in}
use Rattle.carv_scheduler.specs.Laws.Rows.{no_row}
use Rattle.carv_scheduler.specs.Laws.Places.{found_here, found_gone}
use Rattle.carv_scheduler.specs.Laws.SoundWalk.{id_at, it_at, key_at, Ordered, Rise, Order}

-- ---- lists made of a function

module _ {A : Type 0} where
  pub tab_snoc : (n : ℕ) (f : ℕ → A) → tab (suc n) f ≡ tab n f ++ (f n ∷ [])
  unfolding tab
  tab_snoc zero f = refl
  tab_snoc (suc n) f = ap (λ (l : List A). f zero ∷ l) (tab_snoc n (λ i. f (suc i)))

  pub map_tab : {B : Type 0} (g : A → B) (n : ℕ) (f : ℕ → A) → map g (tab n f) ≡ tab n (λ i. g (f i))
  unfolding tab
  map_tab g zero f = refl
  map_tab {B} g (suc n) f = ap (λ (l : List B). g (f zero) ∷ l) (map_tab g n (λ i. f (suc i)))

  pub every_out : (p : ℕ → A → Bool) (n : ℕ) (f : ℕ → Row A) → every p (tab n f) ≡ true → (k : ℕ) → k < n → p (f k).id (f k).it ≡ true
  unfolding tab
  every_out p zero f h k l = absurd (omega arith)
  every_out p (suc n) f h zero l = first (p (f zero).id (f zero).it) (every p (tab n (λ i. f (suc i)))) h
  every_out p (suc n) f h (suc k) l = every_out p n (λ i. f (suc i)) (second (p (f zero).id (f zero).it) (every p (tab n (λ i. f (suc i)))) h) k (omega arith)

  pub every_in : (p : ℕ → A → Bool) (n : ℕ) (f : ℕ → Row A) → ((k : ℕ) → k < n → p (f k).id (f k).it ≡ true) → every p (tab n f) ≡ true
  unfolding tab
  every_in p zero f h = refl
  every_in p (suc n) f h = rw (h zero (omega arith), every_in p n (λ i. f (suc i)) (λ k l. h (suc k) (omega arith)))

-- what holds below i, and of i, holds below i + 1
pub one_more : (C : ℕ → Type 0) (i : ℕ) → ((k : ℕ) → k < i → C k) → C i → (k : ℕ) → k < i + 1 → C k
one_more C i h e k l = ⊎_elim (h k) (λ (a : i ≤ k). let q : i ≡ k = omega arith in subst C q e) (lt_or_ge k i)

-- what an answer says of itself
pub tells_so : {P : Type 0} {r : Bool} → r ≡ true → Tells r P → P
tells_so e t = t.so e

pub tells_not : {P : Type 0} {r : Bool} → r ≡ false → Tells r P → P → ⊥
tells_not e t = t.not e

-- what `all` over the places below n tells
pub all_tells : (C : ℕ → Type 0) (n : ℕ) (r : Bool)
    → MatchBool r (AllWithin C (range_with_len 0 n) 0 (length (range_with_len 0 n))) ((k : ℕ) × (k < length (range_with_len 0 n)) × HoldsAt (λ i. C i → ⊥) (range_with_len 0 n) k)
    → Tells r ((k : ℕ) → k < n → C k)
all_tells C n true h = record {
  so = λ _ k l. let q : slice_index_or (range_with_len 0 n) k 0 ≡ k = omega (arith, get_or-range_with_len 0 n k 0 l) in
      subst C q (h k 0 (omega arith) (omega (arith, l, length-range_with_len 0 n)));
  not = λ e. absurd (true≢false e);
}
all_tells C n false h = record {
  so = λ e. absurd (false≢true e);
  not = λ _ F. let l : h.0 < n = omega (arith, h.1, length-range_with_len 0 n) in
      let q : h.0 ≡ slice_index_or (range_with_len 0 n) h.0 0 = omega (arith, get_or-range_with_len 0 n h.0 0 l) in
      h.2 0 (subst C q (F h.0 l));
}

-- the word at place j of the queue
pub key_is : (v : List ℕ) (j : ℕ) → slice_index v (j + 1) ≡ key_at v j
key_is v j = ap (λ (k : ℕ). slice_index v (k + 1)) (sym (mul-one j))

-- ---- the order of the threads' ids

pub ids_keys : (w : List ℕ) → ids (threads_in w) ≡ keys 21 w
unfolding threads_in keys
ids_keys w = map_tab (λ (r : Row Thread). r.id) (slice_index w 0) (thread_at w)

pub length_threads : (w : List ℕ) → length (threads_in w) ≡ slice_index w 0
unfolding threads_in
length_threads w = length_tab (slice_index w 0) (thread_at w)

-- one id more, above the last
more_rise : (w : List ℕ) (i last id : ℕ) → 1 ≤ i → Rise w i → last ≡ id_at w (i - 1) → id ≡ id_at w i → last < id → Rise w (i + 1)
more_rise w i last id s r p q h j k a b = ⊎_elim
    (λ (l : k < i). r j k a l)
    (λ (l : i ≤ k). let e : k ≡ i = omega arith in
    rw e (⊎_elim
    (λ (m : j < i - 1). omega (arith, r j (i - 1) m (omega arith)))
    (λ (m : i - 1 ≤ j). let z : j ≡ i - 1 = omega arith in omega (arith, ap (id_at w) z))
    (lt_or_ge j (i - 1))))
    (lt_or_ge k i)

pub rise_keys : (w : List ℕ) → Rise w (slice_index w 0) → keys.Rising (keys 21 w)
rise_keys w r i j a b =
    let n = length_keys 21 w in
    omega (arith, r i j a (omega arith), get_or_keys 21 w i (omega arith), get_or_keys 21 w j b)

-- ids that rise are ordered
pub ordered : (w : List ℕ) → ((k : ℕ) → slice_index w k < 2 ^ 64) → Rise w (slice_index w 0) → Ordered w
ordered w small r = ids_rising (threads_in w) 0 (2 ^ 64) (omega arith)
    (rw (ids_keys w) (rise_keys w r))
    (λ i l. let n = length_threads w in
    let m = length_keys 21 w in
    rw (ids_keys w) (omega arith, omega (arith, get_or_keys 21 w i (omega arith), small (i * 21 + 1))))

pub ordered_keys : (w : List ℕ) → Ordered w → keys.Rising (keys 21 w)
ordered_keys w o = rw (ids_keys w) at (rising_ids (threads_in w) 0 (2 ^ 64) o)

-- keys that rise, by place
pub keys_rise : (w : List ℕ) → keys.Rising (keys 21 w) → Rise w (slice_index w 0)
keys_rise w r j k a b =
    let n = length_keys 21 w in
    omega (arith, r j k a (omega arith), get_or_keys 21 w j (omega arith), get_or_keys 21 w k (omega arith))

-- `ids_rise`: there is no id
pub order_none : (w : List ℕ) → ((k : ℕ) → slice_index w k < 2 ^ 64) → slice_index w 0 ≡ 0 → Ordered w
order_none w small e = ordered w small (λ j k a b. absurd (omega arith))

-- the first
pub order_first : (w : List ℕ) (n last : ℕ) → (n ≢ 0) → last ≡ slice_index w 1 → Order w n 1 last
order_first w n last h e = record { some = omega arith; most = omega arith; last_is = e; rise = λ j k a b. absurd (omega arith) }

module _ {w : List ℕ} {n i last : ℕ} (O : Order w n i last) (is_n : n ≡ slice_index w 0) where
  -- the next
  module _ (l : i < n) (id : ℕ) (is_id : id ≡ id_at w i) where
    pub order_more : last < id → Order w n (i + 1) id
    order_more h = record {
      some = omega arith;
      most = omega arith;
      last_is = let e : i ≡ (i + 1) - 1 = omega arith in is_id ∙ ap (id_at w) e;
      rise = more_rise w i last id O.some O.rise O.last_is is_id h;
    }

    pub order_off : id ≤ last → Ordered w → ⊥
    order_off h o = omega (arith, keys_rise w (ordered_keys w o) (i - 1) i (omega (arith, O.some)) (omega arith), O.last_is)

  -- the last
  pub order_all : ((k : ℕ) → slice_index w k < 2 ^ 64) → n ≤ i → Ordered w
  order_all small h = ordered w small (λ j k a b. O.rise j k a (omega arith))

-- what `find` asks
pub ordered_keyed : (t : List ℕ) → length t ≡ 21_512 → slice_index (words t) 0 ≤ 128 → Ordered (words t) → Keyed 21 t
ordered_keyed t e h o = keyed_of 21 t (omega arith) (omega arith) (ordered_keys (words t) o)

-- ---- what stands under an id

-- the thread x stands at place i
pub record Stands (w : List ℕ) (x i : ℕ) : Type 0 where
  pub inside : i < slice_index w 0
  pub id : id_at w i ≡ x
  pub is : at (threads_in w) x ≡ Some (it_at w i)

module _ (w : List ℕ) (x : ℕ) (p : Option ℕ) (e : p ≡ find_in (keys 21 w) x) where
  located_in : Located no_row (threads_in w) x p
  located_in = subst (Located no_row (threads_in w) x) (sym (e ∙ ap (λ (ks : List ℕ). find_in ks x) (sym (ids_keys w)))) (located no_row (threads_in w) x)

  pub stands : (i : ℕ) → p ≡ Some i → Stands w x i
  unfolding threads_in
  stands i q =
      let h = found_here (threads_in w) x p located_in i q in
      let l : i < slice_index_or w 0 0 = omega (arith, h.within, length_threads w) in
      let g : slice_index_or (threads_in w) i no_row ≡ thread_at w i = get_or_tab (slice_index w 0) (thread_at w) i no_row l in
      record {
        inside = l;
        id = sym (ap (λ (r : Row Thread). r.id) g) ∙ h.same;
        is = h.is ∙ ap (λ (r : Row Thread). Some r.it) g;
      }

  pub missing : p ≡ None → at (threads_in w) x ≡ None
  missing q = (found_gone (threads_in w) x p located_in q).is

module _ {w : List ℕ} {x i : ℕ} (s : Stands w x i) where
  pub stands_has : has (threads_in w) x ≡ true
  stands_has = ap found s.is

  pub stands_thread : thread (threads_in w) x ≡ it_at w i
  stands_thread = ap or_fresh s.is

pub missing_has : (w : List ℕ) (x : ℕ) → at (threads_in w) x ≡ None → has (threads_in w) x ≢ true
missing_has w x e h = false≢true (sym (ap found e) ∙ h)
