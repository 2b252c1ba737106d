-- The laws of `Stored`: a table in bytes after each function that changes it, its keys, and the queue's. Assumes nothing.
use Rattle.std.specs.Prelude.{ℕ, ◌+◌, ◌*◌, ◌/◌, ◌≤◌, ◌<◌, ◌≡◌, refl, List, [], ◌∷◌, ◌++◌, map, length, get_or, set}
use Rattle.std.proofs.Common.{mul-one, arith, sym, ap, ◌∙◌, map-id, ext_get_or}
use Rattle.std.proofs.lemmas.List.{length-map}
use Rattle.std.proofs.Math.ListN.{get_or-map}
use Rattle.std.proofs.lemmas.List.Edits.{sets}
use Rattle.carv_area.specs.Lists.{tab}
use Rattle.carv_area.specs.Laws.Lists.{length_tab, get_or_tab, get_d_any}
use Rattle.carv_area.specs.Words.{words, rest}
use Rattle.carv_area.specs.Laws.Words.{length_words, bytes_fixed}
use Rattle.carv_area.specs.Moves.{cut_row, open_row, add_row}
use Rattle.carv_area.specs.Rows.{Holds, remove_at, insert_at}
use Rattle.carv_area.specs.Laws.Rows.{holds_inj, holds_word, holds_set, holds_some, holds_append, holds_remove, holds_insert}
use Rattle.carv_area.specs.Laws.Search.{rows_few}
use Rattle.carv_area.specs.Keys.{keys, Rising}
use Rattle.carv_area.specs.Laws.Keys.{length_keys, get_or_keys}
use Rattle.carv_area.specs.Stored.{Keyed, Stored, one, Queue}

-- what `find` asks, from its room and the order of its keys
pub keyed_of : (w : ℕ) (t : List ℕ) → 1 ≤ w → (get_or (words t) 0 0 * w + 1) * 8 ≤ length t → Rising (keys w (words t)) → Keyed w t
keyed_of w t s r k = record {
  some = s;
  room = r;
  few = omega (arith, rows_few (get_or (words t) 0 0) w s);
  count = length_keys w (words t);
  rise = k;
}

module _ {A : Type 0} (fields : A → List ℕ) (w : ℕ) where
  -- such a table is made of its words
  pub stored : (t : List ℕ) (xs : List A) → Holds fields w (words t) xs → Stored fields w t xs
  stored t xs h = record { holds = h; size = length_words t }

  -- there is room for its rows
  pub stored_room : (t : List ℕ) (xs : List A) → Stored fields w t xs → (get_or (words t) 0 0 * w + 1) * 8 ≤ length t
  stored_room t xs h =
      let c : get_or (words t) 0 0 ≡ length xs = h.holds.count in
      let s = h.holds.size in
      let z = h.size in
      rw c (omega arith)

  -- the rows, the length and the bytes behind the last whole word are every byte
  pub stored_fixed : (wide : (a : A) → length (fields a) ≡ w) (t t' : List ℕ) (xs : List A) → ((i : ℕ) → get_or t i 0 < 256) → ((i : ℕ) → get_or t' i 0 < 256)
      → Stored fields w t xs → Stored fields w t' xs → length t ≡ length t' → rest t ≡ rest t' → t ≡ t'
  stored_fixed wide t t' xs b b' h k e r =
      bytes_fixed t t' b b' (holds_inj fields w wide (words t) (words t') xs h.holds k.holds (h.size ∙ ap (λ (n : ℕ). n / 8) e ∙ sym k.size)) r

  -- rows read one by one are the rows
  pub rows_are : (at : List ℕ → ℕ → A) (d : A) (l : List ℕ) (xs : List A) → Holds fields w l xs
      → ((i : ℕ) → i < length xs → at l i ≡ get_or xs i d) → tab (get_or l 0 0) (at l) ≡ xs
  rows_are at d l xs h e =
      let c : get_or l 0 0 ≡ length xs = h.count in
      let n = length_tab (get_or l 0 0) (at l) in
      ext_get_or d (tab (get_or l 0 0) (at l)) xs (omega arith) (λ i a. get_or_tab (get_or l 0 0) (at l) i d (omega arith) ∙ e i (omega arith))

  module _ (wide : (a : A) → length (fields a) ≡ w) (t t' : List ℕ) (xs : List A) (h : Stored fields w t xs) where
    -- row i is written
    pub stored_set : (i : ℕ) (e : A) → i < length xs → words t' ≡ sets (words t) (i * w + 1) (fields e) → Stored fields w t' (set xs i e)
    stored_set i e a q = stored t' (set xs i e) (rw q (holds_set fields w wide (words t) xs h.holds i e a))

    -- some words of row i are written
    pub stored_some : (d : A) (i : ℕ) (e : A) (c k : ℕ) (us : List ℕ) → i < length xs → c + length us ≤ w → k ≡ i * w + 1 + c
        → fields e ≡ sets (fields (get_or xs i d)) c us → words t' ≡ sets (words t) k us → Stored fields w t' (set xs i e)
    stored_some d i e c k us a b ek q r = stored t' (set xs i e) (rw r (holds_some fields w wide (words t) xs h.holds i d e c k us a b ek q))

    -- `append_row`
    pub stored_append : (e : A) → (length xs * w + w + 1) * 8 ≤ length t → words t' ≡ add_row (fields e) (words t) → Stored fields w t' (xs ++ (e ∷ []))
    stored_append e a q =
        let s = h.holds.size in
        let z = h.size in
        stored t' (xs ++ (e ∷ [])) (rw q (holds_append fields w wide (words t) xs h.holds e (omega arith)))

    -- `remove_row`
    pub stored_remove : (d : A) (i : ℕ) → i < length xs → words t' ≡ cut_row w i (get_or (words t) 0 0) (words t) → Stored fields w t' (remove_at xs i)
    stored_remove d i a q = stored t' (remove_at xs i) (rw q (holds_remove fields w wide (words t) xs h.holds d i a))

    -- `insert_row`, and then the row is written
    pub stored_insert : (i : ℕ) (e : A) → i ≤ length xs → (get_or (words t) 0 0 * w + w + 1) * 8 ≤ length t
        → words t' ≡ sets (open_row w i (get_or (words t) 0 0) (words t)) (i * w + 1) (fields e) → Stored fields w t' (insert_at xs i e)
    stored_insert i e a b q =
        let c : get_or (words t) 0 0 ≡ length xs = h.holds.count in
        let f : (length xs * w + w + 1) * 8 ≤ length t = rw c at b in
        let s = h.holds.size in
        let z = h.size in
        stored t' (insert_at xs i e) (rw q (holds_insert fields w wide (words t) xs h.holds i e a (omega arith)))

-- each row's first word is its key
module _ {A : Type 0} (fields : A → List ℕ) (w : ℕ) (wide : (a : A) → length (fields a) ≡ w) (key : A → ℕ) (first : (a : A) → get_or (fields a) 0 0 ≡ key a) (d : A) (some : 1 ≤ w) where
  -- the keys are the rows' keys
  pub keys_are : (l : List ℕ) (xs : List A) → Holds fields w l xs → keys w l ≡ map key xs
  keys_are l xs h =
      let n = length_keys w l in
      let c : get_or l 0 0 ≡ length xs = h.count in
      let m : length (map key xs) ≡ length xs = length-map xs key in
      ext_get_or 0 (keys w l) (map key xs) (omega arith)
      (λ i a.
      let b : i < length xs = omega arith in
      get_or_keys w l i a ∙ holds_word fields w wide l xs h i 0 d b some ∙ first (get_or xs i d) ∙ sym (get_or-map key xs i d) ∙ get_d_any (map key xs) i (key d) 0 (omega arith))

  -- what `find` asks
  pub keyed : (t : List ℕ) (xs : List A) → Stored fields w t xs → Rising (map key xs) → Keyed w t
  keyed t xs h r = keyed_of w t some (stored_room fields w t xs h) (rw (keys_are (words t) xs h.holds) r)

-- ---- a queue

-- there is one
pub wide_one : (x : ℕ) → length (one x) ≡ 1
wide_one x = refl

-- the numbers of the queue in the words l are its keys
pub queue_is : (l q : List ℕ) → Holds one 1 l q → keys 1 l ≡ q
queue_is l q h = keys_are one 1 wide_one (λ x. x) (λ x. refl) 0 (omega arith) l q h ∙ map-id q

-- `push` and `pull`
module _ (t t' q : List ℕ) (h : Queue t q) where
  -- a number is put behind the others
  pub queue_push : (v : ℕ) → (length q + 1) * 8 + 8 ≤ length t → words t' ≡ add_row (v ∷ []) (words t) → Queue t' (q ++ (v ∷ []))
  queue_push v a r = stored_append one 1 wide_one t t' q h v (rw mul-one (omega arith)) r

  -- a number is taken out
  pub queue_pull : (i : ℕ) → i < length q → words t' ≡ cut_row 1 i (get_or (words t) 0 0) (words t) → Queue t' (remove_at q i)
  queue_pull i a r = stored_remove one 1 wide_one t t' q h 0 i a r

-- the number at place i of the words of a table of numbers
pub queue_at : (l : List ℕ) (i : ℕ) → i < length (keys 1 l) → get_or l (i + 1) 0 ≡ get_or (keys 1 l) i 0
queue_at l i h = sym (get_or_keys 1 l i h ∙ ap (λ (k : ℕ). get_or l (k + 1) 0) (mul-one i))
