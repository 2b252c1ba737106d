-- The laws of `Rows`: a table's words, row by row, and the table after a row is written, put behind the others, taken out or put in. Assumes nothing.
use Prim.Native.Nat.{ℕ, zero, suc, ◌+◌, ◌*◌, ◌-◌, ◌/◌, ◌%◌, ◌≤◌, ◌<◌}
use Rattle.std.proofs.Common.{zero-mul, suc-mul, add_comm, add-suc, add-sub_of_le, div-add-mod', div-lt_iff_lt-mul, mod-lt, add-one, ◌∙◌, length-set, take-append-drop, take-add, get_or-append-add, take_all, take_at, drop_at, drop-drop, ext_get_or, get_or-take}
use Rattle.std.proofs.Math.Arith.{digits_lt}
use native.Mathlib.Omega.{arith}
use Rattle.std.specs.Prelude.{◌≡◌, true}
use Rattle.std.proofs.Math.Path.{refl, sym, ap}
use mathlib.Core.List.{List, [], ◌∷◌, ◌++◌, append_assoc, append-nil}
use Rattle.std.proofs.Math.ListN.{length, get_or, set, take, drop, length-append, length-drop, get_or-append}
use Rattle.std.proofs.lemmas.List.{length-replicate, replicate-append-replicate}
use Rattle.std.proofs.Math.Seq.{sets, paste, split_at, set_split, length-take-le}
use Rattle.std.proofs.lemmas.List.Edits.{sets-eq}
use Rattle.carv_area.specs.Zero.{all_zero}
use Rattle.carv_area.specs.Laws.Zero.{all_zero_lem}
use Rattle.carv_area.specs.Moves.{zeros, move_down, cut_row, open_row, add_row}
use Rattle.carv_area.specs.Rows.{flat, Holds, remove_at, insert_at}

-- zeros, cut in two
zeros_split : (w n : ℕ) → w ≤ n → zeros n ≡ zeros w ++ zeros (n - w)
zeros_split w n a = ap zeros (sym (add-sub_of_le a)) ∙ sym (replicate-append-replicate w (n - w) 0)

-- ---- a run of words that is replaced, and a run that is taken out

module _ {ℓ} {B : Type ℓ} where
  -- the words us are replaced by as many, vs
  pub sets_seam : (p us r vs : List B) (o : ℕ) → length p ≡ o → length us ≡ length vs → sets (p ++ (us ++ r)) o vs ≡ p ++ (vs ++ r)
  sets_seam p us r vs o hp hu =
      sets-eq vs (p ++ (us ++ r)) o (simp (length-append) (omega arith))
      ∙ rw (take_at p (us ++ r) o hp, ← (append_assoc p us r), drop_at (p ++ us) r (o + length vs) (simp length-append (omega arith))) (append_assoc p vs r)

  -- the words us are put into the words f, from their place c on
  pub sets_inside : (p f r us : List B) (o c : ℕ) → length p ≡ o → c + length us ≤ length f → sets (p ++ (f ++ r)) (o + c) us ≡ p ++ (sets f c us ++ r)
  sets_inside p f r us o c hp hu =
      let n = length us in
      let a = length-take-le c f (omega arith) in
      let b = length-take-le n (drop c f) (simp length-drop (omega arith)) in
      let q : f ≡ take c f ++ (take n (drop c f) ++ drop (c + n) f) =
      sym (take-append-drop c f) ∙ ap (λ (l : List B). take c f ++ l) (sym (take-append-drop n (drop c f)) ∙ ap (λ (l : List B). take n (drop c f) ++ l) (drop-drop n c f)) in
      let g : p ++ (f ++ r) ≡ (p ++ take c f) ++ (take n (drop c f) ++ (drop (c + n) f ++ r)) =
      ap (λ (l : List B). p ++ (l ++ r)) q ∙ simp append_assoc in
      ap (λ (l : List B). sets l (o + c) us) g
      ∙ sets_seam (p ++ take c f) (take n (drop c f)) (drop (c + n) f ++ r) us (o + c) (simp length-append (omega arith)) b
      ∙ rw (sets-eq us f c hu) (simp append_assoc)

  -- the words x are taken out, those behind it, q, move down, and the words zs fill the gap
  pub gap_seam : (p x q z zs : List B) (o c m : ℕ) → length p ≡ o → length x ≡ c → length q ≡ m → length zs ≡ c
      → (l l₁ : List B) → l ≡ p ++ (x ++ (q ++ z)) → l₁ ≡ paste l o (drop (o + c) l) m → paste l₁ (o + m) zs c ≡ p ++ (q ++ (zs ++ z))
  gap_seam p x q z zs o c m hp hx hq hz l l₁ e e₁ =
      let tl : take o l ≡ p = rw e (take_at p (x ++ (q ++ z)) o hp) in
      let dl : drop (o + c) l ≡ q ++ z = rw (e, ← (append_assoc p x (q ++ z))) (drop_at (p ++ x) (q ++ z) (o + c) (simp length-append (omega arith))) in
      let fl : drop ((o + m) + c) l ≡ z =
      rw (e, ← (append_assoc x q z), ← (append_assoc p (x ++ q) z)) (drop_at (p ++ (x ++ q)) z ((o + m) + c) (simp length-append (omega arith))) in
      let e₂ : l₁ ≡ (p ++ q) ++ drop (o + m) l = e₁ ∙ rw (tl, dl, take_at q z m hq) refl in
      let n : length (p ++ q) ≡ o + m = simp length-append (omega arith) in
      let t₁ : take (o + m) l₁ ≡ p ++ q = rw e₂ (take_at (p ++ q) (drop (o + m) l) (o + m) n) in
      let d₁ : drop ((o + m) + c) l₁ ≡ z =
      sym (drop-drop c (o + m) l₁)
      ∙ ap (drop c) (rw e₂ (drop_at (p ++ q) (drop (o + m) l) (o + m) n))
      ∙ drop-drop c (o + m) l ∙ fl in
      rw (t₁, d₁, take_all c zs (omega arith)) (append_assoc (p ++ q) zs z ∙ append_assoc p q (zs ++ z))

  -- the words q, with c free words z behind them, move up by c; the words x that stood there are left
  pub room_seam : (p q z r : List B) (o c m : ℕ) → length p ≡ o → length q ≡ m → length z ≡ c
      → (l : List B) → l ≡ p ++ (q ++ (z ++ r)) → paste l (o + c) (drop o l) m ≡ p ++ (take c (q ++ (z ++ r)) ++ (q ++ r))
  room_seam p q z r o c m hp hq hz l e =
      let dl : drop o l ≡ q ++ (z ++ r) = rw e (drop_at p (q ++ (z ++ r)) o hp) in
      let tl : take o l ≡ p = rw e (take_at p (q ++ (z ++ r)) o hp) in
      let fl : drop ((o + c) + m) l ≡ r =
      rw (e, ← (append_assoc q z r), ← (append_assoc p (q ++ z) r)) (drop_at (p ++ (q ++ z)) r ((o + c) + m) (simp length-append (omega arith))) in
      rw (take-add o c l, tl, dl, take_at q (z ++ r) m hq, fl) (simp append_assoc)

-- one row less
pub length_remove_at {ℓ} : {A : Type ℓ} (xs : List A) (i : ℕ) → i < length xs → length (remove_at xs i) ≡ length xs - 1
unfolding remove_at
length_remove_at xs i h = simp (length-append, length-drop, length-take-le i xs (omega arith)) (omega arith)

module _ {A : Type 0} (fields : A → List ℕ) (width : ℕ) (wide : (a : A) → length (fields a) ≡ width) where
  -- the words of rows behind rows
  pub flat_append : (xs ys : List A) → flat fields (xs ++ ys) ≡ flat fields xs ++ flat fields ys
  unfolding flat
  flat_append [] ys = refl
  flat_append (x ∷ xs) ys = ap (λ (r : List ℕ). fields x ++ r) (flat_append xs ys) ∙ sym (append_assoc (fields x) (flat fields xs) (flat fields ys))

  -- their number
  pub length_flat : (xs : List A) → length (flat fields xs) ≡ length xs * width
  unfolding flat
  length_flat [] = sym (zero-mul width)
  length_flat (x ∷ xs) = simp (length-append, wide, length_flat xs, suc-mul) (add_comm _ _)

  -- the rows' words, cut around row i
  pub flat_split : (xs : List A) (i : ℕ) (d : A) → i < length xs
      → flat fields xs ≡ flat fields (take i xs) ++ (fields (get_or xs i d) ++ flat fields (drop (suc i) xs))
  unfolding flat
  flat_split xs i d h = ap (flat fields) (split_at xs i d h) ∙ flat_append (take i xs) (get_or xs i d ∷ drop (suc i) xs)

  -- the words of the first rows
  pub length_flat_take : (xs : List A) (i : ℕ) → i ≤ length xs → length (flat fields (take i xs)) ≡ i * width
  length_flat_take xs i h = length_flat (take i xs) ∙ ap (λ (n : ℕ). n * width) (length-take-le i xs h)

  -- word j of row i
  pub get_or_flat : (xs : List A) (i j : ℕ) (d : A) → i < length xs → j < width → get_or (flat fields xs) (i * width + j) 0 ≡ get_or (fields (get_or xs i d)) j 0
  get_or_flat xs i j d h k =
      let p : length (flat fields (take i xs)) ≡ i * width = length_flat_take xs i (omega arith) in
      ap (λ (l : List ℕ). get_or l (i * width + j) 0) (flat_split xs i d h)
      ∙ ap (λ (n : ℕ). get_or (flat fields (take i xs) ++ (fields (get_or xs i d) ++ flat fields (drop (suc i) xs))) (n + j) 0) (sym p)
      ∙ get_or-append-add (flat fields (take i xs)) (fields (get_or xs i d) ++ flat fields (drop (suc i) xs)) j 0
      ∙ get_or-append (fields (get_or xs i d)) (flat fields (drop (suc i) xs)) 0 j (rw wide k)

  -- a table is made of its words
  pub hold : (l : List ℕ) (xs : List A) (spare : ℕ) → l ≡ length xs ∷ (flat fields xs ++ zeros spare) → Holds fields width l xs
  hold l xs spare e = record {
    spare = spare;
    is = e;
    size = ap length e ∙ simp (length-append, length_flat, length-replicate) (omega arith);
    count = ap (λ (r : List ℕ). get_or r 0 0) e;
  }

  -- and of the words of each row, where zeros follow
  pub holds_of : (d : A) (l : List ℕ) (xs : List A) → 1 ≤ width → get_or l 0 0 ≡ length xs → length xs * width + 1 ≤ length l
      → all_zero (drop (length xs * width + 1) l) ≡ true
      → ((i j : ℕ) → i < length xs → j < width → get_or l (i * width + suc j) 0 ≡ get_or (fields (get_or xs i d)) j 0) → Holds fields width l xs
  holds_of d l xs s c r z f =
      let n : ℕ = length xs * width + 1 in
      let k : length (flat fields xs) ≡ length xs * width = length_flat xs in
      let t : take n l ≡ length xs ∷ flat fields xs =
      ext_get_or 0 (take n l) (length xs ∷ flat fields xs) (length-take-le n l r ∙ omega arith)
      (λ i a. let b : i < n = omega (arith, length-take-le n l r) in get_or-take n l i 0 b ∙ word i b) in
      hold l xs (length (drop n l)) (sym (take-append-drop n l) ∙ rw (t, all_zero_lem (drop n l) z, length-replicate))
    where
      word : (i : ℕ) → i < length xs * width + 1 → get_or l i 0 ≡ get_or (length xs ∷ flat fields xs) i 0
      word zero b = c
      word (suc i) b =
          let e : i / width * width + i % width ≡ i = div-add-mod' i width in
          let a : i / width < length xs = (div-lt_iff_lt-mul s).1 (omega arith) in
          let m = mod-lt i s in
          let g : suc i ≡ i / width * width + suc (i % width) = omega arith in
          ap (λ (k : ℕ). get_or l k 0) g ∙ f (i / width) (i % width) a m ∙ sym (get_or_flat xs (i / width) (i % width) d a m) ∙ ap (λ (k : ℕ). get_or (flat fields xs) k 0) e

  -- the rows say every word of a table whose size is known
  pub holds_inj : (l m : List ℕ) (xs : List A) → Holds fields width l xs → Holds fields width m xs → length l ≡ length m → l ≡ m
  holds_inj l m xs h k e =
      let z : h.spare ≡ k.spare = omega arith in
      h.is ∙ ap (λ (n : ℕ). length xs ∷ (flat fields xs ++ zeros n)) z ∙ sym k.is

  module _ (l : List ℕ) (xs : List A) (h : Holds fields width l xs) where
    -- word j of row i
    pub holds_word : (i j : ℕ) (d : A) → i < length xs → j < width → get_or l (i * width + suc j) 0 ≡ get_or (fields (get_or xs i d)) j 0
    holds_word i j d a b =
        ap (λ (r : List ℕ). get_or r (i * width + suc j) 0) h.is
        ∙ rw add-suc (get_or-append (flat fields xs) (zeros h.spare) 0 (i * width + j) (rw length_flat (digits_lt a b)) ∙ get_or_flat xs i j d a b)

    -- the table, cut around row i
    holds_split : (i : ℕ) (d : A) → i < length xs
        → l ≡ (length xs ∷ flat fields (take i xs)) ++ (fields (get_or xs i d) ++ (flat fields (drop (suc i) xs) ++ zeros h.spare))
    holds_split i d a = h.is ∙ ap (λ (f : List ℕ). length xs ∷ (f ++ zeros h.spare)) (flat_split xs i d a) ∙ simp append_assoc

    -- the words before row i
    length_front : (i : ℕ) → i ≤ length xs → length (length xs ∷ flat fields (take i xs)) ≡ i * width + 1
    length_front i a = rw add-one (ap suc (length_flat_take xs i a))

    -- a row is replaced
    pub holds_set : (i : ℕ) (e : A) → i < length xs → Holds fields width (sets l (i * width + 1) (fields e)) (set xs i e)
    unfolding flat
    holds_set i e a =
        let f : sets l (i * width + 1) (fields e) ≡ (length xs ∷ flat fields (take i xs)) ++ (fields e ++ (flat fields (drop (suc i) xs) ++ zeros h.spare)) =
        ap (λ (r : List ℕ). sets r (i * width + 1) (fields e)) (holds_split i e a)
        ∙ sets_seam (length xs ∷ flat fields (take i xs)) (fields (get_or xs i e)) (flat fields (drop (suc i) xs) ++ zeros h.spare) (fields e) (i * width + 1)
        (length_front i (omega arith)) (wide (get_or xs i e) ∙ sym (wide e)) in
        hold _ _ h.spare (f ∙ rw (length-set, set_split xs i e a, flat_append) (simp append_assoc))

    -- some words of a row are replaced
    pub holds_some : (i : ℕ) (d e : A) (c k : ℕ) (us : List ℕ) → i < length xs → c + length us ≤ width → k ≡ i * width + 1 + c
        → fields e ≡ sets (fields (get_or xs i d)) c us → Holds fields width (sets l k us) (set xs i e)
    unfolding flat
    holds_some i d e c k us a b ek q =
        let f : sets l k us ≡ (length xs ∷ flat fields (take i xs)) ++ (fields e ++ (flat fields (drop (suc i) xs) ++ zeros h.spare)) =
        ap (λ (r : List ℕ). sets r k us) (holds_split i d a)
        ∙ rw (ek, q) (sets_inside (length xs ∷ flat fields (take i xs)) (fields (get_or xs i d)) (flat fields (drop (suc i) xs) ++ zeros h.spare) us (i * width + 1) c
        (length_front i (omega arith)) (rw wide b)) in
        hold _ _ h.spare (f ∙ rw (length-set, set_split xs i e a, flat_append) (simp append_assoc))

    -- a row is put behind the others
    pub holds_append : (e : A) → width ≤ h.spare → Holds fields width (add_row (fields e) l) (xs ++ (e ∷ []))
    unfolding flat add_row
    holds_append e a =
        let n = get_or l 0 0 in
        let en : n ≡ length xs = h.count in
        let l₁ = sets l (n * length (fields e) + 1) (fields e) in
        let z = zeros_split width h.spare a in
        let s : l ≡ (length xs ∷ flat fields xs) ++ (zeros width ++ zeros (h.spare - width)) =
        h.is ∙ ap (λ (r : List ℕ). length xs ∷ (flat fields xs ++ r)) z in
        let f : l₁ ≡ (length xs ∷ flat fields xs) ++ (fields e ++ zeros (h.spare - width)) =
        ap (λ (k : ℕ). sets l (n * k + 1) (fields e)) (wide e) ∙ ap (λ (r : List ℕ). sets r (n * width + 1) (fields e)) s
        ∙ sets_seam (length xs ∷ flat fields xs) (zeros width) (zeros (h.spare - width)) (fields e) (n * width + 1)
        (rw (add-one, en) (ap suc (length_flat xs))) (length-replicate width 0 ∙ sym (wide e)) in
        hold _ _ (h.spare - width) (ap (λ (r : List ℕ). set r 0 (n + 1)) f ∙ rw (en, length-append, flat_append) (simp (append_assoc, append-nil)))

    -- a row is taken out
    pub holds_remove : (d : A) (i : ℕ) → i < length xs → Holds fields width (cut_row width i (get_or l 0 0) l) (remove_at xs i)
    unfolding remove_at cut_row
    holds_remove d i a =
        let n = get_or l 0 0 in
        let c : get_or l 0 0 ≡ length xs = h.count in
        let k : length (drop (suc i) xs) ≡ get_or l 0 0 - (i + 1) = length-drop (suc i) xs ∙ omega arith in
        let g = gap_seam (length xs ∷ flat fields (take i xs)) (fields (get_or xs i d)) (flat fields (drop (suc i) xs)) (zeros h.spare) (zeros width)
        (i * width + 1) width ((n - (i + 1)) * width)
        (length_front i (omega arith)) (wide (get_or xs i d)) (length_flat (drop (suc i) xs) ∙ rw k) (length-replicate width 0)
        l (move_down (i * width + 1) width ((n - (i + 1)) * width) l) (holds_split i d a) refl in
        let m : length (take i xs ++ drop (suc i) xs) ≡ get_or l 0 0 - 1 = simp (length-append, k, length-take-le i xs (omega arith)) (omega arith) in
        hold _ _ (width + h.spare) (ap (λ (r : List ℕ). set r 0 (n - 1)) g ∙ rw (m, flat_append, ← replicate-append-replicate) (simp append_assoc))

    -- a row is put in
    pub holds_insert : (i : ℕ) (e : A) → i ≤ length xs → width ≤ h.spare
        → Holds fields width (sets (open_row width i (get_or l 0 0) l) (i * width + 1) (fields e)) (insert_at xs i e)
    unfolding insert_at open_row flat
    holds_insert i e a b =
        let n = get_or l 0 0 in
        let c : get_or l 0 0 ≡ length xs = h.count in
        let u : get_or l 0 0 + 1 ≡ suc (length xs) = omega arith in
        let k : length (drop i xs) ≡ get_or l 0 0 - i = length-drop i xs ∙ omega arith in
        let f = flat fields (take i xs) in
        let q = flat fields (drop i xs) in
        let z = zeros (h.spare - width) in
        let x = take width (q ++ (zeros width ++ z)) in
        let s : l ≡ (length xs ∷ f) ++ (q ++ (zeros width ++ z)) =
        h.is ∙ ap (λ (r : List ℕ). length xs ∷ (r ++ zeros h.spare)) (ap (flat fields) (sym (take-append-drop i xs)) ∙ flat_append (take i xs) (drop i xs))
        ∙ rw (zeros_split width h.spare b) (simp append_assoc) in
        let g = room_seam (length xs ∷ f) q (zeros width) z (i * width + 1) width ((n - i) * width)
        (length_front i a) (length_flat (drop i xs) ∙ rw k) (length-replicate width 0) l s in
        let v : length x ≡ width = length-take-le width (q ++ (zeros width ++ z)) (simp (length-append, length-replicate) (omega arith)) in
        let t = sets_seam (suc (length xs) ∷ f) x (q ++ z) (fields e) (i * width + 1) (length_front i a) (v ∙ sym (wide e)) in
        let m : length (take i xs ++ (e ∷ drop i xs)) ≡ suc (length xs) = simp (length-append, k, length-take-le i xs a) (omega arith) in
        hold _ _ (h.spare - width)
        (ap (λ (r : List ℕ). sets (set r 0 (n + 1)) (i * width + 1) (fields e)) g
        ∙ ap (λ (y : ℕ). sets (y ∷ (f ++ (x ++ (q ++ z)))) (i * width + 1) (fields e)) u ∙ t ∙ rw (m, flat_append) (simp append_assoc))
