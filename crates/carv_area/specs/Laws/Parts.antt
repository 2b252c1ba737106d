-- The laws of `Parts`: a part after another part is put in, a list cut into parts, and parts of bytes. Assumes nothing.
use Rattle.std.specs.Prelude.{ℕ, ◌+◌, ◌-◌, ◌≤◌, ◌<◌, ◌≡◌, List, ◌++◌, length, get_or, take, drop}
use Rattle.std.proofs.Common.{arith, sym, ap, ◌∙◌, ⊎_elim, append_assoc, length-append, length-drop, take-append-drop, take_at, drop_at, length-take-le, drop-drop, take_all, ext_get_or, get_or-take, get_or-drop, get_or-append-add}
use Rattle.std.proofs.Math.ListN.{get_or-append, get_or-eq_default}
use Rattle.std.proofs.lemmas.List.{take-append-le, drop-append-le}
use Rattle.carv_area.specs.Parts.{part, put_part}
use Rattle.carv_area.specs.Laws.Lists.{lt_or_ge}

-- the length of a part
pub length_part : (f n : ℕ) (l : List ℕ) → f + n ≤ length l → length (part f n l) ≡ n
length_part f n l h = length-take-le n (drop f l) (rw length-drop (omega arith))

-- a list, cut into parts from the front
pub cut : (f n : ℕ) (l : List ℕ) → drop f l ≡ part f n l ++ drop (f + n) l
cut f n l = sym (take-append-drop n (drop f l)) ∙ ap (λ (r : List ℕ). part f n l ++ r) (drop-drop n f l)

-- the last part
pub last : (f n : ℕ) (l : List ℕ) → length l ≡ f + n → drop f l ≡ part f n l
last f n l e = sym (take_all n (drop f l) (rw length-drop (omega arith)))

module _ (f n : ℕ) (l p : List ℕ) (h : f + n ≤ length l) (k : length p ≡ n) where
  -- as long as it was
  pub length_put : length (put_part f n l p) ≡ length l
  length_put = simp (length-append, length-drop, length-take-le f l (omega arith)) (omega arith)

  -- the part itself
  pub part_same : part f n (put_part f n l p) ≡ p
  part_same = rw (drop_at (take f l) (p ++ drop n (drop f l)) f (length-take-le f l (omega arith))) (take_at p (drop n (drop f l)) n k)

  -- a part before it
  pub part_before : (g m : ℕ) → g + m ≤ f → part g m (put_part f n l p) ≡ part g m l
  part_before g m b =
      let t : length (take f l) ≡ f = length-take-le f l (omega arith) in
      ap (take m) (drop-append-le g (take f l) (p ++ drop n (drop f l)) (omega arith))
      ∙ take-append-le m (drop g (take f l)) (p ++ drop n (drop f l)) (rw length-drop (omega arith))
      ∙ ext_get_or 0 (take m (drop g (take f l))) (take m (drop g l))
      (length-take-le m (drop g (take f l)) (rw length-drop (omega arith)) ∙ sym (length-take-le m (drop g l) (rw length-drop (omega arith))))
      (λ i a.
      let e : i < m = omega (arith, length-take-le m (drop g (take f l)) (rw length-drop (omega arith))) in
      get_or-take m (drop g (take f l)) i 0 e ∙ get_or-drop g (take f l) i 0 ∙ get_or-take f l (g + i) 0 (omega arith) ∙ sym (get_or-take m (drop g l) i 0 e ∙ get_or-drop g l i 0))

  -- a part behind it
  pub part_after : (g m : ℕ) → f + n ≤ g → part g m (put_part f n l p) ≡ part g m l
  part_after g m b =
      let e : (f + n) + (g - (f + n)) ≡ g = omega arith in
      let d : drop (f + n) (put_part f n l p) ≡ drop (f + n) l =
      rw (← (append_assoc (take f l) p (drop n (drop f l)))) (drop_at (take f l ++ p) (drop n (drop f l)) (f + n) (simp (length-append, length-take-le f l (omega arith)) (omega arith))
      ∙ drop-drop n f l) in
      ap (take m) (ap (λ (x : ℕ). drop x (put_part f n l p)) (sym e) ∙ sym (drop-drop (g - (f + n)) (f + n) (put_part f n l p)) ∙ ap (drop (g - (f + n))) d
      ∙ drop-drop (g - (f + n)) (f + n) l ∙ ap (λ (x : ℕ). drop x l) e)

-- a part of bytes is bytes
pub part_bytes : (f n : ℕ) (a : List ℕ) → f + n ≤ length a → ((i : ℕ) → get_or a i 0 < 256) → (i : ℕ) → get_or (part f n a) i 0 < 256
part_bytes f n a h b i = ⊎_elim
    (λ (l : i < n). rw (get_or-take n (drop f a) i 0 l, get_or-drop f a i 0) (b (f + i)))
    (λ (l : n ≤ i). rw (get_or-eq_default (part f n a) 0 {n = i} (rw (length_part f n a h) l)) (omega arith))
    (lt_or_ge i n)

-- bytes behind bytes are bytes
append_bytes : (p q : List ℕ) → ((i : ℕ) → get_or p i 0 < 256) → ((i : ℕ) → get_or q i 0 < 256) → (i : ℕ) → get_or (p ++ q) i 0 < 256
append_bytes p q x y i = ⊎_elim
    (λ (l : i < length p). rw (get_or-append p q 0 i l) (x i))
    (λ (l : length p ≤ i).
    let e : i ≡ length p + (i - length p) = omega arith in
    rw (e, get_or-append-add p q (i - length p) 0) (y (i - length p)))
    (lt_or_ge i (length p))

-- bytes with other bytes in the place of a part are bytes
pub put_bytes : (f n : ℕ) (l p : List ℕ) → f + n ≤ length l → ((i : ℕ) → get_or l i 0 < 256) → ((i : ℕ) → get_or p i 0 < 256) → (i : ℕ) → get_or (put_part f n l p) i 0 < 256
put_bytes f n l p h x y =
    append_bytes (take f l) (p ++ drop n (drop f l)) (part_bytes 0 f l (omega arith) x)
    (append_bytes p (drop n (drop f l)) y (λ i. rw (get_or-drop n (drop f l) i 0, get_or-drop f l (n + i) 0) (x (f + (n + i)))))
