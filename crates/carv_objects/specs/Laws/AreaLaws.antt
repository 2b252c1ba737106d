-- A sound area has its length, a sound registry, and a table that is the count, the rows and zeros; and an area that has these is sound. Assumes nothing.
use Rattle.std.specs.Prelude.{◌≡◌, refl, Bool, true, List, [], ◌∷◌, ℕ, zero, suc, ◌+◌, ◌*◌, ◌/◌, ◌%◌, ◌≤◌, ◌<◌, eqb, length, get_or, set, take, drop}
use Rattle.std.proofs.Common.{sym, ap, ◌∙◌, subst, add-suc, arith, take-append-drop, ext_get_or, get_or-take, length-take-le, drop_at, eqb-true, eq-eqb}
use Rattle.carv_area.specs.Table.{Row}
use Rattle.carv_area.specs.Lists.{tab}
use Rattle.carv_area.specs.Laws.Lists.{length_tab, get_or_tab}
use Rattle.carv_area.specs.Words.{words}
use Rattle.carv_area.specs.Laws.Words.{length_words}
use Rattle.carv_area.specs.Moves.{zeros}
use Rattle.carv_area.specs.Parts.{part}
use Rattle.carv_area.specs.Laws.Parts.{length_part}
use Rattle.carv_area.specs.Zero.{all_zero}
use Rattle.carv_area.specs.Laws.Zero.{all_zero_lem, zeros_zero}
use Rattle.carv_area.specs.Rows.{Holds, flat}
use Rattle.carv_area.specs.Laws.Rows.{hold, length_flat, get_or_flat, holds_word}
use Rattle.carv_area.specs.Stored.{Stored}
use Rattle.carv_area.specs.Laws.Stored.{stored, rows_are}
use Rattle.carv_budget.proofs.Laws.Account.{first, second}
use Rattle.carv_objects_spec.specs.declared.Entry.{Entry}
use Rattle.carv_objects_spec.specs.Registry.{Registry}
use Rattle.carv_objects_spec.specs.Kinds.{listed, kind_of}
use Rattle.carv_objects_spec.specs.Sound.{all, sound}
use Rattle.carv_objects_spec.proofs.Laws.Kinds.{code_listed, kind_of_code, code_kind_of}
use Rattle.carv_objects_spec.proofs.Laws.SoundFacts.{Sound}
use Rattle.carv_objects_spec.proofs.Laws.SoundLaws.{sound_told, sound_shown}
use Rattle.carv_objects.specs.Area.{table, fields, kind_word, row_at, rows_in, decode, LaidOut, kinds_listed, sound_area, Is}
use Rattle.carv_objects.specs.Laws.Formed.{WellFormed}

-- a row has 11 words
pub wide : (r : Row Entry) → length (fields r) ≡ 11
wide r = refl

-- the kinds of the first n rows of the words l are listed ones
abbrev pub Listed : List ℕ → ℕ → Type 0
Listed l n = (i : ℕ) → i < n → listed (kind_word l i) ≡ true

all_in : (n : ℕ) (f : ℕ → Bool) → all (tab n f) ≡ true → (i : ℕ) → i < n → f i ≡ true
unfolding tab
all_in zero f h i a = absurd (omega arith)
all_in (suc n) f h zero a = first (f zero) _ h
all_in (suc n) f h (suc i) a = all_in n (λ i. f (suc i)) (second (f zero) _ h) i (omega arith)

in_all : (n : ℕ) (f : ℕ → Bool) → ((i : ℕ) → i < n → f i ≡ true) → all (tab n f) ≡ true
unfolding tab
in_all zero f h = refl
in_all (suc n) f h = rw (h zero (omega arith)) (in_all n (λ i. f (suc i)) (λ i a. h (suc i) (omega arith)))

pub listed_told : (l : List ℕ) → kinds_listed l ≡ true → Listed l (get_or l 0 0)
unfolding kinds_listed
listed_told l h = all_in (get_or l 0 0) (λ i. listed (kind_word l i)) h

pub listed_shown : (l : List ℕ) → Listed l (get_or l 0 0) → kinds_listed l ≡ true
unfolding kinds_listed
listed_shown l h = in_all (get_or l 0 0) (λ i. listed (kind_word l i)) h

-- the words of the object at place i, its kind's as it stands, listed or not
abbrev pub row_words : List ℕ → ℕ → List ℕ
row_words l i =
    let r = row_at l i in
    r.id ∷ kind_word l i ∷ r.it.payer ∷ r.it.charge
    ∷ r.it.account.cpu_allowance ∷ r.it.account.memory_limit ∷ r.it.account.period_start ∷ r.it.account.cpu_left
    ∷ r.it.account.cpu_reserved ∷ r.it.account.memory_used ∷ r.it.account.memory_reserved ∷ []

-- word c of the row at place i
pub field : (l : List ℕ) (i c : ℕ) → c < 11 → get_or (row_words l i) c 0 ≡ get_or l (i * 11 + suc c) 0
field l i zero h = refl
field l i (suc zero) h = refl
field l i (suc (suc zero)) h = refl
field l i (suc (suc (suc zero))) h = refl
field l i (suc (suc (suc (suc zero)))) h = refl
field l i (suc (suc (suc (suc (suc zero))))) h = refl
field l i (suc (suc (suc (suc (suc (suc zero)))))) h = refl
field l i (suc (suc (suc (suc (suc (suc (suc zero))))))) h = refl
field l i (suc (suc (suc (suc (suc (suc (suc (suc zero)))))))) h = refl
field l i (suc (suc (suc (suc (suc (suc (suc (suc (suc zero))))))))) h = refl
field l i (suc (suc (suc (suc (suc (suc (suc (suc (suc (suc zero)))))))))) h = refl
field l i (suc (suc (suc (suc (suc (suc (suc (suc (suc (suc (suc c))))))))))) h = absurd (omega arith)

-- they are those of its record, where its kind is listed
pub row_listed : (l : List ℕ) (i : ℕ) → listed (kind_word l i) ≡ true → fields (row_at l i) ≡ row_words l i
row_listed l i k = ap (λ (n : ℕ). set (row_words l i) 1 n) (code_kind_of (kind_word l i) k)

-- and so is word c
pub listed_field : (l : List ℕ) (i c : ℕ) → c < 11 → listed (kind_word l i) ≡ true → get_or (fields (row_at l i)) c 0 ≡ get_or l (i * 11 + suc c) 0
listed_field l i c h k = ap (λ (ws : List ℕ). get_or ws c 0) (row_listed l i k) ∙ field l i c h

-- rows that have the words of the first n rows, behind the first word
flat_words : {A : Type 0} (words_of : A → List ℕ) (at : ℕ → A) → ((r : A) → length (words_of r) ≡ 11) → (x : ℕ) (l : List ℕ) (n : ℕ) → n * 11 ≤ length l
    → ((i c : ℕ) → i < n → c < 11 → get_or (words_of (at i)) c 0 ≡ get_or (x ∷ l) (i * 11 + suc c) 0) → flat words_of (tab n at) ≡ take (n * 11) l
flat_words {A} words_of at eleven x l n h word =
    let xs : List A = tab n at in
    let s : length (flat words_of xs) ≡ n * 11 = length_flat words_of 11 eleven xs ∙ ap (λ (m : ℕ). m * 11) (length_tab n at) in
    ext_get_or 0 (flat words_of xs) (take (n * 11) l) (s ∙ sym (length-take-le (n * 11) l h))
    (λ k b.
    let i = k / 11 in
    let c = k % 11 in
    let q : k ≡ i * 11 + c = omega arith in
    let below : i < n = omega arith in
    let d = at i in
    ap (λ (j : ℕ). get_or (flat words_of xs) j 0) q
    ∙ get_or_flat words_of 11 eleven xs i c d (rw length_tab below) (omega arith)
    ∙ ap (λ (r : A). get_or (words_of r) c 0) (get_or_tab n at i d below)
    ∙ word i c below (omega arith)
    ∙ rw (add-suc (i * 11) c) (ap (λ (j : ℕ). get_or l j 0) (sym q))
    ∙ sym (get_or-take (n * 11) l k 0 (omega arith)))

-- the words of the first n rows of the words l behind their first
pub flat_rows : (x : ℕ) (l : List ℕ) (n : ℕ) → n * 11 ≤ length l → flat (row_words (x ∷ l)) (tab n (λ i. i)) ≡ take (n * 11) l
flat_rows x l n h = flat_words (row_words (x ∷ l)) (λ i. i) (λ i. refl) x l n h (λ i c a b. field (x ∷ l) i c b)

-- and of what their records say, where their kinds are listed
pub listed_rows : (x : ℕ) (l : List ℕ) (n : ℕ) → n * 11 ≤ length l → Listed (x ∷ l) n → flat fields (tab n (row_at (x ∷ l))) ≡ take (n * 11) l
listed_rows x l n h named = flat_words fields (row_at (x ∷ l)) wide x l n h (λ i c a b. listed_field (x ∷ l) i c b (named i a))

-- words whose rows are followed by zeros are a table: of rows that have the words
words_hold : {A : Type 0} (words_of : A → List ℕ) (at : ℕ → A) → ((r : A) → length (words_of r) ≡ 11) → (n : ℕ) (l : List ℕ) → n * 11 ≤ length l
    → all_zero (drop (n * 11 + 1) (n ∷ l)) ≡ true → flat words_of (tab n at) ≡ take (n * 11) l → Holds words_of 11 (n ∷ l) (tab n at)
words_hold words_of at eleven n l h z q =
    let e : n * 11 + 1 ≡ suc (n * 11) = omega arith in
    let d : all_zero (drop (n * 11) l) ≡ true = rw e at z in
    hold words_of 11 eleven (n ∷ l) (tab n at) (length (drop (n * 11) l))
    (rw (length_tab n at, q, ← (all_zero_lem (drop (n * 11) l) d), take-append-drop (n * 11) l))

-- of the rows' words as they stand
pub rows_hold : (l : List ℕ) → get_or l 0 0 * 11 + 1 ≤ length l → all_zero (drop (get_or l 0 0 * 11 + 1) l) ≡ true → Holds (row_words l) 11 l (tab (get_or l 0 0) (λ i. i))
rows_hold [] h z = absurd (omega arith)
rows_hold (n ∷ l) h z = words_hold (row_words (n ∷ l)) (λ i. i) (λ i. refl) n l (omega arith) z (flat_rows n l n (omega arith))

-- and of what their records say, where their kinds are listed
listed_hold : (l : List ℕ) → get_or l 0 0 * 11 + 1 ≤ length l → Listed l (get_or l 0 0) → all_zero (drop (get_or l 0 0 * 11 + 1) l) ≡ true → Holds fields 11 l (rows_in l)
unfolding rows_in
listed_hold [] h named z = absurd (omega arith)
listed_hold (n ∷ l) h named z = words_hold fields (row_at (n ∷ l)) wide n l (omega arith) z (listed_rows n l n (omega arith) named)

-- a table's rows are followed by zeros
hold_zeros : (l : List ℕ) (xs : List (Row Entry)) → Holds fields 11 l xs → all_zero (drop (get_or l 0 0 * 11 + 1) l) ≡ true
hold_zeros l xs h =
    let e : get_or l 0 0 * 11 + 1 ≡ suc (length xs * 11) = rw h.count (omega arith) in
    rw e (rw h.is (rw (drop_at (flat fields xs) (zeros h.spare) (length xs * 11) (length_flat fields 11 wide xs)) (zeros_zero h.spare)))

-- and their kinds are listed ones
pub hold_listed : (l : List ℕ) (xs : List (Row Entry)) → Holds fields 11 l xs → Listed l (get_or l 0 0)
hold_listed l xs h i a =
    let d : Row Entry = row_at l 0 in
    ap listed (holds_word fields 11 wide l xs h i 1 d (rw h.count at a) (omega arith)) ∙ code_listed (get_or xs i d).it.kind

-- the rows of a table
pub hold_rows : (l : List ℕ) (xs : List (Row Entry)) → Holds fields 11 l xs → rows_in l ≡ xs
unfolding rows_in
hold_rows l xs h = rows_are fields 11 row_at (row_at l 0) l xs h
    (λ i a.
    let word : (c : ℕ) → c < 11 → get_or l (i * 11 + suc c) 0 ≡ get_or (fields (get_or xs i (row_at l 0))) c 0 =
    λ c b. holds_word fields 11 wide l xs h i c (row_at l 0) a b in
    λ t. record {
      id = word 0 (omega arith) t;
      it = record {
        kind = (ap kind_of (word 1 (omega arith)) ∙ kind_of_code (get_or xs i (row_at l 0)).it.kind) t;
        payer = word 2 (omega arith) t;
        charge = word 3 (omega arith) t;
        account = record {
          cpu_allowance = word 4 (omega arith) t;
          memory_limit = word 5 (omega arith) t;
          period_start = word 6 (omega arith) t;
          cpu_left = word 7 (omega arith) t;
          cpu_reserved = word 8 (omega arith) t;
          memory_used = word 9 (omega arith) t;
          memory_reserved = word 10 (omega arith) t;
        };
      };
    })

-- the table's words
pub table_size : (a : List ℕ) → length a ≡ 45_072 → length (words (table a)) ≡ 5_633
unfolding table
table_size a e = omega (arith, length_words (part 8 45_064 a), length_part 8 45_064 a (omega arith))

-- an area that is laid out is well formed where its kinds are listed
pub laid_formed : (a : List ℕ) → LaidOut a → Listed (words (table a)) (get_or (words (table a)) 0 0) → WellFormed a
laid_formed a k named = record {
  size = k.size;
  next = refl;
  rows = stored fields 11 (table a) (decode a).rows (listed_hold (words (table a)) (omega (arith, k.few, table_size a k.size)) named k.zeros);
  rising = k.rising;
}

-- and back
pub formed_laid : (a : List ℕ) → WellFormed a → LaidOut a
formed_laid a k = record {
  size = k.size;
  few = omega (arith, k.rows.holds.count, k.rows.holds.size, table_size a k.size);
  zeros = hold_zeros (words (table a)) (decode a).rows k.rows.holds;
  rising = k.rising;
}

-- a sound area is laid out
pub sound_laid : (a : List ℕ) → sound_area a ≡ true → LaidOut a
unfolding sound_area rows_in
sound_laid a h =
    let rest = second (eqb (length a) 45_072) _ h in
    let S = sound_told (decode a) (first (sound (decode a)) _ rest) in
    let few : get_or (words (table a)) 0 0 ≤ 512 = rw length_tab at S.few in
    record {
      size = eqb-true (length a) 45_072 (first (eqb (length a) 45_072) _ h);
      few = few;
      zeros = second (kinds_listed (words (table a))) _ (second (sound (decode a)) _ rest);
      rising = S.rising;
    }

-- what a sound area is
pub sound_formed : (a : List ℕ) → sound_area a ≡ true → (length a ≡ 45_072) × Sound (decode a) × Stored fields 11 (table a) (decode a).rows
unfolding sound_area rows_in
sound_formed a h =
    let l = words (table a) in
    let rest = second (eqb (length a) 45_072) _ h in
    let named = listed_told l (first (kinds_listed l) _ (second (sound (decode a)) _ rest)) in
    let k = sound_laid a h in
    (k.size, sound_told (decode a) (first (sound (decode a)) _ rest), (laid_formed a k named).rows)

-- and its kinds are listed ones
pub sound_listed : (a : List ℕ) → sound_area a ≡ true → Listed (words (table a)) (get_or (words (table a)) 0 0)
sound_listed a h = let (size, S, A) = sound_formed a h in hold_listed (words (table a)) (decode a).rows A.holds

-- and back
pub formed_sound : (a : List ℕ) → length a ≡ 45_072 → Sound (decode a) → Stored fields 11 (table a) (decode a).rows → sound_area a ≡ true
unfolding sound_area
formed_sound a size S T =
    let l = words (table a) in
    rw (eq-eqb (length a) 45_072 size, sound_shown (decode a) S, listed_shown l (hold_listed l (decode a).rows T.holds), hold_zeros l (decode a).rows T.holds)

-- an area of its length whose next id and table are those of the sound registry s
pub formed_is : (a : List ℕ) (s : Registry) → length a ≡ 45_072 → (decode a).next ≡ s.next → Stored fields 11 (table a) s.rows → Sound s → Is a s
formed_is a s size e T S =
    let r : (decode a).rows ≡ s.rows = hold_rows (words (table a)) s.rows T.holds in
    let d : decode a ≡ s = λ t. record { next = e t; rows = r t } in
    record {
      sound = formed_sound a size (subst Sound (sym d) S) (subst (λ (xs : List (Row Entry)). Stored fields 11 (table a) xs) (sym r) T);
      same = d;
    }
