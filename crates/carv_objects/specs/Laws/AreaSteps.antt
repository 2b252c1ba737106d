-- What the functions on one part of the area leave. Assumes nothing.
use Prim.Native.Nat.{ℕ, zero, suc, ◌+◌, ◌*◌, ◌/◌, ◌≤◌, ◌<◌}
use Rattle.std.proofs.lemmas.List.Edits.{sets}
use Rattle.std.proofs.Common.{arith, add-one, ltb-true, sym, ap, ◌∙◌, subst, get_or-set_same, refl}
use Rattle.std.specs.Prelude.{Bool, true, false, ◌&&◌, ◌≡◌, length, get_or, set, Option, Some, None}
use mathlib.Core.List.{List, [], ◌∷◌, ◌++◌}
use Rattle.carv_area.specs.Table.{Row, Rising, alter}
use Rattle.std.specs.Bool.{then_some}
use Rattle.carv_area.specs.Laws.Table.{rising_weaken, rising_snoc}
use Rattle.carv_area.specs.Lists.{tab}
use Rattle.carv_area.specs.Laws.Lists.{length_tab, get_or_tab}
use Rattle.carv_area.specs.Words.{words}
use Rattle.carv_area.specs.Laws.Words.{length_words}
use Rattle.carv_area.specs.Parts.{part, put_part}
use Rattle.carv_area.specs.Laws.Parts.{part_same, part_after}
use Rattle.carv_area.specs.Moves.{cut_row}
use Rattle.carv_area.specs.Rows.{remove_at}
use Rattle.carv_area.specs.Keys.{keys, find_in}
use Rattle.carv_area.specs.Stored.{Stored, Keyed}
use Rattle.carv_area.specs.Laws.Stored.{keyed_of, stored_remove}
use Rattle.carv_area.specs.Lookup.{Located, Here, Gone}
use Rattle.carv_area.specs.Laws.Lookup.{ids, located, rising_ids}
use Rattle.carv_budget.proofs.Laws.Account.{first, second}
use Rattle.carv_budget.specs.declared.Account.{Account}
use Rattle.carv_budget.specs.Account.{figures}
use Rattle.carv_objects_spec.specs.declared.kind.Kind.{Kind}
use Rattle.carv_objects_spec.specs.declared.Entry.{Entry}
use Rattle.carv_objects_spec.specs.Kinds.{is_budget_kind, kind_of}
use Rattle.carv_objects_spec.specs.Registry.{Registry, or_missing, found, entry, has, is_budget, has_place, has_next, on_account, on_charge, budget, object}
use Rattle.carv_objects.specs.Area.{head, table, fields, row_at, rows_in, decode, LaidOut}
use Rattle.carv_objects.specs.Laws.Rows.{row, no_row, wide, set_row, set_account, row_written, words_written}
use Rattle.carv_objects.specs.Laws.Formed.{WellFormed, Leaves, leaves, leaves_as, length_head, length_table, table_written}

abbrev pub with_next : ℕ → Registry → Registry
with_next n r = record { next = n; rows = r.rows }

abbrev pub with_rows : List (Row Entry) → Registry → Registry
with_rows rows r = record { next = r.next; rows = rows }

module _ {A : Type 0} where
  -- ids rise below a higher bound
  pub rising_raise : (rows : List (Row A)) (l n m : ℕ) → n ≤ m → Rising l n rows → Rising l m rows
  rising_raise [] l n m h u = omega arith
  rising_raise (r ∷ rows) l n m h u = (u.0, rising_raise rows (suc r.id) n m h u.1)

  -- ids rise as before where a row keeps its id, and where one is taken out
  pub rising_set : (rows : List (Row A)) (l n i : ℕ) (d r : Row A) → Rising l n rows → r.id ≡ (get_or rows i d).id → Rising l n (set rows i r)
  rising_set [] l n i d r u e = u
  rising_set (q ∷ m) l n zero d r u e = (rw e u.0, rw e u.1)
  rising_set (q ∷ m) l n (suc i) d r u e = (u.0, rising_set m (suc q.id) n i d r u.1 e)

  pub rising_remove : (rows : List (Row A)) (l n i : ℕ) → Rising l n rows → Rising l n (remove_at rows i)
  unfolding remove_at
  rising_remove [] l n zero u = u
  rising_remove [] l n (suc i) u = u
  rising_remove (q ∷ m) l n zero u = rising_weaken m l (suc q.id) n (omega (arith, u.0)) u.1
  rising_remove (q ∷ m) l n (suc i) u = (u.0, rising_remove m (suc q.id) n i u.1)

-- the keys of a table are the ids of the rows that are read of it one by one
ids_read : {A : Type 0} (n : ℕ) (f : ℕ → ℕ) (g : ℕ → Row A) → ((i : ℕ) → f i ≡ (g i).id) → tab n f ≡ ids (tab n g)
unfolding tab
ids_read zero f g e = refl
ids_read (suc n) f g e = λ t. e zero t ∷ ids_read n (λ i. f (suc i)) (λ i. g (suc i)) (λ i. e (suc i)) t

pub keys_read : {A : Type 0} (w : ℕ) (l : List ℕ) (g : ℕ → Row A) → ((i : ℕ) → get_or l (i * w + 1) 0 ≡ (g i).id) → keys w l ≡ ids (tab (get_or l 0 0) g)
unfolding keys
keys_read w l g e = ids_read (get_or l 0 0) (λ i. get_or l (i * w + 1) 0) g e

-- What is read of an area that is laid out.
module _ (a : List ℕ) (k : LaidOut a) where
  counted : get_or (words (table a)) 0 0 ≡ length (decode a).rows
  unfolding rows_in
  counted = sym (length_tab (get_or (words (table a)) 0 0) (row_at (words (table a))))

  keyed : keys 11 (words (table a)) ≡ ids (decode a).rows
  unfolding rows_in
  keyed = keys_read 11 (words (table a)) (row_at (words (table a))) (λ i. refl)

  pub count_is : (n : ℕ) → n ≡ get_or (words (table a)) 0 0 → n ≡ length (decode a).rows
  count_is n e = e ∙ counted

  pub remove_room : (get_or (words (table a)) 0 0 * 11 + 1) * 8 ≤ length (table a)
  unfolding table
  remove_room = omega (arith, k.few, length_table a k.size)

  pub table_keyed : Keyed 11 (table a)
  table_keyed = keyed_of 11 (table a) (omega arith) remove_room (rw keyed (rising_ids (decode a).rows 1 (decode a).next k.rising))

  pub found_is : (t : List ℕ) → t ≡ table a → (x : ℕ) (p : Option ℕ) → p ≡ find_in (keys 11 (words t)) x → Located no_row (decode a).rows x p
  found_is t et x p e = subst (Located no_row (decode a).rows x) (sym (rw et at e ∙ ap (λ (ks : List ℕ). find_in ks x) keyed)) (located no_row (decode a).rows x)

  pub remove_within : (i : ℕ) → i < length (decode a).rows → i < get_or (words (table a)) 0 0
  remove_within i h = omega (arith, counted)

  module _ (i : ℕ) (h : i < length (decode a).rows) where
    pub at_is : row_at (words (table a)) i ≡ get_or (decode a).rows i no_row
    unfolding rows_in
    at_is = sym (get_or_tab (get_or (words (table a)) 0 0) (row_at (words (table a))) i no_row (remove_within i h))

    pub entry_room : (i * 11 + 11) * 8 + 8 ≤ length (table a)
    unfolding table
    entry_room = omega (arith, remove_within i h, k.few, length_table a k.size)

    pub id_is : (x : ℕ) → x ≡ get_or (words (table a)) (i * 11 + 1) 0 → x ≡ (get_or (decode a).rows i no_row).id
    id_is x e = e ∙ ap (λ (r : Row Entry). r.id) at_is

    pub payer_is : (x : ℕ) → x ≡ get_or (words (table a)) (i * 11 + 3) 0 → x ≡ (get_or (decode a).rows i no_row).it.payer
    payer_is x e = e ∙ ap (λ (r : Row Entry). r.it.payer) at_is

    pub kind_is : (n : ℕ) → n ≡ get_or (words (table a)) (i * 11 + 2) 0 → (x : Kind) → x ≡ kind_of n → x ≡ (get_or (decode a).rows i no_row).it.kind
    kind_is n e x q = q ∙ ap kind_of e ∙ ap (λ (r : Row Entry). r.it.kind) at_is

    pub account_is : (x : Account) → x ≡ (row_at (words (table a)) i).it.account → x ≡ (get_or (decode a).rows i no_row).it.account
    account_is x e = e ∙ ap (λ (r : Row Entry). r.it.account) at_is

    pub entry_is : (x : Entry) → x ≡ (row_at (words (table a)) i).it → x ≡ (get_or (decode a).rows i no_row).it
    entry_is x e = e ∙ ap (λ (r : Row Entry). r.it) at_is

-- `set_next` was lent the first word, and left p
pub next_put : (a p : List ℕ) → length a ≡ 45_072 → length p ≡ 8 → (n : ℕ) → words p ≡ set (words (head a)) 0 n
    → ((decode (put_part 0 8 a p)).next ≡ n) × (table (put_part 0 8 a p) ≡ table a)
unfolding head table
next_put a p size z n e =
    let fits : 0 + 8 ≤ length a = omega arith in
    let gap : 0 + 8 ≤ 8 = omega arith in
    let w : length (words (part 0 8 a)) ≡ 1 = length_words (part 0 8 a) ∙ ap (λ (x : ℕ). x / 8) (length_head a size) in (
      ap (λ (l : List ℕ). get_or (words l) 0 0) (part_same 0 8 a p fits z) ∙ ap (λ (l : List ℕ). get_or l 0 0) e ∙ get_or-set_same (words (part 0 8 a)) 0 n 0 (omega arith),
      part_after 0 8 a p fits z 8 45_064 gap,
    )

-- and what that leaves of a well-formed area
pub next_set : (a a' : List ℕ) → WellFormed a → length a' ≡ length a → (n : ℕ) → ((decode a').next ≡ n) × (table a' ≡ table a) → Rising 1 n (decode a).rows
    → Leaves a' (with_next n (decode a))
next_set a a' k z n q up = leaves a' _ (record { size = z ∙ k.size; next = q.0; rows = rw q.1 k.rows; rising = up })

-- What is left where the table was written, p.
module _ (a : List ℕ) (k : WellFormed a) (p : List ℕ) where
  module _ (z : length p ≡ 45_064) where
    -- the whole object at place i
    pub entry_set : (i x : ℕ) (e : Entry) → i < length (decode a).rows → (get_or (decode a).rows i no_row).id ≡ x → words p ≡ set_row (words (table a)) i (row x e)
        → Leaves (put_part 8 45_064 a p) (with_rows (set (decode a).rows i (row x e)) (decode a))
    entry_set i x e h same q =
        table_written a k p (set (decode a).rows i (row x e)) z (row_written (table a) p (decode a).rows k.rows i (row x e) h q)
        (rising_set (decode a).rows 1 (decode a).next i no_row (row x e) k.rising (sym same))

    -- words of the object x, which stands at place i
    module _ (x i : ℕ) (h : Here no_row (decode a).rows x i) where
      pub words_set : (f : Entry → Entry) (c j : ℕ) (us : List ℕ) → c + length us ≤ 11 → j ≡ i * 11 + 1 + c
          → fields (row (get_or (decode a).rows i no_row).id (f (get_or (decode a).rows i no_row).it)) ≡ sets (fields (get_or (decode a).rows i no_row)) c us
          → words p ≡ sets (words (table a)) j us → Leaves (put_part 8 45_064 a p) (with_rows (alter x f (decode a).rows) (decode a))
      words_set f c j us b ej q r =
          let e = f (get_or (decode a).rows i no_row).it in
          let l = table_written a k p (set (decode a).rows i (row (get_or (decode a).rows i no_row).id e)) z (words_written (table a) p (decode a).rows k.rows i e c j us h.within b ej q r)
          (rising_set (decode a).rows 1 (decode a).next i no_row (row (get_or (decode a).rows i no_row).id e) k.rising refl) in
          leaves_as _ _ _ (rw (h.changed f, h.same) refl) l

      pub account_written : (y : Account) → words p ≡ set_account (words (table a)) i y → Leaves (put_part 8 45_064 a p) (budget x (λ _. y) (decode a))
      unfolding set_account
      account_written y q = words_set (on_account (λ _. y)) 4 (i * 11 + 5) (figures y) (omega arith) (omega arith) refl q

      pub charge_written : (n : ℕ) → words p ≡ set (words (table a)) (i * 11 + 4) n → Leaves (put_part 8 45_064 a p) (object x (λ _. n) (decode a))
      charge_written n q = words_set (on_charge (λ _. n)) 3 (i * 11 + 4) (n ∷ []) (omega arith) (omega arith) refl q

    pub entry_appended : (x : ℕ) (e : Entry) → Rising 1 (decode a).next ((decode a).rows ++ (row x e ∷ [])) → Stored fields 11 p ((decode a).rows ++ (row x e ∷ []))
        → Leaves (put_part 8 45_064 a p) (with_rows ((decode a).rows ++ (row x e ∷ [])) (decode a))
    entry_appended x e up h = table_written a k p ((decode a).rows ++ (row x e ∷ [])) z h up

    pub entry_removed : (i : ℕ) → i < length (decode a).rows → words p ≡ cut_row 11 i (get_or (words (table a)) 0 0) (words (table a))
        → Leaves (put_part 8 45_064 a p) (with_rows (remove_at (decode a).rows i) (decode a))
    entry_removed i h q =
        table_written a k p (remove_at (decode a).rows i) z (stored_remove fields 11 wide (table a) p (decode a).rows k.rows no_row i h q)
        (rising_remove (decode a).rows 1 (decode a).next i k.rising)

-- The functions composed of these.

-- what was found is a place, or none
pub located_here : (rows : List (Row Entry)) (x : ℕ) (p : Option ℕ) → Located no_row rows x p → (i : ℕ) → p ≡ Some i → Here no_row rows x i
located_here rows x p l i e = subst (Located no_row rows x) e l

-- the place of a budget
abbrev pub BudgetAt : Registry → ℕ → Option ℕ → Type 0
BudgetAt r x (Some i) = Here no_row r.rows x i × (is_budget r x ≡ true)
BudgetAt r x None = is_budget r x ≡ false

pub budget_here : (r : Registry) (x : ℕ) (p : Option ℕ) → BudgetAt r x p → (i : ℕ) → p ≡ Some i → Here no_row r.rows x i × (is_budget r x ≡ true)
budget_here r x p l i e = subst (BudgetAt r x) e l

module _ (r : Registry) (x i : ℕ) (h : Here no_row r.rows x i) where
  pub here_entry : entry r x ≡ (get_or r.rows i no_row).it
  here_entry = ap or_missing h.is

  pub here_has : has r x ≡ true
  here_has = ap found h.is

  module _ (e : Entry) (q : e ≡ (get_or r.rows i no_row).it) where
    here_kind : (b : Bool) → is_budget_kind e.kind ≡ b → is_budget r x ≡ b
    here_kind b k = ap (λ (z : Entry). is_budget_kind z.kind) (here_entry ∙ sym q) ∙ k

    pub here_budget : is_budget_kind e.kind ≡ true → BudgetAt r x (Some i)
    here_budget k = (h, here_kind true k)

    pub here_other : is_budget_kind e.kind ≡ false → BudgetAt r x None
    here_other k = here_kind false k

    -- one field of the entry is written
    pub account_set : (a : Account) → with_rows (set r.rows i (row x (record { kind = e.kind; payer = e.payer; charge = e.charge; account = a }))) r ≡ budget x (λ _. a) r
    account_set a = rw q (ap (λ (m : List (Row Entry)). with_rows m r) (sym (h.changed (on_account (λ _. a)))))

    pub charge_set : (n : ℕ) → with_rows (set r.rows i (row x (record { kind = e.kind; payer = e.payer; charge = n; account = e.account }))) r ≡ object x (λ _. n) r
    charge_set n = rw q (ap (λ (m : List (Row Entry)). with_rows m r) (sym (h.changed (on_charge (λ _. n)))))

  -- and which of the two is asked of the kind there
  pub budget_told : (k : Kind) → k ≡ (get_or r.rows i no_row).it.kind → (b : Bool) → b ≡ is_budget_kind k → (p : Option ℕ) → p ≡ then_some b i → BudgetAt r x p
  budget_told k q true e p t = subst (BudgetAt r x) (sym t) (here_budget _ refl (ap is_budget_kind (sym q) ∙ sym e))
  budget_told k q false e p t = subst (BudgetAt r x) (sym t) (here_other _ refl (ap is_budget_kind (sym q) ∙ sym e))

pub gone_budget : (r : Registry) (x : ℕ) → Gone r.rows x → is_budget r x ≡ false
gone_budget r x h = rw (ap or_missing h.is)

pub gone_has : (r : Registry) (x : ℕ) → Gone r.rows x → has r x ≡ false
gone_has r x h = ap found h.is

-- room for one more
module _ (r : Registry) (h : (has_place r && has_next r) ≡ true) where
  pub room_place : length r.rows < 512
  room_place = ltb-true (length r.rows) 512 (first (has_place r) (has_next r) h)

  pub room_next : r.next < 18_446_744_073_709_551_615
  room_next = ltb-true r.next 18_446_744_073_709_551_615 (second (has_place r) (has_next r) h)

-- `add`: the next id rises, and the entry stands under the id that was next
module _ (r : Registry) (x : ℕ) (q : x ≡ r.next) (e : Entry) where
  pub add_raised : Rising 1 r.next r.rows → Rising 1 (x + 1) r.rows
  add_raised up = rw q (rising_raise r.rows 1 r.next (r.next + 1) (omega arith) up)

  module _ (r₁ : Registry) (l : r₁ ≡ with_next (x + 1) r) where
    pub add_place : length r.rows < 512 → length r₁.rows < 512
    add_place h = rw l h

    pub add_rising : Rising 1 r.next r.rows → Rising 1 r₁.next (r₁.rows ++ (row x e ∷ []))
    add_rising up = rw (l, q, add-one) (rising_snoc r.rows 1 r.next e up)
