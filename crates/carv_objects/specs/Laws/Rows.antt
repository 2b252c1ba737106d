-- The rows of the registry's table: what its words say of them, and what a change of one leaves. Assumes nothing.
use Rattle.std.specs.Prelude.{ℕ, suc, ◌+◌, ◌*◌, ◌≤◌, ◌<◌, ◌≡◌, refl, List, length, get_or, set, Option}
use Rattle.std.proofs.Common.{ap, ◌∙◌, arith}
use Rattle.std.proofs.lemmas.List.Edits.{sets}
use Rattle.carv_area.specs.Table.{Row, Rising}
use Rattle.carv_area.specs.Words.{words}
use Rattle.carv_area.specs.Rows.{Holds}
use Rattle.carv_area.specs.Laws.Rows.{holds_word}
use Rattle.carv_area.specs.Keys.{keys, find_in}
use Rattle.carv_area.specs.Stored.{Stored, Keyed}
use Rattle.carv_area.specs.Laws.Stored.{rows_are, stored_set, stored_some}
use Rattle.carv_area.specs.Laws.Lookup as lookup
use Rattle.carv_area.specs.Lookup.{Located}
use Rattle.carv_budget.specs.declared.Account.{Account}
use Rattle.carv_budget.specs.Account.{figures}
use Rattle.carv_objects_spec.specs.declared.Entry.{Entry}
use Rattle.carv_objects_spec.specs.Kinds.{kind_of}
use Rattle.carv_objects_spec.specs.Registry.{missing}
use Rattle.carv_objects_spec.proofs.Laws.Kinds.{kind_of_code}
use Rattle.carv_objects.specs.Area.{fields, row_at, rows_in}

pub wide : (r : Row Entry) → length (fields r) ≡ 11
wide r = refl

-- the default of a place past the end
abbrev pub no_row : Row Entry
no_row = record { id = 0; it = missing }

abbrev pub row : ℕ → Entry → Row Entry
row i e = record { id = i; it = e }

-- the words l with the object r at place i
unfoldable pub set_row : List ℕ → ℕ → Row Entry → List ℕ
set_row l i r = sets l (i * 11 + 1) (fields r)

-- and with the account a there
unfoldable pub set_account : List ℕ → ℕ → Account → List ℕ
set_account l i a = sets l (i * 11 + 5) (figures a)

module _ (l : List ℕ) (rows : List (Row Entry)) (h : Holds fields 11 l rows) where
  pub row_at_is : (i : ℕ) → i < length rows → row_at l i ≡ get_or rows i no_row
  row_at_is i a =
      let w : (j : ℕ) → j < 11 → get_or l (i * 11 + suc j) 0 ≡ get_or (fields (get_or rows i no_row)) j 0 = λ j b. holds_word fields 11 wide l rows h i j no_row a b in
      λ t. record {
        id = w 0 (omega arith) t;
        it = record {
          kind = (ap kind_of (w 1 (omega arith)) ∙ kind_of_code (get_or rows i no_row).it.kind) t;
          payer = w 2 (omega arith) t;
          charge = w 3 (omega arith) t;
          account = record {
            cpu_allowance = w 4 (omega arith) t;
            memory_limit = w 5 (omega arith) t;
            period_start = w 6 (omega arith) t;
            cpu_left = w 7 (omega arith) t;
            cpu_reserved = w 8 (omega arith) t;
            memory_used = w 9 (omega arith) t;
            memory_reserved = w 10 (omega arith) t;
          };
        };
      }

  pub rows_in_are : rows_in l ≡ rows
  unfolding rows_in
  rows_in_are = rows_are fields 11 row_at no_row l rows h row_at_is

module _ (t : List ℕ) (rows : List (Row Entry)) (h : Stored fields 11 t rows) where
  pub rows_keyed : (n : ℕ) → Rising 1 n rows → Keyed 11 t
  rows_keyed n up = lookup.rows_keyed fields 11 wide (λ r. refl) no_row (omega arith) t rows h 1 n up

  pub rows_located : (x : ℕ) (p : Option ℕ) → p ≡ find_in (keys 11 (words t)) x → Located no_row rows x p
  rows_located x p e = lookup.rows_located fields 11 wide (λ r. refl) no_row (omega arith) t rows h x p e

-- place i of a table with these rows lies in its bytes
pub row_room : (t : List ℕ) (rows : List (Row Entry)) → Stored fields 11 t rows → (i : ℕ) → i < length rows → (i * 11 + 11) * 8 + 8 ≤ length t
row_room t rows h i a = let s = h.holds.size in let z = h.size in omega arith

module _ (t t' : List ℕ) (rows : List (Row Entry)) (h : Stored fields 11 t rows) where
  pub row_written : (i : ℕ) (r : Row Entry) → i < length rows → words t' ≡ set_row (words t) i r → Stored fields 11 t' (set rows i r)
  unfolding set_row
  row_written i r a q = stored_set fields 11 wide t t' rows h i r a q

  -- words of the object at place i, of its words from number c on, which make its entry e
  pub words_written : (i : ℕ) (e : Entry) (c k : ℕ) (us : List ℕ) → i < length rows → c + length us ≤ 11 → k ≡ i * 11 + 1 + c
      → fields (row (get_or rows i no_row).id e) ≡ sets (fields (get_or rows i no_row)) c us → words t' ≡ sets (words t) k us
      → Stored fields 11 t' (set rows i (row (get_or rows i no_row).id e))
  words_written i e c k us a b ek q r = stored_some fields 11 wide t t' rows h no_row i _ c k us a b ek q r
