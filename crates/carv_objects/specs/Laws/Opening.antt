-- What an opening leaves: a cleared table, its first row, and the next id. Assumes nothing.
use Rattle.std.specs.Prelude.{◌≡◌, refl, true, List, [], ◌∷◌, ◌++◌, ℕ, suc, ◌+◌, ◌*◌, ◌-◌, ◌/◌, ◌≤◌, leb, length, take, drop, Ok}
use Rattle.std.proofs.Common.{sym, ap, ◌∙◌, subst, true≢false, append-nil, arith, drop_of_length-le, take_all, leb-true}
use Rattle.std.proofs.lemmas.List.{length-replicate}
use Rattle.std.proofs.lemmas.Bool.{eqb-false}
use Rattle.carv_area.specs.Table.{Row}
use Rattle.carv_area.specs.Words.{words}
use Rattle.carv_area.specs.Laws.Words.{length_words}
use Rattle.carv_area.specs.Moves.{zeros, wipe}
use Rattle.carv_area.specs.Parts.{put_part}
use Rattle.carv_area.specs.Laws.Parts.{part_same}
use Rattle.carv_area.specs.Rows.{Holds, flat}
use Rattle.carv_area.specs.Laws.Rows.{hold}
use Rattle.carv_area.specs.Stored.{Stored}
use Rattle.carv_area.specs.Laws.Stored.{stored}
use Rattle.carv_budget.specs.declared.Account.{Account}
use Rattle.carv_budget.specs.Account.{period, fresh}
use Rattle.carv_objects_spec.specs.declared.kind.Kind.TheVariants.{Budget}
use Rattle.carv_objects_spec.specs.declared.Entry.{Entry}
use Rattle.carv_objects_spec.specs.Registry.{Registry, opening}
use Rattle.carv_objects_spec.proofs.Laws.Kept.{opening_sound}
use Rattle.carv_objects.specs.Area.{table, fields, rows_in, Opened}
use Rattle.carv_objects.specs.Laws.AreaLaws.{formed_is}
use Rattle.carv_objects.specs.Laws.Rows.{row, wide, rows_in_are}
use Rattle.carv_objects.specs.Laws.Formed.{Formed}

-- the root budget, with the account y
abbrev pub root : Account → Entry
root y = record { kind = Budget; payer = 1; charge = 0; account = y }

-- the registry that has only it
abbrev pub rooted : Account → Registry
rooted y = record { next = 2; rows = row 1 (root y) ∷ [] }

-- words that are cleared are zeros
cleared : (l : List ℕ) (n : ℕ) → length l ≡ n → wipe 0 n l ≡ zeros n
cleared l n e =
    let z : take n (zeros n) ≡ zeros n = take_all n (zeros n) (omega (arith, length-replicate {A = ℕ} n 0)) in
    let d : drop (0 + n) l ≡ [] = drop_of_length-le l {i = 0 + n} (omega arith) in
    rw (z, d) (append-nil (zeros n))

-- and hold no row
none_held : (l : List ℕ) (n : ℕ) → 1 ≤ n → l ≡ zeros n → Holds fields 11 l []
unfolding flat
none_held l n h e = let s : n ≡ suc (n - 1) = omega arith in hold fields 11 wide l [] (n - 1) (e ∙ ap zeros s)

-- `clear` of the bytes t, whole
module _ (t t' : List ℕ) (z : length t ≡ 45_064) (n : ℕ) (en : n ≡ length t / 8) (e : words t' ≡ wipe 0 n (words t)) where
  cleared_none : Stored fields 11 t' []
  cleared_none = stored fields 11 t' [] (none_held (words t') n (omega arith) (e ∙ cleared (words t) n (length_words t ∙ sym en)))

  no_rows : rows_in (words t') ≡ []
  no_rows = rows_in_are (words t') [] cleared_none.holds

  pub cleared_stored : Stored fields 11 t' (rows_in (words t'))
  cleared_stored = rw no_rows cleared_none

  pub cleared_room : length t' ≡ length t → (length (rows_in (words t')) * 11 + 11) * 8 + 8 ≤ length t'
  cleared_room q = rw no_rows (omega arith)

  -- and then its first row
  pub only_row : (t'' : List ℕ) (r : Row Entry) → Stored fields 11 t'' (rows_in (words t') ++ (r ∷ [])) → Stored fields 11 t'' (r ∷ [])
  only_row t'' r h = subst (λ (xs : List (Row Entry)). Stored fields 11 t'' (xs ++ (r ∷ []))) no_rows h

-- the table of the area a is written, p
pub table_put : (a p : List ℕ) → length a ≡ 45_072 → length p ≡ 45_064 → (rows : List (Row Entry)) → Stored fields 11 p rows
    → Stored fields 11 (table (put_part 8 45_064 a p)) rows
unfolding table
table_put a p size z rows h = let fits : 8 + 45_064 ≤ length a = omega arith in rw (part_same 8 45_064 a p fits z) h

-- What an opening answers.
module _ (cpu memory : ℕ) (a : List ℕ) where
  module _ (z : length a ≡ 45_072) where
    pub open_done : (y : Account) → (leb cpu period ≡ true) × (y ≡ fresh cpu memory 0) → (a' : List ℕ) → Formed a' (rooted y) → Opened cpu memory a (Ok tt) a'
    open_done y h a' k =
        let f : Formed a' (opening cpu memory) = subst (λ (x : Account). Formed a' (rooted x)) h.1 k in
        record {
          size = λ q. absurd (eqb-false (length a) 45_072 q z);
          share = λ q s. absurd (true≢false (sym h.0 ∙ s));
          opened = λ q s. (refl, formed_is a' (opening cpu memory) f.size f.next f.rows (opening_sound cpu memory (leb-true cpu period h.0)));
        }
