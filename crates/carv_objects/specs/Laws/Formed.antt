-- An area that is well formed: it has its length, and its words are a next id and a table with rising ids below it. What a change of one part leaves.
-- Assumes nothing.
use Rattle.std.specs.Prelude.{ℕ, ◌+◌, ◌≤◌, ◌≡◌, refl}
use native.Mathlib.Omega.{arith}
use Rattle.std.proofs.Common.{sym, ◌∙◌, subst}
use Rattle.std.proofs.Math.Path.{ap}
use mathlib.Core.List.{List}
use Rattle.std.proofs.Math.ListN.{length, get_or}
use Rattle.carv_area.specs.Table.{Row, Rising}
use Rattle.carv_area.specs.Words.{words}
use Rattle.carv_area.specs.Parts.{part, put_part}
use Rattle.carv_area.specs.Laws.Parts.{length_part, length_put, part_same, part_before}
use Rattle.carv_area.specs.Stored.{Stored}
use Rattle.carv_objects_spec.specs.declared.Entry.{Entry}
use Rattle.carv_objects_spec.specs.Registry.{Registry}
use Rattle.carv_objects.specs.Area.{head, table, fields, decode}
use Rattle.carv_objects.specs.Laws.Rows.{rows_in_are}

-- the bytes a are those of the registry s, whose ids rise
pub record Formed (a : List ℕ) (s : Registry) : Type 0 where
  pub size : length a ≡ 45_072
  pub next : get_or (words (head a)) 0 0 ≡ s.next
  pub rows : Stored fields 11 (table a) s.rows
  pub rising : Rising 1 s.next s.rows

-- what most inner functions ask: it is laid out, and its kinds are listed (`laid_formed`, `formed_laid` and `hold_listed` of AreaLaws)
abbrev pub WellFormed : List ℕ → Type 0
WellFormed a = Formed a (decode a)

-- what every inner function leaves: a well-formed area that says s
pub record Leaves (a : List ℕ) (s : Registry) : Type 0 where
  pub formed : WellFormed a
  pub is : decode a ≡ s

pub decode_is : (a : List ℕ) (s : Registry) → Formed a s → decode a ≡ s
decode_is a s k = λ i. record { next = k.next i; rows = rows_in_are (words (table a)) s.rows k.rows.holds i }

pub leaves : (a : List ℕ) (s : Registry) → Formed a s → Leaves a s
leaves a s k = record { formed = subst (Formed a) (sym (decode_is a s k)) k; is = decode_is a s k }

-- an area that was not changed
pub unchanged : (a : List ℕ) → WellFormed a → Leaves a (decode a)
unchanged a k = record { formed = k; is = refl }

pub leaves_as : (a : List ℕ) (s s' : Registry) → s ≡ s' → Leaves a s → Leaves a s'
leaves_as a s s' e k = record { formed = k.formed; is = k.is ∙ e }

-- the lengths of the parts
pub length_head : (a : List ℕ) → length a ≡ 45_072 → length (part 0 8 a) ≡ 8
length_head a z = length_part 0 8 a (omega arith)

pub length_table : (a : List ℕ) → length a ≡ 45_072 → length (part 8 45_064 a) ≡ 45_064
length_table a z = length_part 8 45_064 a (omega arith)

-- after a call that was lent a part
module _ (a : List ℕ) (k : WellFormed a) (p : List ℕ) where
  pub table_written : (rows : List (Row Entry)) → length p ≡ 45_064 → Stored fields 11 p rows → Rising 1 (decode a).next rows
      → Leaves (put_part 8 45_064 a p) (record { next = (decode a).next; rows = rows })
  unfolding head table
  table_written rows z h up =
      let s = k.size in
      let fits : 8 + 45_064 ≤ length a = omega arith in
      let gap : 0 + 8 ≤ 8 = omega arith in
      leaves (put_part 8 45_064 a p) _ (record {
        size = length_put 8 45_064 a p fits z ∙ k.size;
        next = ap (λ (l : List ℕ). get_or (words l) 0 0) (part_before 8 45_064 a p fits z 0 8 gap) ∙ k.next;
        rows = rw (part_same 8 45_064 a p fits z) h;
        rising = up;
      })
