-- The registry in its lent area of 45,072 bytes, as 64-bit words, the least byte first: the next id, the number of objects, and 512 places of 11 words each.
-- What the bytes say, question 1 of them, and what a call promises of them. docs/LAYOUT.md has the same as a table. Assumes nothing.
use Rattle.std.specs.Prelude.{◌≡◌, Bool, true, false, ◌&&◌, List, [], ◌∷◌, ℕ, ◌+◌, ◌*◌, ◌≤◌, eqb, leb, length, get_or, drop, Option, Result, Ok, Err}
use Rattle.carv_area.specs.Table.{Row, Rising}
use Rattle.carv_area.specs.Lists.{tab}
use Rattle.carv_area.specs.Words.{words}
use Rattle.carv_area.specs.Parts.{part}
use Rattle.carv_area.specs.Zero.{all_zero}
use Rattle.carv_budget.specs.Account.{period}
use Rattle.carv_objects_spec.specs.declared.Entry.{Entry}
use Rattle.carv_objects.specs.declared.refusal.Refusal.{Refusal}
use Rattle.carv_objects.specs.declared.refusal.Refusal.TheVariants.{Unsound, Share}
use Rattle.carv_objects.specs.Answer.{number, value}
use Rattle.carv_objects_spec.specs.Reply.{Value}
use Rattle.carv_objects_spec.specs.Registry.{Registry, RegistryReply, opening, refill, has_cpu}
use Rattle.carv_objects_spec.specs.Kinds.{code, listed, kind_of}
use Rattle.carv_objects_spec.specs.Sound.{all, sound}

-- the first word, and the table behind it
unfoldable pub head : List ℕ → List ℕ
head a = part 0 8 a

unfoldable pub table : List ℕ → List ℕ
table a = part 8 45_064 a

-- the words of an object
abbrev pub fields : Row Entry → List ℕ
fields r =
    r.id ∷ code r.it.kind ∷ r.it.payer ∷ r.it.charge
    ∷ r.it.account.cpu_allowance ∷ r.it.account.memory_limit ∷ r.it.account.period_start ∷ r.it.account.cpu_left
    ∷ r.it.account.cpu_reserved ∷ r.it.account.memory_used ∷ r.it.account.memory_reserved ∷ []

-- the word that the kind of the object at place i is stored as
abbrev pub kind_word : List ℕ → ℕ → ℕ
kind_word l i = get_or l (i * 11 + 2) 0

-- the object at place i of the table's words
abbrev pub row_at : List ℕ → ℕ → Row Entry
row_at l i = record {
  id = get_or l (i * 11 + 1) 0;
  it = record {
    kind = kind_of (kind_word l i);
    payer = get_or l (i * 11 + 3) 0;
    charge = get_or l (i * 11 + 4) 0;
    account = record {
      cpu_allowance = get_or l (i * 11 + 5) 0;
      memory_limit = get_or l (i * 11 + 6) 0;
      period_start = get_or l (i * 11 + 7) 0;
      cpu_left = get_or l (i * 11 + 8) 0;
      cpu_reserved = get_or l (i * 11 + 9) 0;
      memory_used = get_or l (i * 11 + 10) 0;
      memory_reserved = get_or l (i * 11 + 11) 0;
    };
  };
}

-- the objects of the table's words, whose first says how many there are
unfoldable pub rows_in : List ℕ → List (Row Entry)
rows_in l = tab (get_or l 0 0) (row_at l)

-- the registry that the bytes a say
abbrev pub decode : List ℕ → Registry
decode a = record { next = get_or (words (head a)) 0 0; rows = rows_in (words (table a)) }

-- The bytes a are laid out as a registry's, whatever the words of its kinds: their length, room for the rows, zeros behind them, and rising ids.
pub record LaidOut (a : List ℕ) : Type 0 where
  pub size : length a ≡ 45_072
  pub few : get_or (words (table a)) 0 0 ≤ 512
  pub zeros : all_zero (drop (get_or (words (table a)) 0 0 * 11 + 1) (words (table a))) ≡ true
  pub rising : Rising 1 (decode a).next (decode a).rows

-- "every code is a listed one": of the table's words, each object's kind
unfoldable pub kinds_listed : List ℕ → Bool
kinds_listed l = all (tab (get_or l 0 0) (λ i. listed (kind_word l i)))

-- question 1: "are lent areas of their length and is the state sound?" Places past the last object are zero, so that a registry is written in one way only
unfoldable pub sound_area : List ℕ → Bool
sound_area a =
    eqb (length a) 45_072
    && (sound (decode a) && (kinds_listed (words (table a)) && all_zero (drop (get_or (words (table a)) 0 0 * 11 + 1) (words (table a)))))

-- the bytes a are those of the sound registry s
pub record Is (a : List ℕ) (s : Registry) : Type 0 where
  pub sound : sound_area a ≡ true
  pub same : decode a ≡ s

-- What a call answers, r, whose value is what `tells` says, and what it leaves, a', of a sound area a.
pub record Serves {T : Type 0} (call : Registry → RegistryReply) (tells : T → Option Value) (a : List ℕ) (r : Result T Refusal) (a' : List ℕ) : Type 0 where
  pub number : number r ≡ (call (decode a)).number
  pub value : value tells r ≡ (call (decode a)).value
  pub area : Is a' (call (decode a)).after

-- A renewal of budget i, if it is live, and whether it has CPU left then.
pub record Renews (i time : ℕ) (a : List ℕ) (r : Bool) (a' : List ℕ) : Type 0 where
  pub answer : r ≡ has_cpu (refill i time (decode a)).after i
  pub area : Is a' (refill i time (decode a)).after

-- What a call answers and leaves of any area: one that is not sound is refused with 1 and left as it came.
pub record Answered {T : Type 0} (call : Registry → RegistryReply) (tells : T → Option Value) (a : List ℕ) (r : Result T Refusal) (a' : List ℕ) : Type 0 where
  pub refused : sound_area a ≡ false → (r ≡ Err Unsound) × (a' ≡ a)
  pub served : sound_area a ≡ true → Serves call tells a r a'

-- An opening: questions 1, of the length alone, and 2, "is the CPU share at most 10,000,000?"
pub record Opened (cpu memory : ℕ) (a : List ℕ) (r : Result (Unit {0}) Refusal) (a' : List ℕ) : Type 0 where
  pub size : eqb (length a) 45_072 ≡ false → (r ≡ Err Unsound) × (a' ≡ a)
  pub share : eqb (length a) 45_072 ≡ true → leb cpu period ≡ false → (r ≡ Err Share) × (a' ≡ a)
  pub opened : eqb (length a) 45_072 ≡ true → leb cpu period ≡ true → (r ≡ Ok tt) × Is a' (opening cpu memory)
