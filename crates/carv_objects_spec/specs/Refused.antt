-- Document 01's refusal numbers, by the names that include/carv.h has for them, and which of them 01 marks as added by the port. 15 is no number of a registry or board
-- (P12; Question15.antt): an account called alone answers it (carv_budget). Assumes nothing.
use Rattle.std.specs.Prelude.{Bool, ◌&&◌, ◌||◌, ℕ, eqb, leb}

-- "1. Are lent areas of their length and is the state sound? +"
abbrev pub unsound : ℕ
unsound = 1

-- "2. Opening: is the CPU share at most 10,000,000? +"
abbrev pub share : ℕ
share = 2

-- "3. Is the tick at most 18,446,744,073,709? +"
abbrev pub tick : ℕ
tick = 3

-- "4. Is each kind, wait and cause listed, and an inserted kind not 6? +"
abbrev pub code : ℕ
code = 4

-- "5. Is a new thread's id without a record and neither 0 nor 2^64 − 1, or the killed thread not idle? +"
abbrev pub id : ℕ
id = 5

-- "6. Has the table a place (512 objects; 128 threads, idle counted), and is the next id below 2^64 − 1? +"
abbrev pub full : ℕ
full = 6

-- "7. Do the object, payer or thread exist, and is the payer, or the account to be read, renewed or charged CPU, a budget?"
abbrev pub missing : ℕ
missing = 7

-- "8. Is a started thread Inactive, a woken one Blocked? 8. Is a blocking thread Running and not idle? + 8"
abbrev pub state : ℕ
state = 8

-- "9. Is the removed object not the root?"
abbrev pub root : ℕ
root = 9

-- "10. Does a removed budget pay for nothing?"
abbrev pub pays : ℕ
pays = 10

-- "11. Is an uncharge at most the recorded charge? +"
abbrev pub charge : ℕ
charge = 11

-- "12. Can the payer cover the charge, and the carve-out's CPU, then memory?"
abbrev pub limit : ℕ
limit = 12

-- "13. Is a created kind 2, 3, 4, 5 or 7?"
abbrev pub kind : ℕ
kind = 13

-- "14. Is the backing there?"
abbrev pub backing : ℕ
backing = 14

-- "Numbers marked +": 1 to 6 and 11
abbrev pub added : ℕ → Bool
added n = (leb 1 n && leb n 6) || eqb n 11

-- an uncharge: "for a missing id, where the Rust says nothing, 7, there an added refusal"
abbrev pub added_to_uncharge : ℕ → Bool
added_to_uncharge n = added n || eqb n 7

-- "Is a blocking thread Running and not idle? + 8"
abbrev pub added_to_block : ℕ → Bool
added_to_block n = added n || eqb n 8
