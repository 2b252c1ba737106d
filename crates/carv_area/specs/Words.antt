-- 64-bit words, the least byte first, in a list of bytes, and what a store of words leaves. Assumes nothing.
use Rattle.std.specs.Prelude.{ℕ, zero, suc, ◌+◌, ◌*◌, ◌/◌, ◌≡◌, List, length, get_or, drop}
use Rattle.carv_area.specs.Lists.{tab}

-- the number that the n bytes of l from place o make
unfoldable pub value : ℕ → List ℕ → ℕ → ℕ
value zero l o = 0
value (suc n) l o = get_or l o 0 + 256 * value n l (suc o)

-- word number k of l
unfoldable pub word : List ℕ → ℕ → ℕ
word l k = value 8 l (k * 8)

-- the words of l
unfoldable pub words : List ℕ → List ℕ
words l = tab (length l / 8) (word l)

-- the bytes of l behind its last whole word: length l % 8 of them
unfoldable pub rest : List ℕ → List ℕ
rest l = drop (length l / 8 * 8) l

-- the bytes `before` become `after`: their words are ws, and the bytes behind the last whole word stay. No other bytes are left: `writes_one` in laws/Words.antt
pub record Writes (before after ws : List ℕ) : Type 0 where
  pub words : words after ≡ ws
  pub rest : rest after ≡ rest before
