-- The words of a record, by its own bytes and by those that it stands in. Assumes nothing.
use Rattle.std.specs.Prelude.{◌≡◌, List, length, ℕ, ◌+◌, ◌*◌, ◌<◌, ◌≤◌, get_or, take, drop}
use Rattle.std.proofs.Common.{ap, ◌∙◌, arith, get_or-take, get_or-drop}
use Rattle.std.specs.Fork.{slice_chunk}
use Rattle.carv_area.specs.Words.{words}
use Rattle.carv_area.specs.Laws.Words.{words_part}
use Rattle.replay_records.specs.Word.{word}

-- word j of record k, in records of w words
pub word_of : (w : ℕ) (l : List ℕ) (k j : ℕ) → (k * w + w) * 8 ≤ length l → j < w → word (slice_chunk l (w * 8) k) j ≡ word l (k * w + j)
word_of w l k j h b =
    let from : k * (w * 8) ≡ k * w * 8 = omega arith in
    ap (λ o. word (take (w * 8) (drop o l)) j) from
    ∙ ap (λ (x : List ℕ). get_or x j 0) (words_part l (k * w) w h)
    ∙ get_or-take w (drop (k * w) (words l)) j 0 b
    ∙ get_or-drop (k * w) (words l) j 0
