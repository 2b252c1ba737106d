-- `replay_records::read_full`: a turn puts what it consumed behind what is there. Assumes nothing.
use Rattle.std.proofs.Common.{◌≡◌, ℕ, ◌+◌, ◌≤◌, List, ◌++◌, rules, length, take, drop, ap, ◌∙◌, sym, subst, le_refl, drop_at, length-take-le}
use Rattle.std.proofs.lemmas.Slice.{take-put_mid_below}
use Rattle.std.proofs.KnownBytes.{Consumes-trans}
use Rattle.std.specs.Io.KnownBytes.{Consumes}
use borrow.Rule.Slice.PartMut.{put_mid, post_of}
use lib.Seq.{take-add, take-append-le}
use Rattle.replay_records.proofs.read_full.Goals as goal

-- the first a elements stand, and n of ys are behind them
taken : (a k n : ℕ) (xs ys : List ℕ) → a ≤ length xs → n ≤ length ys → take (a + n) (put_mid a k xs ys) ≡ take a xs ++ take n ys
taken a k n xs ys within fits =
    let after = post_of a k xs in
    let all = put_mid a k xs ys in
    take-add a n all
    ∙ ap (λ l. l ++ take n (drop a all)) (take-put_mid_below a k xs ys a (le_refl a) within)
    ∙ ap (λ l. take a xs ++ take n l) (drop_at (take a xs) (ys ++ after) a (length-take-le a xs within))
    ∙ ap (λ l. take a xs ++ l) (take-append-le n ys after fits)

pub loop-bytes-preserved : goal.loop-bytes-preserved
loop-bytes-preserved g c = record {
  within = search rules;
  bytes = subst (Consumes _ _) (sym (taken _ _ _ _ _ c.loop-bytes.invariant.within c.in-Ok.ensures.bound.0))
      (Consumes-trans _ _ _ _ _ c.loop-bytes.invariant.bytes c.in-Ok.ensures.bytes.0);
}
