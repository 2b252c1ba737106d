-- `carv::words::write_words` meets its contract. Assumes nothing.
use Rattle.std.proofs.Common.{◌≡◌, ℕ, ◌+◌, List, ◌++◌, length, drop, ap, sym, ◌∙◌, arith}
use Rattle.std.proofs.lemmas.List.Edits.{sets-eq}
use Rattle.carv.proofs.words.write_words.Goals as goal

pub returns : goal.returns
returns c =
    let z : 0 + length c.args.words.now ≡ length c.args.words.now = omega arith in
    ap (λ (l : List ℕ). l ++ drop (length c.args.words.now) c.args.out.now) c.copy_from_slice.ensures.after
    ∙ sym (rw z at (sets-eq c.args.words.now c.args.out.now 0 (omega (arith, c.requires))))
