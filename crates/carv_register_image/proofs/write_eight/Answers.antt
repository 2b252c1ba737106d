-- `carv_register_image::write_eight` meets its contract. Assumes nothing.
use borrow.Author.Rules.{rules}
use native.Mathlib.Omega.{arith}
use Rattle.carv_register_image.proofs.Laws.Image.{written}
use Rattle.carv_register_image.proofs.write_eight.Goals as goal

pub returns : goal.returns
returns c =
    written c.args.k c.requires.is_step.0 c.requires.is_step.1 c.args.image.now c.requires.image_bytes c.put.new.a (search rules)
    (λ j. omega (arith, c.slice_known-1.given j)) (λ j. omega (arith, c.slice_known-2-1.given j))
    _ _ (omega arith) c.requires.is_word c.put.ensures
