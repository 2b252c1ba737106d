-- `carv_register_image::word_at` meets its contract. Assumes nothing.
use mathlib.Core.Path.{refl}
use native.Mathlib.Omega.{arith}
use Rattle.carv_register_image.proofs.Laws.Image.{image_words, other_word}
use Rattle.carv_register_image.proofs.word_at.Goals as goal

pub returns-in-0 : goal.returns-in-0
returns-in-0 c =
    rw (c.in-0.is, image_words) refl

pub returns-in-3 : goal.returns-in-3
returns-in-3 c =
    rw (c.in-3.is, image_words) refl

pub returns-in_default : goal.returns-in_default
returns-in_default c =
    other_word _ (omega arith) (omega arith)
