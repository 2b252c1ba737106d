-- The call that fills a register image: what it leaves, by the lent length. Assumes nothing.
use Rattle.std.specs.Prelude.{◌≡◌, ℕ, List, length, ◌≢◌, refl}
use Rattle.std.proofs.Common.{sym, ◌∙◌, true≢false, eq-eqb, ne_eqb}
use Rattle.std.proofs.lemmas.Bool.{false≢true}
use Rattle.carv_register_image.specs.Image.{register_image}
use Rattle.carv_scheduler.specs.Image.{Filled}

-- `write_image`
module _ (a : List ℕ) where
  pub image_refused : (length a ≢ 512) → Filled a 1 a
  image_refused h = record {
    size = λ e. (refl, refl);
    filled = λ e. absurd (false≢true (sym (ne_eqb (length a) 512 h) ∙ e));
  }

  pub image_filled : length a ≡ 512 → (a' : List ℕ) → a' ≡ register_image → Filled a 0 a'
  image_filled h a' q = record {
    size = λ e. absurd (true≢false (sym (eq-eqb (length a) 512 h) ∙ e));
    filled = λ e. (refl, q);
  }
