-- `carv_objects::rows::write_account` meets its contract. Assumes nothing.
use Rattle.carv_objects.specs.Laws.Rows.{set_account}
use Rattle.carv_objects.proofs.rows.write_account.Goals as goal

pub returns : goal.returns
unfolding set_account
returns c =
    rw c.words.ensures at c.put_words.ensures.words
