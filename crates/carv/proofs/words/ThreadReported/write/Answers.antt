-- `carv::words::ThreadReported::write` meets its contract. Assumes nothing.
use Rattle.carv.proofs.words.ThreadReported.write.Goals as goal

pub returns : goal.returns
returns c = rw c.words.ensures at c.write_words.ensures
