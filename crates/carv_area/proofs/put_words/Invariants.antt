-- The loop's invariant in `carv_area::put_words`: with the words from k on, those are all written. Assumes nothing.
use Rattle.std.specs.Prelude.{◌≡◌, ◌+◌, drop}
use Rattle.std.proofs.lemmas.List.Edits.{sets}
use Rattle.carv_area.specs.Words.{words, rest}
use Rattle.carv_area.proofs.put_words.Given as goal

abbrev pub invariant-loop-k : goal.invariant-loop-k
invariant-loop-k l = record {
  words : sets (words l.t) (l.o + l.k) (drop l.k l.new) ≡ sets (words l.initial.t) l.o l.new;
  rest : rest l.t ≡ rest l.initial.t;
}
