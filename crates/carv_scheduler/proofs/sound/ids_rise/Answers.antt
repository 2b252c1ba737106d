-- `carv_scheduler::sound::ids_rise` meets its contract. The loop's invariant: the ids below place i rise, and before is the last of them. Assumes nothing.
use Rattle.std.proofs.Common.{true≢false, arith}
use mathlib.Core.Bool.{false≢true}
use Rattle.carv_area.specs.Words.{words}
use Rattle.carv_area.specs.Laws.Words.{word_below}
use Rattle.carv_scheduler.specs.Laws.SoundRows.{order_none, order_more, order_off, order_all}
use Rattle.carv_scheduler.proofs.sound.ids_rise.Goals as goal

pub returns-then-n-eq0 : goal.returns-then-n-eq0
returns-then-n-eq0 c =
    record { so = λ e. order_none (words c.args.t.now) (λ k. word_below c.args.t.now k c.fits-t) (omega arith); not = λ e. absurd (true≢false e) }

pub returns-then-id-before : goal.returns-then-id-before
returns-then-id-before c =
    record { so = λ e. absurd (false≢true e); not = λ e. order_off c.loop-i.invariant c.requires.n_value c.loop-i-test.true _ c.get-id.ensures c.if-id-before.true }

pub loop-i-preserved : goal.loop-i-preserved
loop-i-preserved c =
    order_more c.loop-i.invariant c.requires.n_value c.loop-i-test.true _ c.get-id.ensures c.if-id-before.false

pub returns : goal.returns
returns c =
    record { so = λ e. order_all c.loop-i.invariant c.requires.n_value (λ k. word_below c.args.t.now k c.fits-t) c.loop-i-test.false; not = λ e. absurd (true≢false e) }
