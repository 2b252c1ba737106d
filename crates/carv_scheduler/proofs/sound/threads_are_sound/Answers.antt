-- `carv_scheduler::sound::threads_are_sound` meets its contract. Assumes nothing.
use Rattle.std.proofs.Common.{sym, ◌∙◌, true≢false, arith}
use Rattle.carv_area.specs.Words.{words}
use Rattle.carv_scheduler.specs.Laws.SoundRows.{ordered_keyed}
use Rattle.carv_scheduler.specs.Laws.SoundQueue.{walk_none, walk_sound, fit_out, fit_in}
use Rattle.carv_scheduler.proofs.sound.threads_are_sound.Goals.{then-current_fits, else-current_fits, then-idle_fits, else-idle_fits}
use Rattle.carv_scheduler.proofs.sound.threads_are_sound.Goals as goal

pub invariant_of-table : goal.invariant_of-table
invariant_of-table c =
    record { keyed = ordered_keyed c.args.t.now (omega arith) (omega arith) (c.ids_rise.ensures.so c.if-not-ids_rise.false) }

pub queue_fits-requires-clause-walk : goal.queue_fits-requires-clause-walk
queue_fits-requires-clause-walk c = walk_none (words c.args.t.now) (words c.args.q.now) (omega arith)

pub returns-then-queue_fits : goal.returns-then-queue_fits
returns-then-queue_fits c =
    elim c.if-idle_fits.branch [
      | then-idle_fits w ↦ elim c.if-current_fits.branch [
        | then-current_fits v ↦
            let W = w.queue_fits.ensures.on (sym w.value-is ∙ c.if-queue_fits.true) in
            record {
              so = λ e. record {
                ordered = c.ids_rise.ensures.so c.if-not-ids_rise.false;
                current = c.current_fits.ensures.so v.if-current_fits.true;
                idle = v.idle_fits.ensures.so (sym v.value-is ∙ w.if-idle_fits.true);
                queue = walk_sound W;
                threads = fit_out W c.args.current c.args.n c.requires.n_value.0 (rw w.marks-is at (c.threads_fit.ensures.so e));
              };
              not = λ e S. c.threads_fit.ensures.not e (rw w.marks-is (fit_in W c.args.current c.args.n c.requires.n_value.0 S.threads));
            }
        | else-current_fits v ↦ absurd (true≢false (sym w.if-idle_fits.true ∙ v.value-is ∙ v.if-current_fits.false))
      ]
      | else-idle_fits w ↦ absurd (true≢false (sym c.if-queue_fits.true ∙ w.value-is ∙ w.if-idle_fits.false))
    ]
