-- `carv_objects::sound::is_sound` meets its contract: specs/Laws/SoundBridge.antt. Assumes nothing.
use native.Mathlib.Omega.{arith}
use mathlib.Core.Path.{◌∙◌}
use Rattle.std.proofs.Common.{ne_eqb, subst, List, ℕ}
use Rattle.std.proofs.lemmas.Option.{MatchOption-at_some}
use Rattle.carv_area.specs.Words.{words}
use Rattle.carv_objects.specs.Laws.SoundWalk.{Tells, SoundTable}
use Rattle.carv_objects.specs.Area.{table}
use Rattle.carv_objects.specs.Laws.SoundBridge.{asked_size, asked}
use Rattle.carv_objects.proofs.sound.is_sound.Goals as goal

pub returns-then-area-eq-BYTES : goal.returns-then-area-eq-BYTES
unfolding table
returns-then-area-eq-BYTES c =
    let same = (MatchOption-at_some _ _ _ c.unwrap.ensures c.as_array.ensures.cases).same in
    asked _ _ _ (omega arith) c.next_id.ensures (subst (λ (t : List ℕ). Tells c.table_is_sound.result (SoundTable (words t) c.next_id.result)) same c.table_is_sound.ensures)

pub returns-else-area-eq-BYTES : goal.returns-else-area-eq-BYTES
returns-else-area-eq-BYTES c =
    ne_eqb _ _ (λ e. omega arith) ∙ asked_size _ (λ e. omega arith)
