-- `carv_objects::sound::whole` meets its contract. The loop's invariant: the rows below i are walked. Assumes nothing.
use native.Mathlib.Omega.{arith}
use mathlib.Core.Path.{◌≡◌, sym, ◌∙◌}
use mathlib.Core.Bool.{false≢true}
use lib.ListN.{get_or}
use Rattle.carv_area.specs.Words.{words}
use Rattle.carv_objects.specs.Laws.SoundTurn.{walk_none, ended, ended_back}
use Rattle.carv_objects.proofs.sound.whole.Goals as goal

pub loop-i-init : goal.loop-i-init
loop-i-init c =
    let d = c.default-figures.ensures in
    let z : c.default-figures.result ≡ record { used = 0; memory = 0; cpu = 0 } = λ i. record { used = d.0 i; memory = d.1.0 i; cpu = d.1.1 i } in
    rw z (walk_none _ _)

pub returns : goal.returns
returns c =
    let e : c.loop-i.i ≡ get_or (words c.args.t.now) 0 0 = omega arith in
    record {
      so = λ f. ended c.loop-i.invariant e (omega arith) (omega arith) (sym c.are_spent.ensures ∙ f);
      not = λ f all. false≢true (sym f ∙ c.are_spent.ensures ∙ ended_back c.loop-i.invariant e (omega arith) all);
    }
