-- `carv_objects::sound::owner` meets its contract. Assumes nothing.
use Rattle.std.proofs.Common.{◌≡◌, ap, ℕ, ◌-◌, arith, ◌∙◌}
use Rattle.carv_area.specs.Words.{words}
use Rattle.carv_objects.specs.Laws.SoundWalk.{id_at, entry_at}
use Rattle.carv_objects.specs.Laws.Codes.{word_budget, word_other}
use Rattle.carv_objects.specs.Laws.SoundPlace.{place_here}
use Rattle.carv_objects.specs.Laws.SoundTurn.{front_rise, rise_inj, owner_told}
use Rattle.carv_objects.proofs.sound.owner.Goals as goal

pub place-requires-clause-rise : goal.place-requires-clause-rise
place-requires-clause-rise c =
    front_rise c.requires.front

pub returns : goal.returns
returns c =
    let w = words c.args.t.now in
    let i = c.args.i in
    let f = place_here w i _ _ c.place.ensures c.in_ok-j.j c.in_ok-j.was in
    owner_told w c.args.next i c.in_ok-j.j _ _ c.then_some-2.ensures
    (λ b. record {
      below = omega arith;
      kind = word_budget c.get-2.ensures c.of_code-kind-2.ensures c.is_budget-2.ensures b;
      payer = omega arith;
      first = λ e. absurd (omega arith);
      later = λ h e. (let q : h ≡ i - 1 = omega arith in omega (arith, ap (id_at w) q), f.0);
    })
    (λ b j p. let q = rise_inj w i (front_rise c.requires.front) _ j f.0 (p.later (i - 1) (omega arith)).1 (omega (arith, p.payer)) in
    word_other c.get-2.ensures c.of_code-kind-2.ensures c.is_budget-2.ensures b (ap (λ (k : ℕ). (entry_at w k).kind) q ∙ p.kind))
