-- `replay_records::differences` meets its contract. Assumes nothing.
use Rattle.std.proofs.Common.{◌≡◌, ◌+◌, cond, List, ℕ, refl, arith, subst}
use Rattle.std.specs.Fork.{slice_chunk}
use Rattle.replay_records.specs.Replayed.{Replayed}
use Rattle.replay_records.proofs.Laws.Replayed.{one_more, read_out}
use Rattle.replay_records.proofs.differences.Goals as goal
use Rattle.replay_records.proofs.differences.Goals.{then-not-replay, else-not-replay}

pub loop-i-init : goal.loop-i-init
unfolding Replayed
loop-i-init g c = record { replayed = (refl, refl); few = omega arith }

pub loop-i-preserved : goal.loop-i-preserved
loop-i-preserved g c =
    let r = c.replay.result in
    let cut = c.as_chunks.ensures in
    let read : c.index-records-i.result ≡ slice_chunk c.args.block.now g.row.SIZE c.loop-i.i =
    read_out _ _ _ _ cut.front _ _ c.loop-i-test.true cut.front_len c.index-records-i.is in
    let e : c.if-not-replay.count ≡ c.loop-i.count + cond r 0 1 =
    elim c.if-not-replay.branch [
      | then-not-replay w ↦ rw (w.count-is, w.if-not-replay.true) refl
      | else-not-replay w ↦ rw (w.count-is, w.if-not-replay.false) (omega arith)
    ] in
    record {
      replayed = one_more _ _ _ _ _ _ r c.loop-i.invariant.replayed (subst (λ (x : List ℕ). g.P.Replay.replays x c.loop-i.program r c.replay.new.self) read c.replay.ensures) _ e;
      few =
          elim c.if-not-replay.branch [
            | then-not-replay w ↦ omega arith
            | else-not-replay w ↦ omega arith
          ];
    }
