-- `replay_records::next_block` leaves room for the blocks to come. Assumes nothing.
use Rattle.std.proofs.Common.{◌≡◌, ◌/◌, ◌≤◌, ℕ, length, take, arith, length-take-le, subst}
use Rattle.replay_records.proofs.Laws.Tally.{added_room, added_fewer}
use Rattle.replay_records.proofs.next_block.Goals as goal

pub returns-clause-room : goal.returns-clause-room
returns-clause-room g c =
    let read = c.read_block-read in
    let n = read.result.bytes in
    let d = c.differences-different in
    let long : length (take n read.new.buf) ≡ n = length-take-le _ _ (omega (arith, read.ensures.upper_bound.0, read.array_long)) in
    let few : d.result ≤ n / g.row.SIZE = subst (λ (k : ℕ). d.result ≤ k / g.row.SIZE) long d.ensures.few in
    rw c.add.ensures (added_room _ _ _ _ c.requires.0 c.requires.1 read.ensures.upper_bound.0 few, added_fewer _ _ _ _ c.requires.1)
