-- `carv_objects::sound::turn` meets its contract. Assumes nothing.
use native.Mathlib.Omega.{arith}
use mathlib.Core.Bool.{false≢true, true≢false}
use Rattle.carv_objects.specs.Laws.SoundTurn.{owner_here, owner_none, turned_on, turned_off}
use Rattle.carv_objects.proofs.sound.turn.Goals as goal

pub returns-then-not-is_plain : goal.returns-then-not-is_plain
returns-then-not-is_plain c =
    record {
      on = λ q. absurd (false≢true q);
      off = λ q all. c.is_plain.ensures.not c.if-not-is_plain.true
          (rw (c.get-code.ensures, c.read_entry-e.ensures) (all.front.plain c.args.i (omega arith)));
    }

pub owner-requires : goal.owner-requires
owner-requires c =
    record { i_in_bounds = omega arith; front = c.requires.walk.front }

pub returns-in_default : goal.returns-in_default
returns-in_default c =
    record {
      on = λ q. absurd (false≢true q);
      off = λ q all. let o = all.front.paid c.args.i (omega arith) in
          owner_none _ _ _ _ c.owner.ensures c.in_default.is o.place o.is;
    }

pub returns-in_default-checked_sub : goal.returns-in_default-checked_sub
returns-in_default-checked_sub c =
    let p = rw c.get-code.ensures at (c.is_plain.ensures.so c.if-not-is_plain.false) in
    let P = owner_here _ _ _ _ c.owner.ensures _ c.in-Some.is in
    record {
      on = λ q. absurd (false≢true q);
      off = λ q. turned_off c.requires.walk c.requires.i_bound c.requires.i_bound_2 c.read_entry-e.ensures p P _ _ c.reserved_for.ensures c.reserved_for-2.ensures _ _ c.checked_sub.ensures c.in_default-checked_sub.is;
    }

pub returns : goal.returns
returns c =
    let p = rw c.get-code.ensures at (c.is_plain.ensures.so c.if-not-is_plain.false) in
    let P = owner_here _ _ _ _ c.owner.ensures _ c.in-Some.is in
    record {
      on = λ q. turned_on c.requires.walk c.requires.i_bound c.requires.i_bound_2 c.read_entry-e.ensures p P _ _ c.reserved_for.ensures c.reserved_for-2.ensures _ _ c.checked_sub.ensures _ c.in-Some-checked_sub.is;
      off = λ q. absurd (true≢false q);
    }
