-- What `==` of states tests. Assumes nothing.
use Rattle.std.specs.Prelude.{◌≡◌, refl, Bool, true, false, not}
use Rattle.std.proofs.Common.{sym, ◌∙◌}
use Rattle.std.proofs.lemmas.Bool.{not-true, not-false}
use Rattle.carv_scheduler_spec.specs.declared.Wait.{Wait}
use Rattle.carv_scheduler_spec.specs.declared.Wait.TheVariants.{Send, Recv, Reply, Notification, Sleep}
use Rattle.carv_scheduler_spec.specs.declared.State.{State}
use Rattle.carv_scheduler_spec.specs.declared.State.TheVariants.{Inactive, Ready, Running, Blocked, Dead}
use Rattle.carv_scheduler_spec.specs.contracts.StatePartialEq.TheImpl as equality
use Rattle.carv_scheduler_spec.specs.Scheduler.{inactive, running, dead, wait_in, waits_on}

-- the derived `eq`
abbrev pub equal : State → State → Bool
equal = equality.ghosts.eq

pub equal_inactive : (x : State) → equal x Inactive ≡ inactive x
equal_inactive Inactive = refl
equal_inactive Ready = refl
equal_inactive Running = refl
equal_inactive (Blocked w) = refl
equal_inactive Dead = refl

pub equal_running : (x : State) → equal x Running ≡ running x
equal_running Inactive = refl
equal_running Ready = refl
equal_running Running = refl
equal_running (Blocked w) = refl
equal_running Dead = refl

pub equal_dead : (x : State) → equal x Dead ≡ dead x
equal_dead Inactive = refl
equal_dead Ready = refl
equal_dead Running = refl
equal_dead (Blocked w) = refl
equal_dead Dead = refl

pub equal_blocked : (x : State) (w : Wait) → equal x (Blocked w) ≡ waits_on w (wait_in x)
equal_blocked Inactive w = refl
equal_blocked Ready w = refl
equal_blocked Running w = refl
equal_blocked Dead w = refl
equal_blocked (Blocked (Send m)) (Send n) = refl
equal_blocked (Blocked (Send m)) (Recv n) = refl
equal_blocked (Blocked (Send m)) (Reply n) = refl
equal_blocked (Blocked (Send m)) (Notification n) = refl
equal_blocked (Blocked (Send m)) (Sleep n) = refl
equal_blocked (Blocked (Recv m)) (Send n) = refl
equal_blocked (Blocked (Recv m)) (Recv n) = refl
equal_blocked (Blocked (Recv m)) (Reply n) = refl
equal_blocked (Blocked (Recv m)) (Notification n) = refl
equal_blocked (Blocked (Recv m)) (Sleep n) = refl
equal_blocked (Blocked (Reply m)) (Send n) = refl
equal_blocked (Blocked (Reply m)) (Recv n) = refl
equal_blocked (Blocked (Reply m)) (Reply n) = refl
equal_blocked (Blocked (Reply m)) (Notification n) = refl
equal_blocked (Blocked (Reply m)) (Sleep n) = refl
equal_blocked (Blocked (Notification m)) (Send n) = refl
equal_blocked (Blocked (Notification m)) (Recv n) = refl
equal_blocked (Blocked (Notification m)) (Reply n) = refl
equal_blocked (Blocked (Notification m)) (Notification n) = refl
equal_blocked (Blocked (Notification m)) (Sleep n) = refl
equal_blocked (Blocked (Sleep m)) (Send n) = refl
equal_blocked (Blocked (Sleep m)) (Recv n) = refl
equal_blocked (Blocked (Sleep m)) (Reply n) = refl
equal_blocked (Blocked (Sleep m)) (Notification n) = refl
equal_blocked (Blocked (Sleep m)) (Sleep n) = refl

-- `!=` was true, or false: b is the `==` of the two, and c what it tests
module _ (b c r : Bool) (e : r ≡ not b) (q : b ≡ c) where
  pub differs : r ≡ true → c ≡ false
  differs h = sym q ∙ not-true b (sym e ∙ h)

  pub agrees : r ≡ false → c ≡ true
  agrees h = sym q ∙ not-false b (sym e ∙ h)
