-- The board's calls question by question: what each replies where the first question that is missed is this one, and where none is. Assumes nothing.
use Rattle.std.specs.Prelude.{◌≡◌, refl, Bool, true, false, ℕ, ◌*◌, ◌≤◌, ◌<◌, length, Some, None}
use Rattle.std.proofs.Common.{eq-eqb, ne_eqb, lt-ltb, le-ltb, le-leb}
use Rattle.std.proofs.lemmas.Bool.{lt-leb}
use Rattle.carv_area.specs.Table.{alter, put, pick}
use Rattle.carv_objects_spec.specs.Reply.{refuse, accept}
use Rattle.carv_scheduler_spec.specs.declared.State.TheVariants.{Inactive, Blocked}
use Rattle.carv_scheduler_spec.specs.declared.Context.{Context}
use Rattle.carv_scheduler_spec.specs.declared.Results.{Results}
use Rattle.carv_scheduler_spec.specs.Killed.{killed}
use Rattle.carv_scheduler_spec.specs.Scheduler.{Board, idle, inactive, running, blocked, is, wait, wait_listed, in_spaces, fresh, thread, has, become, started, with_threads, join, is_blocked, record_of, create_user_thread, start, block_current, is_blocked_on, read_thread, wait_of, waits_on, ended, without, logged, cause_listed, cause_of, kill, woken, wake, ticked, is_due, with_registry, charge_tick, wake_all, tick, Choice, put_back, choose, switch_to, switch_value, plan, word, read_current, read_switches, exit_cause, exit_in, exit_of}

module _ (i budget : ℕ) (stack : Bool) (b : Board) where
  pub create_known : has b.threads i ≡ true → create_user_thread i budget stack b ≡ refuse 5 b
  create_known h = rw h

  module _ (h : has b.threads i ≡ false) where
    pub create_first : i ≡ 0 → create_user_thread i budget stack b ≡ refuse 5 b
    create_first z = rw (h, eq-eqb i 0 z)

    module _ (z : i ≡ 0 → ⊥) where
      pub create_idle : i ≡ idle → create_user_thread i budget stack b ≡ refuse 5 b
      create_idle w = rw (h, ne_eqb i 0 z, eq-eqb i idle w)

      module _ (w : i ≡ idle → ⊥) where
        pub create_full : 128 ≤ length b.threads → create_user_thread i budget stack b ≡ refuse 6 b
        create_full f = rw (h, ne_eqb i 0 z, ne_eqb i idle w, le-ltb (length b.threads) 128 f)

        module _ (f : length b.threads < 128) where
          pub create_stack : stack ≡ false → create_user_thread i budget stack b ≡ refuse 14 b
          create_stack s = rw (h, ne_eqb i 0 z, ne_eqb i idle w, lt-ltb (length b.threads) 128 f, s)

          pub create_done : stack ≡ true → create_user_thread i budget stack b ≡ accept None (with_threads (put i (fresh Inactive (Some budget)) b.threads) b.queue b)
          create_done s = rw (h, ne_eqb i 0 z, ne_eqb i idle w, lt-ltb (length b.threads) 128 f, s)

module _ (i space cspace root : ℕ) (context : Context) (b : Board) where
  pub start_missing : has b.threads i ≡ false → start i space cspace root context b ≡ refuse 7 b
  start_missing h = rw h

  module _ (h : has b.threads i ≡ true) where
    pub start_other : is inactive (thread b.threads i) ≡ false → start i space cspace root context b ≡ refuse 8 b
    start_other s = rw (h, s)

    pub start_done : is inactive (thread b.threads i) ≡ true
        → start i space cspace root context b ≡ accept None (with_threads (alter i (started (in_spaces space cspace root) context) b.threads) (join b.queue i) b)
    start_done s = rw (h, s)

module _ (i : ℕ) (r : Results) (b : Board) where
  pub wake_missing : has b.threads i ≡ false → wake i r b ≡ refuse 7 b
  wake_missing h = rw h

  module _ (h : has b.threads i ≡ true) where
    pub wake_other : is blocked (thread b.threads i) ≡ false → wake i r b ≡ refuse 8 b
    wake_other s = rw (h, s)

    pub wake_done : is blocked (thread b.threads i) ≡ true → wake i r b ≡ accept None (with_threads (alter i (woken r) b.threads) (join b.queue i) b)
    wake_done s = rw (h, s)

module _ (kind number : ℕ) (b : Board) where
  pub block_unlisted : wait_listed kind ≡ false → block_current kind number b ≡ refuse 4 b
  block_unlisted l = rw l

  module _ (l : wait_listed kind ≡ true) where
    pub block_other : is running (thread b.threads b.current) ≡ false → block_current kind number b ≡ refuse 8 b
    block_other s = rw (l, s)

    module _ (s : is running (thread b.threads b.current) ≡ true) where
      pub block_idle : b.current ≡ idle → block_current kind number b ≡ refuse 8 b
      block_idle w = rw (l, s, eq-eqb b.current idle w)

      pub block_done : (b.current ≡ idle → ⊥)
          → block_current kind number b ≡ accept None (with_threads (alter b.current (become (Blocked (wait kind number))) b.threads) b.queue b)
      block_done w = rw (l, s, ne_eqb b.current idle w)

module _ (i kind number : ℕ) (b : Board) where
  pub blocked_unlisted : wait_listed kind ≡ false → is_blocked_on i kind number b ≡ refuse 4 b
  blocked_unlisted l = rw l

  module _ (l : wait_listed kind ≡ true) where
    pub blocked_missing : has b.threads i ≡ false → is_blocked_on i kind number b ≡ accept (Some (is_blocked false)) b
    blocked_missing h = rw (l, h)

    pub blocked_told : (x : Bool) → has b.threads i ≡ true
        → x ≡ waits_on (wait kind number) (wait_of (thread b.threads i))
        → is_blocked_on i kind number b ≡ accept (Some (is_blocked x)) b
    blocked_told x h e = rw (l, h, ← e)

module _ (i : ℕ) (b : Board) where
  pub read_missing : has b.threads i ≡ false → read_thread i b ≡ refuse 7 b
  read_missing h = rw h

  pub read_done : has b.threads i ≡ true → read_thread i b ≡ accept (Some (record_of (thread b.threads i))) b
  read_done h = rw h

  pub exit_of_done : exit_of i b ≡ accept (Some (exit_cause (exit_in i b.exits))) b
  exit_of_done = refl

module _ (b : Board) where
  pub read_current_done : read_current b ≡ accept (Some (word b.current)) b
  read_current_done = refl

  pub read_switches_done : read_switches b ≡ accept (Some (word b.switches)) b
  read_switches_done = refl

-- `tick` and `plan`.
module _ (n : ℕ) (b : Board) where
  pub tick_late : 18_446_744_073_709 < n → tick n b ≡ refuse 3 b
  tick_late h = rw (lt-leb n 18_446_744_073_709 h)

  pub tick_done : n ≤ 18_446_744_073_709 → tick n b ≡ accept None (
      wake_all (pick (is_due n) b.threads)
      (with_registry (charge_tick (n * 1_000_000) (thread b.threads b.current).budget b.registry)
      (with_threads (alter b.current ticked b.threads) b.queue b)))
  tick_done h = rw (le-leb n 18_446_744_073_709 h)

  pub plan_late : 18_446_744_073_709 < n → plan n b ≡ refuse 3 b
  plan_late h = rw (lt-leb n 18_446_744_073_709 h)

  -- the planning's choice among the queue that the current thread is put back into
  abbrev pub planned : Choice
  planned = choose (n * 1_000_000) (put_back b).threads (put_back b).queue (put_back b).registry

  pub plan_done : n ≤ 18_446_744_073_709 → plan n b ≡ accept (Some (switch_value b.current planned (put_back b))) (switch_to planned (put_back b))
  plan_done h = rw (le-leb n 18_446_744_073_709 h)

-- `kill`, question by question.
module _ (x cause : ℕ) (b : Board) where
  pub kill_unlisted : cause_listed cause ≡ false → kill x cause b ≡ refuse 4 b
  kill_unlisted c = rw c

  pub kill_idle : cause_listed cause ≡ true → x ≡ idle → kill x cause b ≡ refuse 5 b
  kill_idle c n = rw (c, eq-eqb x idle n)

  module _ (c : cause_listed cause ≡ true) (n : x ≡ idle → ⊥) where
    pub kill_missing : has b.threads x ≡ false → kill x cause b ≡ refuse 7 b
    kill_missing h = rw (c, ne_eqb x idle n, h)

    pub kill_done : has b.threads x ≡ true → kill x cause b ≡ accept (Some (ended (wait_of (thread b.threads x)))) (record {
      registry = b.registry;
      threads = killed x b;
      queue = without x b.queue;
      current = b.current;
      switches = b.switches;
      exits = logged (record { thread = x; cause = cause_of cause }) b.exits;
    })
    kill_done h = rw (c, ne_eqb x idle n, h)
