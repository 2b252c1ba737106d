-- Document 01's soundness of a board: a test that computes. proofs/Laws/SoundFacts.antt has the same as a record of facts. "Every code is a listed one" is asked of
-- the stored words: Codes.antt has that test. Assumes nothing.
use Rattle.std.specs.Prelude.{Bool, true, false, not, ◌&&◌, ◌||◌, List, [], ◌∷◌, ℕ, ◌^◌, eqb, leb, length, is_none}
use Rattle.carv_objects_spec.specs.Sound as objects
use Rattle.carv_objects_spec.specs.Sound.{all, every, rises}
use Rattle.carv_scheduler_spec.specs.declared.Thread.{Thread}
use Rattle.carv_scheduler_spec.specs.Scheduler.{Board, idle, inactive, ready, running, dead, is, most_exits, most_threads, thread, has}

abbrev pub member : ℕ → List ℕ → Bool
member i [] = false
member i (j ∷ q) = eqb j i || member i q

abbrev pub distinct : List ℕ → Bool
distinct [] = true
distinct (i ∷ q) = not (member i q) && distinct q

abbrev pub each : {A : Type 0} → (A → Bool) → List A → Bool
each p [] = true
each p (i ∷ q) = p i && each p q

abbrev pub implies : Bool → Bool → Bool
implies a b = not a || b

abbrev pub same : Bool → Bool → Bool
same true b = b
same false b = not b

-- has the thread i no budget? "thread 0 and idle, and no others"
abbrev pub unpaid : ℕ → Bool
unpaid i = eqb i 0 || eqb i idle

-- what is asked of thread i, t, of a board b
abbrev pub thread_tests : Board → ℕ → Thread → List Bool
thread_tests b i t =
    -- "queue ids .. are exactly the Ready threads other than idle": the Ready ones are in the queue
    implies (is ready t) (eqb i idle || member i b.queue)
    -- "only the current thread is Dead, only it or idle Running"
    ∷ implies (is dead t) (eqb i b.current)
    ∷ implies (is running t) (eqb i idle || eqb i b.current)
    -- "thread 0 and idle, and no others, have no budget"
    ∷ same (is_none t.budget) (unpaid i) ∷ []

-- what is asked of a board
abbrev pub board_tests : Board → List Bool
board_tests b =
    objects.sound b.registry
    -- "at most .. 128 threads; .. thread ids only rise"
    ∷ leb (length b.threads) most_threads
    ∷ rises 0 (2 ^ 64) b.threads
    ∷ every (λ i t. all (thread_tests b i t)) b.threads
    -- "queue ids are distinct", and each is a Ready thread other than idle
    ∷ distinct b.queue
    ∷ each (λ i. not (eqb i idle) && (has b.threads i && is ready (thread b.threads i))) b.queue
    -- "the current thread is there, not Inactive"
    ∷ has b.threads b.current
    ∷ not (is inactive (thread b.threads b.current))
    -- "idle is there, Ready or Running, and Running if current"
    ∷ has b.threads idle
    ∷ (is ready (thread b.threads idle) || is running (thread b.threads idle))
    ∷ implies (eqb b.current idle) (is running (thread b.threads idle))
    -- "at most 32 exits"
    ∷ leb (length b.exits) most_exits ∷ []

abbrev pub sound : Board → Bool
sound b = all (board_tests b)
