-- The rules of a state in the two parts in which code judges them: numbers alone, and figures by queue.
use Rattle.std.specs.Prelude.{◌≡◌, Bool, true, false, [], ◌∷◌, ℕ, ◌+◌, ◌*◌, ltb, leb, Option, Some, None}
use Rattle.model.specs.Basics.{between, all_true, all_below}
use Rattle.model.specs.Sizes.{paper_limits, paper, accepts, tail_size, head_size}
use Rattle.model.specs.State.{State, keeps}
use Rattle.layout.specs.declared.Regs.{Regs}
use Rattle.layout.specs.declared.QueueCounts.{QueueCounts}
use Rattle.layout.specs.Counts.{counts_of, Tallies}
use Rattle.layout.specs.Views.{sizes_in}

-- Accepted sizes, the phase below b, each mark between its fill and its cache size, and the last one asked below Q.
abbrev pub regs_keep : Regs → Bool
regs_keep regs =
    all_true (
    accepts paper_limits (sizes_in regs) ∷
    ltb regs.phase regs.block ∷
    between regs.tail_fill regs.tail_mark (tail_size (sizes_in regs)) ∷
    between regs.head_fill regs.head_mark (head_size (sizes_in regs)) ∷
    ltb regs.last_asked regs.queues ∷ [])

-- The first ring block below K, room for the tail bytes, backing for the Owed cells: by the numbers of one queue, of a
-- queue among all, and of all.
abbrev pub ring_keeps : Regs → ℕ → ℕ → ℕ → ℕ → ℕ → Bool
ring_keeps regs first count tail head owed =
    all_true (
    ltb first regs.depth ∷
    leb (tail + regs.block * count) (regs.depth * regs.block) ∷
    leb owed (head + regs.block * count) ∷ [])

abbrev pub queue_keeps : Regs → (ℕ → ℕ) → (ℕ → ℕ) → (ℕ → ℕ) → (ℕ → ℕ) → (ℕ → ℕ) → ℕ → Bool
queue_keeps regs firsts stored tails heads owing q =
    ring_keeps regs (firsts q) (stored q) (tails q) (heads q) (owing q)

abbrev pub queues_keep : Regs → (ℕ → ℕ) → (ℕ → ℕ) → (ℕ → ℕ) → (ℕ → ℕ) → (ℕ → ℕ) → Bool
queues_keep regs firsts stored tails heads owing =
    all_below regs.queues (queue_keeps regs firsts stored tails heads owing)

-- Whether a state keeps the rules, and where it does its counts by queue.
abbrev pub RulesSays : State → Option QueueCounts → Type 0
RulesSays x (Some counts) = (keeps paper x ≡ true) × Tallies x (counts_of counts)
RulesSays x None = keeps paper x ≡ false
