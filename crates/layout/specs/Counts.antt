-- Counts by queue, which are kept in three arrays beside a state: tail bytes, head bytes, Owed cells.
use Rattle.std.specs.Prelude.{◌≡◌, List, ℕ, length}
use Rattle.model.specs.State.{Byte, Cell, State, count_of, owed_of}
use Rattle.layout.specs.Lengths.{queue_places}
use Rattle.layout.specs.declared.QueueCounts.{QueueCounts}
use Rattle.layout.specs.Entries.{counts_in}

pub record ByQueue : Type 0 where
  pub tails : List ℕ
  pub heads : List ℕ
  pub owing : List ℕ

abbrev pub by_queue : List ℕ → List ℕ → List ℕ → ByQueue
by_queue t h o = record { tails = t; heads = h; owing = o }

abbrev pub counts_of : QueueCounts → ByQueue
counts_of r = by_queue r.tails r.heads r.owing

-- An array of counts, one for each queue, holds these.
pub record CountsAre (counts : List ℕ) (f : ℕ → ℕ) : Type 0 where
  pub long : length counts ≡ queue_places
  pub count_is : (q : ℕ) → counts_in counts q ≡ f q

-- Of each queue its bytes, and its Owed cells.
abbrev pub Tally : List ℕ → List Byte → Type 0
Tally counts xs = CountsAre counts (λ q. count_of q xs)

abbrev pub TallyOwed : List ℕ → List Cell → Type 0
TallyOwed counts cells = CountsAre counts (λ q. owed_of q cells)

-- The counts beside a state are its own.
pub record Tallies (x : State) (counts : ByQueue) : Type 0 where
  pub tails_are : Tally counts.tails x.tail
  pub heads_are : Tally counts.heads x.head
  pub owed_are : TallyOwed counts.owing x.cells
