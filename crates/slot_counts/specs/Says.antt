-- Counts by queue: taken of a state, and what each step of a slot makes of tail bytes, head bytes and Owed cells.
use Rattle.std.specs.Prelude.{◌≡◌, Bool, true, List, ℕ, ◌+◌, ◌-◌, ◌≤◌, eqb, length}
use Rattle.std.proofs.Math.Option.{Option, some, none}
use Rattle.model.specs.Basics.{choose, all_of}
use Rattle.model.specs.Sizes.{Sizes, paper_limits, accepts, lookahead}
use Rattle.model.specs.State.{Byte, Cell, count_of, owes, byte_below, cell_below}
use Rattle.model.specs.Slot.{Call, arriving}
use Rattle.layout.specs.declared.Regs.{Regs}
use Rattle.layout.specs.Lengths.{tail_places, head_places, cell_places, queue_places}
use Rattle.layout.specs.Entries.{bytes_in, cells_in, counts_in}
use Rattle.layout.specs.Counts.{ByQueue, CountsAre, Tally, TallyOwed}
use Rattle.layout.specs.Views.{sizes_in}
use Rattle.layout.specs.Figures.{new_cell}
use Rattle.lookahead.specs.Says.{spent}

-- What counting asks: accepted sizes, fills within their arrays, queue numbers that have a place.
pub record Countable (regs : Regs) (tail head cells : List ℕ) : Type 0 where
  pub tail_long : length tail ≡ tail_places
  pub head_long : length head ≡ head_places
  pub cells_long : length cells ≡ cell_places
  pub tail_in : regs.tail_fill ≤ tail_places
  pub head_in : regs.head_fill ≤ head_places
  pub sizes-ok : accepts paper_limits (sizes_in regs) ≡ true
  pub tail_known : all_of (byte_below queue_places) (bytes_in regs.tail_fill tail) ≡ true
  pub head_known : all_of (byte_below queue_places) (bytes_in regs.head_fill head) ≡ true
  pub cells_known : all_of (cell_below queue_places) (cells_in (lookahead (sizes_in regs)) cells) ≡ true

pub record TakeSays (regs : Regs) (tail head cells : List ℕ) (counts : ByQueue) : Type 0 where
  pub tails_are : Tally counts.tails (bytes_in regs.tail_fill tail)
  pub heads_are : Tally counts.heads (bytes_in regs.head_fill head)
  pub owed_are : TallyOwed counts.owing (cells_in (lookahead (sizes_in regs)) cells)

-- n at one queue, 0 elsewhere.
abbrev pub only : ℕ → ℕ → ℕ → ℕ
only p n q = choose (eqb p q) n 0

-- Tail bytes after the arrival, and after the request where it takes one.
abbrev pub arrival_counted : Option Byte → (ℕ → ℕ) → ℕ → ℕ
arrival_counted arrival f q = f q + count_of q (arriving arrival)

abbrev pub less_taken : Bool → Option ℕ → (ℕ → ℕ) → ℕ → ℕ
less_taken owing none f q = f q
less_taken owing (some p) f q = f q - choose owing 0 (only p 1 q)

-- Owed cells after the request.
abbrev pub with_owed : Bool → Option ℕ → (ℕ → ℕ) → ℕ → ℕ
with_owed owing request f q = f q + owes q (new_cell owing request)

-- A block less, or more, of the queue that is moved.
abbrev pub less_block : ℕ → Option ℕ → (ℕ → ℕ) → ℕ → ℕ
less_block b none f q = f q
less_block b (some p) f q = f q - only p b q

abbrev pub with_block : ℕ → Option ℕ → (ℕ → ℕ) → ℕ → ℕ
with_block b none f q = f q
with_block b (some p) f q = f q + only p b q

-- Tail bytes as the write finds them.
abbrev pub tails_asked : Bool → Call → (ℕ → ℕ) → ℕ → ℕ
tails_asked owing call tails = less_taken owing call.request (arrival_counted call.arrival tails)

-- The counts that an accepted slot leaves: where the leaving cell is Owed a head byte and an Owed cell are gone.
pub record TurnSays (s : Sizes) (cell : Cell) (call : Call) (is_owed : Bool) (written readQueue : Option ℕ)
    (before after : ByQueue) : Type 0 where
  pub tails_are : CountsAre after.tails
      (less_block s.b written (tails_asked is_owed call (counts_in before.tails)))
  pub heads_are : CountsAre after.heads (with_block s.b readQueue (spent (counts_in before.heads) cell))
  pub owed_are : CountsAre after.owing (with_owed is_owed call.request (spent (counts_in before.owing) cell))
