-- A small state, its call and its answer, read out of registers, arrays and values: numbers that are all different, so
-- that two in each other's place would be seen. Entries are in hex: queue and value of a byte are two digits each, and
-- a cell has its kind before them. Each array is longer than what is read of it.
use Rattle.std.specs.Prelude.{◌≡◌, true, false, List, [], ◌∷◌, ℕ, length, replicate, Some, None, Ok, Err}
use Rattle.std.proofs.Math.Option.{some, none}
use Rattle.model.specs.Basics.{tabulate}
use Rattle.model.specs.Sizes.{sizes}
use Rattle.model.specs.State.{byte, empty, held, owed, ring, State, state_from}
use Rattle.model.specs.Slot.{number_alone}
use Rattle.model.specs.Calls.{both, idle}
use Rattle.layout.specs.declared.Byte.{Byte}
use Rattle.layout.specs.declared.Outcome.{Outcome}
use Rattle.layout.specs.declared.Refusal.TheVariants.{TailFull}
use Rattle.layout.specs.declared.Regs.{Regs}
use Rattle.layout.specs.declared.Told.{Told}
use Rattle.layout.specs.Calls.{arrival_in, request_in, delivery_in, chosen_in, refill_in, call_in, request_number_in}
use Rattle.layout.specs.Calls.{reply_in, told_in}
use Rattle.layout.specs.Counts.{ByQueue, CountsAre, Tallies}
use Rattle.layout.specs.Views.{Arrays, Long, state_in}
use Rattle.layout.specs.Lent.{Lent, found, left, counts_found, counts_left}
use Rattle.layout.specs.Figures.{Figures, figures_of, figures_in, new_cell}

-- Q 3, b 2, K 4, so that there are 4 cells.
abbrev pub example_regs : Regs
example_regs = record {
  queues = 3;
  block = 2;
  depth = 4;
  phase = 1;
  tail_fill = 2;
  head_fill = 3;
  tail_mark = 5;
  head_mark = 6;
  last_asked = 1;
}

-- A cell of kind 0 is empty whatever follows, one of kind 3 is Owed as one of kind 2 is.
abbrev pub example_arrays : Arrays
example_arrays = record {
  tail = 0x0161 ∷ 0x0062 ∷ 0x0263 ∷ [];
  head = 0x0264 ∷ 0x0065 ∷ 0x0266 ∷ 0x0167 ∷ [];
  cells = 0x00168 ∷ 0x10169 ∷ 0x20200 ∷ 0x30100 ∷ 0x1026a ∷ [];
  firsts = 1 ∷ 0 ∷ 3 ∷ 2 ∷ [];
  stored = 2 ∷ 0 ∷ 1 ∷ 4 ∷ [];
}

abbrev pub example_state : State
example_state =
    state_from (sizes 3 2 4) 1
    (byte 1 0x61 ∷ byte 0 0x62 ∷ [])
    (byte 2 0x64 ∷ byte 0 0x65 ∷ byte 2 0x66 ∷ [])
    (empty ∷ held 1 0x69 ∷ owed 2 ∷ owed 1 ∷ [])
    (ring 1 2 ∷ ring 0 0 ∷ ring 3 1 ∷ [])
    5 6 1

-- A byte of the code's.
abbrev code_byte : ℕ → ℕ → Byte
code_byte q v = record { queue = q; value = v }

-- What a slot did that dropped its arrival, each number another one.
abbrev pub example_outcome : Outcome
example_outcome = record {
  arrival_dropped = true;
  request_dropped = false;
  delivery = Some (code_byte 4 6);
  written = Some 8;
  read = Some (record { queue = 9; slots_left = 10 });
}

-- What no slot tells, each number another one.
abbrev pub example_told : Told
example_told = record {
  number = 1;
  arrival_number = 2;
  request_number = 3;
  delivery = Some (code_byte 4 5);
  written = Some 6;
  read = Some 7;
  slots_left = 8;
}

-- The counts by queue beside that state, in arrays of 64.
abbrev pub example_counts : ByQueue
example_counts = record {
  tails = 1 ∷ 1 ∷ 0 ∷ replicate 61 0;
  heads = 1 ∷ 0 ∷ 2 ∷ replicate 61 0;
  owing = 0 ∷ 1 ∷ 1 ∷ replicate 61 0;
}

-- Figures of the queues 0 to 3: tail bytes, head bytes, Owed cells, blocks. There is no queue 3.
abbrev by_queues : Figures → List (List ℕ)
by_queues f =
    tabulate 4 f.tails ∷
    tabulate 4 f.heads ∷
    tabulate 4 f.owed ∷
    tabulate 4 f.blocks ∷ []

abbrev pub example_figures : List (List ℕ)
example_figures =
    (1 ∷ 1 ∷ 0 ∷ 0 ∷ []) ∷
    (1 ∷ 0 ∷ 2 ∷ 0 ∷ []) ∷
    (0 ∷ 1 ∷ 1 ∷ 0 ∷ []) ∷
    (2 ∷ 0 ∷ 1 ∷ 0 ∷ []) ∷ []

pub record FiguresAre (f : Figures) : Type 0 where
  pub sizes-are : f.sizes ≡ sizes 3 2 4
  pub fill_is : f.fill ≡ 2
  pub queues_are : by_queues f ≡ example_figures

pub record ExampleReads : Type 0 where
  pub state_is : state_in example_regs example_arrays ≡ example_state
  pub arrival_is : arrival_in (Some (code_byte 1 65)) ≡ some (byte 1 65)
  pub no_arrival : arrival_in None ≡ none
  pub request-is : request_in (Some 2) ≡ some 2
  pub no_request : request_in None ≡ none
  pub delivery_is : delivery_in (Some (code_byte 1 66)) ≡ some (byte 1 66)
  pub no_delivery : delivery_in None ≡ none
  pub chosen_is : chosen_in (Some 2) ≡ some 2
  pub none_chosen : chosen_in None ≡ none
  pub refill_is : refill_in (Some (record { queue = 2; slots_left = 3 })) ≡ record { queue = some 2; slots_left = 3 }
  pub no_refill_is : refill_in None ≡ record { queue = none; slots_left = 0 }
  pub reply_is : reply_in (Ok example_outcome) ≡ record {
    number = 0;
    arrival_number = 5;
    request_number = 0;
    delivered = some (byte 4 6);
    written = some 8;
    read = some 9;
    slots_left = 10;
  }
  pub both_dropped_are : reply_in (Ok (record example_outcome { request_dropped = true })) ≡ record {
    number = 0;
    arrival_number = 5;
    request_number = 7;
    delivered = some (byte 4 6);
    written = some 8;
    read = some 9;
    slots_left = 10;
  }
  pub told_is : told_in example_told ≡ record {
    number = 1;
    arrival_number = 2;
    request_number = 3;
    delivered = some (byte 4 5);
    written = some 6;
    read = some 7;
    slots_left = 8;
  }
  pub request_dropped_is : request_number_in (record example_outcome { request_dropped = true }) ≡ 7
  pub reply_refused : reply_in (Err TailFull) ≡ number_alone 9
  pub call_is : call_in (record { arrival = Some (code_byte 1 65); request = Some 2 }) ≡ both 1 65 2
  pub call_idle : call_in (record { arrival = None; request = None }) ≡ idle
  pub counts_are : Tallies example_state example_counts
  pub figures_counted : FiguresAre (figures_of example_state)
  pub figures_kept : FiguresAre (figures_in example_regs example_counts example_arrays.stored)
  pub new_owed : new_cell true (some 2) ≡ owed 2
  pub new_held : new_cell false (some 2) ≡ empty
  pub new_empty : new_cell true none ≡ empty
  -- How long the arrays are.
  pub long_says : (m : Arrays) → Long m
      → (length m.tail ≡ 2144)
      × (length m.head ≡ 4034)
      × (length m.cells ≡ 2017)
      × (length m.firsts ≡ 64)
      × (length m.stored ≡ 64)
  pub counts_long : (counts : List ℕ) (f : ℕ → ℕ) → CountsAre counts f → length counts ≡ 64
  -- What is lent, as it was found and as it was left.
  pub found-is : (t h c f s : Lent)
      → found t h c f s ≡ record {
        tail = t.entry.now;
        head = h.entry.now;
        cells = c.entry.now;
        firsts = f.entry.now;
        stored = s.entry.now;
      }
  pub left_is : (t h c f s : Lent)
      → left t h c f s ≡ record {
        tail = t.exit.now;
        head = h.exit.now;
        cells = c.exit.now;
        firsts = f.exit.now;
        stored = s.exit.now;
      }
  pub counts_found : (t h o : Lent)
      → counts_found t h o ≡ record { tails = t.entry.now; heads = h.entry.now; owing = o.entry.now }
  pub counts_are_left : (t h o : Lent)
      → counts_left t h o ≡ record { tails = t.exit.now; heads = h.exit.now; owing = o.exit.now }
