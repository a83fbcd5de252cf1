-- What the steps of a slot do to the array that is lent to them, by the model's own definitions of the steps.
use Rattle.std.specs.Prelude.{◌≡◌, Bool, List, [], ◌++◌, ℕ, ◌+◌, ◌≤◌, length}
use Rattle.std.proofs.Math.Option.{Option, some, none}
use Rattle.model.specs.Basics.{choose}
use Rattle.model.specs.Sizes.{Sizes}
use Rattle.model.specs.State.{Byte, Cell, empty, owed, Ring, State}
use Rattle.model.specs.Slot.{without, oldest_of, head_without, delivery_of, arriving, held_cell, tail_written, rings_written}
use Rattle.model.specs.Slot.{store_written, head_read, rings_read}
use Rattle.layout.specs.Entries.{bytes_in, cell_of}
use Rattle.layout.specs.Calls.{delivery_in}
use Rattle.layout.specs.Views.{rings_in}
use Rattle.slot_steps.specs.declared.CellDelivered.{CellDelivered}
use Rattle.slot_steps.specs.declared.Asked.{Asked}

-- 1. What the leaving cell delivers, and the head that it leaves.
pub record DeliverSays (fill cell : ℕ) (before after : List ℕ) (r : CellDelivered) : Type 0 where
  pub head_is : bytes_in r.fill after ≡ head_without (cell_of cell) (bytes_in fill before)
  pub delivery_is : delivery_in r.delivery ≡ delivery_of (cell_of cell) (bytes_in fill before)
  pub fill_low : r.fill ≤ fill
  pub same_length : length after ≡ length before

-- 2. The tail with the arriving byte.
pub record ArriveSays (fill : ℕ) (arrival : Option Byte) (before after : List ℕ) (r : ℕ) : Type 0 where
  pub tail_is : bytes_in r after ≡ bytes_in fill before ++ arriving arrival
  pub fill_is : r ≡ fill + length (arriving arrival)
  pub same_length : length after ≡ length before

-- 3. The cell that a request takes, and the tail that it leaves, where it is known whether the cell is Owed.
abbrev pub cell_asked : Bool → Option ℕ → List Byte → Cell
cell_asked is_owed none tail = empty
cell_asked is_owed (some q) tail = choose is_owed (owed q) (held_cell q (oldest_of q tail))

abbrev pub tail_asked : Bool → Option ℕ → List Byte → List Byte
tail_asked is_owed none tail = tail
tail_asked is_owed (some q) tail = choose is_owed tail (without 1 q tail)

pub record AskSays (fill : ℕ) (is_owed : Bool) (request : Option ℕ) (before after : List ℕ) (r : Asked) : Type 0 where
  pub tail_is : bytes_in r.fill after ≡ tail_asked is_owed request (bytes_in fill before)
  pub cell_is : cell_of r.cell ≡ cell_asked is_owed request (bytes_in fill before)
  pub fill_low : r.fill ≤ fill
  pub same_length : length after ≡ length before

-- A state of which only sizes, caches and rings matter: the two moves look at nothing else.
abbrev pub moving : Sizes → List Byte → List Byte → List Ring → State
moving s tail head rings = record {
  sizes = s;
  phase = 0;
  tail = tail;
  head = head;
  cells = [];
  rings = rings;
  tail_mark = 0;
  head_mark = 0;
  last_asked = 0;
}

-- 4. The write.
pub record WriteSays (s : Sizes) (fill : ℕ) (written : Option ℕ) (firsts stored stored' before after store store' :
    List ℕ)
    (r : ℕ) : Type 0 where
  pub tail_is : bytes_in r after ≡ tail_written written (moving s (bytes_in fill before) [] (rings_in s.Q firsts stored))
  pub rings_are : rings_in s.Q firsts stored'
      ≡ rings_written written (moving s (bytes_in fill before) [] (rings_in s.Q firsts stored))
  pub store_is : store' ≡ store_written written (moving s (bytes_in fill before) [] (rings_in s.Q firsts stored)) store
  pub fill_low : r ≤ fill
  pub same_length : length after ≡ length before
  pub stored_long : length stored' ≡ length stored

-- 4. The read.
pub record ReadSays (s : Sizes) (fill : ℕ) (readQueue : Option ℕ) (firsts stored firsts' stored' before after store :
    List ℕ)
    (r : ℕ) : Type 0 where
  pub head_is : bytes_in r after
      ≡ head_read readQueue (moving s [] (bytes_in fill before) (rings_in s.Q firsts stored)) store
  pub rings_are : rings_in s.Q firsts' stored'
      ≡ rings_read readQueue (moving s [] (bytes_in fill before) (rings_in s.Q firsts stored))
  pub fill_high : r ≤ fill + s.b
  pub fits : r ≤ length after
  pub same_length : length after ≡ length before
  pub firsts_long : length firsts' ≡ length firsts
  pub stored_long : length stored' ≡ length stored
