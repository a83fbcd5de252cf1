-- Numbers as entries of an array: a byte with its queue, a cell, one number for each queue. Every number is read as
-- some byte and as some cell, so that no array needs a rule of its own.
use Rattle.std.specs.Prelude.{List, map, ℕ, zero, suc, ◌/◌, ◌%◌, take, get_or}
use Rattle.model.specs.State.{Byte, byte, Cell, empty, held, owed}

-- A byte with its queue is one number: queue × 256 + value.
unfoldable pub byte_of : ℕ → Byte
byte_of e = byte (e / 256) (e % 256)

-- The first n entries of a cache: what lies past them is no part of the state.
unfoldable pub bytes_in : ℕ → List ℕ → List Byte
bytes_in n xs = map byte_of (take n xs)

-- A cell is one number: kind × 65,536 + queue × 256 + value. Kind 0 is empty, 1 is Held, any other is Owed.
unfoldable pub cell_for : ℕ → ℕ → ℕ → Cell
cell_for zero q v = empty
cell_for (suc zero) q v = held q v
cell_for (suc (suc k)) q v = owed q

unfoldable pub cell_of : ℕ → Cell
cell_of c = cell_for (c / 65536) (c / 256 % 256) (c % 256)

-- The first n cells of the lookahead: what lies past them is no part of the state.
unfoldable pub cells_in : ℕ → List ℕ → List Cell
cells_in n xs = map cell_of (take n xs)

-- An array of one number for each queue; a queue past its end has 0.
unfoldable pub counts_in : List ℕ → ℕ → ℕ
counts_in xs q = get_or xs q 0
