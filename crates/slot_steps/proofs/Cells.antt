-- The number that is made for a cell is that cell.
use mathlib.Core.Path.{◌≡◌, ◌∙◌}
use Prim.Native.Nat.{ℕ, ◌+◌, ◌*◌, ◌/◌, ◌%◌, ◌<◌}
use native.Mathlib.Omega.{arith}
use Rattle.model.specs.State.{held, owed}
use Rattle.layout.specs.Entries.{cell_of}
use Rattle.layout.proofs.Cells.{cell_held, cell_owed}

pub made_owed : (q : ℕ) → q < 256 → cell_of (131072 + q * 256) ≡ owed q
made_owed q l =
    let queue_is : (131072 + q * 256) / 256 % 256 ≡ q = omega arith in
    cell_owed (131072 + q * 256) (omega arith) ∙ rw queue_is

pub made_held : (q v : ℕ) → q < 256 → v < 256 → cell_of (65536 + q * 256 + v) ≡ held q v
made_held q v l m =
    let queue_is : (65536 + q * 256 + v) / 256 % 256 ≡ q = omega arith in
    let value_is : (65536 + q * 256 + v) % 256 ≡ v = omega arith in
    cell_held (65536 + q * 256 + v) (omega arith) (omega arith) ∙ rw (queue_is, value_is)
