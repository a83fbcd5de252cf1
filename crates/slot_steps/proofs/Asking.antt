-- Step 3: a request's cell is Owed and the tail stays, or it is Held with the oldest tail byte of its queue, which
-- leaves; without a request the cell is empty.
use mathlib.Core.Path.{refl}
use mathlib.Core.Bool.{Bool, true, false}
use mathlib.Core.List.{List}
use mathlib.Core.Option.{some, none}
use Prim.Native.Nat.{ℕ, ◌+◌, ◌-◌, ◌*◌, ◌<◌}
use native.Mathlib.Omega.{arith}
use Rattle.caches.specs.Says.{TookOldest}
use Rattle.layout.proofs.Cells.{cell_empty}
use Rattle.slot_steps.specs.Says.{AskSays}
use Rattle.slot_steps.proofs.Cells.{made_owed, made_held}

module _ (fill : ℕ) (before : List ℕ) where
  pub asks_none : (owes : Bool) → AskSays fill owes none before before (record { fill = fill; cell = 0 })
  asks_none owes = record {
    tail_is = refl;
    cell_is = cell_empty 0 (omega arith);
    fill_low = omega arith;
    same_length = refl;
  }

  pub asks-owed : (q : ℕ) → q < 256
      → AskSays fill true (some q) before before (record { fill = fill; cell = 131072 + q * 256 })
  asks-owed q l = record {
    tail_is = refl;
    cell_is = made_owed q l;
    fill_low = omega arith;
    same_length = refl;
  }

  pub asks-held : (q v : ℕ) (after : List ℕ) → q < 256 → v < 256 → TookOldest fill q before after v
      → AskSays fill false (some q) before after (record { fill = fill - 1; cell = 65536 + q * 256 + v })
  asks-held q v after l m took = record {
    tail_is = took.left;
    cell_is = rw took.value_is (made_held q v l m);
    fill_low = omega arith;
    same_length = took.same_length;
  }
