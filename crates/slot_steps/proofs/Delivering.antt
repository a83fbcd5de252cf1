-- Step 1: an Owed cell delivers the oldest head byte of its queue, which leaves; a Held cell delivers its own byte;
-- an empty one nothing.
use mathlib.Core.Path.{refl}
use mathlib.Core.List.{List}
use Prim.Native.Nat.{ℕ, ◌-◌, ◌/◌, ◌%◌, ◌≤◌, ◌<◌}
use native.Mathlib.Omega.{arith}
use lib.Dec.{leb}
use borrow.Author.Tests.{leb-true, leb-false}
use Rattle.std.specs.Prelude.{Some}
use Rattle.std.specs.Bool.{then_some}
use Rattle.model.proofs.basics.Tests.{by_test}
use Rattle.caches.specs.Says.{TookOldest}
use Rattle.layout.proofs.Cells.{cell_empty, cell_held, cell_owed}
use Rattle.slot_steps.specs.Says.{DeliverSays}

module _ (fill cell : ℕ) (before : List ℕ) where
  pub delivers_owed : (after : List ℕ) (v : ℕ) → 131072 ≤ cell → TookOldest fill (cell / 256 % 256) before after v
      → DeliverSays fill cell before after
      (record { fill = fill - 1; delivery = Some (record { queue = cell / 256 % 256; value = v }) })
  delivers_owed after v h took = record {
    head_is = rw (cell_owed cell h) took.left;
    delivery_is = rw (cell_owed cell h, took.value_is);
    fill_low = omega arith;
    same_length = took.same_length;
  }

  -- A cell that is not Owed.
  pub delivers_own : cell < 131072
      → DeliverSays fill cell before before
      (record {
        fill = fill;
        delivery = then_some (leb 65536 cell) (record { queue = cell / 256 % 256; value = cell % 256 });
      })
  delivers_own l =
      by_test (leb 65536 cell)
      (λ t. rw t (record {
        head_is = rw (cell_held cell (leb-true 65536 cell t) l);
        delivery_is = rw (cell_held cell (leb-true 65536 cell t) l);
        fill_low = omega arith;
        same_length = refl;
      }))
      (λ t. rw t (record {
        head_is = rw (cell_empty cell (leb-false 65536 cell t));
        delivery_is = rw (cell_empty cell (leb-false 65536 cell t));
        fill_low = omega arith;
        same_length = refl;
      }))
