-- With one lookahead cell fewer the list of demand 3 has a slot that answers 8, for accepted sizes with b at least 2:
-- its arrivals leave each queue one block, and the last of the bytes asked for is to leave before its block is read.
-- `misses` says it.
use mathlib.Core.Path.{◌≡◌, refl}
use mathlib.Core.Bool.{true}
use mathlib.Core.List.{List}
use Prim.Native.Nat.{ℕ, ◌≤◌}
use native.Mathlib.Omega.{arith}
use lib.ListN.{length}
use Rattle.model.specs.Sizes.{Sizes, Limits, accepts, store_bytes, one_fewer}
use Rattle.model.specs.State.{fresh, blocks}
use Rattle.model.specs.Demand.{Misses}
use Rattle.model.proofs.basics.Rings.{ring-fresh}
use Rattle.model.proofs.one_slot.Rules.{keeps-fresh}
use Rattle.model.proofs.missing.Slots.{Runnable}
use Rattle.model.proofs.missing.Fill.{Filling, fill}

module _ (limits : Limits) (s : Sizes) (store : List ℕ) (accepted : accepts limits s ≡ true) (two : 2 ≤ s.b)
    (long : store_bytes s ≤ length store) where
  fresh-ready : Runnable limits (fresh (one_fewer limits) s) store
  fresh-ready = record {
    kept = keeps-fresh (one_fewer limits) s accepted;
    store_long = long;
    block_two = two;
  }

  fresh-filling : Filling 0 0 (fresh (one_fewer limits) s)
  fresh-filling = record {
    cells_are = refl;
    head_none = refl;
    phase_is = refl;
    tail_is = refl;
    filled = λ p l. absurd (omega (arith, l));
    to_come = λ p l. rw (ring-fresh s.Q p, blocks);
  }

pub misses : (limits : Limits) (s : Sizes) (store : List ℕ) → accepts limits s ≡ true → 2 ≤ s.b
    → store_bytes s ≤ length store → Misses limits s store
misses limits s store accepted two long =
    fill limits s.Q 0 (fresh (one_fewer limits) s) store
    (fresh-ready limits s store accepted two long) (fresh-filling limits s store accepted two long) (omega arith)
