-- Refusals 4 to 8, each by what its test has found: the number that the code gives is that of the figures.
use mathlib.Core.Path.{◌≡◌, refl, sym}
use mathlib.Core.Bool.{Bool, true, false, ◌&&◌}
use mathlib.Core.List.{List, []}
use mathlib.Core.Option as math
use mathlib.Core.Option.{some}
use Rattle.std.specs.Prelude.{Option, Some, None}
use Rattle.std.specs.Option.{option_eq}
use Prim.Native.Nat.{ℕ, ◌+◌, ◌*◌, ◌/◌, ◌%◌, ◌≤◌, ◌<◌}
use native.Mathlib.Omega.{arith}
use lib.Dec.{eqb, ltb}
use lib.ListN.{get_or}
use borrow.Author.Tests.{eq-eqb, ne_eqb, lt-leb, lt-ltb}
use Rattle.model.specs.Basics.{choose, all_true, when}
use Rattle.model.specs.State.{Byte, byte, Cell, empty, held, owed, owes}
use Rattle.model.proofs.basics.Tests.{eqb_same}
use Rattle.layout.specs.Counts.{by_queue}
use Rattle.layout.specs.Entries.{counts_in, cell_of}
use Rattle.layout.specs.Calls.{request_in}
use Rattle.layout.proofs.Cells.{cell_owed, cell_owes_nothing}
use Rattle.layout.specs.declared.Regs.{Regs}
use Rattle.layout.specs.Figures.{Figures, blocks_in, figures_in}
use Rattle.slot_refusals.specs.Says.{owes_now, arrives_at, asks_for, queue_full_now, room_tests_now, arrival_number}
use Rattle.slot_refusals.specs.Says.{request_number, leaving_number}

-- A queue's bytes and blocks as the code reads them: one past the last has no block.
pub with_blocks_is : (regs : Regs) (bytes stored : List ℕ) (q : ℕ) → q < regs.queues
    → counts_in bytes q + regs.block * blocks_in regs.queues stored q
    ≡ get_or bytes q 0 + regs.block * get_or stored q 0
unfolding counts_in
with_blocks_is regs bytes stored q l = rw (lt-ltb q regs.queues l)

-- Whether a request takes an Owed cell.
pub known_owes : (regs : Regs) (heads owing stored : List ℕ) (q : ℕ) → q < regs.queues
    → ltb (get_or owing q 0) (get_or heads q 0 + regs.block * get_or stored q 0)
    ≡ owes_now (figures_in regs (by_queue [] heads owing) stored) (some q)
unfolding counts_in
known_owes regs heads owing stored q l = rw (lt-leb regs.queues q l, lt-ltb q regs.queues l)

-- Whether a request makes room: it is for that queue, would be Held, and finds a tail byte.
pub asked_alike : (request : Option ℕ) (q : ℕ) → asks_for (request_in request) q ≡ option_eq eqb request (Some q)
asked_alike (Some p) q = refl
asked_alike None q = refl

pub owed_no_room : (tails : ℕ → ℕ) (owing : Bool) (request : math.Option ℕ) (q : ℕ) → asks_for request q ≡ true
    → owing ≡ true → false ≡ all_true (room_tests_now tails owing request q)
owed_no_room tails owing request q t u = rw (t, u)

pub held_room : (tails : ℕ → ℕ) (owing : Bool) (request : math.Option ℕ) (q : ℕ) → asks_for request q ≡ true
    → owing ≡ false → ltb 0 (tails q) ≡ all_true (room_tests_now tails owing request q)
held_room tails owing request q t u = rw (t, u) (sym (and_true (ltb 0 (tails q))))
  where
    and_true : (b : Bool) → (b && true) ≡ b
    and_true true = refl
    and_true false = refl

-- 5 does not come where the slot swaps.
pub arrival-swapped : (f : Figures) (q v : ℕ) (swapping : Bool) → q < f.sizes.Q → swapping ≡ true
    → 0 ≡ arrival_number f swapping (some (byte q v))
arrival-swapped f q v swapping l t = rw (lt-leb f.sizes.Q q l, t) (never (queue_full_now f q))
  where
    never : (b : Bool) → 0 ≡ when (b && false) 5
    never true = refl
    never false = refl

-- 7, where 6 does not hold and the request would take a tail byte.
pub request-by_tail : (f : Figures) (q : ℕ) (owing : Bool) (arrival : math.Option Byte) → q < f.sizes.Q
    → owing ≡ false → arrives_at arrival q ≡ false
    → choose (eqb (f.tails q) 0) 7 0 ≡ request_number f owing arrival (some q)
request-by_tail f q owing arrival l t u = rw (lt-leb f.sizes.Q q l, t, u) (one_test (eqb (f.tails q) 0))
  where
    one_test : (b : Bool) → choose b 7 0 ≡ when b 7
    one_test true = refl
    one_test false = refl

-- 8.
nothing-owed_leaves : (heads : ℕ → ℕ) (c : Cell) → ((q : ℕ) → owes q c ≡ 0) → 0 ≡ leaving_number heads c
nothing-owed_leaves heads empty f = refl
nothing-owed_leaves heads (held q v) f = refl
nothing-owed_leaves heads (owed q) f = absurd (omega (arith, rw (eqb_same q) at (f q)))

pub leaving_uncovered : (heads : ℕ → ℕ) (cell : ℕ) → 131072 ≤ cell → heads (cell / 256 % 256) ≡ 0
    → 8 ≡ leaving_number heads (cell_of cell)
leaving_uncovered heads cell h e = rw (cell_owed cell h, eq-eqb (heads (cell / 256 % 256)) 0 e)

pub leaving_covered : (heads : ℕ → ℕ) (cell : ℕ) → 131072 ≤ cell → (heads (cell / 256 % 256) ≡ 0 → ⊥)
    → 0 ≡ leaving_number heads (cell_of cell)
leaving_covered heads cell h n = rw (cell_owed cell h, ne_eqb (heads (cell / 256 % 256)) 0 n)

pub leaving_not_owed : (heads : ℕ → ℕ) (cell : ℕ) → cell < 131072 → 0 ≡ leaving_number heads (cell_of cell)
leaving_not_owed heads cell h = nothing-owed_leaves heads (cell_of cell) (λ q. cell_owes_nothing cell q h)
