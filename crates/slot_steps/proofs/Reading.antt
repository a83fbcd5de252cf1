-- Step 4, the read: bringing the first block of a queue's ring into the head, and freeing that block, is the model's
-- read.
use mathlib.Core.Path.{◌≡◌, ap, sym, ◌∙◌}
use mathlib.Core.Bool.{true}
use mathlib.Core.List.{List, ◌++◌}
use mathlib.Core.Option.{some}
use Prim.Native.Nat.{ℕ, ◌+◌, ◌-◌, ◌*◌, ◌%◌, ◌≤◌, ◌<◌}
use native.Mathlib.Omega.{arith}
use lib.ListN.{length, take, drop, set, get_or, length-set}
use Rattle.model.specs.Sizes.{paper_limits, accepts, store_bytes}
use Rattle.model.specs.State.{Ring, ring, ring_of}
use Rattle.model.specs.Slot.{bytes_for}
use Rattle.layout.specs.Lengths.{queue_places}
use Rattle.layout.specs.Entries.{bytes_in, counts_in}
use Rattle.caches.specs.Says.{ReadIn}
use Rattle.layout.specs.declared.Regs.{Regs}
use Rattle.layout.specs.Views.{sizes_in, rings_in}
use Rattle.layout.proofs.Ranges.{in_limits}
use Rattle.layout.proofs.Rings.{ring-at, rings_stored}
use Rattle.slot_steps.specs.Says.{ReadSays}
use Rattle.slot_steps.proofs.Places.{InStore}

-- What the contract asks of the queue that is to be read.
abbrev pub MayRead : Regs → ℕ → List ℕ → List ℕ → List ℕ → ℕ → Type 0
MayRead regs fill head firsts stored q =
    (q < regs.queues)
    × (fill + regs.block ≤ length head)
    × (counts_in firsts q < regs.depth)
    × (1 ≤ counts_in stored q)

-- The same at that queue, as facts with names.
pub record Readable (regs : Regs) (fill : ℕ) (head firsts stored store : List ℕ) (q : ℕ) : Type 0 where
  pub first_block : InStore regs store q (get_or firsts q 0)
  pub room : fill + regs.block ≤ length head
  pub has_block : 1 ≤ get_or stored q 0

module _ {regs : Regs} {fill : ℕ} {head firsts stored store : List ℕ} {q : ℕ} where
  pub readable : accepts paper_limits (sizes_in regs) ≡ true → store_bytes (sizes_in regs) ≤ length store
      → MayRead regs fill head firsts stored q → Readable regs fill head firsts stored store q
  unfolding counts_in
  readable ok long may = record {
    first_block = record {
      limits = in_limits regs ok;
      store_long = long;
      queue_low = may.0;
      block_low = may.2;
    };
    room = may.1;
    has_block = may.3;
  }

  pub reads_block : {after : List ℕ} → Readable regs fill head firsts stored store q
      → length firsts ≡ queue_places → length stored ≡ queue_places
      → ReadIn fill q regs.block ((q * regs.depth + get_or firsts q 0) * regs.block) head after store
      → ReadSays (sizes_in regs) fill (some q) firsts stored
      (set firsts q ((get_or firsts q 0 + 1) % regs.depth)) (set stored q (get_or stored q 0 - 1))
      head after store (fill + regs.block)
  unfolding counts_in
  reads_block w f-long c-long came = record {
    head_is =
        came.joined
        ∙ ap (λ (r : Ring).
        bytes_in fill head
        ++ bytes_for q (take regs.block (drop ((q * regs.depth + r.first) * regs.block) store))) (sym here);
    rings_are =
        rings_stored regs.queues firsts stored q next (get_or stored q 0 - 1) low
        (omega (arith, f-long, w.first_block.limits.q_high))
        (omega (arith, c-long, w.first_block.limits.q_high))
        ∙ ap (λ (r : Ring). set rings q (ring ((r.first + 1) % regs.depth) (r.count - 1))) (sym here);
    fill_high = omega arith;
    fits = omega (arith, w.room, came.same_length);
    same_length = came.same_length;
    firsts_long = length-set firsts q next;
    stored_long = length-set stored q (get_or stored q 0 - 1);
  }
    where
      next : ℕ
      next = (get_or firsts q 0 + 1) % regs.depth

      rings : List Ring
      rings = rings_in regs.queues firsts stored

      low : q < regs.queues
      low = w.first_block.queue_low

      here : ring_of rings q ≡ ring (counts_in firsts q) (counts_in stored q)
      here = ring-at regs.queues firsts stored q low
