-- Step 4, the write: writing a queue's b oldest tail bytes out to the next block of its ring, and counting that block,
-- is the model's write.
use mathlib.Core.Path.{◌≡◌, ap, sym, ◌∙◌}
use mathlib.Core.Bool.{true}
use mathlib.Core.List.{List}
use mathlib.Core.Option.{some}
use Prim.Native.Nat.{ℕ, ◌+◌, ◌-◌, ◌*◌, ◌%◌, ◌≤◌, ◌<◌}
use native.Mathlib.Omega.{arith}
use native.Mathlib.Nat.{mod-lt}
use lib.ListN.{length, take, set, get_or, length-set}
use Rattle.model.specs.Sizes.{paper_limits, accepts, store_bytes}
use Rattle.model.specs.State.{Ring, ring, ring_of, values_of, count_of}
use Rattle.model.specs.Slot.{placed}
use Rattle.layout.specs.Lengths.{queue_places}
use Rattle.layout.specs.Entries.{bytes_in, counts_in}
use Rattle.caches.specs.Says.{WroteOut}
use Rattle.layout.specs.declared.Regs.{Regs}
use Rattle.layout.specs.Views.{sizes_in, rings_in}
use Rattle.layout.proofs.Ranges.{in_limits}
use Rattle.layout.proofs.Rings.{ring-at, rings_counted}
use Rattle.slot_steps.specs.Says.{WriteSays}
use Rattle.slot_steps.proofs.Fills.{count_in_fill}
use Rattle.slot_steps.proofs.Places.{InStore}

-- What the contract asks of the queue that is to be written.
abbrev pub MayWrite : Regs → ℕ → List ℕ → List ℕ → List ℕ → ℕ → Type 0
MayWrite regs fill tail firsts stored q =
    (q < regs.queues)
    × (regs.block ≤ count_of q (bytes_in fill tail))
    × (counts_in firsts q < regs.depth)
    × (counts_in stored q < regs.depth)

-- The same at that queue, as facts with names.
pub record Writable (regs : Regs) (fill : ℕ) (tail firsts stored store : List ℕ) (q : ℕ) : Type 0 where
  pub next_block : InStore regs store q ((get_or firsts q 0 + get_or stored q 0) % regs.depth)
  pub bytes_wait : regs.block ≤ count_of q (bytes_in fill tail)
  pub block_in_fill : regs.block ≤ fill
  pub count_small : get_or stored q 0 < 255

module _ {regs : Regs} {fill : ℕ} {tail firsts stored store : List ℕ} {q : ℕ} where
  pub writable : fill ≤ length tail → accepts paper_limits (sizes_in regs) ≡ true
      → store_bytes (sizes_in regs) ≤ length store
      → MayWrite regs fill tail firsts stored q → Writable regs fill tail firsts stored store q
  unfolding counts_in
  writable fits ok long may =
      let limits = in_limits regs ok in
      record {
        next_block = record {
          limits = limits;
          store_long = long;
          queue_low = may.0;
          block_low = mod-lt (get_or firsts q 0 + get_or stored q 0) limits.k_low;
        };
        bytes_wait = may.1;
        block_in_fill = omega (arith, may.1, count_in_fill q fill tail fits);
        count_small = omega (arith, may.3, limits.k_high);
      }

  pub writes_block : {after store' : List ℕ}
      → Writable regs fill tail firsts stored store q → length stored ≡ queue_places
      → WroteOut fill q regs.block
      ((q * regs.depth + (get_or firsts q 0 + get_or stored q 0) % regs.depth) * regs.block) tail after store store'
      → WriteSays (sizes_in regs) fill (some q) firsts stored (set stored q (get_or stored q 0 + 1)) tail after
      store store' (fill - regs.block)
  unfolding counts_in
  writes_block w c-long wrote = record {
    tail_is = wrote.left;
    rings_are =
        rings_counted regs.queues firsts stored q (get_or stored q 0 + 1) low
        (omega (arith, c-long, w.next_block.limits.q_high))
        ∙ ap (λ (r : Ring). set rings q (ring r.first (r.count + 1))) (sym here);
    store_is =
        wrote.stored_is
        ∙ ap (λ (r : Ring).
        placed ((q * regs.depth + (r.first + r.count) % regs.depth) * regs.block)
        (take regs.block (values_of q (bytes_in fill tail))) store) (sym here);
    fill_low = omega arith;
    same_length = wrote.same_length;
    stored_long = length-set stored q (get_or stored q 0 + 1);
  }
    where
      rings : List Ring
      rings = rings_in regs.queues firsts stored

      low : q < regs.queues
      low = w.next_block.queue_low

      here : ring_of rings q ≡ ring (counts_in firsts q) (counts_in stored q)
      here = ring-at regs.queues firsts stored q low
