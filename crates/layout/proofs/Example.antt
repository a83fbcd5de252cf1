-- The small example is read as it is meant, by computing it: `example_reads`.
use mathlib.Core.Path.{◌≡◌, refl}
use mathlib.Core.Bool.{false}
use Prim.Native.Nat.{ℕ, zero, suc, ◌<◌}
use native.Mathlib.Omega.{arith}
use lib.Dec.{eqb}
use borrow.Author.Tests.{ne_eqb}
use Rattle.model.specs.State.{count_of, owed_of}
use Rattle.layout.specs.Entries.{byte_of, bytes_in, cell_for, cell_of, cells_in, counts_in}
use Rattle.layout.specs.Views.{rings_in}
use Rattle.layout.specs.Example.{example_state, example_counts, ExampleReads}
use Rattle.layout.proofs.Counts.{counts_zero}

-- The counts of the queues 0 to 2 are computed, and past them there is nothing.
past : (p n : ℕ) → p < 3 → eqb p (suc (suc (suc n))) ≡ false
past p n h = ne_eqb p (suc (suc (suc n))) (λ e. omega (arith, e))

tails_counted : (q : ℕ) → counts_in example_counts.tails q ≡ count_of q example_state.tail
unfolding counts_in
tails_counted zero = refl
tails_counted (suc zero) = refl
tails_counted (suc (suc zero)) = refl
tails_counted (suc (suc (suc n))) = rw (past 1 n (omega arith), past 0 n (omega arith)) (counts_zero 61 n)

heads_counted : (q : ℕ) → counts_in example_counts.heads q ≡ count_of q example_state.head
unfolding counts_in
heads_counted zero = refl
heads_counted (suc zero) = refl
heads_counted (suc (suc zero)) = refl
heads_counted (suc (suc (suc n))) = rw (past 2 n (omega arith), past 0 n (omega arith)) (counts_zero 61 n)

owed_counted : (q : ℕ) → counts_in example_counts.owing q ≡ owed_of q example_state.cells
unfolding counts_in
owed_counted zero = refl
owed_counted (suc zero) = refl
owed_counted (suc (suc zero)) = refl
owed_counted (suc (suc (suc n))) = rw (past 2 n (omega arith), past 1 n (omega arith)) (counts_zero 61 n)

pub example_reads : ExampleReads
unfolding byte_of bytes_in cell_for cell_of cells_in counts_in rings_in
example_reads = record {
  state_is = refl;
  arrival_is = refl;
  no_arrival = refl;
  request-is = refl;
  no_request = refl;
  delivery_is = refl;
  no_delivery = refl;
  chosen_is = refl;
  none_chosen = refl;
  refill_is = refl;
  no_refill_is = refl;
  reply_is = refl;
  both_dropped_are = refl;
  told_is = refl;
  request_dropped_is = refl;
  reply_refused = refl;
  call_is = refl;
  call_idle = refl;
  counts_are = record {
    tails_are = record { long = refl; count_is = tails_counted };
    heads_are = record { long = refl; count_is = heads_counted };
    owed_are = record { long = refl; count_is = owed_counted };
  };
  figures_counted = record { sizes-are = refl; fill_is = refl; queues_are = refl };
  figures_kept = record { sizes-are = refl; fill_is = refl; queues_are = refl };
  new_owed = refl;
  new_held = refl;
  new_empty = refl;
  long_says = λ m l. (l.tail_long, l.head_long, l.cells_long, l.firsts_long, l.stored_long);
  counts_long = λ counts f c. c.long;
  found-is = λ t h c f s. refl;
  left_is = λ t h c f s. refl;
  counts_found = λ t h o. refl;
  counts_are_left = λ t h o. refl;
}
