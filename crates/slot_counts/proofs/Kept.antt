-- The counts that a turn leaves are those of the state that the model's accepted slot leaves: each step changes the
-- counts of the state as the turn changes the arrays.
use mathlib.Core.Path.{◌≡◌, refl, ap, sym, ◌∙◌, fun_ext, subst}
use mathlib.Core.Bool.{Bool, true}
use mathlib.Core.List.{List, [], ◌∷◌}
use mathlib.Core.Option.{Option, some, none}
use Prim.Native.Nat.{ℕ, ◌+◌, ◌≤◌}
use native.Mathlib.Omega.{arith}
use lib.Dec.{eqb}
use lib.ListN.{length, drop}
use borrow.Author.Tests.{eqb-true}
use Rattle.model.specs.Sizes.{paper}
use Rattle.model.specs.State.{Byte, State, count_of, owes, ring_of, tail_bytes}
use Rattle.model.specs.Slot.{Call, arriving, is_owed, oldest_cell, youngest_cell, tail_left, tail_written, carried_out}
use Rattle.model.specs.Slot.{swaps, early_arrival, late_arrival, block_at, head_read, joined, asked, wrote, wrote_store}
use Rattle.model.specs.Slot.{queue_to_write, queue_to_read}
use Rattle.model.proofs.basics.Tests.{by_test, some_inj}
use Rattle.model.proofs.basics.Bytes.{count_append, count_without, count_refilled}
use Rattle.model.proofs.basics.Cells.{owed_append}
use Rattle.model.proofs.one_slot.StepsKeepRules.{owed_oldest, count_head_without, youngest_owed, youngest_held}
use Rattle.model.proofs.one_slot.Swap.{swap_facts, early_is_none, early_is, late_is, late_is_none}
use Rattle.model.proofs.one_slot.Accepted.{Judged}
use Rattle.model.proofs.one_slot.Kept.{block_whole}
use Rattle.layout.specs.Entries.{counts_in}
use Rattle.layout.specs.Counts.{ByQueue, Tally, TallyOwed, Tallies}
use Rattle.lookahead.specs.Says.{spent}
use Rattle.layout.specs.Figures.{new_cell}
use Rattle.slot_counts.specs.Says.{arrival_counted, less_taken, less_block, with_block, tails_asked, TurnSays}

-- 3. The request, where it is known whether it takes an Owed cell: what it leaves of the tail, and what its cell owes.
module _ (y : State) (owing : Bool) where
  count_left : (request : Option ℕ) → ((p : ℕ) → request ≡ some p → owing ≡ is_owed y p)
      → (q : ℕ) → count_of q (tail_left y request) ≡ less_taken owing request (tail_bytes y) q
  count_left none f q = refl
  count_left (some p) f q =
      rw (f p refl)
      (by_test (is_owed y p)
      (λ t. rw t (omega arith))
      (λ t. rw t (count_without 1 p q y.tail)))

  owes-new : (request : Option ℕ) → ((p : ℕ) → request ≡ some p → owing ≡ is_owed y p)
      → (q : ℕ) → owes q (youngest_cell y request) ≡ owes q (new_cell owing request)
  owes-new none f q = by_test owing (λ t. rw t) (λ t. rw t)
  owes-new (some p) f q =
      rw (f p refl)
      (by_test (is_owed y p)
      (λ t. youngest_owed y p q t ∙ ap (λ (o : Bool). owes q (new_cell o (some p))) (sym t))
      (λ t. youngest_held y p q t ∙ ap (λ (o : Bool). owes q (new_cell o (some p))) (sym t)))

-- 4. The write and the read.
count_written : (y : State) (o : Option ℕ) (q : ℕ)
    → less_block y.sizes.b o (tail_bytes y) q ≡ count_of q (tail_written o y)
count_written y none q = refl
count_written y (some p) q = sym (count_without y.sizes.b p q y.tail)

count_read : (z : State) (store : List ℕ) (o : Option ℕ)
    → ((p : ℕ) → o ≡ some p → length (block_at z.sizes store p (ring_of z.rings p).first) ≡ z.sizes.b)
    → (q : ℕ) → with_block z.sizes.b o (λ p. count_of p z.head) q ≡ count_of q (head_read o z store)
count_read z store none f q = refl
count_read z store (some p) f q =
    sym (count_refilled p q z.head (block_at z.sizes store p (ring_of z.rings p).first)
    ∙ rw (f p refl))

-- A byte that joins after the request counts as one that joins before it, where the request finds another.
joins_late : (owing : Bool) (request : Option ℕ) (f g : ℕ → ℕ) → ((p : ℕ) → request ≡ some p → 1 ≤ f p)
    → (q : ℕ) → less_taken owing request (λ p. f p + g p) q ≡ less_taken owing request f q + g q
joins_late owing none f g there q = refl
joins_late owing (some p) f g there q =
    by_test owing
    (λ u. rw u (omega arith))
    (λ u. by_test (eqb p q)
    (λ t. rw (u, t) (omega (arith, subst (λ (i : ℕ). 1 ≤ f i) (eqb-true p q t) (there p refl))))
    (λ t. rw (u, t) (omega arith)))

-- Tail bytes as the write finds them are those of the model's state after the request.
pub tails_found : (x : State) (call : Call) {is_owed' : Bool}
    → ((q : ℕ) → call.request ≡ some q → is_owed' ≡ is_owed (joined x call) q)
    → {tails : ℕ → ℕ} → ((q : ℕ) → tails q ≡ tail_bytes x q) → tails_asked is_owed' call tails ≡ tail_bytes (asked x call)
tails_found x call {is_owed'} owed_is {tails} same =
    fun_ext (λ q. by_test (swaps x call.arrival call.request)
    (λ t. joins_late is_owed' call.request tails (λ p. count_of p (arriving call.arrival)) (byte-there t) q
    ∙ ap (λ (f : ℕ → ℕ). less_taken is_owed' call.request f q + count_of q (arriving call.arrival))
    (fun_ext (λ p. nothing-early t p ∙ joined-count p))
    ∙ ap (λ (a : Option Byte). less_taken is_owed' call.request (tail_bytes (joined x call)) q + count_of q (arriving a))
    (sym (late_is x call t))
    ∙ sym (asked-count q))
    (λ t. ap (λ (a : Option Byte). less_taken is_owed' call.request (arrival_counted a tails) q)
    (sym (early_is x call t))
    ∙ ap (λ (f : ℕ → ℕ). less_taken is_owed' call.request f q) (fun_ext joined-count)
    ∙ omega (arith, asked-count q, ap (λ (a : Option Byte). count_of q (arriving a)) (late_is_none x call t))))
  where
    joined-count : (q : ℕ) → arrival_counted (early_arrival x call) tails q ≡ tail_bytes (joined x call) q
    joined-count q = omega (arith, same q, count_append q x.tail (arriving (early_arrival x call)))

    asked-count : (q : ℕ) → tail_bytes (asked x call) q
        ≡ less_taken is_owed' call.request (tail_bytes (joined x call)) q + count_of q (arriving (late_arrival x call))
    asked-count q =
        omega (
          arith,
          count_append q (tail_left (joined x call) call.request) (arriving (late_arrival x call)),
          count_left (joined x call) is_owed' call.request owed_is q,
        )

    -- In a slot that swaps nothing joins early, and the request finds an old byte.
    nothing-early : swaps x call.arrival call.request ≡ true → (q : ℕ)
        → tails q ≡ arrival_counted (early_arrival x call) tails q
    nothing-early t q = omega (arith, ap (λ (a : Option Byte). count_of q (arriving a)) (early_is_none x call t))

    byte-there : swaps x call.arrival call.request ≡ true → (p : ℕ) → call.request ≡ some p → 1 ≤ tails p
    byte-there t p e =
        let s = swap_facts x call t in
        omega (
          arith,
          same p,
          subst (λ (i : ℕ). 1 ≤ tail_bytes x i) (some_inj s.comes.queue p (sym s.request-is ∙ e)) s.byte-there,
        )

module _ (x : State) (store : List ℕ) (call : Call) (judged : Judged paper x store call)
    {counts counts' : ByQueue} (t : Tallies x counts)
    {is_owed' : Bool} (owed_is : (q : ℕ) → call.request ≡ some q → is_owed' ≡ is_owed (joined x call) q)
    {written readQueue : Option ℕ} (written_is : written ≡ queue_to_write (asked x call))
    (read_is : readQueue ≡ queue_to_read (wrote x call))
    (says : TurnSays x.sizes (oldest_cell x.cells) call is_owed' written readQueue counts counts') where
  tails_kept : Tally counts'.tails (wrote x call).tail
  tails_kept = record {
    long = says.tails_are.long;
    count_is = λ q.
        says.tails_are.count_is q
        ∙ ap (λ (f : ℕ → ℕ). less_block x.sizes.b written f q)
        (tails_found x call owed_is t.tails_are.count_is)
        ∙ ap (λ (o : Option ℕ). less_block x.sizes.b o (tail_bytes (asked x call)) q) written_is
        ∙ count_written (asked x call) (queue_to_write (asked x call)) q;
  }

  heads_found : spent (counts_in counts.heads) (oldest_cell x.cells) ≡ (λ (q : ℕ). count_of q (wrote x call).head)
  heads_found =
      fun_ext (λ q. omega (
        arith,
        t.heads_are.count_is q,
        count_head_without (oldest_cell x.cells) x.head q,
      ))

  heads_kept : Tally counts'.heads (head_read (queue_to_read (wrote x call)) (wrote x call) (wrote_store x store call))
  heads_kept = record {
    long = says.heads_are.long;
    count_is = λ q.
        says.heads_are.count_is q
        ∙ ap (λ (f : ℕ → ℕ). with_block x.sizes.b readQueue f q) heads_found
        ∙ ap (λ (o : Option ℕ). with_block x.sizes.b o (λ p. count_of p (wrote x call).head) q) read_is
        ∙ count_read (wrote x call) (wrote_store x store call) (queue_to_read (wrote x call))
        (block_whole paper x store call (omega arith) judged) q;
  }

  owed_kept : TallyOwed counts'.owing (asked x call).cells
  owed_kept = record {
    long = says.owed_are.long;
    count_is = λ q. omega (
      arith,
      says.owed_are.count_is q,
      t.owed_are.count_is q,
      owed_oldest x.cells q,
      owed_append q (drop 1 x.cells) (youngest_cell (joined x call) call.request ∷ []),
      owes-new (joined x call) is_owed' call.request owed_is q,
    );
  }

  pub tallies_kept : Tallies (carried_out 0 0 x store call).state counts'
  tallies_kept = record { tails_are = tails_kept; heads_are = heads_kept; owed_are = owed_kept }
