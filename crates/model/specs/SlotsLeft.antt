-- Document 02, 2.6, "Slots left at a read": what its sentences say of a slot and of lists of slots. The number itself
-- is `slots_to_refill` (Slot).
use Rattle.std.specs.Prelude.{◌≡◌, true, List, ℕ, ◌+◌, ◌-◌, ◌≤◌, ◌<◌, length, take, get_or}
use Rattle.std.proofs.Math.Option.{some, none}
use Rattle.std.proofs.Math.ListN.{get_elem?}
use Rattle.model.specs.Sizes.{Sizes, Limits, Design, accepts, lookahead, full}
use Rattle.model.specs.State.{byte, Cell, empty, owed, State, fresh, head_bytes, keeps}
use Rattle.model.specs.Slot.{Call, refill_queue, refill_place, wrote, halves_taken, slot}
use Rattle.model.specs.Lists.{Step, accepted, deliveries, request_at}
use Rattle.model.specs.Chains.{Chain}

-- The nth of some cells, the oldest being 1, is "the first Owed cell that its queue's head bytes do not cover", and
-- that queue is q: a scan of the cells before it finds none, and one that goes as far as it finds q.
pub record FirstUncovered (credits : ℕ → ℕ) (cells : List Cell) (q n : ℕ) : Type 0 where
  pub at_least_1 : 1 ≤ n
  pub within : n ≤ length cells
  pub is_owed_lem : get_or cells (n - 1) empty ≡ owed q
  pub none_before : refill_queue credits (take (n - 1) cells) ≡ none
  pub uncovered : refill_queue credits (take n cells) ≡ some q

-- Of one slot.
pub record SlotsLeftSay (design : Design) : Type 0 where
  -- "The choice of the block to read must also say in how many slots the uncovered cell leaves": queue and place are
  -- those of one cell.
  pub place_of_the_queue :
      (credits : ℕ → ℕ) (cells : List Cell) (q : ℕ) → refill_queue credits cells ≡ some q
      → FirstUncovered credits cells q (refill_place credits cells)
  pub no_place :
      (credits : ℕ → ℕ) (cells : List Cell) → refill_queue credits cells ≡ none → refill_place credits cells ≡ 0
  -- "Counted after the slot's own delivery": the uncovered cell's place among the cells that the slot leaves, so that
  -- the oldest of them, which leaves in the next slot, counts 1. The head bytes are those that the read finds.
  pub cell_that_waits :
      (x : State) (store : List ℕ) (call : Call) (q : ℕ) → (slot design x store call).reply.read ≡ some q
      → FirstUncovered (head_bytes (wrote x (halves_taken x call))) (slot design x store call).state.cells q
      (slot design x store call).reply.slots_left
  -- "So 1 to L": to the number of cells, which is L in the paper's design. (There is none only with one cell fewer and
  -- b = 1.)
  pub one_to_L :
      (x : State) (store : List ℕ) (call : Call) (q : ℕ) → 1 ≤ design.cell_count x.sizes
      → (slot design x store call).reply.read ≡ some q
      → (1 ≤ (slot design x store call).reply.slots_left)
      × ((slot design x store call).reply.slots_left ≤ design.cell_count x.sizes)
  -- "And 0 where nothing is read."
  pub zero_without_a_read :
      (x : State) (store : List ℕ) (call : Call) → (slot design x store call).reply.read ≡ none
      → (slot design x store call).reply.slots_left ≡ 0

-- Of lists, the round robin arbiter's slots among a caller's. Accepted slot t reads a block of q, and says n.
pub record ReadsAt (slots : List Step) (t q n : ℕ) : Type 0 where
  pub step : Step
  pub is_slot : get_elem? slots t ≡ some step
  pub read_is : step.reply.read ≡ some q
  pub left_is : step.reply.slots_left ≡ n

-- "In how many slots the uncovered cell leaves": accepted slot t + n delivers a byte of q, if the list has that slot; so
-- from every state that keeps the rules. And from a fresh state the request that the read is for was in slot t + n - L.
pub record LeavesThen (limits : Limits) : Type 0 where
  pub delivers_then :
      (x : State) (store : List ℕ) (steps : List Step) (last : State)
      → keeps (full limits) x ≡ true
      → Chain (full limits) x store steps last
      → (t q n : ℕ) → ReadsAt (accepted steps) t q n
      → t + n < length (accepted steps)
      → (v : ℕ) × (get_or (deliveries (accepted steps)) (t + n) none ≡ some (byte q v))
  pub asked-then :
      (s : Sizes) (store : List ℕ) (steps : List Step) (last : State)
      → accepts limits s ≡ true
      → Chain (full limits) (fresh (full limits) s) store steps last
      → (t q n : ℕ) → ReadsAt (accepted steps) t q n
      → (lookahead s ≤ t + n)
      × (request_at (accepted steps) (t + n - lookahead s) ≡ some q)
