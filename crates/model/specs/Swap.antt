-- Document 02, 2.1, "Swap in a full queue": what its sentences say of a slot. Which slots swap is `swaps` (Slot).
use Rattle.std.specs.Prelude.{◌≡◌, true, false, List, [], ◌∷◌, ◌++◌, ℕ, ◌+◌, ◌≤◌, length, drop}
use Rattle.std.proofs.Math.Option.{some}
use Rattle.model.specs.Sizes.{Design, store_bytes}
use Rattle.model.specs.State.{Byte, held, State, keeps}
use Rattle.model.specs.Slot.{Call, arriving, without, oldest_of, oldest_cell, after_delivery, after_arrival}
use Rattle.model.specs.Slot.{after_request, is_full, swaps, asked, wrote, queue_to_read, arrival_full, tail_found}
use Rattle.model.specs.Slot.{leaves_uncovered, head_full, halves_taken, refusal}
use Rattle.model.specs.Lists.{joined_fill_of}

-- "Take the request before the arrival": its cell is Held with the oldest of the tail's bytes of the queue, never with
-- the arriving byte y, which joins the others. The tail, looked at just after that, is as full as it was handed in, so
-- that its high mark stays.
pub record Swapped (x : State) (call : Call) (y : Byte) : Type 0 where
  pub taken : ℕ
  pub taken_is : oldest_of y.queue x.tail ≡ some taken
  pub cells_are : (asked x call).cells ≡ drop 1 x.cells ++ held y.queue taken ∷ []
  pub tail_is : (asked x call).tail ≡ without 1 y.queue x.tail ++ y ∷ []
  pub fill_is : joined_fill_of 0 x call ≡ length x.tail
  pub mark_is : (asked x call).tail_mark ≡ x.tail_mark

pub record SwapSays (design : Design) : Type 0 where
  -- "Such a slot is accepted if nothing else refuses it": 3, 2, 8 and 10 are left. Both its halves are taken (2.5).
  pub is_accepted :
      (x : State) (store : List ℕ) (call : Call) → swaps x call.arrival call.request ≡ true
      → keeps design x ≡ true
      → store_bytes x.sizes ≤ length store
      → leaves_uncovered (oldest_cell x.cells) x ≡ false
      → head_full (wrote x call) (queue_to_read (wrote x call)) ≡ false
      → (refusal design x store call ≡ 0) × (halves_taken x call ≡ call)
  -- "Take the request before the arrival": steps 2 and 3 the other way round, and what comes of it.
  pub request-first :
      (x : State) (call : Call) → swaps x call.arrival call.request ≡ true
      → keeps design x ≡ true
      → asked x call ≡ after_arrival call.arrival (after_request call.request (after_delivery x))
  pub takes_an_old_byte :
      (x : State) (store : List ℕ) (call : Call) → swaps x call.arrival call.request ≡ true
      → refusal design x store call ≡ 0
      → (y : Byte) → call.arrival ≡ some y → Swapped x call y
  -- "9 looks at the tail after the request."
  pub nine_after :
      (x : State) (call : Call) → swaps x call.arrival call.request ≡ true
      → (y : Byte) → call.arrival ≡ some y
      → tail_found x call.arrival call.request ≡ without 1 y.queue x.tail
  -- "All other slots answer as before": 5 and 9 are judged, steps 2 and 3 are done and the tail is looked at as in
  -- document 01, and nothing else of a slot asks whether it swaps.
  pub five_as_before :
      (x : State) (call : Call) → swaps x call.arrival call.request ≡ false
      → (y : Byte) → call.arrival ≡ some y
      → arrival_full x call.arrival call.request ≡ is_full x y.queue
  pub nine_as_before :
      (x : State) (call : Call) → swaps x call.arrival call.request ≡ false
      → tail_found x call.arrival call.request ≡ x.tail
  pub asked-as_before :
      (x : State) (call : Call) → swaps x call.arrival call.request ≡ false
      → asked x call ≡ after_request call.request (after_arrival call.arrival (after_delivery x))
  pub fill_as_before :
      (x : State) (call : Call) → swaps x call.arrival call.request ≡ false
      → joined_fill_of 0 x call ≡ length x.tail + length (arriving call.arrival)
