-- One accepted slot, by the figures: it passes on without a move, or is the last of its round and writes a block,
-- reads a block or moves nothing.
use mathlib.Core.Path.{◌≡◌}
use mathlib.Core.Bool.{true, false}
use mathlib.Core.List.{List}
use mathlib.Core.Option.{Option, some, none}
use Prim.Native.Nat.{ℕ, suc, ◌-◌, ◌<◌, ◌≤◌}
use native.Mathlib.Omega.{arith}
use native.Mathlib.Nat.{zero-add}
use borrow.Author.Tests.{eq-eqb, ne_eqb}
use Rattle.model.specs.Sizes.{Sizes, Limits, lookahead, full}
use Rattle.model.specs.State.{State}
use Rattle.model.specs.Slot.{Call, moves, queue_to_write, after_write, store_written, queue_to_read, after_read, asked, wrote}
use Rattle.model.proofs.meaning.Steps.{no_move_no_write, no_move_no_read}
use Rattle.model.proofs.one_slot.Rules.{Rules}
use Rattle.model.proofs.one_slot.Kept.{rules-3, rules-written}
use Rattle.model_least.proofs.Slots.{Ready, state_after, store_after, Allowed, judged, ready_after}
use Rattle.model_least.proofs.Figures.{Figures, figures, Stands}
use Rattle.model_least.proofs.Moves.{Calm, none_written, one_written, none_read, one_read, stands_wrote}
use Rattle.model_least.proofs.Moves.{stands_read}
use Rattle.model_least.proofs.Moves.{stands_unread, stands_phase}

-- Where a list stands: j slots of a round have passed.
pub record Stage (limits : Limits) (s : Sizes) (q : ℕ) (here : Figures) (there : ℕ → Figures) (j : ℕ)
    (x : State) (store : List ℕ) : Type 0 where
  pub ready : Ready limits s x store
  pub stands : Stands q here there x
  pub phase_is : x.phase ≡ j

-- What the slot leaves, from what the queues show after its step 3.
module _ (limits : Limits) (s : Sizes) (x : State) (store : List ℕ) (call : Call) (ready : Ready limits s x store)
    (allowed : Allowed x call) (q : ℕ) (there : ℕ → Figures) where
  abbrev y : State
  y = asked x call

  abbrev next : State
  next = state_after x store call

  abbrev next_store : List ℕ
  next_store = store_after x store call

  rules-asked : Rules (lookahead x.sizes) y
  rules-asked = rules-3 (full limits) x store call (omega arith) (judged limits s x store ready call allowed)

  rules-moved_out : Rules (lookahead x.sizes) (wrote x call)
  rules-moved_out =
      rules-written (full limits) x store call (omega arith) (judged limits s x store ready call allowed)

  settled : (f : Figures) (j : ℕ) (o r : Option ℕ) → queue_to_read (wrote x call) ≡ r → queue_to_write y ≡ o
      → Stands q f there (after_read r (after_write o y) (store_written o y store))
      → next.phase ≡ j
      → Stage limits s q f there j next next_store
  settled f j o r e d v phase = record {
    ready = ready_after limits s x store ready call allowed;
    stands = stands_phase q f there _ (rw (e, d) v);
    phase_is = phase;
  }

  module _ (here : Figures) (v : Stands q here there y) where
    pub on : (j : ℕ) → x.phase ≡ j → suc j < x.sizes.b → Stage limits s q here there (suc j) next next_store
    on j e l =
        settled here (suc j) none none (no_move_no_read (wrote x call) no_move) (no_move_no_write y no_move)
        (stands_unread q here there y store v) (rw no_move (omega (arith, e)))
      where
        no_move : moves x ≡ false
        no_move = ne_eqb x.phase (x.sizes.b - 1) (λ d. omega (arith, d, e, l))

  module _ (last_slot : suc x.phase ≡ x.sizes.b) (calm : Calm x.sizes.b there) where
    move : moves x ≡ true
    move = eq-eqb x.phase (x.sizes.b - 1) (omega (arith, last_slot))

    pub writes : (k m : ℕ) → q < x.sizes.Q → Stands q (figures x.sizes.b k m 0) there y
        → Stage limits s q (figures 0 (suc k) m 0) there 0 next next_store
    writes k m below v =
        settled after 0 (some q) none
        (none_read q after there (wrote x call) (rw written stood) calm _ rules-moved_out (omega arith)) written
        (stands_unread q after there (after_write (some q) y) (store_written (some q) y store) stood) (rw move)
      where
        after : Figures
        after = figures 0 (suc k) m 0

        written : queue_to_write y ≡ some q
        written = one_written q _ there y v calm move below (omega arith)

        stood : Stands q after there (after_write (some q) y)
        stood = stands_wrote _ q 0 k m 0 there y rules-asked below (rw zero-add v)

    module _ (here : Figures) (v : Stands q here there y) (light : here.tail < x.sizes.b) where
      unwritten : queue_to_write y ≡ none
      unwritten = none_written q here there y v calm light

      stood : Stands q here there (wrote x call)
      stood = rw unwritten v

      pub moves-nothing : here.asked ≤ here.margin → Stage limits s q here there 0 next next_store
      moves-nothing l =
          settled here 0 none none (none_read q here there (wrote x call) stood calm _ rules-moved_out l) unwritten
          (stands_unread q here there y store v) (rw move)

    pub reads : (t k m : ℕ) → q < x.sizes.Q → t < x.sizes.b → Stands q (figures t (suc k) m (suc m)) there y
        → Stage limits s q (figures t k (x.sizes.b - 1) 0) there 0 next next_store
    reads t k m below light v =
        settled (figures t k (x.sizes.b - 1) 0) 0 none (some q)
        (one_read q _ there (wrote x call) (stood _ v light) calm _ rules-moved_out move (omega arith))
        (unwritten _ v light)
        (stands_read _ q t k m there y store rules-asked below (omega (arith, last_slot)) ready.store_long v)
        (rw move)
