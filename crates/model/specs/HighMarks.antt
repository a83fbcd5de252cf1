-- Document 02, 2.8, "Exact high marks": over lists of slots, each mark is the greatest fill that was looked at.
use Rattle.std.specs.Prelude.{◌≡◌, List, [], ◌∷◌, map, ℕ, max}
use Rattle.std.proofs.Math.Option.{none}
use Rattle.model.specs.Sizes.{Sizes, Design}
use Rattle.model.specs.State.{State, fresh}
use Rattle.model.specs.Slot.{Call, halves_taken, slot}
use Rattle.model.specs.Lists.{Step, run, last_state, list_of, accepted}
use Rattle.model.specs.Chains.{Chain}

-- The greatest of some fills; 0 where there is none.
abbrev pub greatest : List ℕ → ℕ
greatest [] = 0
greatest (n ∷ ns) = max n (greatest ns)

-- "The tail is looked at just after the arrival joins it .. The head is looked at just after the read": in each of some
-- accepted slots.
abbrev pub tail_looks : List Step → List ℕ
tail_looks slots = map (λ step. step.joined_fill) slots

abbrev pub head_looks : List Step → List ℕ
head_looks slots = map (λ step. step.read_fill) slots

-- "Each is now exactly the greatest fill since the fresh state": the marks of a state that these accepted slots leave.
pub record GreatestFills (slots : List Step) (y : State) : Type 0 where
  pub tail_mark : y.tail_mark ≡ greatest (tail_looks slots)
  pub head_mark : y.head_mark ≡ greatest (head_looks slots)

-- "On a handed-in state the mark is the greater of the old one and the new fill": of several slots, the greatest of the
-- old mark and of all new fills.
pub record MarksRise (x : State) (slots : List Step) (y : State) : Type 0 where
  pub tail_mark : y.tail_mark ≡ max x.tail_mark (greatest (tail_looks slots))
  pub head_mark : y.head_mark ≡ max x.head_mark (greatest (head_looks slots))

-- Of every list of slots, refused ones included, whatever sizes, state and store; and of every chain, the round robin
-- arbiter's slots among a caller's. The last three say of one slot when a mark stays: with no arrival taken the tail's,
-- with no read the head's (a state that keeps the rules has marks that are at least the fills, and any other is
-- refused), and both where the slot is refused.
pub record MarksExact (design : Design) : Type 0 where
  pub since_fresh :
      (s : Sizes) (store : List ℕ) (calls : List Call)
      → GreatestFills (accepted (list_of design s store calls)) (last_state design (fresh design s) store calls)
  pub every_chain :
      (s : Sizes) (store : List ℕ) (steps : List Step) (last : State)
      → Chain design (fresh design s) store steps last
      → GreatestFills (accepted steps) last
  pub from_any_state :
      (x : State) (store : List ℕ) (calls : List Call)
      → MarksRise x (accepted (run design x store calls)) (last_state design x store calls)
  pub no_arrival :
      (x : State) (store : List ℕ) (call : Call) → (halves_taken x call).arrival ≡ none
      → (slot design x store call).state.tail_mark ≡ x.tail_mark
  pub no_read :
      (x : State) (store : List ℕ) (call : Call) → (slot design x store call).reply.read ≡ none
      → (slot design x store call).state.head_mark ≡ x.head_mark
  pub refused :
      (x : State) (store : List ℕ) (call : Call) → ((slot design x store call).reply.number ≡ 0 → ⊥)
      → ((slot design x store call).state.tail_mark ≡ x.tail_mark)
      × ((slot design x store call).state.head_mark ≡ x.head_mark)
