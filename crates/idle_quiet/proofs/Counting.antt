-- A move is due exactly where the code says so.
use mathlib.Core.Path.{◌≡◌, refl, ap, sym, ◌∙◌}
use mathlib.Core.Bool.{Bool, false}
use mathlib.Core.List.{List, [], append-nil}
use mathlib.Core.Option.{Option, some, none}
use Rattle.std.specs.Prelude as prelude
use Rattle.std.specs.Prelude.{Some, None, is_some}
use Rattle.layout.specs.Calls.{chosen_in}
use Prim.Native.Nat.{ℕ}
use lib.ListN.{drop}
use Rattle.model.specs.Sizes.{Sizes}
use Rattle.model.specs.State.{Cell}
use Rattle.model.specs.Slot.{fullest, refill_queue, Refill}
use Rattle.model.specs.Idle.{leading_empties, some_queue, move_due}
use Rattle.model.proofs.idle.QuietCount.{scan_past_empties}
use Rattle.lookahead.specs.Says.{scan_ends, Scanned}

-- Whether there is a queue, in the code's words and in the model's.
pub some_is : (o : prelude.Option ℕ) → is_some o ≡ some_queue (chosen_in o)
some_is (Some q) = refl
some_is None = refl

-- Whether a move is due: a queue to write is found, or the scan behind the leading empty cells ends at one.
module _ (s : Sizes) (tails heads : ℕ → ℕ) (cells : List Cell) (written : Option ℕ)
    (fullest-is : written ≡ fullest s.b tails s.Q) where
  pub due_to_read : (found : Option ℕ) (passed : ℕ) (left : ℕ → ℕ) (due : Bool) (empties : ℕ)
      → false ≡ some_queue written
      → empties ≡ leading_empties cells → Scanned heads (drop empties cells) found passed left
      → due ≡ some_queue found → due ≡ move_due s tails heads cells
  due_to_read found passed left due empties e leading scanned f = rw (← fullest-is, ← e) (f ∙ ap some_queue found-is)
    where
      ended : (o : Option ℕ) → (scan_ends o passed left []).queue ≡ o
      ended none = refl
      ended (some q) = refl

      found-is : found ≡ refill_queue heads cells
      found-is =
          sym (ended found)
          ∙ sym (ap (λ (r : Refill). r.queue) (scanned.ends []))
          ∙ ap (refill_queue heads) (append-nil (drop empties cells))
          ∙ ap (λ (k : ℕ). refill_queue heads (drop k cells)) leading
          ∙ scan_past_empties heads cells
