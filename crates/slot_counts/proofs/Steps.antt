-- The steps of a slot one after another: each is told by the counts that the one before it left.
use mathlib.Core.Path.{◌≡◌, ap, ◌∙◌, fun_ext}
use mathlib.Core.Bool.{Bool}
use mathlib.Core.List.{List}
use Prim.Native.Nat.{ℕ, ◌≤◌}
use native.Mathlib.Omega.{arith}
use Rattle.model.specs.State.{Cell}
use Rattle.model.specs.Slot.{Call}
use Rattle.layout.specs.Entries.{counts_in}
use Rattle.layout.specs.Counts.{CountsAre}
use Rattle.lookahead.specs.Says.{spent}
use Rattle.slot_counts.specs.Says.{arrival_counted, less_taken, tails_asked}

-- Counts that a leaving cell has lowered are at most what they were.
pub spent-most : (before after : List ℕ) (cell : Cell) (most : ℕ) → CountsAre after (spent (counts_in before) cell)
    → ((q : ℕ) → counts_in before q ≤ most) → (q : ℕ) → counts_in after q ≤ most
spent-most before after cell most w h q = omega (arith, w.count_is q, h q)

-- The tail bytes after the arrival and the request.
pub tails_asked_lem : (call : Call) (is_owed : Bool) (tails : List ℕ) {tails₁ tails₂ : List ℕ}
    → CountsAre tails₁ (arrival_counted call.arrival (counts_in tails))
    → CountsAre tails₂ (less_taken is_owed call.request (counts_in tails₁))
    → counts_in tails₂ ≡ tails_asked is_owed call (counts_in tails)
tails_asked_lem call is_owed tails arrived taken =
    fun_ext taken.count_is ∙ ap (less_taken is_owed call.request) (fun_ext arrived.count_is)
