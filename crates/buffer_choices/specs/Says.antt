-- What the leaves of the choices promise.
use Rattle.std.specs.Prelude.{◌≡◌, Bool, not, List, [], ◌∷◌, ℕ, ltb, length}
use Rattle.model.specs.Basics.{all_true}
use Rattle.model.specs.State.{Byte, State, count_of, tail_bytes}
use Rattle.model.specs.Slot.{is_owed, is_full}
use Rattle.layout.specs.Entries.{counts_in}

-- 256 counts: of each queue that an entry can name its bytes, so that no rule on queue numbers is asked.
pub record TallyOfAll (counts : List ℕ) (xs : List Byte) : Type 0 where
  pub long : length counts ≡ 256
  pub count_is : (q : ℕ) → counts_in counts q ≡ count_of q xs

-- Request 2.1 of the one queue that both arrival and request are of: it "is full", "the request would be Held", and
-- "the tail already has a byte of it".
abbrev pub swaps_at : State → ℕ → Bool
swaps_at x q = all_true (is_full x q ∷ not (is_owed x q) ∷ ltb 0 (tail_bytes x q) ∷ [])
