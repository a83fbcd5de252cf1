-- A stretch of idle slots: the slots that `quiet_of` counts, and one more if there is one. Slots that passed quietly are
-- those that `quiet_first` counts, since none is quiet where the first is refused: `quiet_first_is`. The last of some
-- slots is a slot on what the others leave, and leaves what they all leave: `last_is_slot`, `last_leaves`.
use mathlib.Core.Path.{◌≡◌, refl, ap, sym, ◌∙◌}
use mathlib.Core.List.{List, ◌++◌}
use Prim.Native.Nat.{ℕ, zero, suc, ◌-◌, ◌≤◌, min}
use native.Mathlib.Omega.{arith}
use lib.Dec.{eqb}
use borrow.Author.Tests.{ne_eqb, eqb-false}
use Rattle.model.specs.Basics.{All}
use Rattle.model.specs.Sizes.{Design}
use Rattle.model.specs.State.{State, tail_bytes, head_bytes}
use Rattle.model.specs.Slot.{Reply, Answer, refuse, refusal, slot}
use Rattle.model.specs.Calls.{idle, idles}
use Rattle.model.specs.Lists.{run, last_state, last_store}
use Rattle.model.specs.Idle.{QuietStep, leading_empties, move_due, quiet_of, quiet_first, stretch_length, last_answer}
use Rattle.model.proofs.basics.Tests.{by_test}
use Rattle.model.proofs.one_slot.Accepted.{refusal-told}
use Rattle.model.proofs.one_slot.Lists.{last_append, last_store_append}
use Rattle.model.proofs.idle.QuietSlots.{idles-parts}

module _ (design : Design) (x : State) (store : List ℕ) where
  pub quiet_first_is : (n m : ℕ)
      → m ≡ quiet_of x.sizes x.phase (leading_empties x.cells)
      (move_due x.sizes (tail_bytes x) (head_bytes x) x.cells) n
      → All QuietStep (run design x store (idles m))
      → m ≡ quiet_first design x store n
  quiet_first_is n m counted quiet =
      by_test (eqb (refusal design x store idle) 0)
      (λ t. rw t counted)
      (λ t. rw t (none_quiet m (eqb-false (refusal design x store idle) 0 t) quiet))
    where
      none_quiet : (k : ℕ) → (refusal design x store idle ≡ 0 → ⊥) → All QuietStep (run design x store (idles k))
          → k ≡ 0
      none_quiet zero refused all = refl
      none_quiet (suc k) refused all =
          absurd (refused (sym (refusal-told design x store idle) ∙ ap (λ (r : Reply). r.number) all.0))

  -- Where the first is refused, a stretch is one slot.
  pub stretch_refused : (k n : ℕ) → slot design x store idle ≡ refuse k x store → (k ≡ 0 → ⊥)
      → stretch_length design x store n ≡ min n 1
  stretch_refused k n refused other =
      rw (ne_eqb (refusal design x store idle) 0
      (λ e. other (sym (ap (λ (a : Answer). a.reply.number) refused) ∙ refusal-told design x store idle ∙ e)))

  pub last_is_slot : (n : ℕ) → 1 ≤ n
      → last_answer design x store n
      ≡ slot design (last_state design x store (idles (n - 1))) (last_store design x store (idles (n - 1))) idle
  last_is_slot zero h = absurd (omega (arith, h))
  last_is_slot (suc n) h =
      ap (λ (k : ℕ). slot design (last_state design x store (idles k)) (last_store design x store (idles k)) idle)
      (let e : n ≡ suc n - 1 = omega arith in e)

  pub last_leaves : (n : ℕ)
      → (last_state design x store (idles n) ≡ (last_answer design x store n).state)
      × (last_store design x store (idles n) ≡ (last_answer design x store n).store)
  last_leaves zero = (refl, refl)
  last_leaves (suc n) = (
    ap (last_state design x store) parts ∙ last_append design x store (idles n) (idles 1),
    ap (last_store design x store) parts ∙ last_store_append design x store (idles n) (idles 1),
  )
    where
      parts : idles (suc n) ≡ idles n ++ idles 1
      parts = idles-parts (suc n) n 1 (omega arith)
