-- 3 and 2 come before every other refusal, and neither looks at the call: what is judged of one slot holds of all.
use mathlib.Core.Path.{◌≡◌, refl, ap, sym, ◌∙◌, subst}
use mathlib.Core.Bool.{Bool, true, false}
use mathlib.Core.List.{List, [], ◌∷◌}
use Prim.Native.Nat.{ℕ, ◌*◌, ◌<◌, ◌≤◌}
use native.Mathlib.Omega.{arith}
use lib.Dec.{ltb}
use lib.ListN.{length}
use borrow.Author.Tests.{ltb-true, ltb-false, lt-ltb}
use Rattle.model.specs.Basics.{when, first_refusal}
use Rattle.model.specs.Sizes.{Sizes, paper_limits, accepts, paper, store_bytes}
use Rattle.model.specs.State.{State, keeps}
use Rattle.model.specs.Slot.{Call, refuse, slot, refusal}
use Rattle.model.proofs.basics.Tests.{by_test}
use Rattle.model.proofs.basics.Limits.{row_within, store_within}
use Rattle.layout.specs.declared.Regs.{Regs}
use Rattle.layout.specs.Views.{sizes_in}
use Rattle.layout.proofs.Ranges.{InLimits, in_limits}
use Rattle.slot_checked.specs.Says.{state_number, JudgeStateSays}

-- The number by its tests.
pub number_kept : (kept : Bool) (s : Sizes) (bytes : ℕ) → kept ≡ true → {short : Bool}
    → ltb bytes (store_bytes s) ≡ short → state_number kept s bytes ≡ first_refusal (when short 2 ∷ [])
number_kept kept s bytes t u =
    ap (λ (k : Bool). state_number k s bytes) t ∙ ap (λ (short : Bool). first_refusal (when short 2 ∷ [])) u

pub number_broken : (kept : Bool) (s : Sizes) (bytes : ℕ) → kept ≡ false → state_number kept s bytes ≡ 3
number_broken kept s bytes t = ap (λ (k : Bool). state_number k s bytes) t

pub three : (x : State) (store : List ℕ) (call : Call) → keeps paper x ≡ false
    → slot paper x store call ≡ refuse 3 x store
three x store call e = rw (e, refusal)

pub two : (x : State) (store : List ℕ) (call : Call) → keeps paper x ≡ true → length store < store_bytes x.sizes
    → slot paper x store call ≡ refuse 2 x store
two x store call e h = rw (e, lt-ltb (length store) (store_bytes x.sizes) h, refusal)

module _ (x : State) (bytes : ℕ) where
  pub judged_broken : keeps paper x ≡ false → JudgeStateSays x bytes 3
  judged_broken e = record {
    passed = λ z. absurd (omega (arith, z));
    refused = λ f store call l. three x store call e;
  }

  pub judged_short : keeps paper x ≡ true → bytes < store_bytes x.sizes → JudgeStateSays x bytes 2
  judged_short e h = record {
    passed = λ z. absurd (omega (arith, z));
    refused = λ f store call l. two x store call e (omega (arith, l, h));
  }

  pub judged_clear : keeps paper x ≡ true → store_bytes x.sizes ≤ bytes → JudgeStateSays x bytes 0
  judged_clear e h = record { passed = λ z. (e, h); refused = λ f. absurd (f refl) }

  -- The number that the code answers, by whether the rules are kept.
  pub number_says : {kept : Bool} → kept ≡ keeps paper x → {n : ℕ} → n ≡ state_number kept x.sizes bytes
      → JudgeStateSays x bytes n
  number_says {kept} e {n} en =
      by_test (keeps paper x)
      (λ t. by_test (ltb bytes need)
      (λ u. answered (number_kept kept x.sizes bytes (e ∙ t) u) (judged_short t (ltb-true bytes need u)))
      (λ u. answered (number_kept kept x.sizes bytes (e ∙ t) u) (judged_clear t (ltb-false bytes need u))))
      (λ t. answered (number_broken kept x.sizes bytes (e ∙ t)) (judged_broken t))
    where
      need : ℕ
      need = store_bytes x.sizes

      answered : {m : ℕ} → state_number kept x.sizes bytes ≡ m → JudgeStateSays x bytes m → JudgeStateSays x bytes n
      answered f says = subst (JudgeStateSays x bytes) (sym (en ∙ f)) says

-- The same by the rules themselves.
pub judged_state : (x : State) (bytes : ℕ) {n : ℕ} → n ≡ state_number (keeps paper x) x.sizes bytes
    → JudgeStateSays x bytes n
judged_state x bytes e = number_says x bytes refl e

-- The bytes of store that accepted sizes need are a small number.
pub need_small : (regs : Regs) → accepts paper_limits (sizes_in regs) ≡ true
    → (regs.queues * regs.depth ≤ 64 * 255) × (regs.queues * regs.depth * regs.block ≤ 64 * 255 * 128)
need_small regs e = (row_within paper_limits (sizes_in regs) limits, store_within paper_limits (sizes_in regs) limits)
  where
    limits : InLimits regs
    limits = in_limits regs e
