-- With one block to a queue and fewer queues than a block has bytes, no list fills the tail: its queues' tail bytes are
-- at most K × b each, Q × b in all, and the tail's size is b - Q more. In a slot that swaps (request 2.1) the tail is
-- looked at with as many bytes as it was handed in with.
use mathlib.Core.Path.{◌≡◌, refl, ap, sym, ◌∙◌, subst}
use mathlib.Core.Bool.{Bool, true, false}
use mathlib.Core.List.{List, [], ◌∷◌}
use Prim.Native.Nat.{ℕ, ◌*◌, ◌<◌, ◌≤◌}
use native.Mathlib.Omega.{arith}
use lib.ListN.{length}
use borrow.Author.Tests.{ne_eqb}
use Rattle.model.specs.Basics.{choose, some_of}
use Rattle.model.specs.Sizes.{Sizes, Limits, accepts, tail_size, full}
use Rattle.model.specs.State.{State, fresh, tail_bytes}
use Rattle.model.specs.Slot.{Call, swaps, joined, asked, Answer, halves_taken, slot}
use Rattle.model.specs.Lists.{joined_fill_of, run, list_of}
use Rattle.model.proofs.basics.Tests.{by_test}
use Rattle.model.proofs.basics.Sums.{sum_bound}
use Rattle.model.proofs.basics.Bytes.{sum-counts}
use Rattle.model.proofs.basics.Rings.{times_pred}
use Rattle.model.proofs.one_slot.Rules.{Rules, Keeps, keeps-fresh}
use Rattle.model.proofs.one_slot.Swap.{swap_looked_at}
use Rattle.model.proofs.one_slot.Accepted.{RefusedOrAccepted, was_refused, was_accepted, outcome}
use Rattle.model.proofs.one_slot.Kept.{rules-2, slot_kept}
use Rattle.model_least.specs.Least.{tail_fills}

-- "Tail bytes + b × blocks is at most K × b", for each queue.
tail_bounded : (n : ℕ) (x : State) → Rules n x → length x.tail ≤ x.sizes.Q * (x.sizes.K * x.sizes.b)
tail_bounded n x rules =
    omega (
      arith,
      sum-counts x.sizes.Q x.tail rules.tail_below,
      sum_bound x.sizes.Q (x.sizes.K * x.sizes.b) (tail_bytes x) (λ q l. omega (arith, rules.room q l)),
    )

module _ (limits : Limits) (x : State) (store : List ℕ) (call : Call) (kept : Keeps (full limits) x) where
  abbrev most : ℕ
  most = x.sizes.Q * (x.sizes.K * x.sizes.b)

  abbrev left : Call
  left = halves_taken x call

  joined-bounded : joined_fill_of (slot (full limits) x store call).reply.number x left ≤ most
  joined-bounded = go (slot (full limits) x store call) (outcome (full limits) x store call)
    where
      go : (a : Answer) → RefusedOrAccepted (full limits) x store call a → joined_fill_of a.reply.number x left ≤ most
      go a (was_refused n e) = tail_bounded _ x kept.within
      go a (was_accepted f) =
          by_test (swaps x left.arrival left.request)
          (λ t. omega (arith, swap_looked_at x left t f.judged.covered, tail_bounded _ x kept.within))
          (λ t. subst (λ (b : Bool). length (choose b (asked x left).tail (joined x left).tail) ≤ most) (sym t)
          (tail_bounded _ _ (rules-2 (full limits) x store left (omega arith) f.judged)))

neither : (t u : Bool) → t ≡ false → u ≡ false → choose t true u ≡ false
neither t u e f = rw (e, f)

module _ (limits : Limits) (s : Sizes) (one : s.K ≡ 1) (few : s.Q < s.b) where
  too_small : s.Q * (s.K * s.b) < tail_size s
  too_small =
      omega (
        arith,
        few,
        ap (λ (k : ℕ). s.Q * (k * s.b)) one,
        ap (λ (k : ℕ). s.Q * k) (let e : 1 * s.b ≡ s.b = omega arith in e),
        times_pred s.Q s.b (omega (arith, few)),
      )

  never : (x : State) (store : List ℕ) (calls : List Call) → Keeps (full limits) x → x.sizes ≡ s
      → some_of (tail_fills s) (run (full limits) x store calls) ≡ false
  never x store [] kept same = refl
  never x store (call ∷ calls) kept same =
      neither _ _
      (ne_eqb (joined_fill_of (slot (full limits) x store call).reply.number x (halves_taken x call)) (tail_size s)
      (λ e. omega (
        arith,
        e,
        too_small,
        ap (λ (z : Sizes). z.Q * (z.K * z.b)) same,
        joined-bounded limits x store call kept,
      )))
      (never (slot (full limits) x store call).state (slot (full limits) x store call).store calls (slot_kept (full limits) x store call (omega arith) kept).kept
      ((slot_kept (full limits) x store call (omega arith) kept).same-sizes ∙ same))

pub tail_never_fills : (limits : Limits) (s : Sizes) (store : List ℕ) (calls : List Call) → accepts limits s ≡ true
    → s.K ≡ 1 → s.Q < s.b → some_of (tail_fills s) (list_of (full limits) s store calls) ≡ false
tail_never_fills limits s store calls e one few =
    never limits s one few (fresh (full limits) s) store calls (keeps-fresh (full limits) s e) refl
