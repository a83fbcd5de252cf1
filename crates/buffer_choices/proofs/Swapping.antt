-- The tests of request 2.1 from what the code counts. A queue is full where its tail bytes are whole blocks, and these
-- with its stored blocks are K: so b × blocks and K × b, which may be large, are never taken.
use mathlib.Core.Path.{◌≡◌, refl, ap, sym, ◌∙◌}
use mathlib.Core.Bool.{Bool, true, false, ◌&&◌, not}
use mathlib.Core.List.{List, [], ◌∷◌}
use Prim.Native.Nat.{ℕ, ◌+◌, ◌*◌, ◌/◌, ◌%◌, ◌≤◌, min}
use native.Mathlib.Nat.{add-mul, mul_comm, div-add-mod', add-mul-mod_self_left, mul-mod_left}
use native.Mathlib.Nat.{eq_of_mul-eq-mul_right}
use native.Mathlib.Omega.{arith}
use lib.Dec.{eqb, ltb}
use lib.ListN.{length, take, get_or}
use lib.Seq.{length-take-le}
use borrow.Author.Tests.{eqb-true, eqb-false, eq-eqb, ne_eqb, lt-ltb}
use Rattle.model.specs.State.{State, tail_bytes, blocks}
use Rattle.model.specs.Slot.{is_owed, is_full}
use Rattle.model.proofs.basics.Tests.{by_test}
use Rattle.model.proofs.basics.AllOf.{all_true_not}
use Rattle.layout.specs.Lengths.{tail_places}
use Rattle.layout.specs.Entries.{counts_in}
use Rattle.layout.specs.declared.Regs.{Regs}
use Rattle.layout.specs.Views.{Arrays, state_in}
use Rattle.layout.specs.Figures.{blocks_in}
use Rattle.buffer_choices.specs.Says.{swaps_at}
use Rattle.buffer_choices.proofs.Tallies.{tally_low}
use Rattle.buffer_choices.proofs.Stored.{blocks-are}
use Rattle.buffer_choices.proofs.Choosing.{CountsFirst, counts_are}

-- n tail bytes and k blocks of b bytes, where d blocks have place.
module _ (n k b d : ℕ) where
  pub part_block_not_full : (n % b ≡ 0 → ⊥) → false ≡ eqb (n + b * k) (d * b)
  part_block_not_full h =
      sym (ne_eqb (n + b * k) (d * b) (λ e.
      h (sym (add-mul-mod_self_left n b k) ∙ ap (λ (m : ℕ). m % b) e ∙ mul-mod_left d b)))

  module _ (some_byte : 1 ≤ b) (whole : n % b ≡ 0) where
    as_blocks : n + b * k ≡ (n / b + k) * b
    as_blocks = omega (arith, whole, div-add-mod' n b, add-mul (n / b) k b, mul_comm b k)

    pub whole_blocks_full : eqb (n / b + k) d ≡ eqb (n + b * k) (d * b)
    whole_blocks_full =
        by_test (eqb (n / b + k) d)
        (λ t. t
        ∙ sym (eq-eqb (n + b * k) (d * b) (as_blocks ∙ ap (λ (m : ℕ). m * b) (eqb-true (n / b + k) d t))))
        (λ t. t
        ∙ sym (ne_eqb (n + b * k) (d * b) (λ e.
        eqb-false (n / b + k) d t (eq_of_mul-eq-mul_right b some_byte (n / b + k) d (sym as_blocks ∙ e)))))

-- Tail bytes and blocks as the code counts them.
module _ (regs : Regs) (m : Arrays) (q : ℕ) where
  pub tail_counted : length m.tail ≡ tail_places → {counts : List ℕ} {n : ℕ} → n ≡ min regs.tail_fill tail_places
      → CountsFirst counts n m.tail
      → (get_or counts q 0 ≡ tail_bytes (state_in regs m) q) × (get_or counts q 0 ≤ tail_places)
  unfolding counts_in
  tail_counted long {counts} {n} e w = (
    ap (λ (f : ℕ → ℕ). f q) (counts_are regs.tail_fill tail_places n counts m.tail long e w),
    omega (
      arith,
      e,
      long,
      tally_low counts (take n m.tail) (length (take n m.tail)) q (omega arith) w,
      length-take-le n m.tail (omega (arith, e, long)),
    ),
  )

  pub full-counted : {bytes n : ℕ} {full : Bool} → bytes ≡ tail_bytes (state_in regs m) q
      → n ≡ blocks_in regs.queues m.stored q
      → full ≡ eqb (bytes + regs.block * n) (regs.depth * regs.block) → full ≡ is_full (state_in regs m) q
  full-counted {bytes} e f is =
      is
      ∙ ap (λ (k : ℕ). eqb (bytes + regs.block * k) (regs.depth * regs.block))
      (f ∙ blocks-are regs.queues m.stored q m.firsts)
      ∙ ap (λ (k : ℕ). eqb (k + regs.block * blocks (state_in regs m) q) (regs.depth * regs.block)) e

-- The tests of one queue, each made only where those before it hold.
module _ (x : State) (q : ℕ) where
  abbrev tests : List Bool
  tests = is_full x q ∷ not (is_owed x q) ∷ ltb 0 (tail_bytes x q) ∷ []

  pub room_swaps_not : is_full x q ≡ false → false ≡ swaps_at x q
  room_swaps_not t = sym (all_true_not tests 0 t)

  pub full-swaps : 1 ≤ tail_bytes x q → is_full x q ≡ true → {owing : Bool} → owing ≡ is_owed x q
      → not owing ≡ swaps_at x q
  full-swaps some_byte full {owing} e =
      rw (full, lt-ltb 0 (tail_bytes x q) some_byte, ← e) (sym (and_true (not owing)))
    where
      and_true : (b : Bool) → (b && true) ≡ b
      and_true true = refl
      and_true false = refl
