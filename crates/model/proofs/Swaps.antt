-- The sentences of request 2.1 hold of every slot: one that swaps is refused by 3, 2, 8 and 10 alone, since the tail
-- has a byte of its queue, which is then one of the Q; and where 8 does not come, its request is Held after the
-- delivery as before it, and so takes that byte. `swap_says` says it.
use mathlib.Core.Path.{◌≡◌, refl, ap, sym, ◌∙◌, subst}
use mathlib.Core.Bool.{true, false}
use mathlib.Core.List.{List, [], ◌∷◌, ◌++◌}
use mathlib.Core.Option.{some}
use Prim.Native.Nat.{ℕ, ◌≤◌, ◌<◌}
use native.Mathlib.Omega.{arith}
use lib.Dec.{leb}
use lib.ListN.{length, drop, get_or, get_elem?}
use borrow.Author.Tests.{leb-true, leb-false, lt-leb, le-ltb}
use Rattle.model.specs.Sizes.{Design, store_bytes}
use Rattle.model.specs.State.{Byte, Cell, State, values_of, tail_bytes, keeps}
use Rattle.model.specs.Slot.{Call, without, oldest_of, oldest_cell, held_cell, youngest_cell, swaps, joined, asked}
use Rattle.model.specs.Slot.{wrote, queue_to_read}
use Rattle.model.specs.Slot.{arrival_unknown, request_unknown, leaves_uncovered, head_full, tail_found, refusal}
use Rattle.model.specs.Swap.{Swapped, SwapSays}
use Rattle.model.proofs.basics.Tests.{by_test, some_inj}
use Rattle.model.proofs.basics.Bytes.{count_past}
use Rattle.model.proofs.meaning.Steps.{tail_looked_at}
use Rattle.model.proofs.one_slot.Rules.{Keeps, keeps-facts}
use Rattle.model.proofs.one_slot.Swap.{Swap, swap_facts, swap_taken, swap_finds_a_byte, found-asked}
use Rattle.model.proofs.one_slot.Swap.{swap_finds_a_place, swap_takes_an_old_byte, swap_looked_at}
use Rattle.model.proofs.one_slot.Swap.{swap_keeps_the_mark, request-first, five_as_before, nine_as_before}
use Rattle.model.proofs.one_slot.Swap.{asked-as_before}
use Rattle.model.proofs.one_slot.Halves.{swap_left}
use Rattle.model.proofs.one_slot.Accepted.{Judged, accepted-facts}

first_there : (vs : List ℕ) → 1 ≤ length vs → get_elem? vs 0 ≡ some (get_or vs 0 0)
first_there [] l = absurd (omega arith)
first_there (v ∷ vs) l = refl

module _ (design : Design) (x : State) (store : List ℕ) (call : Call)
    (t : swaps x call.arrival call.request ≡ true) where
  abbrev s : Swap x call
  s = swap_facts x call t

  abbrev q : ℕ
  q = s.comes.queue

  -- The queue is one of the Q.
  known : Keeps design x → q < x.sizes.Q
  known v =
      by_test (leb x.sizes.Q q)
      (λ above. absurd (omega (
        arith,
        s.byte-there,
        count_past x.sizes.Q x.tail q v.within.tail_below (leb-true x.sizes.Q q above),
      )))
      (λ below. leb-false x.sizes.Q q below)

  is_accepted : keeps design x ≡ true → store_bytes x.sizes ≤ length store
      → leaves_uncovered (oldest_cell x.cells) x ≡ false
      → head_full (wrote x call) (queue_to_read (wrote x call)) ≡ false
      → refusal design x store call ≡ 0
  is_accepted kept long covered room =
      rw (
        kept,
        le-ltb (length store) (store_bytes x.sizes) long,
        ap (arrival_unknown x) s.arrival_is ∙ lt-leb x.sizes.Q q (known v),
        swap_taken x call t,
        ap (request_unknown x) s.request-is ∙ lt-leb x.sizes.Q q (known v),
        swap_finds_a_byte x call t,
        covered,
        swap_finds_a_place x call t v.tail_fits,
        room,
      )
    where
      v : Keeps design x
      v = keeps-facts design x kept

  swapped : refusal design x store call ≡ 0 → (y : Byte) → call.arrival ≡ some y → Swapped x call y
  swapped none-refuses y e = record {
    taken = get_or (values_of y.queue x.tail) 0 0;
    taken_is = there;
    cells_are =
        ap (λ (c : Cell). drop 1 x.cells ++ c ∷ []) (old_byte.0 ∙ ap (held_cell y.queue) there);
    tail_is = old_byte.1;
    fill_is = swap_looked_at x call t covered;
    mark_is = swap_keeps_the_mark x call t covered judged.kept.tail_mark.0;
  }
    where
      judged : Judged design x store call
      judged =
          subst (Judged design x store) (swap_left x call t) (accepted-facts design x store call none-refuses).judged

      covered : leaves_uncovered (oldest_cell x.cells) x ≡ false
      covered = judged.covered

      old_byte :
          (youngest_cell (joined x call) call.request ≡ held_cell y.queue (oldest_of y.queue x.tail))
          × ((asked x call).tail ≡ without 1 y.queue x.tail ++ y ∷ [])
      old_byte = swap_takes_an_old_byte x call t covered y e

      there : oldest_of y.queue x.tail ≡ some (get_or (values_of y.queue x.tail) 0 0)
      there =
          first_there (values_of y.queue x.tail)
          (subst (λ (z : Byte). 1 ≤ tail_bytes x z.queue) (some_inj s.comes y (sym s.arrival_is ∙ e))
          s.byte-there)

  nine_after : (y : Byte) → call.arrival ≡ some y
      → tail_found x call.arrival call.request ≡ without 1 y.queue x.tail
  nine_after y e =
      found-asked x call t
      ∙ ap (λ (z : Byte). without 1 z.queue x.tail) (some_inj s.comes y (sym s.arrival_is ∙ e))

pub swap_says : (design : Design) → SwapSays design
swap_says design = record {
  is_accepted = λ x store call t kept long covered room.
      (is_accepted design x store call t kept long covered room, swap_left x call t);
  request-first = λ x call t kept. request-first x call t (keeps-facts design x kept).tail_mark.0;
  takes_an_old_byte = λ x store call t. swapped design x store call t;
  nine_after = λ x call t. nine_after design x [] call t;
  five_as_before = five_as_before;
  nine_as_before = nine_as_before;
  asked-as_before = asked-as_before;
  fill_as_before = tail_looked_at;
}
