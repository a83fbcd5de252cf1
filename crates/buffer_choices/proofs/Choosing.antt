-- The choices of step 4 from what the code counts: at phase b - 1 the fullest queue by the tail's counts, and the queue
-- at which the scan stops with the head's counts as credits. A fill past its array, and cells
-- past theirs, are those of the whole array.
use mathlib.Core.Path.{◌≡◌, ap, sym, ◌∙◌, fun_ext}
use mathlib.Core.Bool.{true}
use mathlib.Core.List.{List}
use mathlib.Core.Option.{Option}
use Prim.Native.Nat.{ℕ, ◌-◌, min}
use lib.Dec.{eqb}
use lib.ListN.{length, take}
use lib.Seq.{take-length}
use Rattle.model.specs.Sizes.{lookahead}
use Rattle.model.specs.State.{count_of}
use Rattle.model.specs.Slot.{fullest, queue_to_write, Refill, refill_by, refill_of}
use Rattle.model.proofs.meaning.Steps.{move_writes_fullest}
use Rattle.model.proofs.meaning.Place.{move_refills}
use Rattle.layout.specs.Lengths.{tail_places, head_places, cell_places}
use Rattle.layout.specs.Entries.{bytes_in, counts_in, cells_in}
use Rattle.layout.specs.declared.Regs.{Regs}
use Rattle.layout.specs.Views.{Arrays, sizes_in, state_in}
use Rattle.buffer_margin.proofs.Counting.{bytes-within, cells_within}
use Rattle.buffer_choices.specs.Says.{TallyOfAll}

-- The first entries of an array, taken as a whole.
bytes_taken : (n : ℕ) (xs : List ℕ) → bytes_in (length (take n xs)) (take n xs) ≡ bytes_in n xs
unfolding bytes_in
bytes_taken n xs = rw (take-length (take n xs))

cells_taken : (n : ℕ) (xs : List ℕ) → cells_in (length (take n xs)) (take n xs) ≡ cells_in n xs
unfolding cells_in
cells_taken n xs = rw (take-length (take n xs))

-- What is counted of the first entries of an array.
abbrev pub CountsFirst : List ℕ → ℕ → List ℕ → Type 0
CountsFirst counts n xs = TallyOfAll counts (bytes_in (length (take n xs)) (take n xs))

-- Counts of the first entries of an array, as many as the fill says and the array has, are those of the fill.
pub counts_are : (fill m n : ℕ) (counts xs : List ℕ) → length xs ≡ m → n ≡ min fill m → CountsFirst counts n xs
    → counts_in counts ≡ (λ (q : ℕ). count_of q (bytes_in fill xs))
counts_are fill m n counts xs long e w =
    fun_ext (λ q.
    w.count_is q
    ∙ ap (count_of q) (bytes_taken n xs)
    ∙ ap (λ (k : ℕ). count_of q (bytes_in k xs)) e
    ∙ ap (count_of q) (bytes-within fill m xs long))

module _ (regs : Regs) (m : Arrays) where
  pub write_chosen : eqb regs.phase (regs.block - 1) ≡ true → length m.tail ≡ tail_places
      → {counts : List ℕ} {n : ℕ} {found : Option ℕ} → n ≡ min regs.tail_fill tail_places
      → CountsFirst counts n m.tail → found ≡ fullest regs.block (counts_in counts) regs.queues
      → found ≡ queue_to_write (state_in regs m)
  write_chosen t long {counts} {n} e w is =
      is
      ∙ ap (λ (f : ℕ → ℕ). fullest regs.block f regs.queues)
      (counts_are regs.tail_fill tail_places n counts m.tail long e w)
      ∙ sym (move_writes_fullest (state_in regs m) t)

  pub read_chosen : eqb regs.phase (regs.block - 1) ≡ true → length m.head ≡ head_places
      → length m.cells ≡ cell_places
      → {counts : List ℕ} {n l : ℕ} {found : Refill} → n ≡ min regs.head_fill head_places
      → l ≡ min (lookahead (sizes_in regs)) cell_places
      → CountsFirst counts n m.head → found ≡ refill_by (counts_in counts) (cells_in (length (take l m.cells)) (take l m.cells))
      → found ≡ refill_of (state_in regs m)
  read_chosen t long cells_long {counts} {n} {l} e f w is =
      is
      ∙ ap (refill_by (counts_in counts)) (cells_taken l m.cells)
      ∙ ap (λ (c : ℕ → ℕ). refill_by c (cells_in l m.cells))
      (counts_are regs.head_fill head_places n counts m.head long e w)
      ∙ ap (refill_by (λ (q : ℕ). count_of q (bytes_in regs.head_fill m.head)))
      (ap (λ (k : ℕ). cells_in k m.cells) f ∙ cells_within (lookahead (sizes_in regs)) cell_places
      m.cells cells_long)
      ∙ sym (move_refills (state_in regs m) t)
