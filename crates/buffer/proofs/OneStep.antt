-- Each step as a method hands back the model's state after that step: what its leaf says of the arrays that it changes,
-- put together with all else unchanged. And each leaf finds what it asks.
use mathlib.Core.Path.{◌≡◌, refl, ap, sym, ◌∙◌, subst}
use mathlib.Core.Bool.{Bool, false}
use mathlib.Core.List.{List, [], ◌∷◌, ◌++◌}
use mathlib.Core.Option.{Option, some}
use Prim.Native.Nat.{ℕ, ◌+◌, ◌-◌, ◌<◌, ◌≤◌, max}
use native.Mathlib.Omega.{arith}
use lib.ListN.{length, take, drop, set, get_or, length-append}
use borrow.Author.Tests.{eqb-false, ltb-false}
use Rattle.model.specs.Sizes.{span, lookahead, head_size}
use Rattle.model.specs.State.{Byte, Cell, empty, owed, Ring, ring, State, count_of, head_bytes, ring_of}
use Rattle.model.specs.Slot.{oldest_cell, head_without, delivery_of, delivery, arriving, is_owed}
use Rattle.model.specs.Slot.{head_read, after_arrival}
use Rattle.model.specs.Slot.{after_request, after_read, leaves_uncovered, head_full}
use Rattle.layout.specs.Lengths.{tail_places, head_places, cell_places}
use Rattle.layout.specs.Entries.{bytes_in, counts_in, cell_for, cell_of, cells_in}
use Rattle.layout.proofs.Entries.{bytes-length}
use Rattle.lookahead.specs.Says.{Shifted}
use Rattle.layout.proofs.Cells.{cells_more, cells_stored}
use Rattle.layout.specs.Calls.{delivery_in}
use Rattle.layout.specs.Views.{rings_in}
use Rattle.layout.proofs.Fits.{tail_below_array, head_below_array, fill_within}
use Rattle.layout.proofs.Ranges.{InLimits, in_limits}
use Rattle.layout.proofs.Rings.{ring-at}
use Rattle.layout.proofs.States.{state_from_lem, same-state}
use Rattle.slot_steps.specs.declared.CellDelivered.{CellDelivered}
use Rattle.slot_steps.specs.declared.Asked.{Asked}
use Rattle.slot_steps.specs.Says.{DeliverSays, ArriveSays, AskSays, ReadSays}
use Rattle.slot_steps.proofs.Moving.{oldest_cell_lem, moving-head, moving-read}
use Rattle.slot_steps.proofs.Moving.{asked-cell, asked-tail}
use Rattle.buffer.specs.declared.State as code
use Rattle.buffer.specs.Says.{state_of}
use Rattle.buffer.specs.OneStep.{opened, closed, CachesFit, WriteAsks, ReadAsks}

-- The number 0 is an empty cell.
zero_is_empty : cell_of 0 ≡ empty
unfolding cell_of cell_for
zero_is_empty = refl

-- A list and one element more, without its last element.
take_all : {A : Type 0} (ys zs : List A) → take (length ys) (ys ++ zs) ≡ ys
take_all [] zs = refl
take_all (y ∷ ys) zs = ap (λ l. y ∷ l) (take_all ys zs)

pub without-last : {A : Type 0} (ys : List A) (y : A) → take (length (ys ++ y ∷ []) - 1) (ys ++ y ∷ []) ≡ ys
without-last ys y =
    let e : length (ys ++ y ∷ []) - 1 ≡ length ys = omega (arith, length-append ys (y ∷ [])) in
    rw e (take_all ys (y ∷ []))

-- The youngest cell is stored anew.
youngest_stored : (n : ℕ) (xs : List ℕ) (c : ℕ) → n < length xs
    → cells_in (n + 1) (set xs n c) ≡ take (length (cells_in (n + 1) xs) - 1) (cells_in (n + 1) xs) ++ cell_of c ∷ []
youngest_stored n xs c h =
    cells_stored n xs c h
    ∙ ap (λ (cells : List Cell). cells ++ cell_of c ∷ [])
    (sym (ap (λ (cells : List Cell). take (length cells - 1) cells) (cells_more n xs h)
    ∙ without-last (cells_in n xs) (cell_of (get_or xs n 0))))

module _ (s : code.State) where
  abbrev x : State
  x = state_of s

  module _ (fits : CachesFit x) where
    pub limits : InLimits s.regs
    limits = in_limits s.regs fits.sizes-ok

    pub tail_in : length s.tail ≡ tail_places → s.regs.tail_fill < length s.tail
    tail_in long =
        fill_within s.regs.tail_fill s.tail
        (omega (arith, fits.tail_fits, tail_below_array x.sizes fits.sizes-ok, long))

    pub head_in : length s.head ≡ head_places → s.regs.head_fill < length s.head
    head_in long =
        fill_within s.regs.head_fill s.head
        (omega (arith, fits.head_fits, head_below_array x.sizes fits.sizes-ok, long))

    pub cells_inside : length s.cells ≡ cell_places → span x.sizes < length s.cells
    cells_inside long = omega (arith, limits.span_high, long)

    oldest : length s.cells ≡ cell_places → oldest_cell x.cells ≡ cell_of (get_or s.cells 0 0)
    oldest long = oldest_cell_lem (lookahead x.sizes) s.cells (omega arith) (omega (arith, cells_inside long))

    -- 1. A leaving Owed cell has a head byte of its queue.
    pub byte-to_deliver : length s.cells ≡ cell_places → leaves_uncovered (oldest_cell x.cells) x ≡ false
        → (q : ℕ) → cell_of (get_or s.cells 0 0) ≡ owed q → 1 ≤ count_of q x.head
    byte-to_deliver long f q e =
        omega (
          arith,
          eqb-false (head_bytes x q) 0
              (sym (ap (λ (c : Cell). leaves_uncovered c x) (oldest long ∙ e)) ∙ f),
        )

    module _ (g : CellDelivered) (head₁ cells₁ : List ℕ) (long : length s.cells ≡ cell_places)
        (says : DeliverSays s.regs.head_fill (get_or s.cells 0 0) s.head head₁ g)
        (shifted : Shifted (lookahead x.sizes) 0 s.cells cells₁) where
      pub delivered : delivery_in g.delivery ≡ delivery x
      delivered = says.delivery_is ∙ ap (λ (c : Cell). delivery_of c x.head) (sym (oldest long))

      pub delivered_state :
          state_from_lem x.sizes x.phase x.tail (bytes_in g.fill head₁) (cells_in (lookahead x.sizes) cells₁)
          x.rings x.tail_mark x.head_mark x.last_asked
          ≡ opened x
      delivered_state =
          same-state x.sizes refl refl
          (says.head_is ∙ ap (λ (c : Cell). head_without c x.head) (sym (oldest long)))
          (shifted.cells_are ∙ ap (λ (c : Cell). drop 1 x.cells ++ c ∷ []) zero_is_empty)
          refl refl refl refl

    -- 2.
    pub arrived_state : (arrival : Option Byte) (n mark : ℕ) (tail₁ : List ℕ) → length s.tail ≡ tail_places
        → ArriveSays s.regs.tail_fill arrival s.tail tail₁ n
        → mark ≡ max x.tail_mark n
        → state_from_lem x.sizes x.phase (bytes_in n tail₁) x.head x.cells x.rings mark x.head_mark
        x.last_asked
        ≡ after_arrival arrival x
    arrived_state arrival n mark tail₁ long says e =
        same-state x.sizes refl says.tail_is refl refl refl (e ∙ ap (max x.tail_mark) filled) refl refl
      where
        filled : n ≡ length (x.tail ++ arriving arrival)
        filled =
            omega (
              arith,
              says.fill_is,
              bytes-length s.regs.tail_fill s.tail (omega (arith, tail_in long)),
              length-append x.tail (arriving arrival),
            )

    -- 3.
    pub asked-state : (owes : Bool) (request : Option ℕ) (a : Asked) (tail₁ : List ℕ) → length s.cells ≡ cell_places
        → ((q : ℕ) → request ≡ some q → owes ≡ is_owed (closed x) q)
        → AskSays s.regs.tail_fill owes request s.tail tail₁ a
        → state_from_lem x.sizes x.phase (bytes_in a.fill tail₁) x.head
        (cells_in (lookahead x.sizes) (set s.cells (span x.sizes) a.cell)) x.rings x.tail_mark
        x.head_mark x.last_asked
        ≡ after_request request (closed x)
    asked-state owes request a tail₁ long test says =
        same-state x.sizes refl
        (says.tail_is ∙ asked-tail (closed x) request owes test)
        refl
        (youngest_stored (span x.sizes) s.cells a.cell (cells_inside long)
        ∙ ap (λ (c : Cell). (closed x).cells ++ c ∷ []) (says.cell_is ∙ asked-cell (closed x) request owes test))
        refl refl refl refl

  -- The ring of a queue, as the two arrays hold it.
  ring-here : (q : ℕ) → q < x.sizes.Q → ring_of x.rings q ≡ ring (counts_in s.firsts q) (counts_in s.stored q)
  ring-here q l = ring-at s.regs.queues s.firsts s.stored q l

  -- 4. The write.
  pub block_to_write : {written : Option ℕ} {store : List ℕ} → WriteAsks x written store
      → (q : ℕ) → written ≡ some q
      → (q < s.regs.queues)
      × (s.regs.block ≤ count_of q x.tail)
      × (counts_in s.firsts q < s.regs.depth)
      × (counts_in s.stored q < s.regs.depth)
  block_to_write asks q e = (
    asks.known q e,
    asks.block_there q e,
    subst (λ (r : Ring). r.first < s.regs.depth) (ring-here q (asks.known q e)) (asks.first_in q e),
    subst (λ (r : Ring). r.count < s.regs.depth) (ring-here q (asks.known q e)) (asks.ring-room q e),
  )

  -- 4. The read.
  module _ {readQueue : Option ℕ} {store : List ℕ} where
    pub block_to_read : ReadAsks x readQueue store → length s.head ≡ head_places → (q : ℕ) → readQueue ≡ some q
        → (q < s.regs.queues)
        × (s.regs.head_fill + s.regs.block ≤ length s.head)
        × (counts_in s.firsts q < s.regs.depth)
        × (1 ≤ counts_in s.stored q)
    block_to_read asks long q e = (
      asks.known q e,
      omega (
        arith,
        ltb-false (head_size x.sizes) (length x.head + s.regs.block)
            (sym (ap (head_full x) e) ∙ asks.head_room),
        bytes-length s.regs.head_fill s.head (omega (arith, head_in asks.fits long)),
        head_below_array x.sizes asks.fits.sizes-ok,
        long,
      ),
      subst (λ (r : Ring). r.first < s.regs.depth) (ring-here q (asks.known q e)) (asks.first_in q e),
      subst (λ (r : Ring). 1 ≤ r.count) (ring-here q (asks.known q e)) (asks.block_there q e),
    )

    pub read_state : {n mark : ℕ} {head₁ firsts₁ stored₁ : List ℕ}
        → ReadSays x.sizes s.regs.head_fill readQueue s.firsts s.stored firsts₁ stored₁ s.head head₁
        store n
        → mark ≡ max x.head_mark n
        → state_from_lem x.sizes x.phase x.tail (bytes_in n head₁) x.cells
        (rings_in x.sizes.Q firsts₁ stored₁) x.tail_mark mark x.last_asked
        ≡ after_read readQueue x store
    read_state {n} {mark} {head₁} says e =
        same-state x.sizes refl refl head_is refl (says.rings_are ∙ moving-read readQueue x) refl
        (e ∙ ap (max x.head_mark) (sym (bytes-length n head₁ says.fits) ∙ ap length head_is))
        refl
      where
        head_is : bytes_in n head₁ ≡ head_read readQueue x store
        head_is = says.head_is ∙ moving-head readQueue x store
