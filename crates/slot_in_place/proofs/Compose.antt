-- The steps in code compose to the model's accepted slot. Each step's array is the model's list after that step, so
-- that what the next step asks of it is there: the refusals that were judged on the state as handed in rule out every
-- case in which a step would have nothing to take or no room.
use mathlib.Core.Path.{◌≡◌, refl, ap, sym, ◌∙◌, subst}
use mathlib.Core.Bool.{Bool, true, false}
use mathlib.Core.List.{List, [], ◌∷◌, ◌++◌}
use mathlib.Core.Option.{Option, some, none}
use Prim.Native.Nat.{ℕ, ◌+◌, ◌<◌, ◌≤◌, max}
use native.Mathlib.Omega.{arith}
use lib.ListN.{length, drop, get_or, length-append}
use borrow.Author.Tests.{eqb-false, ltb-false}
use Rattle.model.specs.Basics.{choose}
use Rattle.model.specs.Sizes.{paper_limits, paper, accepts, lookahead, head_size}
use Rattle.model.specs.State.{Byte, Cell, owed, Ring, ring, State, count_of, head_bytes, tail_bytes, blocks, ring_of}
use Rattle.model.specs.Slot.{Call, oldest_cell, head_without, delivery_of, delivery, arriving, tail_left, leaves_uncovered}
use Rattle.model.specs.Slot.{early_arrival, late_arrival}
use Rattle.model.specs.Slot.{moves, tail_written, rings_written, store_written, queue_to_read, head_read, head_full}
use Rattle.model.specs.Slot.{rings_read, joined, asked, wrote, wrote_store, refilled, carried_out}
use Rattle.model.proofs.basics.Rings.{fewer_blocks}
use Rattle.model.proofs.one_slot.Rules.{Rules}
use Rattle.model.proofs.one_slot.Accepted.{Judged, Accepted, accepted-facts}
use Rattle.model.proofs.one_slot.Kept.{write_taken, read_taken, rules-3, rules-written, same_length}
use Rattle.model.proofs.one_slot.StepsKeepRules.{length-arriving}
use Rattle.model.proofs.one_slot.Swap.{joins_once, asked-no_longer}
use Rattle.model.proofs.delay.IdealSlot.{held_before}
use Rattle.layout.specs.Lengths.{tail_places, head_places}
use Rattle.layout.specs.Entries.{bytes_in, counts_in, cell_of, cells_in}
use Rattle.layout.proofs.Entries.{bytes-length}
use Rattle.lookahead.specs.Says.{Shifted}
use Rattle.layout.specs.declared.Regs.{Regs}
use Rattle.layout.specs.Calls.{delivery_in}
use Rattle.layout.specs.Views.{Arrays, arrays, Long, sizes_in, rings_in, state_in}
use Rattle.layout.proofs.Fits.{head_below_array, tail_in_array, head_in_array, tail_length}
use Rattle.layout.proofs.Ranges.{InLimits, in_limits}
use Rattle.layout.proofs.Rings.{ring-at}
use Rattle.layout.proofs.States.{same-state}
use Rattle.slot_steps.specs.declared.CellDelivered.{CellDelivered}
use Rattle.slot_steps.specs.declared.Asked.{Asked}
use Rattle.slot_steps.specs.Says.{DeliverSays, ArriveSays, cell_asked, tail_asked, AskSays, moving, WriteSays, ReadSays}
use Rattle.slot_steps.proofs.Moving.{oldest_cell_lem, moving-tail, moving-rings, moving-store, moving-head, moving-read}
use Rattle.slot_steps.proofs.Moving.{asked-cell, asked-tail}
use Rattle.slot_in_place.specs.Says.{Decided}

-- A leaving Owed cell has a head byte of its queue.
pub uncovered-owed : (c : Cell) (y : State) (q : ℕ) → leaves_uncovered c y ≡ false → c ≡ owed q → 1 ≤ head_bytes y q
uncovered-owed c y q f e =
    omega (arith, eqb-false (head_bytes y q) 0 (sym (ap (λ (z : Cell). leaves_uncovered z y) e) ∙ f))

module _ (regs : Regs) (m : Arrays) {store : List ℕ} {call : Call} {is_owed' swaps' : Bool}
    {written readQueue : Option ℕ}
    (long : Long m) (d : Decided (state_in regs m) store call is_owed' swaps' written readQueue) where
  abbrev x : State
  x = state_in regs m

  abbrev l : ℕ
  l = lookahead (sizes_in regs)

  accepted : Accepted paper x store call
  accepted = subst (Accepted paper x store) d.all_taken (accepted-facts paper x store call d.accepted)

  pub judged : Judged paper x store call
  judged = accepted.judged

  pub sizes-ok : accepts paper_limits (sizes_in regs) ≡ true
  sizes-ok = judged.kept.sizes-ok

  pub limits : InLimits regs
  limits = in_limits regs sizes-ok

  late_now : {late : Option Byte} → late ≡ choose swaps' call.arrival none → late ≡ late_arrival x call
  late_now late_is = late_is ∙ ap (λ (t : Bool). choose t call.arrival none) d.swaps-is

  some_cell : 1 ≤ paper.cell_count x.sizes
  some_cell = omega arith

  pub cells_fit : l ≤ length m.cells
  cells_fit = omega (arith, limits.span_high, long.cells_long)

  oldest : oldest_cell x.cells ≡ cell_of (get_or m.cells 0 0)
  oldest = oldest_cell_lem l m.cells (omega arith) cells_fit

  head_below : regs.head_fill < head_places
  head_below = head_in_array regs m long sizes-ok judged.kept.head_fits

  pub head_in : regs.head_fill < length m.head
  head_in = omega (arith, head_below, long.head_long)

  tail_below : regs.tail_fill < tail_places
  tail_below = tail_in_array regs m long sizes-ok judged.kept.tail_fits

  pub tail_in : regs.tail_fill < length m.tail
  tail_in = omega (arith, tail_below, long.tail_long)

  -- 1. The leaving cell finds its byte.
  pub byte-to_deliver : (q : ℕ) → cell_of (get_or m.cells 0 0) ≡ owed q → 1 ≤ count_of q x.head
  byte-to_deliver q e = uncovered-owed (oldest_cell x.cells) x q judged.covered (oldest ∙ e)

  module _ {g : CellDelivered} {early : Option Byte} {head₁ tail₁ : List ℕ} {joined' : ℕ}
      (early_is : early ≡ choose swaps' none call.arrival)
      (s1 : DeliverSays regs.head_fill (get_or m.cells 0 0) m.head head₁ g)
      (s2 : ArriveSays regs.tail_fill early m.tail tail₁ joined') where
    head_1 : bytes_in g.fill head₁ ≡ (asked x call).head
    head_1 = s1.head_is ∙ ap (λ (c : Cell). head_without c x.head) (sym oldest)

    pub delivered : delivery_in g.delivery ≡ delivery x
    delivered = s1.delivery_is ∙ ap (λ (c : Cell). delivery_of c x.head) (sym oldest)

    -- 2. The arriving byte has room, where it joins before the request.
    early_now : early ≡ early_arrival x call
    early_now = early_is ∙ ap (λ (t : Bool). choose t none call.arrival) d.swaps-is

    tail_1 : bytes_in joined' tail₁ ≡ (joined x call).tail
    tail_1 = s2.tail_is ∙ ap (λ (a : Option Byte). x.tail ++ arriving a) early_now

    pub joined_length : joined' ≡ length (joined x call).tail
    joined_length =
        omega (
          arith,
          s2.fill_is,
          tail_length regs m long tail_below,
          length-append x.tail (arriving (early_arrival x call)),
          ap (λ (a : Option Byte). length (arriving a)) early_now,
        )

    pub joined_in : joined' ≤ length tail₁
    joined_in = omega (arith, s2.fill_is, s2.same_length, length-arriving early, tail_in)

    -- 3. A request that is not Owed finds a tail byte.
    pub byte-to_hold : (q : ℕ) → call.request ≡ some q → is_owed' ≡ false → 1 ≤ count_of q (bytes_in joined' tail₁)
    byte-to_hold q s f =
        subst (λ (t : List Byte). 1 ≤ count_of q t) (sym tail_1)
        (judged.byte-there q s (held_before paper x store call some_cell judged q (sym (d.owed_is q s) ∙ f)))

    module _ {a : Asked} {tail₂ cells₁ : List ℕ}
        (s3 : AskSays joined' is_owed' call.request tail₁ tail₂ a)
        (s4 : Shifted l a.cell m.cells cells₁) where
      tail_2 : bytes_in a.fill tail₂ ≡ tail_left (joined x call) call.request
      tail_2 =
          s3.tail_is
          ∙ ap (tail_asked is_owed' call.request) tail_1
          ∙ asked-tail (joined x call) call.request is_owed' d.owed_is

      cells_1 : cells_in l cells₁ ≡ (asked x call).cells
      cells_1 =
          s4.cells_are
          ∙ ap (λ (c : Cell). drop 1 x.cells ++ c ∷ [])
          (s3.cell_is
          ∙ ap (cell_asked is_owed' call.request) tail_1
          ∙ asked-cell (joined x call) call.request is_owed' d.owed_is)

      pub asked_in : a.fill ≤ length tail₂
      asked_in = omega (arith, s3.fill_low, joined_in, s3.same_length)

      -- A byte that joins after the request has room too, since none joined before it.
      late_low : {late : Option Byte} → late ≡ choose swaps' call.arrival none
          → a.fill + length (arriving late) ≤ length tail₂
      late_low late_is =
          omega (
            arith,
            s3.fill_low,
            s3.same_length,
            s2.fill_is,
            s2.same_length,
            ap (λ (o : Option Byte). length (arriving o)) early_now,
            ap (λ (o : Option Byte). length (arriving o)) (late_now late_is),
            joins_once x call,
            tail_in,
          )

      pub late_in : {late : Option Byte} → late ≡ choose swaps' call.arrival none
          → (y : Byte) → late ≡ some y → a.fill < length tail₂
      late_in late_is y e = omega (arith, late_low late_is, ap (λ (o : Option Byte). length (arriving o)) e)

      module _ {late : Option Byte} {tail₂' : List ℕ} {filled : ℕ}
          (late_is : late ≡ choose swaps' call.arrival none)
          (s5 : ArriveSays a.fill late tail₂ tail₂' filled)
        where
          tail_filled : bytes_in filled tail₂' ≡ (asked x call).tail
          tail_filled =
              s5.tail_is
              ∙ ap (λ (t : List Byte). t ++ arriving late) tail_2
              ∙ ap (λ (o : Option Byte). tail_left (joined x call) call.request ++ arriving o) (late_now late_is)

          pub filled_in : filled ≤ length tail₂'
          filled_in = omega (arith, s5.fill_is, s5.same_length, late_low late_is)

          -- 4. The write finds a block of bytes, and a place in the ring.
          pub block_to_write : (q : ℕ) → written ≡ some q
              → (q < regs.queues)
              × (regs.block ≤ count_of q (bytes_in filled tail₂'))
              × (counts_in m.firsts q < regs.depth)
              × (counts_in m.stored q < regs.depth)
          block_to_write q e = (
            taken.0,
            subst (λ (t : List Byte). regs.block ≤ count_of q t) (sym tail_filled) taken.1,
            subst (λ (r : Ring). r.first < regs.depth) at (rules.firsts q taken.0),
            subst (λ (r : Ring). r.count < regs.depth) at
                (fewer_blocks (tail_bytes (asked x call) q) regs.block (blocks (asked x call) q) regs.depth
                limits.b_low taken.1 (rules.room q taken.0)),
          )
            where
              rules : Rules l (asked x call)
              rules = rules-3 paper x store call some_cell judged

              taken : (q < regs.queues) × (regs.block ≤ tail_bytes (asked x call) q)
              taken = write_taken (asked x call) q (sym d.written_is ∙ e)

              at : ring_of x.rings q ≡ ring (counts_in m.firsts q) (counts_in m.stored q)
              at = ring-at regs.queues m.firsts m.stored q taken.0

          module _ {w : ℕ} {tail₃ stored₁ store₁ : List ℕ}
              (s6 : WriteSays (sizes_in regs) filled written m.firsts m.stored stored₁ tail₂' tail₃ store store₁ w)
            where
              tail_3 : bytes_in w tail₃ ≡ (wrote x call).tail
              tail_3 =
                  s6.tail_is
                  ∙ ap (λ (t : List Byte). tail_written written (moving (sizes_in regs) t [] x.rings)) tail_filled
                  ∙ moving-tail written (asked x call)
                  ∙ ap (λ (o : Option ℕ). tail_written o (asked x call)) d.written_is

              rings_1 : rings_in regs.queues m.firsts stored₁ ≡ (wrote x call).rings
              rings_1 =
                  s6.rings_are
                  ∙ ap (λ (t : List Byte). rings_written written (moving (sizes_in regs) t [] x.rings)) tail_filled
                  ∙ moving-rings written (asked x call)
                  ∙ ap (λ (o : Option ℕ). rings_written o (asked x call)) d.written_is

              pub store_1 : store₁ ≡ wrote_store x store call
              store_1 =
                  s6.store_is
                  ∙ ap (λ (t : List Byte). store_written written (moving (sizes_in regs) t [] x.rings) store)
                  tail_filled
                  ∙ moving-store written (asked x call) store
                  ∙ ap (λ (o : Option ℕ). store_written o (asked x call) store) d.written_is

              pub same_store : length store₁ ≡ length store
              same_store = ap length store_1 ∙ same_length paper x store call some_cell judged

              pub head_still_in : g.fill ≤ length head₁
              head_still_in = omega (arith, s1.fill_low, s1.same_length, head_in)

              -- 4. The read finds a block, and room in the head.
              pub block_to_read : (q : ℕ) → readQueue ≡ some q
                  → (q < regs.queues)
                  × (g.fill + regs.block ≤ length head₁)
                  × (counts_in m.firsts q < regs.depth)
                  × (1 ≤ counts_in stored₁ q)
              block_to_read q e = (
                taken.0,
                omega (
                  arith,
                  room,
                  bytes-length g.fill head₁ head_still_in,
                  ap length head_1,
                  head_below_array (sizes_in regs) sizes-ok,
                  s1.same_length,
                  long.head_long,
                ),
                subst (λ (r : Ring). r.first < regs.depth) at (after.firsts q taken.0),
                subst (λ (r : Ring). 1 ≤ r.count) at taken.1,
              )
                where
                  after : Rules l (wrote x call)
                  after = rules-written paper x store call some_cell judged

                  read_now_lem : queue_to_read (wrote x call) ≡ some q
                  read_now_lem = sym d.read_is ∙ e

                  taken : (q < regs.queues) × (1 ≤ blocks (wrote x call) q)
                  taken = read_taken l (wrote x call) after q read_now_lem

                  at : ring_of (wrote x call).rings q ≡ ring (counts_in m.firsts q) (counts_in stored₁ q)
                  at = sym (ap (λ (r : List Ring). ring_of r q) rings_1)
                      ∙ ring-at regs.queues m.firsts stored₁ q taken.0

                  room : length (wrote x call).head + regs.block ≤ head_size (sizes_in regs)
                  room = ltb-false (head_size (sizes_in regs)) (length (wrote x call).head + regs.block)
                      (sym (ap (head_full (wrote x call)) read_now_lem)
                      ∙ accepted.head_room)

              module _ {h : ℕ} {head₂ firsts₁ stored₂ : List ℕ}
                  (s7 : ReadSays (sizes_in regs) g.fill readQueue m.firsts stored₁ firsts₁ stored₂ head₁ head₂
                  store₁ h)
                where
                  abbrev rings₁ : List Ring
                  rings₁ = rings_in regs.queues m.firsts stored₁

                  pub head_2 : bytes_in h head₂ ≡ (refilled x store call).head
                  head_2 =
                      s7.head_is
                      ∙ ap (λ (t : List Byte). head_read readQueue (moving (sizes_in regs) [] t rings₁) store₁) head_1
                      ∙ ap (λ (r : List Ring). head_read readQueue (moving (sizes_in regs) [] (wrote x call).head r)
                      store₁) rings_1
                      ∙ moving-head readQueue (wrote x call) store₁
                      ∙ ap (λ (o : Option ℕ). head_read o (wrote x call) store₁) d.read_is
                      ∙ ap (λ (t : List ℕ). head_read (queue_to_read (wrote x call)) (wrote x call) t) store_1

                  rings_2 : rings_in regs.queues firsts₁ stored₂ ≡ (refilled x store call).rings
                  rings_2 =
                      s7.rings_are
                      ∙ ap (λ (t : List Byte). rings_read readQueue (moving (sizes_in regs) [] t rings₁)) head_1
                      ∙ ap (λ (r : List Ring). rings_read readQueue (moving (sizes_in regs) [] (wrote x call).head r))
                      rings_1
                      ∙ moving-read readQueue (wrote x call)
                      ∙ ap (λ (o : Option ℕ). rings_read o (wrote x call)) d.read_is

                  -- All of the state, with the phase and the marks that code computes.
                  pub state_after_lem : {p j t : ℕ}
                      → p ≡ choose (moves x) 0 (regs.phase + 1)
                      → j ≡ max regs.tail_mark joined'
                      → t ≡ max regs.head_mark h
                      → joined' ≡ length (joined x call).tail
                      → h ≡ length (refilled x store call).head
                      → state_in
                      (record {
                        queues = regs.queues;
                        block = regs.block;
                        depth = regs.depth;
                        phase = p;
                        tail_fill = w;
                        head_fill = h;
                        tail_mark = j;
                        head_mark = t;
                        last_asked = regs.last_asked;
                      })
                      (arrays tail₃ head₂ cells₁ firsts₁ stored₂)
                      ≡ (carried_out 0 0 x store call).state
                  state_after_lem ep ej et fj fh =
                      same-state (sizes_in regs) ep tail_3 head_2 cells_1 rings_2
                      (omega (arith, ej, fj, asked-no_longer x call judged.covered))
                      (et ∙ ap (max regs.head_mark) fh)
                      refl
