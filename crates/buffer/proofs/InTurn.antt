-- The steps one after the other are the model's accepted slot, and an accepted slot meets what each of them asks: so
-- the methods can be called in turn wherever the slot is accepted, and what they hand back is the slot's own state.
use mathlib.Core.Path.{◌≡◌, refl, ap, sym, ◌∙◌, subst}
use mathlib.Core.Bool.{Bool}
use mathlib.Core.List.{List}
use mathlib.Core.Option.{Option, some}
use Prim.Native.Nat.{ℕ, ◌<◌, ◌≤◌}
use native.Mathlib.Omega.{arith}
use lib.ListN.{length, drop}
use Rattle.model.specs.Sizes.{paper, tail_size, head_size}
use Rattle.model.specs.State.{Byte, empty, State, tail_bytes, blocks}
use Rattle.model.specs.Slot.{Call, Answer, oldest_cell, delivery, after_delivery, after_arrival, is_owed, after_request}
use Rattle.model.specs.Slot.{tail_left, early_arrival, late_arrival, queue_to_write, after_write, store_written, queue_to_read}
use Rattle.model.specs.Slot.{Refill, refill_of, after_read, after_phase, joined, asked}
use Rattle.model.specs.Slot.{wrote, wrote_store, refilled, carried_out}
use Rattle.model.proofs.basics.Limits.{within_limits}
use Rattle.model.proofs.basics.Rings.{fewer_blocks}
use Rattle.model.proofs.one_slot.Rules.{Rules}
use Rattle.model.proofs.one_slot.StepsKeepRules.{length-tail_left}
use Rattle.model.proofs.one_slot.Accepted.{Judged, Accepted}
use Rattle.model.proofs.one_slot.Kept.{length-head_without, length-tail_written, tail_joined, tail_asked_fits}
use Rattle.model.proofs.one_slot.Kept.{write_taken, read_taken, rules-3, rules-written, still_long}
use Rattle.model.proofs.one_slot.Calls.{reply_is, answer-is}
use Rattle.model.proofs.delay.IdealSlot.{held_before}
use Rattle.layout.proofs.States.{same-state}
use Rattle.buffer.specs.OneStep.{opened, closed, CachesFit, DeliverAsks, AskAsks, WriteAsks, ReadAsks}
use Rattle.buffer.proofs.OneStep.{without-last}

-- The empty cell that comes in as the oldest leaves is the one that the request takes.
pub opened-closed : (x : State) (arrival : Option Byte)
    → closed (after_arrival arrival (opened x)) ≡ after_arrival arrival (after_delivery x)
opened-closed x arrival =
    same-state x.sizes refl refl refl (without-last (drop 1 x.cells) empty) refl refl refl refl

-- What each step asks, where the slot is accepted.
module _ (x : State) (store : List ℕ) (call : Call) where
  module _ (a : Accepted paper x store call) where
    abbrev j : Judged paper x store call
    j = a.judged

    some_cell : 1 ≤ paper.cell_count x.sizes
    some_cell = omega arith

    head_fits' : length (opened x).head ≤ head_size x.sizes
    head_fits' = omega (arith, length-head_without (oldest_cell x.cells) x.head, j.kept.head_fits)

    tail_arrived : length (joined x call).tail ≤ tail_size x.sizes
    tail_arrived = tail_joined paper x store call some_cell j

    tail_left_lem : length (tail_left (joined x call) call.request) ≤ tail_size x.sizes
    tail_left_lem = omega (arith, tail_arrived, length-tail_left (joined x call) call.request)

    tail_asked_lem : length (asked x call).tail ≤ tail_size x.sizes
    tail_asked_lem = tail_asked_fits paper x store call some_cell j

    pub deliver_can : DeliverAsks x
    deliver_can = record {
      fits = record {
        sizes-ok = j.kept.sizes-ok;
        tail_fits = j.kept.tail_fits;
        head_fits = j.kept.head_fits;
      };
      covered = j.covered;
    }

    pub arrive-can : CachesFit (opened x)
    arrive-can = record {
      sizes-ok = j.kept.sizes-ok;
      tail_fits = j.kept.tail_fits;
      head_fits = head_fits';
    }

    -- The test may be taken on the state as handed in or here: in an accepted slot it gives the same.
    pub ask_can : (owes : Bool) → ((q : ℕ) → call.request ≡ some q → owes ≡ is_owed (joined x call) q)
        → AskAsks (after_arrival (early_arrival x call) (opened x)) owes call.request
    ask_can owes test = record {
      fits = record { sizes-ok = j.kept.sizes-ok; tail_fits = tail_arrived; head_fits = head_fits' };
      owes_is = λ q e. test q e ∙ sym (same q);
      byte-there = λ q e f. j.byte-there q e (held_before paper x store call some_cell j q (sym (same q) ∙ f));
    }
      where
        same : (q : ℕ) → is_owed (closed (after_arrival (early_arrival x call) (opened x))) q ≡ is_owed (joined x call) q
        same q = ap (λ (y : State). is_owed y q) (opened-closed x (early_arrival x call))

    pub late_can : CachesFit (after_request call.request (joined x call))
    late_can = record { sizes-ok = j.kept.sizes-ok; tail_fits = tail_left_lem; head_fits = head_fits' }

    abbrev w : Option ℕ
    w = queue_to_write (asked x call)

    pub write_can : WriteAsks (asked x call) w store
    write_can = record {
      fits = record { sizes-ok = j.kept.sizes-ok; tail_fits = tail_asked_lem; head_fits = head_fits' };
      store_long = j.store_long;
      known = λ q e. (taken q e).0;
      block_there = λ q e. (taken q e).1;
      first_in = λ q e. rules.firsts q (taken q e).0;
      ring-room = λ q e.
          fewer_blocks (tail_bytes (asked x call) q) x.sizes.b (blocks (asked x call) q) x.sizes.K
          (within_limits paper.limits x.sizes j.kept.sizes-ok).b_low (taken q e).1
          (rules.room q (taken q e).0);
    }
      where
        rules : Rules (paper.cell_count x.sizes) (asked x call)
        rules = rules-3 paper x store call some_cell j

        taken : (q : ℕ) → w ≡ some q → (q < x.sizes.Q) × (x.sizes.b ≤ tail_bytes (asked x call) q)
        taken = write_taken (asked x call)

    pub read_can : ReadAsks (wrote x call) (queue_to_read (wrote x call)) (wrote_store x store call)
    read_can = record {
      fits = record {
        sizes-ok = j.kept.sizes-ok;
        tail_fits = omega (arith, tail_asked_lem, length-tail_written (asked x call) w);
        head_fits = head_fits';
      };
      store_long = still_long paper x store call some_cell j;
      known = λ q e. (taken q e).0;
      block_there = λ q e. (taken q e).1;
      first_in = λ q e. rules.firsts q (taken q e).0;
      head_room = a.head_room;
    }
      where
        rules : Rules (paper.cell_count x.sizes) (wrote x call)
        rules = rules-written paper x store call some_cell j

        taken : (q : ℕ) → queue_to_read (wrote x call) ≡ some q → (q < x.sizes.Q) × (1 ≤ blocks (wrote x call) q)
        taken = read_taken (paper.cell_count x.sizes) (wrote x call) rules

    pub turn_can : (refilled x store call).phase < (refilled x store call).sizes.b
    turn_can = j.kept.phase_ok

-- Each step of an accepted slot finds what it asks in the state that the one before it left, whoever made that state,
-- where it is told what the slot decides.
module _ (x : State) (store : List ℕ) (call : Call) (accepted : Accepted paper x store call) where
  pub can_deliver : DeliverAsks x
  can_deliver = deliver_can x store call accepted

  -- 1 and 2.
  module _ {x₁ : State} (delivered : x₁ ≡ opened x) where
    pub can_arrive : CachesFit x₁
    can_arrive = subst CachesFit (sym delivered) (arrive-can x store call accepted)

    -- 3. The request, after the arrival that joins before it.
    module _ {early : Option Byte} (early_is : early ≡ early_arrival x call) {x₂ : State}
        (arrived : x₂ ≡ after_arrival early x₁) where
      pub state_2 : x₂ ≡ after_arrival (early_arrival x call) (opened x)
      state_2 =
          arrived ∙ ap (after_arrival early) delivered ∙ ap (λ (a : Option Byte). after_arrival a (opened x)) early_is

      pub can_ask : (owing : Bool) → ((q : ℕ) → call.request ≡ some q → owing ≡ is_owed (joined x call) q)
          → AskAsks x₂ owing call.request
      can_ask owing told =
          subst (λ (y : State). AskAsks y owing call.request) (sym state_2)
          (ask_can x store call accepted owing told)

      module _ {x₃ : State} (Asked-is : x₃ ≡ after_request call.request (closed x₂)) where
        requested : x₃ ≡ after_request call.request (joined x call)
        requested =
            Asked-is ∙ ap (after_request call.request) (ap closed state_2 ∙ opened-closed x (early_arrival x call))

        pub can_arrive_late : CachesFit x₃
        can_arrive_late = subst CachesFit (sym requested) (late_can x store call accepted)

        -- 4, after the arrival that joins behind the request.
        module _ {late : Option Byte} (late_is : late ≡ late_arrival x call) {y₃ : State}
            (filled : y₃ ≡ after_arrival late x₃) where
          pub state_3 : y₃ ≡ asked x call
          state_3 =
              filled
              ∙ ap (after_arrival late) requested
              ∙ ap (λ (a : Option Byte). after_arrival a (after_request call.request (joined x call))) late_is

          module _ {written : Option ℕ} (to_write : written ≡ queue_to_write (asked x call)) where
            pub can_write : WriteAsks y₃ written store
            can_write =
                subst (λ (y : State). WriteAsks y written store) (sym state_3)
                (subst (λ (o : Option ℕ). WriteAsks (asked x call) o store) (sym to_write)
                (write_can x store call accepted))

            module _ {x₄ : State} {store₄ : List ℕ} (wrote-is : x₄ ≡ after_write written y₃)
                (Store-is : store₄ ≡ store_written written y₃ store) where
              pub state_4 : x₄ ≡ wrote x call
              state_4 =
                  wrote-is
                  ∙ ap (after_write written) state_3
                  ∙ ap (λ (o : Option ℕ). after_write o (asked x call)) to_write

              store_4 : store₄ ≡ wrote_store x store call
              store_4 =
                  Store-is
                  ∙ ap (λ (y : State). store_written written y store) state_3
                  ∙ ap (λ (o : Option ℕ). store_written o (asked x call) store) to_write

              module _ {refill : Refill} (to_read : refill ≡ refill_of (wrote x call)) where
                pub can_read : ReadAsks x₄ refill.queue store₄
                can_read =
                    subst (λ (y : State). ReadAsks y refill.queue store₄) (sym state_4)
                    (subst (λ (r : Refill). ReadAsks (wrote x call) r.queue store₄) (sym to_read)
                    (subst (ReadAsks (wrote x call) (queue_to_read (wrote x call))) (sym store_4)
                    (read_can x store call accepted)))

                -- 5, and all of them.
                module _ {x₅ : State} (read_is : x₅ ≡ after_read refill.queue x₄ store₄) where
                  state_5 : x₅ ≡ refilled x store call
                  state_5 =
                      read_is
                      ∙ ap (λ (r : Refill). after_read r.queue x₄ store₄) to_read
                      ∙ ap (λ (y : State). after_read (queue_to_read (wrote x call)) y store₄) state_4
                      ∙ ap (after_read (queue_to_read (wrote x call)) (wrote x call)) store_4

                  pub can_turn : x₅.phase < x₅.sizes.b
                  can_turn =
                      subst (λ (y : State). y.phase < y.sizes.b) (sym state_5) (turn_can x store call accepted)

                  pub all_in_turn : (i j : ℕ) {x₆ : State} → x₆ ≡ after_phase x₅ → {given : Option Byte}
                      → given ≡ delivery x
                      → ◌≡◌ {A = Answer}
                      (record {
                        reply = record {
                          number = 0;
                          arrival_number = i;
                          request_number = j;
                          delivered = given;
                          written = written;
                          read = refill.queue;
                          slots_left = refill.slots_left;
                        };
                        state = x₆;
                        store = store₄;
                      })
                      (carried_out i j x store call)
                  all_in_turn i j turned gave =
                      answer-is (carried_out i j x store call) _
                      (reply_is _ _ refl refl refl gave to_write (ap (λ (r : Refill). r.queue) to_read)
                      (ap (λ (r : Refill). r.slots_left) to_read))
                      (turned ∙ ap after_phase state_5)
                      store_4
