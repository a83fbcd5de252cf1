-- Slots run and printed one part after the other are run and printed whole: the second part starts from the state, the
-- store, the count and the place that the first left. So a loop carries `Going`: whoever runs what is left has run all.
use mathlib.Core.Path.{◌≡◌, refl, ap, sym, ◌∙◌, subst}
use mathlib.Core.List.{List, [], ◌++◌}
use Prim.Native.Nat.{ℕ, ◌+◌, ◌≤◌}
use native.Mathlib.Omega.{arith}
use lib.ListN.{length, length-append}
use Rattle.model.specs.Sizes.{paper}
use Rattle.model.specs.State.{State}
use Rattle.model.specs.Slot.{Call}
use Rattle.model.specs.Lists.{run, last_state, last_store, accepted}
use Rattle.model.proofs.one_slot.Lists.{last_append, last_store_append, run_length, accepted-few}
use Rattle.layout.specs.Counts.{ByQueue}
use Rattle.layout.specs.Views.{Arrays, state_in}
use Rattle.slot_in_place.specs.Says.{Ready}
use Rattle.script_lines.specs.Lines.{text}
use Rattle.script_lines.specs.Says.{PutSays}
use Rattle.script_lines.proofs.Placed.{put_nothing, put_then_put, put_keeps_length}
use Rattle.script_text.specs.Run.{slot_lines}
use Rattle.script_text.proofs.Append.{text-append, run-lines_append, run-count_append}
use Rattle.script_slots.specs.declared.Progress.{Progress}
use Rattle.script_slots.specs.Says.{RunsOn, Room}

-- No more slots are accepted than there are calls.
run-accepts_most : (x : State) (store : List ℕ) (calls : List Call)
    → length (accepted (run paper x store calls)) ≤ length calls
run-accepts_most x store calls =
    omega (arith, accepted-few (run paper x store calls), run_length paper x store calls)

-- Equal calls need the same and promise the same.
pub same-room : {x : State} {store : List ℕ} {calls calls' : List Call} {t place : ℕ} {output : List ℕ} → calls ≡ calls'
    → Room x store calls t place output → Room x store calls' t place output
same-room {x} {store} {calls} {calls'} {t} {place} {output} e room =
    subst (λ (cs : List Call). Room x store cs t place output) e room

pub same_runs : {x : State} {store : List ℕ} {calls calls' : List Call} {t place : ℕ} {output : List ℕ} {r : Progress}
    {m : Arrays} {counts : ByQueue} {store' output' : List ℕ} → calls ≡ calls'
    → RunsOn x store calls t place output r m counts store' output'
    → RunsOn x store calls' t place output r m counts store' output'
same_runs {x} {store} {calls} {calls'} {t} {place} {output} {r} {m} {counts} {store'} {output'} e ran =
    subst (λ (cs : List Call). RunsOn x store cs t place output r m counts store' output') e ran

-- No slot, run.
pub runs_none : (p : Progress) (m : Arrays) {counts : ByQueue} {store : List ℕ} (output : List ℕ)
    → Ready p.regs m counts store
    → RunsOn (state_in p.regs m) store [] p.slots p.place output p m counts store output
runs_none p m output ready = record {
  state_is = refl;
  store_is = refl;
  slots_is = omega arith;
  lines_are = put_nothing p.place output;
  ready = ready;
}

module _ (x : State) (store : List ℕ) (calls more : List Call) (t place : ℕ) (output : List ℕ) where
  abbrev text_of : List Call → List ℕ
  text_of cs = text (slot_lines t (run paper x store cs))

  -- What the second part prints.
  abbrev text_on : List ℕ
  text_on =
      text (slot_lines (t + length (accepted (run paper x store calls)))
      (run paper (last_state paper x store calls) (last_store paper x store calls) more))

  text-parts : text_of (calls ++ more) ≡ text_of calls ++ text_on
  text-parts =
      ap text (run-lines_append paper x store calls more t)
      ∙ text-append (slot_lines t (run paper x store calls)) _

  text-lengths : length (text_of (calls ++ more)) ≡ length (text_of calls) + length text_on
  text-lengths = ap length text-parts ∙ length-append (text_of calls) text_on

  -- Room for both parts is room for the first.
  pub room_first : Room x store (calls ++ more) t place output → Room x store calls t place output
  room_first room = record {
    lines_fit = omega (arith, room.lines_fit, text-lengths);
    slots_fit = omega (arith, room.slots_fit, length-append calls more);
  }

  module _ (room : Room x store (calls ++ more) t place output) {p : Progress} {m : Arrays}
      {counts : ByQueue} {store' output' : List ℕ}
      (done : RunsOn x store calls t place output p m counts store' output') where
    same-long : length output' ≡ length output
    same-long = put_keeps_length done.lines_are (room_first room).lines_fit

    -- What the second part prints, said of where it starts.
    text-on : text (slot_lines p.slots (run paper (state_in p.regs m) store' more)) ≡ text_on
    text-on =
        ap (λ (n : ℕ). text (slot_lines n (run paper (state_in p.regs m) store' more))) done.slots_is
        ∙ ap (λ (y : State). text (slot_lines (t + length (accepted (run paper x store calls)))
        (run paper y store' more))) done.state_is
        ∙ ap (λ (bytes : List ℕ). text (slot_lines (t + length (accepted (run paper x store calls)))
        (run paper (last_state paper x store calls) bytes more))) done.store_is

    -- Room for both parts is, after the first, room for the second.
    pub room_second : Room (state_in p.regs m) store' more p.slots p.place output'
    room_second = record {
      lines_fit = omega (
        arith,
        ap length text-on,
        text-lengths,
        done.lines_are.place_is,
        room.lines_fit,
        same-long,
      );
      slots_fit = omega (
        arith,
        room.slots_fit,
        length-append calls more,
        done.slots_is,
        run-accepts_most x store calls,
      );
    }

    -- The second part behind the first is both.
    pub runs_then : {q : Progress} {n : Arrays} {counts' : ByQueue} {store'' output'' : List ℕ}
        → RunsOn (state_in p.regs m) store' more p.slots p.place output' q n counts' store'' output''
        → RunsOn x store (calls ++ more) t place output q n counts' store'' output''
    runs_then {q} {n} {counts'} {store''} {output''} next = record {
      state_is = next.state_is
          ∙ ap (λ (y : State). last_state paper y store' more) done.state_is
          ∙ ap (λ (bytes : List ℕ). last_state paper (last_state paper x store calls) bytes more) done.store_is
          ∙ sym (last_append paper x store calls more);
      store_is = next.store_is
          ∙ ap (λ (y : State). last_store paper y store' more) done.state_is
          ∙ ap (λ (bytes : List ℕ). last_store paper (last_state paper x store calls) bytes more) done.store_is
          ∙ sym (last_store_append paper x store calls more);
      slots_is = omega (
        arith,
        next.slots_is,
        done.slots_is,
        count_on_lem,
        run-count_append paper x store calls more,
      );
      lines_are =
          subst (λ (bytes : List ℕ). PutSays bytes place output q.place output'') (sym text-parts)
          (put_then_put done.lines_are
          (subst (λ (bytes : List ℕ). PutSays bytes p.place output' q.place output'') text-on next.lines_are)
          (omega (arith, ap length text-parts, room.lines_fit)));
      ready = next.ready;
    }
      where
        count_on_lem : length (accepted (run paper (state_in p.regs m) store' more))
            ≡ length (accepted (run paper (last_state paper x store calls) (last_store paper x store calls) more))
        count_on_lem =
            ap (λ (y : State). length (accepted (run paper y store' more))) done.state_is
            ∙ ap (λ (bytes : List ℕ). length (accepted (run paper (last_state paper x store calls) bytes more)))
            done.store_is

-- On the way through calls from a start, where `left` of them are still to come: whoever runs those from here has run
-- all from the start, and there is room for them.
pub record Going (x : State) (store₀ : List ℕ) (calls : List Call) (t place : ℕ) (output₀ : List ℕ) (left : List Call)
    (p : Progress) (m : Arrays) (counts : ByQueue) (store output : List ℕ) : Type 0 where
  pub leads : {q : Progress} {n : Arrays} {counts' : ByQueue} {store' output' : List ℕ}
      → RunsOn (state_in p.regs m) store left p.slots p.place output q n counts' store' output'
      → RunsOn x store₀ calls t place output₀ q n counts' store' output'
  pub ready : Ready p.regs m counts store
  pub room : Room (state_in p.regs m) store left p.slots p.place output
  pub same_store : length store ≡ length store₀
  pub same_output : length output ≡ length output₀

-- At the start all calls are left.
pub going_starts : {calls : List Call} {p : Progress} {m : Arrays} {counts : ByQueue} {store output : List ℕ}
    → Ready p.regs m counts store
    → Room (state_in p.regs m) store calls p.slots p.place output
    → Going (state_in p.regs m) store calls p.slots p.place output calls p m counts store output
going_starts ready room = record {
  leads = λ r. r;
  ready = ready;
  room = room;
  same_store = refl;
  same_output = refl;
}

module _ {x : State} {store₀ : List ℕ} {calls : List Call} {t place : ℕ} {output₀ : List ℕ} {left : List Call}
    {p : Progress} {m : Arrays} {counts : ByQueue} {store output : List ℕ}
    (going : Going x store₀ calls t place output₀ left p m counts store output) where
  -- Room for the next calls.
  pub next_room : (first rest : List Call) → left ≡ first ++ rest
      → Room (state_in p.regs m) store first p.slots p.place output
  next_room first rest parts =
      room_first _ _ first rest _ _ _
      (same-room parts going.room)

  -- The next calls have been run.
  pub going_on : {first rest : List Call} → left ≡ first ++ rest → {q : Progress} {n : Arrays} {counts' : ByQueue}
      {store' output' : List ℕ}
      → RunsOn (state_in p.regs m) store first p.slots p.place output q n counts' store' output'
      → length store' ≡ length store → length output' ≡ length output
      → Going x store₀ calls t place output₀ rest q n counts' store' output'
  going_on {first} {rest} parts done es eo = record {
    leads = λ next. going.leads (same_runs (sym parts) (runs_then _ _ first rest _ _ _ room done next));
    ready = done.ready;
    room = room_second _ _ first rest _ _ _ room done;
    same_store = es ∙ going.same_store;
    same_output = eo ∙ going.same_output;
  }
    where
      room : Room (state_in p.regs m) store (first ++ rest) p.slots p.place output
      room = same-room parts going.room

  -- None are left.
  pub going_ends : left ≡ [] → RunsOn x store₀ calls t place output₀ p m counts store output
  going_ends none = going.leads (same_runs (sym none) (runs_none p m output going.ready))
