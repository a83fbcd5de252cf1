-- What one slot prints, by its answer; and a stretch of idle slots, whose quiet ones print nothing and count one each,
-- so that it prints what its last slot prints.
use mathlib.Core.Path.{◌≡◌, refl, ap, sym, ◌∙◌, subst}
use mathlib.Core.List.{List, [], ◌∷◌, ◌++◌, append-nil}
use Prim.Native.Nat.{ℕ, zero, suc, ◌+◌, ◌-◌, ◌≤◌, ◌<◌}
use native.Mathlib.Omega.{arith}
use lib.Dec.{eqb}
use lib.ListN.{length, length-replicate}
use borrow.Author.Tests.{ne_eqb}
use Rattle.model.specs.Basics.{choose}
use Rattle.model.specs.Sizes.{paper}
use Rattle.model.specs.State.{State}
use Rattle.model.specs.Slot.{Call, Reply, Answer, slot}
use Rattle.model.specs.Calls.{idle, idles}
use Rattle.model.specs.Lists.{Step, step_of, run, last_state, last_store, accepted}
use Rattle.model.specs.Idle.{last_answer}
use Rattle.model.proofs.one_slot.Lists.{run_length}
use Rattle.model.proofs.idle.QuietSlots.{idles-parts}
use Rattle.model.proofs.idle.Stretch.{last_is_slot}
use Rattle.layout.specs.Counts.{ByQueue}
use Rattle.layout.specs.declared.Regs.{Regs}
use Rattle.layout.specs.Calls.{reply_in}
use Rattle.layout.specs.Views.{Arrays, state_in}
use Rattle.slot_in_place.specs.declared.Advanced.{Advanced}
use Rattle.slot_in_place.specs.Says.{Ready, AdvanceSays}
use Rattle.idle_in_place.specs.declared.Passed.{Passed}
use Rattle.idle_in_place.specs.Says.{PassSays}
use Rattle.script_lines.specs.Lines.{Line, refusal, line_text, text}
use Rattle.script_lines.specs.Says.{PutSays}
use Rattle.script_lines.proofs.Placed.{put_nothing, put_then_put, put_keeps_length}
use Rattle.script_lines.proofs.Pieces.{one_line}
use Rattle.script_text.specs.Run.{delivery_lines, half_lines, refill_lines, running_lines, answer_lines, count_on}
use Rattle.script_text.specs.Run.{slot_lines}
use Rattle.script_text.proofs.Append.{text-append, text-length_append, run-lines_append, run-count_append}
use Rattle.script_text.proofs.Append.{quiet_prints_nothing, quiet_all_accepted}
use Rattle.script_slots.specs.declared.Progress.{Progress}
use Rattle.script_slots.specs.declared.AnswerPut.{AnswerPut}
use Rattle.script_slots.specs.Says.{count_limit, AnswerFits, AnswerSays, RunsOn, Room}
use Rattle.script_slots.proofs.Going.{room_first}

abbrev put : ℕ → ℕ → AnswerPut
put slots place = record { slots = slots; place = place }

put_line : (line : Line) {place : ℕ} {output : List ℕ} {r : ℕ} {output' : List ℕ}
    → PutSays (line_text line) place output r output' → PutSays (text (line ∷ [])) place output r output'
put_line line {place} {output} {r} {output'} put =
    subst (λ (bytes : List ℕ). PutSays bytes place output r output') (sym (one_line line)) put

-- A half that was dropped, and one that was not.
module _ (t number : ℕ) where
  pub half_line : (number ≡ 0 → ⊥) → half_lines t number ≡ refusal t number ∷ []
  half_line dropped = go number dropped
    where
      go : (n : ℕ) → (n ≡ 0 → ⊥) → half_lines t n ≡ refusal t n ∷ []
      go zero f = absurd (f refl)
      go (suc n) f = refl

  pub no_half_line : number ≡ 0 → half_lines t number ≡ []
  no_half_line taken = ap (half_lines t) taken

-- One line, or none, where a slot may have one.
module _ {lines : List Line} (place : ℕ) (output : List ℕ) where
  pub line_fits : (line : Line) → lines ≡ line ∷ [] → place + length (text lines) ≤ length output
      → place + length (line_text line) ≤ length output
  line_fits line is fits =
      omega (arith, fits, ap (λ (l : List Line). length (text l)) is, ap length (one_line line))

  pub puts_line : (line : Line) → lines ≡ line ∷ [] → {r : ℕ} {output' : List ℕ}
      → PutSays (line_text line) place output r output' → PutSays (text lines) place output r output'
  puts_line line is {r} {output'} put =
      subst (λ (l : List Line). PutSays (text l) place output r output') (sym is) (put_line line put)

  pub puts_nothing : lines ≡ [] → PutSays (text lines) place output place output
  puts_nothing is =
      subst (λ (l : List Line). PutSays (text l) place output place output) (sym is) (put_nothing place output)

-- Lines behind lines: room for both is room for the first and, behind it, for the second; and both are put.
module _ (xs ys : List Line) (place : ℕ) (output : List ℕ) (fits : place + length (text (xs ++ ys)) ≤ length output)
  where
    first_fits : place + length (text xs) ≤ length output
    first_fits = omega (arith, fits, text-length_append xs ys)

    module _ {r : ℕ} {output' : List ℕ} (first : PutSays (text xs) place output r output') where
      next_fits : r + length (text ys) ≤ length output'
      next_fits =
          omega (arith, fits, text-length_append xs ys, first.place_is, put_keeps_length first first_fits)

      both-put : {s : ℕ} {output'' : List ℕ} → PutSays (text ys) r output' s output''
          → PutSays (text (xs ++ ys)) place output s output''
      both-put {s} {output''} next =
          subst (λ (bytes : List ℕ). PutSays bytes place output s output'') (sym (text-append xs ys))
          (put_then_put first next (omega (arith, fits, ap length (text-append xs ys))))

module _ (t : ℕ) (reply : Reply) (place : ℕ) (output : List ℕ) where
  -- A slot that was stopped.
  module _ (refused : reply.number ≡ 0 → ⊥) where
    one_refusal : answer_lines t reply ≡ refusal t reply.number ∷ []
    one_refusal = rw (ne_eqb reply.number 0 refused)

    same_count : t ≡ count_on t reply.number
    same_count = go reply.number refused
      where
        go : (n : ℕ) → (n ≡ 0 → ⊥) → t ≡ count_on t n
        go zero f = absurd (f refl)
        go (suc n) f = refl

    pub refusal-fits : AnswerFits t reply place output
        → place + length (line_text (refusal t reply.number)) ≤ length output
    refusal-fits fits = line_fits place output (refusal t reply.number) one_refusal fits.lines_fit

    pub answers-refusal : {r : ℕ} {output' : List ℕ}
        → PutSays (line_text (refusal t reply.number)) place output r output'
        → AnswerSays t reply place output (put t r) output'
    answers-refusal put = record {
      lines_are = puts_line place output (refusal t reply.number) one_refusal put;
      slots_is = same_count;
    }

  -- A slot that ran: what it delivers, then its halves, then its read.
  module _ (ran : reply.number ≡ 0) (fits : place + length (text (answer_lines t reply)) ≤ length output) where
    abbrev delivers : List Line
    delivers = delivery_lines t reply.delivered

    abbrev arrival_lines : List Line
    arrival_lines = half_lines t reply.arrival_number

    abbrev request_lines : List Line
    request_lines = half_lines t reply.request_number

    abbrev read_lines : List Line
    read_lines = refill_lines t reply.read reply.slots_left

    -- What comes behind the arrival's line, and behind the delivery's.
    abbrev from_request : List Line
    from_request = request_lines ++ read_lines

    abbrev from_arrival : List Line
    from_arrival = arrival_lines ++ from_request

    all_lines : answer_lines t reply ≡ running_lines t reply
    all_lines = rw ran

    all_fit : place + length (text (running_lines t reply)) ≤ length output
    all_fit = omega (arith, fits, ap (λ (l : List Line). length (text l)) all_lines)

    pub delivery-fits : place + length (text delivers) ≤ length output
    delivery-fits = first_fits delivers from_arrival place output all_fit

    module _ {p : ℕ} {output₁ : List ℕ} (delivered : PutSays (text delivers) place output p output₁) where
      rest_fits : p + length (text from_arrival) ≤ length output₁
      rest_fits = next_fits delivers from_arrival place output all_fit delivered

      pub arrival-fits : p + length (text arrival_lines) ≤ length output₁
      arrival-fits = first_fits arrival_lines from_request p output₁ rest_fits

      module _ {q : ℕ} {output₂ : List ℕ} (arrived : PutSays (text arrival_lines) p output₁ q output₂) where
        two_fit : q + length (text from_request) ≤ length output₂
        two_fit = next_fits arrival_lines from_request p output₁ rest_fits arrived

        pub request-fits : q + length (text request_lines) ≤ length output₂
        request-fits = first_fits request_lines read_lines q output₂ two_fit

        module _ {r : ℕ} {output₃ : List ℕ} (asked : PutSays (text request_lines) q output₂ r output₃) where
          pub read_fits : r + length (text read_lines) ≤ length output₃
          read_fits = next_fits request_lines read_lines q output₂ two_fit asked

          pub running-put : {s : ℕ} {output₄ : List ℕ} → PutSays (text read_lines) r output₃ s output₄
              → PutSays (text (answer_lines t reply)) place output s output₄
          running-put {s} {output₄} read =
              subst (λ (l : List Line). PutSays (text l) place output s output₄) (sym all_lines)
              (both-put delivers from_arrival place output all_fit delivered
              (both-put arrival_lines from_request p output₁ rest_fits arrived
              (both-put request_lines read_lines q output₂ two_fit asked read)))

-- n idle slots are i of them and those left.
pub idles-left : (n i : ℕ) → i ≤ n → idles n ≡ idles i ++ idles (n - i)
idles-left n i h = idles-parts n i (n - i) (omega (arith, h))

pub no_idles : (n : ℕ) → n ≡ 0 → idles n ≡ []
no_idles n none_left = ap idles none_left

-- One slot counts by its number.
counts_one : (t : ℕ) (step : Step) → count_on t step.reply.number ≡ t + length (accepted (step ∷ []))
counts_one t step = go step.reply.number
  where
    go : (n : ℕ) → count_on t n ≡ t + length (choose (eqb n 0) (step ∷ []) [])
    go zero = omega arith
    go (suc n) = rw (ne_eqb (suc n) 0 (λ e. omega (arith, e))) (omega arith)

-- The slot in place.
module _ {x : State} {store : List ℕ} {call : Call} {a : Advanced} {m : Arrays} {counts : ByQueue} {store' : List ℕ}
    (says : AdvanceSays x store call a m counts store') where
  reply_is : reply_in a.reply ≡ (slot paper x store call).reply
  reply_is = ap (λ (b : Answer). b.reply) says.answer-is

  slot-lines : (t : ℕ) → answer_lines t (reply_in a.reply) ≡ slot_lines t (run paper x store (call ∷ []))
  slot-lines t = ap (answer_lines t) reply_is ∙ sym (append-nil (answer_lines t (slot paper x store call).reply))

  pub slot-answer_fits : {t place : ℕ} {output : List ℕ} → Room x store (call ∷ []) t place output
      → AnswerFits t (reply_in a.reply) place output
  slot-answer_fits {t} room = record {
    lines_fit = omega (arith, room.lines_fit, ap (λ (l : List Line). length (text l)) (slot-lines t));
    slots_fit = omega (arith, room.slots_fit);
  }

  pub slot-runs : {t place : ℕ} {output output' : List ℕ} {r : AnswerPut} {p : Progress}
      → AnswerSays t (reply_in a.reply) place output r output'
      → p.regs ≡ a.regs → p.slots ≡ r.slots → p.place ≡ r.place
      → RunsOn x store (call ∷ []) t place output p m counts store' output'
  slot-runs {t} {place} {output} {output'} {r} {p} answered es et ep = record {
    state_is = ap (λ (s : Regs). state_in s m) es ∙ ap (λ (b : Answer). b.state) says.answer-is;
    store_is = ap (λ (b : Answer). b.store) says.answer-is;
    slots_is =
        et ∙ answered.slots_is ∙ ap (λ (b : Reply). count_on t b.number) reply_is
        ∙ counts_one t (step_of x store call (slot paper x store call));
    lines_are =
        subst (λ (l : List Line). PutSays (text l) place output p.place output') (slot-lines t)
        (subst (λ (n : ℕ). PutSays (text (answer_lines t (reply_in a.reply))) place output n output')
        (sym ep) answered.lines_are);
    ready = subst (λ (s : Regs). Ready s m counts store') (sym es) says.ready;
  }

-- A stretch of idle slots.
module _ {x : State} {store : List ℕ} {n : ℕ} {r : Passed} {m : Arrays} {counts : ByQueue} {store' : List ℕ}
    (says : PassSays x store n r m counts store') (some_left : 1 ≤ n)
  where
    -- How many come before the last, and what they leave.
    abbrev before : ℕ
    before = r.passed - 1

    abbrev y : State
    y = last_state paper x store (idles before)

    abbrev bytes : List ℕ
    bytes = last_store paper x store (idles before)

    abbrev last : Step
    last = step_of y bytes idle (slot paper y bytes idle)

    some_passed : 1 ≤ r.passed
    some_passed = omega (arith, says.stretch.passed_is, some_left)

    most_passed : r.passed ≤ n
    most_passed = omega (arith, says.stretch.passed_is)

    last_is : last_answer paper x store r.passed ≡ slot paper y bytes idle
    last_is = last_is_slot paper x store r.passed some_passed

    reply_last : reply_in r.reply ≡ last.reply
    reply_last = says.stretch.last_is ∙ ap (λ (a : Answer). a.reply) last_is

    parts : idles r.passed ≡ idles before ++ idle ∷ []
    parts = idles-parts r.passed before 1 (omega (arith, some_passed))

    all_before : length (accepted (run paper x store (idles before))) ≡ before
    all_before =
        quiet_all_accepted (run paper x store (idles before)) says.stretch.quiet_first
        ∙ run_length paper x store (idles before)
        ∙ length-replicate before idle

    stretch_lines : (t : ℕ) → slot_lines t (run paper x store (idles r.passed))
        ≡ answer_lines (t + before) (reply_in r.reply)
    stretch_lines t =
        ap (λ (cs : List Call). slot_lines t (run paper x store cs)) parts
        ∙ run-lines_append paper x store (idles before) (idle ∷ []) t
        ∙ ap (λ (l : List Line). l ++ slot_lines (t + length (accepted (run paper x store (idles before)))) (last ∷ []))
        (quiet_prints_nothing t (run paper x store (idles before)) says.stretch.quiet_first)
        ∙ ap (λ (k : ℕ). slot_lines (t + k) (last ∷ [])) all_before
        ∙ append-nil (answer_lines (t + before) last.reply)
        ∙ ap (answer_lines (t + before)) (sym reply_last)

    stretch_count : (t : ℕ) → count_on (t + before) (reply_in r.reply).number
        ≡ t + length (accepted (run paper x store (idles r.passed)))
    stretch_count t =
        ap (λ (told : Reply). count_on (t + before) told.number) reply_last
        ∙ counts_one (t + before) last
        ∙ omega (
          arith,
          all_before,
          run-count_append paper x store (idles before) (idle ∷ []),
          ap (λ (cs : List Call). length (accepted (run paper x store cs))) parts,
        )

    pub before_fits : {t place : ℕ} {output : List ℕ} → Room x store (idles n) t place output
        → t + before + 1 < count_limit
    before_fits room =
        omega (arith, room.slots_fit, some_passed, most_passed, length-replicate n idle)

    pub stretch_answer_fits : {t place : ℕ} {output : List ℕ} → Room x store (idles n) t place output
        → AnswerFits (t + before) (reply_in r.reply) place output
    stretch_answer_fits {t} {place} {output} room = record {
      lines_fit = omega (arith, passed_room.lines_fit, ap (λ (l : List Line). length (text l)) (stretch_lines t));
      slots_fit = before_fits room;
    }
      where
        passed_room : Room x store (idles r.passed) t place output
        passed_room =
            room_first x store (idles r.passed) (idles (n - r.passed)) t place output
            (subst (λ (cs : List Call). Room x store cs t place output)
            (idles-left n r.passed most_passed) room)

    pub stretch_runs : (t : ℕ) {place : ℕ} {output output' : List ℕ} {a : AnswerPut} {p : Progress}
        → AnswerSays (t + before) (reply_in r.reply) place output a output'
        → p.regs ≡ r.regs → p.slots ≡ a.slots → p.place ≡ a.place
        → RunsOn x store (idles r.passed) t place output p m counts store' output'
    stretch_runs t {place} {output} {output'} {a} {p} answered es et ep = record {
      state_is = ap (λ (z : Regs). state_in z m) es ∙ says.state_is;
      store_is = says.store_is;
      slots_is = et ∙ answered.slots_is ∙ stretch_count t;
      lines_are =
          subst (λ (l : List Line). PutSays (text l) place output p.place output')
          (sym (stretch_lines t))
          (subst
          (λ (i : ℕ). PutSays (text (answer_lines (t + before) (reply_in r.reply))) place output i output')
          (sym ep) answered.lines_are);
      ready = subst (λ (z : Regs). Ready z m counts store') (sym es) says.ready;
    }
