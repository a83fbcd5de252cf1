-- Steps and choices in turn are the slot: an accepted slot meets what each step asks (the buffer's own laws), the
-- choices tell what the model's slot would, and the steps one after the other are the accepted slot. The arrival joins
-- early or late as the model's does: `early_told`, `late_told`. Step 3 is told of the state with its youngest cell,
-- which is still empty and so owes nothing.
use mathlib.Core.Path.{◌≡◌, refl, ap, sym, ◌∙◌, subst}
use mathlib.Core.Bool.{Bool}
use mathlib.Core.List.{List, [], ◌∷◌, ◌++◌}
use mathlib.Core.Option.{Option, some, none}
use Prim.Native.Nat.{ℕ, ◌+◌, ◌-◌, ◌*◌, ◌<◌}
use native.Mathlib.Omega.{arith}
use lib.Dec.{ltb}
use lib.ListN.{length, take, drop}
use Rattle.std.specs.Prelude.{Ok}
use Rattle.model.specs.Basics.{choose}
use Rattle.model.specs.Sizes.{paper}
use Rattle.model.specs.State.{Byte, Cell, empty, State, owed_of, head_bytes, blocks}
use Rattle.model.specs.Slot.{Call, after_arrival, is_owed, swaps, early_arrival, late_arrival, after_request}
use Rattle.model.specs.Slot.{queue_to_write, after_write, store_written, after_read, Refill, refill_of, joined, asked, wrote}
use Rattle.model.proofs.basics.Cells.{owed_append}
use Rattle.model.proofs.one_slot.Accepted.{Accepted, accepted-facts}
use Rattle.layout.specs.Calls.{chosen_in, arrival_in, refill_in, call_in}
use Rattle.buffer.specs.declared.State as code
use Rattle.buffer.specs.declared.Judged.{Judged}
use Rattle.buffer.specs.Says.{state_of, JudgeSays, arrival_number_judged, request_number_judged}
use Rattle.buffer.specs.OneStep.{opened, closed, CachesFit, AskAsks, WriteAsks, ReadAsks}
use Rattle.buffer.proofs.OneStep.{without-last}
use Rattle.buffer.proofs.InTurn.{opened-closed, can_deliver, can_arrive, state_2, can_ask, can_arrive_late, state_3}
use Rattle.buffer.proofs.InTurn.{can_write, state_4, can_read, can_turn, all_in_turn}
use Rattle.buffer.proofs.Promises.{judged_clear, judged_carries}
use Rattle.buffer_choices.specs.InTurn.{StepAnswers, ByContract, MakesTheSlot, StepsInTurn}

-- An empty youngest cell owes nothing: with it or without it, the request is Owed alike.
pub closed-owes : (x : State) (cells : List Cell) → x.cells ≡ cells ++ empty ∷ [] → (q : ℕ)
    → is_owed (closed x) q ≡ is_owed x q
closed-owes x cells e q = ap (λ (n : ℕ). ltb n (head_bytes x q + x.sizes.b * blocks x q)) same
  where
    same : owed_of q (take (length x.cells - 1) x.cells) ≡ owed_of q x.cells
    same =
        ap (λ (cs : List Cell). owed_of q (take (length cs - 1) cs)) e
        ∙ ap (owed_of q) (without-last cells empty)
        ∙ (let more : owed_of q cells ≡ owed_of q (cells ++ empty ∷ []) =
        omega (arith, owed_append q cells (empty ∷ [])) in more)
        ∙ sym (ap (owed_of q) e)

-- The arrivals that are told to join before and after the request are the model's.
module _ (x : State) (call : Call) {swapping : Bool}
    (told : swapping ≡ swaps x call.arrival call.request) {a : Option Byte} where
  pub early_told : a ≡ choose swapping none call.arrival → a ≡ early_arrival x call
  early_told e = e ∙ ap (λ (b : Bool). choose b none call.arrival) told

  pub late_told : a ≡ choose swapping call.arrival none → a ≡ late_arrival x call
  late_told e = e ∙ ap (λ (b : Bool). choose b call.arrival none) told

-- What is told of the state at hand is what the accepted slot decides.
module _ {x : State} {store : List ℕ} {call : Call} (accepted : Accepted paper x store call) {x₁ : State}
    (delivered : x₁ ≡ opened x) {early : Option Byte} (early_is : early ≡ early_arrival x call) {x₂ : State}
    (arrived : x₂ ≡ after_arrival early x₁) where
  pub owing_told : {owing : Bool} → ((q : ℕ) → call.request ≡ some q → owing ≡ is_owed x₂ q) → (q : ℕ)
      → call.request ≡ some q → owing ≡ is_owed (joined x call) q
  owing_told told q e =
      told q e
      ∙ ap (λ (y : State). is_owed y q) (state_2 x store call accepted delivered early_is arrived)
      ∙ sym (closed-owes (after_arrival (early_arrival x call) (opened x)) (drop 1 x.cells) refl q)
      ∙ ap (λ (y : State). is_owed y q) (opened-closed x (early_arrival x call))

  module _ {x₃ : State} (asked_is : x₃ ≡ after_request call.request (closed x₂)) {late : Option Byte}
      (late_is : late ≡ late_arrival x call) {y₃ : State} (filled : y₃ ≡ after_arrival late x₃) {written : Option ℕ}
      (to_write : written ≡ queue_to_write y₃) where
    pub write_told : written ≡ queue_to_write (asked x call)
    write_told =
        to_write
        ∙ ap queue_to_write (state_3 x store call accepted delivered early_is arrived asked_is late_is filled)

    module _ {x₄ : State} {store₄ : List ℕ} (wrote-is : x₄ ≡ after_write written y₃)
        (store_is : store₄ ≡ store_written written y₃ store) {refill : Refill}
        (to_read : refill ≡ refill_of x₄) where
      pub read_told : refill ≡ refill_of (wrote x call)
      read_told =
          to_read
          ∙ ap refill_of
          (state_4 x store call accepted delivered early_is arrived asked_is late_is filled write_told wrote-is
          store_is)

-- The queue that is read, as the code takes it out of the choice.
pub reads_as : {read queue : Option ℕ} → read ≡ queue → {x : State} {store : List ℕ} → ReadAsks x queue store
    → ReadAsks x read store
reads_as same {x} {store} asks = subst (λ (q : Option ℕ). ReadAsks x q store) (sym same) asks

pub read_as : {read queue : Option ℕ} → read ≡ queue → (x : State) (store : List ℕ) {y : State}
    → y ≡ after_read read x store → y ≡ after_read queue x store
read_as same x store is = is ∙ ap (λ (q : Option ℕ). after_read q x store) same

-- What is left of a call that is not refused is accepted.
pub judged_accepted : {x : State} (store : List ℕ) (call : Call) {j : Judged} → JudgeSays x (length store) call (Ok j)
    → Accepted paper x store (call_in j.call)
judged_accepted {x} store call says =
    subst (Accepted paper x store) (sym says.judged_is.left_is)
    (accepted-facts paper x store call (judged_clear store says))

-- Calls that meet the contracts make the slot.
module _ (s : code.State) (store : List ℕ) (asked-call : Call) (judged : Judged) (g : StepAnswers)
    (says : JudgeSays (state_of s) (length store) asked-call (Ok judged))
    (by : ByContract s store judged.call g) where
  abbrev x : State
  x = state_of s

  abbrev call : Call
  call = call_in judged.call

  accepted : Accepted paper x store call
  accepted = judged_accepted store asked-call says

  state_1 : state_of g.after_deliver ≡ opened x
  state_1 = (by.deliver_says (can_deliver x store call accepted)).0

  to_arrive : CachesFit (state_of g.after_deliver)
  to_arrive = can_arrive x store call accepted state_1

  early_is : arrival_in g.early ≡ early_arrival x call
  early_is = early_told x call by.swaps_says by.early_says

  arrived : state_of g.after_early ≡ after_arrival (arrival_in g.early) (state_of g.after_deliver)
  arrived = by.arrive_early_says to_arrive

  to_ask : AskAsks (state_of g.after_early) g.owing call.request
  to_ask =
      can_ask x store call accepted state_1 early_is arrived g.owing
      (owing_told accepted state_1 early_is arrived by.owes_says)

  asked_is : state_of g.after_ask ≡ after_request call.request (closed (state_of g.after_early))
  asked_is = by.ask_says to_ask

  to_arrive_late : CachesFit (state_of g.after_ask)
  to_arrive_late = can_arrive_late x store call accepted state_1 early_is arrived asked_is

  late_is : arrival_in g.late ≡ late_arrival x call
  late_is = late_told x call by.swaps_says by.late_says

  filled : state_of g.after_late ≡ after_arrival (arrival_in g.late) (state_of g.after_ask)
  filled = by.arrive_late_says to_arrive_late

  written_is : chosen_in g.written ≡ queue_to_write (asked x call)
  written_is = write_told accepted state_1 early_is arrived asked_is late_is filled by.to_write_says

  to_write : WriteAsks (state_of g.after_late) (chosen_in g.written) store
  to_write = can_write x store call accepted state_1 early_is arrived asked_is late_is filled written_is

  wrote-is : state_of g.after_write ≡ after_write (chosen_in g.written) (state_of g.after_late)
  wrote-is = (by.write_says to_write).0

  store_is : g.store ≡ store_written (chosen_in g.written) (state_of g.after_late) store
  store_is = (by.write_says to_write).1

  read_is : refill_in g.refill ≡ refill_of (wrote x call)
  read_is =
      read_told accepted state_1 early_is arrived asked_is late_is filled by.to_write_says wrote-is store_is
      by.to_read_says

  to_read : ReadAsks (state_of g.after_write) (refill_in g.refill).queue g.store
  to_read =
      can_read x store call accepted state_1 early_is arrived asked_is late_is filled written_is wrote-is store_is
      read_is

  to_turn : (state_of g.after_read).phase < (state_of g.after_read).sizes.b
  to_turn =
      can_turn x store call accepted state_1 early_is arrived asked_is late_is filled written_is wrote-is store_is
      read_is (by.read_says to_read)

  in_turn : MakesTheSlot s store asked-call judged g
  in_turn = record {
    deliver_can = can_deliver x store call accepted;
    arrive_early_can = to_arrive;
    ask_can = to_ask;
    arrive_late_can = to_arrive_late;
    write_can = to_write;
    read_can = to_read;
    turn_can = to_turn;
    answer-is =
        all_in_turn x store call accepted state_1 early_is arrived asked_is late_is filled written_is wrote-is store_is
        read_is (by.read_says to_read) (arrival_number_judged judged) (request_number_judged judged) (by.turn_says to_turn)
        (by.deliver_says (can_deliver x store call accepted)).1
        ∙ judged_carries store asked-call says;
  }

pub steps_in_turn : StepsInTurn
steps_in_turn = in_turn
