-- The six steps of a slot as methods, called in turn after a judgement that lets it pass, with what that leaves, and
-- told by the four choices: whoever calls them so gets the slot. The arrival's step is called before the request's and
-- after it, one of the two with no arrival. It cites the contracts alone, so that it holds of whatever meets them.
use Rattle.std.specs.Prelude.{◌≡◌, Bool, List, ℕ, ◌<◌, length, Option, Ok}
use Rattle.std.proofs.Math.Option.{some, none}
use Rattle.model.specs.Basics.{choose}
use Rattle.model.specs.Sizes.{paper}
use Rattle.model.specs.Slot as model
use Rattle.model.specs.Slot.{Answer, swaps, delivery, after_arrival, is_owed, after_request, queue_to_write}
use Rattle.model.specs.Slot.{after_write, store_written, refill_of, after_read, after_phase, slot}
use Rattle.layout.specs.declared.Byte.{Byte}
use Rattle.layout.specs.declared.Call.{Call}
use Rattle.layout.specs.declared.Refill.{Refill}
use Rattle.layout.specs.Calls.{chosen_in, arrival_in, request_in, delivery_in, refill_in}
use Rattle.buffer.specs.declared.State as code
use Rattle.buffer.specs.declared.Judged.{Judged}
use Rattle.buffer.specs.Says.{state_of, JudgeSays, arrival_number_judged, request_number_judged}
use Rattle.buffer.specs.OneStep.{opened, closed, CachesFit, DeliverAsks, AskAsks, WriteAsks, ReadAsks}

-- What the calls gave, in their order: the state of each step, and what the choices told. The store is as the write
-- leaves it.
pub record StepAnswers : Type 0 where
  pub swapping : Bool
  pub delivered : Option Byte
  pub after_deliver : code.State
  pub early : Option Byte
  pub after_early : code.State
  pub owing : Bool
  pub after_ask : code.State
  pub late : Option Byte
  pub after_late : code.State
  pub written : Option ℕ
  pub after_write : code.State
  pub store : List ℕ
  pub refill : Option Refill
  pub after_read : code.State
  pub after_turn : code.State

-- Each call meets its contract: a step gives what it promises where it finds what it asks. Whether the slot swaps is
-- told of the state as handed in, and by it which of the two arrivals is none. Every other choice is made on the state
-- at hand: whether the request is Owed after the early arrival, the queue to write after the late one, the queue to
-- read after the write.
pub record ByContract (s : code.State) (store : List ℕ) (call : Call) (g : StepAnswers) : Type 0
  where
    pub swaps_says : g.swapping ≡ swaps (state_of s) (arrival_in call.arrival) (request_in call.request)
    pub deliver_says : DeliverAsks (state_of s)
        → (state_of g.after_deliver ≡ opened (state_of s)) × (delivery_in g.delivered ≡ delivery (state_of s))
    pub early_says : arrival_in g.early ≡ choose g.swapping none (arrival_in call.arrival)
    pub arrive_early_says : CachesFit (state_of g.after_deliver)
        → state_of g.after_early ≡ after_arrival (arrival_in g.early) (state_of g.after_deliver)
    pub owes_says : (q : ℕ) → request_in call.request ≡ some q → g.owing ≡ is_owed (state_of g.after_early) q
    pub ask_says : AskAsks (state_of g.after_early) g.owing (request_in call.request)
        → state_of g.after_ask ≡ after_request (request_in call.request) (closed (state_of g.after_early))
    pub late_says : arrival_in g.late ≡ choose g.swapping (arrival_in call.arrival) none
    pub arrive_late_says : CachesFit (state_of g.after_ask)
        → state_of g.after_late ≡ after_arrival (arrival_in g.late) (state_of g.after_ask)
    pub to_write_says : chosen_in g.written ≡ queue_to_write (state_of g.after_late)
    pub write_says : WriteAsks (state_of g.after_late) (chosen_in g.written) store
        → (state_of g.after_write ≡ after_write (chosen_in g.written) (state_of g.after_late))
        × (g.store ≡ store_written (chosen_in g.written) (state_of g.after_late) store)
    pub to_read_says : refill_in g.refill ≡ refill_of (state_of g.after_write)
    pub read_says : ReadAsks (state_of g.after_write) (refill_in g.refill).queue g.store
        → state_of g.after_read ≡ after_read (refill_in g.refill).queue (state_of g.after_write) g.store
    pub turn_says : (state_of g.after_read).phase < (state_of g.after_read).sizes.b
        → state_of g.after_turn ≡ after_phase (state_of g.after_read)

-- The answer that the calls make together, with the numbers of the halves that were judged.
abbrev pub answer_of_steps : Judged → StepAnswers → Answer
answer_of_steps judged g = record {
  reply = record {
    number = 0;
    arrival_number = arrival_number_judged judged;
    request_number = request_number_judged judged;
    delivered = delivery_in g.delivered;
    written = chosen_in g.written;
    read = (refill_in g.refill).queue;
    slots_left = (refill_in g.refill).slots_left;
  };
  state = state_of g.after_turn;
  store = g.store;
}

-- Every step finds what it asks, and the answer is the slot's of this call.
pub record MakesTheSlot (s : code.State) (store : List ℕ) (call : model.Call) (judged : Judged) (g : StepAnswers) : Type 0
  where
    pub deliver_can : DeliverAsks (state_of s)
    pub arrive_early_can : CachesFit (state_of g.after_deliver)
    pub ask_can : AskAsks (state_of g.after_early) g.owing (request_in judged.call.request)
    pub arrive_late_can : CachesFit (state_of g.after_ask)
    pub write_can : WriteAsks (state_of g.after_late) (chosen_in g.written) store
    pub read_can : ReadAsks (state_of g.after_write) (refill_in g.refill).queue g.store
    pub turn_can : (state_of g.after_read).phase < (state_of g.after_read).sizes.b
    pub answer-is : answer_of_steps judged g ≡ slot paper (state_of s) store call

-- Of any state, store and call that `State::judge` did not refuse, with what it left of the call.
abbrev pub StepsInTurn : Type 0
StepsInTurn =
    (s : code.State) (store : List ℕ) (call : model.Call) (judged : Judged) (g : StepAnswers)
    → JudgeSays (state_of s) (length store) call (Ok judged)
    → ByContract s store judged.call g → MakesTheSlot s store call judged g
