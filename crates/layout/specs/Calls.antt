-- What the values of a call and of an answer say in the model's terms.
use Rattle.std.proofs.Math.Option as math
use Rattle.std.proofs.Math.Option.{some, none}
use Rattle.std.specs.Prelude.{ℕ, Option, Some, None, Result, Ok, Err}
use Rattle.model.specs.Basics.{choose}
use Rattle.model.specs.State as state
use Rattle.model.specs.State.{byte}
use Rattle.model.specs.Slot as slot
use Rattle.model.specs.Slot.{no_refill, number_alone}
use Rattle.layout.specs.declared.Byte.{Byte}
use Rattle.layout.specs.declared.Call.{Call}
use Rattle.layout.specs.declared.Refill.{Refill}
use Rattle.layout.specs.declared.Outcome.{Outcome}
use Rattle.layout.specs.declared.Told.{Told}
use Rattle.layout.specs.declared.Refusal.{Refusal}
use Rattle.layout.specs.declared.Refusal.TheVariants as because

abbrev pub arrival_in : Option Byte → math.Option state.Byte
arrival_in (Some y) = some (byte y.queue y.value)
arrival_in None = none

abbrev pub request_in : Option ℕ → math.Option ℕ
request_in (Some q) = some q
request_in None = none

abbrev pub delivery_in : Option Byte → math.Option state.Byte
delivery_in (Some y) = some (byte y.queue y.value)
delivery_in None = none

abbrev pub chosen_in : Option ℕ → math.Option ℕ
chosen_in (Some q) = some q
chosen_in None = none

-- The choice of a queue for the cell at a place, or of none.
abbrev pub refill_at : math.Option ℕ → ℕ → slot.Refill
refill_at none place = no_refill
refill_at (some q) place = record { queue = some q; slots_left = place }

abbrev pub refill_in : Option Refill → slot.Refill
refill_in (Some r) = record { queue = some r.queue; slots_left = r.slots_left }
refill_in None = no_refill

abbrev pub call_in : Call → slot.Call
call_in call = record { arrival = arrival_in call.arrival; request = request_in call.request }

-- The paper's number of a refusal.
abbrev pub number_of : Refusal → ℕ
number_of because.Sizes = 1
number_of because.ShortStore = 2
number_of because.BrokenRules = 3
number_of because.UnknownArrival = 4
number_of because.UnknownRequest = 6
number_of because.ByteMissing = 8
number_of because.TailFull = 9
number_of because.HeadFull = 10
number_of because.PacketLength = 20
number_of because.PacketPlace = 21
number_of because.PacketRoom = 22

-- The number of what may be refused: 0 where it is not.
abbrev pub number_in : {A : Type 0} → Result A Refusal → ℕ
number_in (Ok x) = 0
number_in (Err refusal) = number_of refusal

-- The number of a half, or 0 where it was not dropped.
abbrev pub arrival_number_in : Outcome → ℕ
arrival_number_in o = choose o.arrival_dropped 5 0

abbrev pub request_number_in : Outcome → ℕ
request_number_in o = choose o.request_dropped 7 0

abbrev pub reply_in : Result Outcome Refusal → slot.Reply
reply_in (Ok o) = record {
  number = 0;
  arrival_number = arrival_number_in o;
  request_number = request_number_in o;
  delivered = delivery_in o.delivery;
  written = chosen_in o.written;
  read = (refill_in o.read).queue;
  slots_left = (refill_in o.read).slots_left;
}
reply_in (Err refusal) = number_alone (number_of refusal)

-- The same of what is told in numbers, whatever they are.
abbrev pub told_in : Told → slot.Reply
told_in t = record {
  number = t.number;
  arrival_number = t.arrival_number;
  request_number = t.request_number;
  delivered = delivery_in t.delivery;
  written = chosen_in t.written;
  read = chosen_in t.read;
  slots_left = t.slots_left;
}
