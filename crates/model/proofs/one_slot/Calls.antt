-- What a slot tells is its parts, `reply_is`, and an answer is what it tells, a state and a store, `answer-is`.
use mathlib.Core.Path.{◌≡◌}
use mathlib.Core.List.{List}
use mathlib.Core.Option.{Option}
use Prim.Native.Nat.{ℕ}
use Rattle.model.specs.State.{Byte, State}
use Rattle.model.specs.Slot.{Reply, Answer}

pub reply_is : (r t : Reply) → t.number ≡ r.number → t.arrival_number ≡ r.arrival_number
    → t.request_number ≡ r.request_number → t.delivered ≡ r.delivered → t.written ≡ r.written → t.read ≡ r.read
    → t.slots_left ≡ r.slots_left → t ≡ r
reply_is r t e₁ e₂ e₃ e₄ e₅ e₆ e₇ =
    let parts_alike :
    made t.number t.arrival_number t.request_number t.delivered t.written t.read t.slots_left
    ≡ made r.number r.arrival_number r.request_number r.delivered r.written r.read r.slots_left
    = cc in
    parts_alike
  where
    made : ℕ → ℕ → ℕ → Option Byte → Option ℕ → Option ℕ → ℕ → Reply
    made n a q d w f l = record {
      number = n;
      arrival_number = a;
      request_number = q;
      delivered = d;
      written = w;
      read = f;
      slots_left = l;
    }

pub answer-is : (a c : Answer) → c.reply ≡ a.reply → c.state ≡ a.state → c.store ≡ a.store → c ≡ a
answer-is a c e₁ e₂ e₃ =
    let parts_alike : made c.reply c.state c.store ≡ made a.reply a.state a.store = cc in
    parts_alike
  where
    made : Reply → State → List ℕ → Answer
    made r x st = record { reply = r; state = x; store = st }
