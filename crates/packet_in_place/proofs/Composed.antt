-- The layer's own refusals by the counts, the slot of the byte and the byte request, and the record's part of it are
-- the model's slot of the layer: `stopped`, `buffer_stopped` and `composed`, by where the slot ends.
use mathlib.Core.Path.{◌≡◌, refl, ap, sym, ◌∙◌}
use mathlib.Core.Bool.{Bool, true, false, ◌&&◌, not}
use mathlib.Core.List.{List, [], ◌∷◌, ◌++◌}
use mathlib.Core.Option.{Option, some, none}
use Prim.Native.Nat.{ℕ, zero, suc, ◌<◌}
use native.Mathlib.Omega.{arith}
use lib.Dec.{ltb}
use lib.ListN.{length}
use borrow.Author.Tests.{le-ltb, leb-false}
use Rattle.std.specs.Prelude.{Result}
use Rattle.model.specs.Basics.{when, first_refusal}
use Rattle.model.specs.Sizes.{Sizes, paper, store_bytes}
use Rattle.model.specs.State.{Byte, State, keeps}
use Rattle.model.specs.Slot as model
use Rattle.model.specs.Slot.{Call, arrival_unknown, number_alone, Answer, refuse, answer, slot}
use Rattle.model.proofs.basics.FirstRefusal.{no_refusal_at, when-zero, last_refusal}
use Rattle.model.proofs.one_slot.Accepted.{refusal-told}
use Rattle.model.proofs.one_slot.Kept.{slot_kept}
use Rattle.packets.specs.Packets.{PacketRecord, record_keeps, PacketArrival, start, next, PacketCall, byte_in, byte_call}
use Rattle.packets.specs.Packets.{packet_refusal, record_after, PacketAnswer, packet_accept, packet_stop, packet_answer}
use Rattle.packets.specs.Packets.{packet_slot}
use Rattle.packets.proofs.Slots.{record-facts, packet_accepted, packet_accepts}
use Rattle.packets.proofs.Kept.{CallFits, accepted-fits, record_kept}
use Rattle.layout.specs.Calls.{reply_in}
use Rattle.layout.specs.Counts.{ByQueue, by_queue}
use Rattle.layout.specs.Entries.{counts_in}
use Rattle.layout.specs.Figures.{Figures, figures_in}
use Rattle.layout.specs.Views.{Arrays, sizes_in, state_in}
use Rattle.layout.specs.declared.Regs.{Regs}
use Rattle.layout.specs.declared.Outcome.{Outcome}
use Rattle.layout.specs.declared.Refusal.{Refusal}
use Rattle.packet_layout.specs.Views.{packet_regs_in, incoming_of, QueueFits}
use Rattle.packet_layout.specs.declared.PacketRegs.{PacketRegs}
use Rattle.packet_record.specs.Says.{TurnFacts}
use Rattle.packet_refusals.specs.Says.{packet_number}
use Rattle.packet_refusals.proofs.Paper.{own_refusals, number_as_paper}
use Rattle.slot_in_place.specs.Says.{Ready, answer_in}
use Rattle.slot_in_place.proofs.Standing as standing
use Rattle.run_in_place.specs.Says.{advanced_to, OneSlotSays}
use Rattle.packet_in_place.specs.Says.{RecordArrays, record_of, RecordReady, TakesTurn, PacketAdvanceSays}

-- The layer's own refusals go by tail bytes and blocks alone.
number_by_tails : (regs : Regs) (tails heads owing stored : List ℕ) (listed : ℕ → ℕ) (r : PacketRecord)
    (arrival : Option PacketArrival) (request : Option ℕ)
    → packet_number (figures_in regs (by_queue tails [] []) stored) listed r.incoming arrival request
    ≡ packet_number (figures_in regs (by_queue tails heads owing) stored) listed r.incoming arrival request
number_by_tails regs tails heads owing stored listed r none request = refl
number_by_tails regs tails heads owing stored listed r (some (start q n v)) request = refl
number_by_tails regs tails heads owing stored listed r (some (next v)) request = refl

-- 3 and 2 do not hold of a state and a record that are ready.
ruled_out : (kept record_kept short : Bool) (ns : List ℕ) → kept ≡ true → record_kept ≡ true → short ≡ false
    → first_refusal (when (not (kept && record_kept)) 3 ∷ when short 2 ∷ ns) ≡ first_refusal ns
ruled_out kept record_kept short ns e f g = rw (e, f, g)

-- A refusal of some is the first, whatever follows them.
pub first_stays : (ms ns : List ℕ) {n : ℕ} → first_refusal ms ≡ suc n → first_refusal (ms ++ ns) ≡ suc n
first_stays [] ns e = absurd (omega (arith, e))
first_stays (zero ∷ ms) ns e = first_stays ms ns e
first_stays (suc m ∷ ms) ns e = e

-- A buffer's slot that answers a refusal is refused whole.
refused-by : (n : ℕ) (x : State) (store : List ℕ) (call : Call) → (n ≡ 0 → ⊥)
    → n ≡ (slot paper x store call).reply.number → slot paper x store call ≡ refuse n x store
refused-by zero x store call f e = absurd (f refl)
refused-by (suc n) x store call f e =
    ap (λ (k : ℕ). answer k x store call) (sym (e ∙ refusal-told paper x store call))

-- A slot of the layer that is stopped with a number answers so.
pub stop_is : (n : ℕ) (x : State) (store : List ℕ) (r : PacketRecord) (call : PacketCall) → (n ≡ 0 → ⊥)
    → packet_refusal paper x store r call ≡ n → packet_stop n x store r ≡ packet_slot paper x store r call
stop_is zero x store r call f e = absurd (f refl)
stop_is (suc n) x store r call f e = sym (ap (λ (k : ℕ). packet_answer k paper x store r call) e)

same_answer : {a a' : Answer} {n n' : ℕ} {r r' : PacketRecord} → a ≡ a' → n ≡ n' → r ≡ r'
    → ◌≡◌ {A = PacketAnswer} (record { answer = a; packet_number = n; packets = r })
    (record { answer = a'; packet_number = n'; packets = r' })
same_answer ea en er = cc

module _ {regs : Regs} {m : Arrays} {counts : ByQueue} {store : List ℕ} (ready : Ready regs m counts store)
    {p : RecordArrays} (v : RecordReady regs.queues p) (call : PacketCall) where
  abbrev x : State
  x = state_in regs m

  abbrev rec : PacketRecord
  rec = record_of p

  abbrev own : List ℕ
  own = own_refusals x rec call

  abbrev buffer_number : ℕ
  buffer_number = (slot paper x store (byte_call rec call)).reply.number

  -- What is judged by the counts is the layer's own first refusal.
  pub judged :
      packet_number (figures_in regs (by_queue counts.tails [] []) m.stored) (counts_in p.listed)
      rec.incoming call.arrival call.request
      ≡ first_refusal own
  judged =
      number_by_tails regs counts.tails counts.heads counts.owing m.stored (counts_in p.listed) rec
      call.arrival call.request
      ∙ ap (λ (f : Figures). packet_number f (counts_in p.listed) rec.incoming call.arrival call.request)
      (standing.figures_are ready)
      ∙ number_as_paper x (packet_regs_in p.regs) p.lengths p.listed call

  -- The same where registers and packet registers were read first.
  pub judged_by : {g : Regs} {k : PacketRegs} {n : ℕ}
      → n ≡ packet_number (figures_in g (by_queue counts.tails [] []) m.stored) (counts_in p.listed) (incoming_of k)
      call.arrival call.request
      → g ≡ regs → k ≡ packet_regs_in p.regs → n ≡ first_refusal own
  judged_by {g} {k} e read record-read =
      e
      ∙ ap (λ (h : Regs). packet_number (figures_in h (by_queue counts.tails [] []) m.stored) (counts_in p.listed)
      (incoming_of k) call.arrival call.request) read
      ∙ ap (λ (j : PacketRegs). packet_number (figures_in regs (by_queue counts.tails [] []) m.stored)
      (counts_in p.listed) (incoming_of j) call.arrival call.request) record-read
      ∙ judged

  refusal_is : packet_refusal paper x store rec call ≡ first_refusal (own ++ buffer_number ∷ [])
  refusal_is =
      ruled_out (keeps paper x) (record_keeps regs.queues rec) (ltb (length store) (store_bytes (sizes_in regs)))
      (own ++ buffer_number ∷ []) ready.kept v.record_keeps
      (le-ltb (length store) (store_bytes (sizes_in regs)) ready.store_long)

  own_first : (n : ℕ) → (n ≡ 0 → ⊥) → n ≡ first_refusal own → packet_refusal paper x store rec call ≡ n
  own_first zero f e = absurd (f refl)
  own_first (suc n) f e = refusal_is ∙ first_stays own (buffer_number ∷ []) (sym e)

  -- The layer stops the slot: nothing has changed.
  pub stopped : {n : ℕ} {told : Result Outcome Refusal} → n ≡ first_refusal own → (n ≡ 0 → ⊥) → reply_in told ≡ number_alone n
      → PacketAdvanceSays regs m store p call (record { reply = told; packet_dropped = false }) regs m store p
      × Ready regs m counts store × RecordReady regs.queues p
  stopped {n} e f alone = (
    record {
      answer-is =
          ap (λ (k : model.Reply). record {
            answer = record { reply = k; state = x; store = store };
            packet_number = 0;
            packets = rec;
          }) alone
          ∙ stop_is n x store rec call f (own_first n f e);
      as_given = λ _. (refl, refl, refl);
    },
    ready,
    v,
  )

  -- The layer lets it pass: the byte's queue is known, and so is that of the packet last asked for.
  module _ (passed : first_refusal own ≡ 0) where
    byte-known : arrival_unknown x (byte_in rec.incoming call.arrival) ≡ false
    byte-known = when-zero _ 3 (no_refusal_at own 0 passed)

    pub byte_fits : QueueFits (byte_in rec.incoming call.arrival)
    byte_fits = go (byte_in rec.incoming call.arrival) byte-known
      where
        go : (o : Option Byte) → arrival_unknown x o ≡ false → QueueFits o
        go none e = tt
        go (some y) e =
            omega (arith, leb-false regs.queues y.queue e, (standing.limits ready).q_high)

    pub asked-fits : rec.asked < 256
    asked-fits =
        omega (arith, (record-facts regs.queues rec v.record_keeps).asked-below, (standing.limits ready).q_high)

    -- The slot goes by the buffer's own.
    module _ {regs₁ : Regs} {answered : Result Outcome Refusal} {m' : Arrays} {counts' : ByQueue} {store' : List ℕ}
        (one : OneSlotSays regs m store (byte_call rec call) (advanced_to regs₁ answered) m' counts' store') where
      answers : answer_in (advanced_to regs₁ answered) m' store' ≡ slot paper x store (byte_call rec call)
      answers = one.slot_is.answer-is

      told : (reply_in answered).number ≡ buffer_number
      told = ap (λ (a : Answer). a.reply.number) answers

      buffer_first : packet_refusal paper x store rec call ≡ (reply_in answered).number
      buffer_first = refusal_is ∙ last_refusal own buffer_number passed ∙ sym told

      same-queues : regs₁.queues ≡ regs.queues
      same-queues =
          ap (λ (a : Answer). a.state.sizes.Q) answers
          ∙ ap (λ (s : Sizes). s.Q)
          (slot_kept paper x store (byte_call rec call) (omega arith) (standing.kept ready)).same-sizes

      -- The buffer stops the slot: the record has not changed either.
      pub buffer_stopped : ((reply_in answered).number ≡ 0 → ⊥)
          → PacketAdvanceSays regs m store p call (record { reply = answered; packet_dropped = false }) regs₁ m' store' p
          × Ready regs₁ m' counts' store' × RecordReady regs₁.queues p
      buffer_stopped f = (
        record {
          answer-is =
              ap (λ (a : Answer). record { answer = a; packet_number = 0; packets = rec })
              (answers ∙ refused-by (reply_in answered).number x store (byte_call rec call) f told)
              ∙ stop_is (reply_in answered).number x store rec call f buffer_first;
          as_given = λ g. let back = one.as_given g in (back.0, back.1, refl);
        },
        one.slot_is.ready,
        record {
          lists_long = v.lists_long;
          record_keeps = ap (λ (q : ℕ). record_keeps q rec) same-queues ∙ v.record_keeps;
        },
      )

      -- The buffer accepts it.
      module _ (went : (reply_in answered).number ≡ 0) where
        accepted : packet_refusal paper x store rec call ≡ 0
        accepted = buffer_first ∙ went

        pub turn_facts : TurnFacts rec call
        turn_facts = record {
          queues = regs.queues;
          queues_few = (standing.limits ready).q_high;
          record_keeps = v.record_keeps;
          start_below = fits.start_below;
          length_right = fits.length_right;
          place_there = fits.place_there;
          request-below = fits.request-below;
        }
          where
            fits : CallFits regs.queues rec call
            fits = accepted-fits paper x store rec call (packet_accepted paper x store rec call accepted)

        -- All together.
        pub composed : {p' : RecordArrays} {dropped : Bool}
            → TakesTurn p call (reply_in answered).arrival_number (reply_in answered).request_number dropped p'
            → PacketAdvanceSays regs m store p call (record { reply = answered; packet_dropped = dropped }) regs₁ m'
            store' p'
            × Ready regs₁ m' counts' store' × RecordReady regs₁.queues p'
        composed {p'} turn = (
          record {
            answer-is =
                same_answer answers (ap (λ (t : Bool). when t 7) turn.dropped_is) record_is ∙ sym (packet_accepts paper x store rec call accepted);
            as_given = λ f. absurd (f went);
          },
          one.slot_is.ready,
          record {
            lists_long = turn.lists_long;
            record_keeps =
                ap (λ (q : ℕ). record_keeps q (record_of p')) same-queues
                ∙ ap (record_keeps regs.queues)
                (record_is
                ∙ sym (ap (λ (a : PacketAnswer). a.packets) (packet_accepts paper x store rec call accepted)))
                ∙ record_kept paper x store rec call (omega arith) ready.kept v.record_keeps accepted;
          },
        )
          where
            record_is : record_of p' ≡ (packet_accept paper x store rec call).packets
            record_is =
                turn.record_is
                ∙ ap (λ (a : Answer). record_after rec call a.reply.arrival_number a.reply.request_number) answers
