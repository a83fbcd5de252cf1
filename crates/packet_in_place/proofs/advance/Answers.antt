-- `advance` meets its contract: what is judged by the counts is the layer's own, a run of one call is the buffer's slot,
-- and the record takes its turn where that is accepted (Composed).
use mathlib.Core.Path.{◌≡◌, refl, ap, sym, ◌∙◌, subst}
use mathlib.Core.List.{[], ◌∷◌}
use Prim.Native.Nat.{◌<◌}
use Rattle.std.specs.Prelude.{Result}
use Rattle.model.specs.Basics.{first_refusal}
use Rattle.model.specs.Slot.{Call}
use Rattle.packets.specs.Packets.{byte_in, byte_call}
use Rattle.layout.specs.Calls.{reply_in}
use Rattle.layout.specs.declared.Outcome.{Outcome}
use Rattle.layout.specs.declared.Refusal.{Refusal}
use Rattle.layout.specs.Views.{Arrays, arrays, regs_in, state_in}
use Rattle.layout.proofs.Refusals.{refusal_is_some}
use Rattle.packet_layout.specs.declared.PacketRegs.{PacketRegs}
use Rattle.packet_layout.specs.Views.{call_of, incoming_of, record_in, QueueFits}
use Rattle.packet_refusals.proofs.Paper.{own_refusals}
use Rattle.run_words.specs.Words as words
use Rattle.packet_in_place.specs.Says.{RecordArrays, record_arrays, record_of}
use Rattle.packet_in_place.proofs.Composed.{judged_by, stopped, byte_fits, asked-fits, buffer_stopped, turn_facts}
use Rattle.packet_in_place.proofs.Composed.{composed}
use Rattle.packet_in_place.proofs.advance.Goals as goal
use Rattle.packet_in_place.proofs.advance.Goals.{In_default, After-byte_word}

pub returns-in-Err : goal.returns-in-Err
returns-in-Err c =
    stopped c.requires.0 c.requires.1 (call_of c.args.call)
    (judged_by c.requires.0 c.requires.1 (call_of c.args.call) c.in-Err.ensures c.regs_in-before.ensures
    c.regs_in-packet.ensures)
    (refusal_is_some c.in-Err.refusal) refl

-- The arrays and the record as they were handed in.
abbrev memory : In_default → Arrays
memory c = arrays c.args.tail.now c.args.head.now c.args.cells.now c.args.firsts.now c.args.stored.now

abbrev packets : In_default → RecordArrays
packets c = record_arrays c.args.packet_regs.now c.args.lengths.now c.args.listed.now

-- None of the layer's own refusals: the slot goes on.
none_found : (c : In_default)
    → first_refusal
    (own_refusals (state_in (regs_in c.args.regs.now) (memory c)) (record_of (packets c)) (call_of c.args.call)) ≡ 0
none_found c =
    sym
    (judged_by c.requires.0 c.requires.1 (call_of c.args.call) c.in_default.ensures c.regs_in-before.ensures
    c.regs_in-packet.ensures)

pub byte_word-requires : goal.byte_word-requires
byte_word-requires c =
    let none = none_found (goal.at.byte_word-requires c).In_default in
    let asked = call_of c.args.call in
    subst (λ (k : PacketRegs). QueueFits (byte_in (incoming_of k) asked.arrival) × (k.asked < 256))
    (sym c.regs_in-packet.ensures)
    (byte_fits c.requires.0 c.requires.1 asked none, asked-fits c.requires.0 c.requires.1 asked none)

-- The call is the model's.
call-made : (c : After-byte_word)
    → words.call_of c.byte_word.result ∷ []
    ≡ byte_call (record_of (record_arrays c.args.packet_regs.now c.args.lengths.now c.args.listed.now))
    (call_of c.args.call) ∷ []
call-made c =
    ap (λ (k : Call). k ∷ [])
    (c.byte_word.ensures
    ∙ ap (λ (k : PacketRegs). byte_call (record_in k [] []) (call_of c.args.call)) c.regs_in-packet.ensures)

pub take_turn-packet_dropped-requires : goal.take_turn-packet_dropped-requires
take_turn-packet_dropped-requires c =
    let at = goal.at.take_turn-packet_dropped-requires c in (
      c.requires.1.lists_long,
      turn_facts c.requires.0 c.requires.1 (call_of c.args.call) (none_found at.In_default)
          (c.in-Ok.ensures.2 _ (call-made at.After-byte_word)) refl,
    )

pub returns-in-Ok : goal.returns-in-Ok
returns-in-Ok c =
    let at = goal.at.returns-in-Ok c in
    composed c.requires.0 c.requires.1 (call_of c.args.call) (none_found at.In_default)
    (c.in-Ok.ensures.2 _ (call-made at.After-byte_word)) refl c.take_turn-packet_dropped.ensures

pub returns-in-Err-reply : goal.returns-in-Err-reply
returns-in-Err-reply c =
    let at = goal.at.returns-in-Err-reply c in
    buffer_stopped c.requires.0 c.requires.1 (call_of c.args.call) (none_found at.In_default)
    (c.run_calls-reply.ensures.2 _ (call-made at.After-byte_word))
    (λ z. refusal_is_some c.in-Err-reply.field-0
    (sym (ap (λ (r : Result Outcome Refusal). (reply_in r).number) c.in-Err-reply.is) ∙ z))
