-- `by_value_slots` meets its contract: before call i the first i calls have been run as the model's list.
use Rattle.std.proofs.Common.{◌≡◌, refl, ap, ◌∙◌, sym, get_or, length, take, arith}
use Rattle.std.proofs.Math.ListN.{length-map, length-set}
use lib.Seq.{length-take-le, get_or-take}
use Rattle.model.specs.Sizes.{paper}
use Rattle.model.specs.Slot.{Answer, slot}
use Rattle.run_words.specs.Words.{call_of, answer_word}
use Rattle.run_words.proofs.Nearest.{near_slot}
use Rattle.run_in_place.proofs.Turns.{run-starts, run-turn, call_at}
use Rattle.buffer.specs.Says.{state_of}
use Rattle.by_value.proofs.Making.{word_fits, drove}
use Rattle.by_value.proofs.by_value_slots.Goals as goal

pub loop-i-init : goal.loop-i-init
loop-i-init c = (refl, refl, run-starts _ _ _ refl)

pub reply_word-requires : goal.reply_word-requires
reply_word-requires c = word_fits c.slot-last.ensures

pub loop-i-preserved : goal.loop-i-preserved
loop-i-preserved c =
    let loop = c.loop-i in
    let calls = c.args.calls.now in
    let n = c.min-n.result in
    let taken : length (take n calls) ≡ n = length-take-le n calls (omega (arith, c.min-n.ensures)) in
    let here : get_or (take n calls) loop.i 0 ≡ get_or calls loop.i 0 =
    get_or-take n calls loop.i 0 (omega (arith, taken, c.loop-i-test.true)) in
    let is_call = call_at calls loop.i ∙ ap call_of (sym here) in
    let is-slot = c.slot-last.ensures.promised
    ∙ ap (slot paper (state_of loop.last.state) loop.store) c.call_in.ensures
    ∙ near_slot (state_of loop.last.state) loop.store (call_of (get_or (take n calls) loop.i 0)) in (
      length-set loop.answers loop.i _ ∙ loop.invariant.0,
      c.slot-last.auto.store ∙ loop.invariant.1,
      run-turn loop.invariant.2 (call_of 0) is_call
          (omega (arith, taken, c.loop-i-test.true, c.min-n.ensures, length-map calls call_of))
          (omega (arith, taken, c.loop-i-test.true, c.min-n.ensures)) is-slot
          (c.reply_word.ensures ∙ ap (λ (b : Answer). answer_word b.reply) is-slot),
    )

pub returns : goal.returns
returns c =
    let calls = c.args.calls.now in
    let n = c.min-n.result in
    let taken : length (take n calls) ≡ n = length-take-le n calls (omega (arith, c.min-n.ensures)) in
    drove c.in-Ok.ensures (omega (arith, taken, c.loop-i-test.false, c.min-n.ensures)) c.loop-i.invariant.2
    c.finished.ensures
