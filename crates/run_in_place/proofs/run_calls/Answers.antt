-- `run_calls` meets its contract: before call i the first i calls have been run as the model's list, and the state is
-- ready for the next.
use Rattle.std.proofs.Common.{refl, ap, ◌∙◌, map, arith}
use Rattle.std.proofs.Math.ListN.{length-map, length-set}
use Rattle.layout.specs.declared.Regs.{Regs}
use Rattle.layout.specs.Views.{arrays, state_in}
use Rattle.run_words.specs.Words.{call_of}
use Rattle.run_in_place.proofs.Turns.{run-starts, run-turn, run_ends, call_at, no_first}
use Rattle.run_in_place.proofs.Turns.{first_turn, first_is_all, lent-ready, call_put, store_kept}
use Rattle.run_in_place.proofs.run_calls.Goals as goal

pub loop-i-init : goal.loop-i-init
loop-i-init c =
    let a = c.args in
    let memory = arrays a.tail.now a.head.now a.cells.now a.firsts.now a.stored.now in
    let read = c.regs_in.ensures in (
      lent-ready read c.requires.0,
      run-starts _ _ _ (ap (λ (n : Regs). state_in n memory) read),
      refl,
      refl,
      no_first read,
    )

pub answer_call-last-requires : goal.answer_call-last-requires
answer_call-last-requires c = c.loop-i.invariant.0

pub loop-i-preserved : goal.loop-i-preserved
loop-i-preserved c =
    let loop = c.loop-i in
    let called = c.answer_call-last.ensures in
    let says = called.0 in
    let all = length-map c.args.calls.now call_of in (
      says.slot_is.ready,
      run-turn loop.invariant.1 (call_of 0) (call_at c.args.calls.now loop.i)
          (omega (arith, c.loop-i-test.true, all)) (omega (arith, c.requires.1, c.loop-i-test.true))
          says.slot_is.answer-is says.word_is,
      length-set loop.answers loop.i _ ∙ loop.invariant.2,
      store_kept loop.invariant.0 says ∙ loop.invariant.3,
      first_turn (map call_of c.args.calls.now) (call_of 0) loop.invariant.4
          (call_at c.args.calls.now loop.i) says called.1,
    )

pub returns : goal.returns
returns c =
    let loop = c.loop-i in
    let inv = loop.invariant in
    let memory = arrays loop.tail loop.head loop.cells loop.firsts loop.stored in
    let all = length-map c.args.calls.now call_of in
    let put = c.put_regs.ensures in (
      run_ends inv.1 (omega (arith, all, c.loop-i-test.false)) (ap (λ (n : Regs). state_in n memory) put),
      lent-ready put inv.0,
      call_put put _
          (first_is_all (map call_of c.args.calls.now) (call_of 0) inv.4
          (omega (arith, all, c.loop-i-test.false, inv.1.within))),
    )
