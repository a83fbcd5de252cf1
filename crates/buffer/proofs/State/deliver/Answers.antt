-- `State::deliver` meets its contract: the first number is the oldest cell, and the one that comes in is 0.
use native.Mathlib.Omega.{arith}
use borrow.Author.Rules.{rules}
use Rattle.buffer.proofs.OneStep.{head_in, byte-to_deliver, delivered, delivered_state}
use Rattle.buffer.proofs.State.deliver.Goals as goal

pub deliver-gave-requires : goal.deliver-gave-requires
deliver-gave-requires c =
    let start = c in
    let fits = start.requires.fits in (
      omega (arith, head_in start.args.self fits (search rules)),
      byte-to_deliver start.args.self fits (search rules) start.requires.covered,
    )

pub returns : goal.returns
returns c =
    let start = c in
    let s = start.args.self in
    let fits = start.requires.fits in
    let gave = c.deliver-gave in
    let shifted = c.shift.ensures in (
      delivered_state s fits _ _ _ (search rules) gave.ensures shifted,
      delivered s fits _ _ _ (search rules) gave.ensures shifted,
    )
