-- `State::arrive` meets its contract: the tail's fill lies within its array, and the mark is the larger of the two.
use native.Mathlib.Omega.{arith}
use borrow.Author.Rules.{rules}
use Rattle.buffer.proofs.OneStep.{tail_in, arrived_state}
use Rattle.buffer.proofs.State.arrive.Goals as goal

pub arrive-joined-requires : goal.arrive-joined-requires
arrive-joined-requires c =
    let start = c in
    let inside = tail_in start.args.self start.requires (search rules) in
    (omega (arith, inside), λ y e. inside)

pub returns : goal.returns
returns c =
    let start = c in
    arrived_state start.args.self start.requires _ _ _ _ (search rules) c.arrive-joined.ensures
    c.max-self.ensures
