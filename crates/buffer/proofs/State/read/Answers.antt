-- `State::read` meets its contract: the leaf changes the head and the rings, and the mark is the larger of the two.
use native.Mathlib.Omega.{arith}
use borrow.Author.Rules.{rules}
use Rattle.buffer.proofs.OneStep.{head_in, block_to_read, read_state}
use Rattle.buffer.proofs.State.read.Goals as goal

pub read-fill-requires : goal.read-fill-requires
read-fill-requires c =
    let s = c.args.self in
    let asks = c.requires in (
      omega (arith, head_in s asks.fits (search rules)),
      asks.fits.sizes-ok,
      asks.store_long,
      block_to_read s asks (search rules),
    )

pub returns : goal.returns
returns c = read_state c.args.self c.read-fill.ensures c.max-self.ensures
