-- `State::write` meets its contract: the leaf finds the block, which the state has.
use native.Mathlib.Omega.{arith}
use borrow.Author.Rules.{rules}
use Rattle.buffer.proofs.OneStep.{tail_in, block_to_write}
use Rattle.buffer.proofs.State.write.Goals as goal

pub write-fill-requires : goal.write-fill-requires
write-fill-requires c =
    let s = c.args.self in
    let asks = c.requires in (
      omega (arith, tail_in s asks.fits (search rules)),
      asks.fits.sizes-ok,
      asks.store_long,
      block_to_write s asks,
    )
