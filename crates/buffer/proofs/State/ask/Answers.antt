-- `State::ask` meets its contract: the youngest cell is the last of the L, and the request's cell is stored there.
use mathlib.Core.Path.{sym, ◌∙◌}
use native.Mathlib.Omega.{arith}
use borrow.Author.Rules.{rules}
use Rattle.buffer.proofs.OneStep.{tail_in, asked-state}
use Rattle.buffer.proofs.State.ask.Goals as goal

pub ask-asked-requires : goal.ask-asked-requires
ask-asked-requires c =
    let start = c in
    let asks = start.requires in (
      omega (arith, tail_in start.args.self asks.fits (search rules)),
      λ q e f. asks.byte-there q e (sym (asks.owes_is q e) ∙ f),
    )

pub returns : goal.returns
returns c =
    let start = c in
    asked-state start.args.self start.requires.fits _ _ _ _ (search rules) start.requires.owes_is
    c.ask-asked.ensures
