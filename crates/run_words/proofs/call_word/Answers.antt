-- `call_word` meets its contract: the request's bits stand above the arrival's 25.
use Rattle.layout.specs.Calls.{arrival_in, request_in}
use Rattle.run_words.proofs.Calling.{call_is}
use Rattle.run_words.proofs.call_word.Goals as goal

pub returns : goal.returns
returns c =
    let call = c.args.call in
    let asked = c.request_bits in
    let arrived = c.arrival_bits in
    call_is arrived.result asked.result (arrival_in call.arrival) (request_in call.request)
    arrived.ensures.0 arrived.ensures.1 asked.ensures.1
