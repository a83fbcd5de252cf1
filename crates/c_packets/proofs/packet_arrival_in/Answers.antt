-- `packet_arrival_in` meets its contract: the bits that it tests are those that tell.
use mathlib.Core.Path.{sym}
use Rattle.c_packets.specs.Words.{packet_call_of}
use Rattle.c_packets.proofs.Arriving.{comes-nothing, comes-next, comes-start}
use Rattle.c_packets.proofs.packet_arrival_in.Goals as goal

pub returns-then-word-eq0 : goal.returns-then-word-eq0
unfolding packet_call_of
returns-then-word-eq0 c = sym (comes-nothing c.args.word c.if-word-eq0.true)

pub returns-then-word-eq0-2 : goal.returns-then-word-eq0-2
unfolding packet_call_of
returns-then-word-eq0-2 c = sym (comes-next c.args.word c.if-word-eq0.false c.if-word-eq0-2.true)

pub returns : goal.returns
unfolding packet_call_of
returns c = sym (comes-start c.args.word c.if-word-eq0.false c.if-word-eq0-2.false)
