-- `pass` meets its contract: the quiet slots are the model's, and the one more is the model's slot on what they leave.
use Rattle.std.proofs.Common.{arith}
use Rattle.slot_in_place.proofs.Standing as standing
use Rattle.run_words.proofs.Calling.{zero_is_idle}
use Rattle.run_in_place.specs.Says.{advanced_to}
use Rattle.run_in_place.proofs.Turns.{lent-ready, ran_call}
use Rattle.idle_in_place.proofs.Passing.{quiet_passed, quiet_ready, quiet_counted, quiet_most}
use Rattle.idle_in_place.proofs.Stretches.{nothing_told, pass_is_quiet, pass_once_more}
use Rattle.idle_in_place.proofs.pass.Goals as goal

pub pass_quiet-quiet-requires : goal.pass_quiet-quiet-requires
pass_quiet-quiet-requires c =
    let v = standing.kept c.requires in (v.sizes-ok, v.phase_ok, standing.cells_known c.requires)

pub returns-then-quiet-n : goal.returns-then-quiet-n
returns-then-quiet-n c =
    let says = c.pass_quiet-quiet.ensures in
    pass_is_quiet c.if-quiet-n.true (quiet_counted c.requires says) (nothing_told c.default.result c.default.ensures)
    (quiet_passed c.requires says).slots_pass (quiet_ready c.requires says)

pub run_calls-reply-requires : goal.run_calls-reply-requires
run_calls-reply-requires c =
    (lent-ready c.put_regs.ensures (quiet_ready c.requires c.pass_quiet-quiet.ensures), omega arith)

pub overflow_add-result : goal.overflow_add-result
overflow_add-result c = omega (arith, quiet_most c.requires c.pass_quiet-quiet.ensures)

pub returns : goal.returns
returns c =
    let says = c.pass_quiet-quiet.ensures in
    pass_once_more {a = advanced_to c.regs_in.result c.run_calls-reply.result}
    (omega (arith, quiet_most c.requires says))
    (quiet_counted c.requires says) (quiet_passed c.requires says).slots_pass
    (ran_call c.put_regs.ensures c.regs_in.ensures 0 c.run_calls-reply.result zero_is_idle
    c.run_calls-reply.ensures.2)
