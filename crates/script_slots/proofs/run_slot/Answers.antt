-- `run_slot` meets its contract: a run of the slot's own word is the slot, and its lines go by its answer.
use Rattle.std.proofs.Common.{refl}
use Rattle.run_in_place.specs.Says.{advanced_to}
use Rattle.run_in_place.proofs.Turns.{ran_call}
use Rattle.script_slots.proofs.Answers.{slot-answer_fits, slot-runs}
use Rattle.script_slots.proofs.run_slot.Goals as goal

pub put_answer-put-requires : goal.put_answer-put-requires
put_answer-put-requires c =
    slot-answer_fits {a = advanced_to c.regs_in-next.result c.run_calls-reply.result}
    (ran_call c.put_regs.ensures c.regs_in-next.ensures c.call_word.result c.run_calls-reply.result c.call_word.ensures
    c.run_calls-reply.ensures.2)
    c.requires.1

pub returns : goal.returns
returns c =
    slot-runs {a = advanced_to c.regs_in-next.result c.run_calls-reply.result}
    (ran_call c.put_regs.ensures c.regs_in-next.ensures c.call_word.result c.run_calls-reply.result c.call_word.ensures
    c.run_calls-reply.ensures.2)
    c.put_answer-put.ensures refl refl refl
