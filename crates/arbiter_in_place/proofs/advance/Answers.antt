-- `advance` meets its contract: the choice by the counts is the model's, and a run of one call is its slot (Composed).
use Rattle.std.proofs.Common.{◌≡◌, [], ◌∷◌, ℕ, ap, ◌∙◌}
use Rattle.std.proofs.Math.Option.{Option}
use Rattle.model.specs.Slot.{Call}
use Rattle.model.specs.Lists.{taken}
use Rattle.model.specs.Arbiter.{choice}
use Rattle.layout.specs.Calls.{arrival_in, request_in, reply_in}
use Rattle.layout.specs.Counts.{by_queue}
use Rattle.layout.specs.declared.Regs.{Regs}
use Rattle.layout.specs.Figures.{figures_in}
use Rattle.layout.specs.Views.{arrays, regs_in, state_in}
use Rattle.arbiter_choice.specs.Says.{choice_now}
use Rattle.arbiter_in_place.proofs.Composed.{chosen, composed}
use Rattle.arbiter_in_place.proofs.advance.Goals as goal

pub returns : goal.returns
returns c =
    let a = c.args in
    let memory = arrays a.tail.now a.head.now a.cells.now a.firsts.now a.stored.now in
    let counts = by_queue a.tails.now a.heads.now a.owing.now in
    -- The choice is the model's, and so is the call.
    let made : request_in c.choose-request.result ≡ choice (state_in (regs_in a.regs.now) memory) (arrival_in a.arrival) =
    c.choose-request.ensures
    ∙ ap (λ (g : Regs). choice_now (figures_in g counts a.stored.now) g.last_asked (arrival_in a.arrival))
    c.regs_in-before.ensures
    ∙ chosen c.requires (arrival_in a.arrival) in
    composed c.requires (arrival_in a.arrival) _ c.run_calls-reply.result
    (c.run_calls-reply.ensures.2 _
    (ap (λ (call : Call). call ∷ [])
    (c.call_word.ensures ∙ ap (λ (o : Option ℕ). record { arrival = arrival_in a.arrival; request = o }) made)))
    c.asked_of-asked.result
    (c.asked_of-asked.ensures ∙ ap (taken (reply_in c.run_calls-reply.result).number) made)
    c.note.ensures
