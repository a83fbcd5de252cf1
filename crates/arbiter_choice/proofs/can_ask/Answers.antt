-- `can_ask` meets its contract: its tests are those of the figures, one after another.
use Rattle.std.proofs.Common.{true≢false, sym, ◌∙◌}
use Rattle.layout.specs.Counts.{by_queue}
use Rattle.layout.specs.Calls.{arrival_in}
use Rattle.layout.specs.Entries.{counts_in}
use Rattle.layout.specs.Figures.{Figures, figures_in}
use Rattle.arbiter_choice.proofs.Counting.{owed_asks, tail_asks, arrival-asks}
use Rattle.arbiter_choice.proofs.can_ask.Goals as goal
use Rattle.arbiter_choice.proofs.can_ask.Goals.{Start, then-is_owed, else-is_owed}

abbrev f : Start → Figures
f c = let a = c.args in figures_in a.regs (by_queue a.tails.now a.heads.now a.owing.now) a.stored.now

pub returns-then-tails-q-gt0 : goal.returns-then-tails-q-gt0
unfolding counts_in
returns-then-tails-q-gt0 c =
    let start = (goal.at.returns-then-tails-q-gt0 c).Start in
    c.if-tails-q-gt0.true
    ∙ elim c.if-is_owed.branch [
      | then-is_owed w ↦
          owed_asks (f start) (arrival_in c.args.coming) c.args.q (sym w.if-is_owed.true ∙ c.is_owed.ensures)
      | else-is_owed w ↦
          tail_asks (f start) (arrival_in c.args.coming) c.args.q (sym w.if-is_owed.false ∙ c.is_owed.ensures)
          (sym w.value-is ∙ c.if-tails-q-gt0.true)
    ]

pub returns-else-tails-q-gt0 : goal.returns-else-tails-q-gt0
unfolding counts_in
returns-else-tails-q-gt0 c =
    let start = (goal.at.returns-else-tails-q-gt0 c).Start in
    elim c.if-is_owed.branch [
      | then-is_owed w ↦
          absurd (true≢false (sym w.if-is_owed.true ∙ sym w.value-is ∙ c.if-tails-q-gt0.false))
      | else-is_owed w ↦
          c.arrives_at.ensures
          ∙ arrival-asks (f start) (arrival_in c.args.coming) c.args.q (sym w.if-is_owed.false ∙ c.is_owed.ensures)
          (sym w.value-is ∙ c.if-tails-q-gt0.false)
    ]
