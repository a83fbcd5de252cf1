-- What was worked by hand is what the definitions give, by computing them: `worked_slots`, `worked_blocks`,
-- `worked_idle`.
use mathlib.Core.Path.{refl}
use Rattle.model.specs.Worked.{WorkedSlots, WorkedBlocks, WorkedIdle}

pub worked_slots : WorkedSlots
worked_slots = record {
  fresh-is = refl;
  steps_are = refl;
  state_left = refl;
  store_left = refl;
  deliveries_are = refl;
  due_are = refl;
  arrivals_are = refl;
  requests_are = refl;
  tail_looks_are = refl;
  head_looks_are = refl;
  greatest_is = refl;
}

pub worked_blocks : WorkedBlocks
worked_blocks = record { three_written = refl; ring_turned = refl }

pub worked_idle : WorkedIdle
worked_idle = record {
  two_lead = refl;
  write_due = refl;
  no_write_due = refl;
  read_due = refl;
  no_read_due = refl;
  before_the_move = refl;
  before_a_cell = refl;
  no_move_due = refl;
  all_empty = refl;
  no_more_than_asked = refl;
  passed = refl;
  shifted = refl;
}
