-- How long the arrays of a state are, each number once: the code's own are the constants of src/lib.rt, and a contract
-- that asks for a length asks for these.
use Rattle.std.specs.Prelude.{ℕ}

-- A cache's array has one place more than the largest cache of accepted sizes, so that a fill past its end breaks the
-- paper's own rule.
abbrev pub tail_places : ℕ
tail_places = 2144

abbrev pub head_places : ℕ
head_places = 4034

-- The largest lookahead.
abbrev pub cell_places : ℕ
cell_places = 2017

-- One number for each queue, so as many as the most queues.
abbrev pub queue_places : ℕ
queue_places = 64
