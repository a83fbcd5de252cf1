-- Document 01, "Sizes".
use Rattle.std.specs.Prelude.{Bool, not, List, [], ◌∷◌, ℕ, ◌+◌, ◌-◌, ◌*◌, ◌/◌, eqb, leb}
use Rattle.std.proofs.Math.Option.{Option, some, none}
use Rattle.model.specs.Basics.{choose, between, all_true, when}

-- "Q queues .. b bytes to a block .. K blocks of slow store to a queue": the letters are the paper's.
pub record Sizes : Type 0 where
  pub Q : ℕ
  pub b : ℕ
  pub K : ℕ

abbrev pub sizes : ℕ → ℕ → ℕ → Sizes
sizes q b k = record { Q = q; b = b; K = k }

-- Q(b - 1), on which every size below rests.
abbrev pub span : Sizes → ℕ
span s = s.Q * (s.b - 1)

-- The limits, each named here and nowhere else. They are a parameter of the model, so that one argument serves all
-- limits.
pub record Limits : Type 0 where
  pub most_queues : ℕ
  pub most_block_bytes : ℕ
  pub most_ring_blocks : ℕ
  pub most_span : ℕ

abbrev pub paper_limits : Limits
paper_limits = record {
  most_queues = 64;
  most_block_bytes = 128;
  most_ring_blocks = 255;
  most_span = 2016;
}

-- "Q queues, 1 to 64. b bytes to a block, 1 to 128. K blocks of slow store to a queue, 1 to 255. Also Q(b - 1) is at
-- most 2,016."
abbrev pub size_rules : Limits → Sizes → List Bool
size_rules limits s =
    between 1 s.Q limits.most_queues ∷
    between 1 s.b limits.most_block_bytes ∷
    between 1 s.K limits.most_ring_blocks ∷
    leb (span s) limits.most_span ∷ []

abbrev pub accepts : Limits → Sizes → Bool
accepts limits s = all_true (size_rules limits s)

-- "Lookahead L = Q(b - 1) + 1 cells."
abbrev pub lookahead : Sizes → ℕ
lookahead s = span s + 1

-- "Tail cache Q(b - 1) + b bytes."
abbrev pub tail_size : Sizes → ℕ
tail_size s = span s + s.b

-- "Head cache 2Q(b - 1) + 1 bytes."
abbrev pub head_size : Sizes → ℕ
head_size s = 2 * span s + 1

-- "Slow store: a lent buffer of at least Q × K × b bytes."
abbrev pub store_bytes : Sizes → ℕ
store_bytes s = s.Q * s.K * s.b

-- "Block k of queue q starts at (q × K + k) × b."
abbrev pub block_place : Sizes → ℕ → ℕ → ℕ
block_place s q k = (q * s.K + k) * s.b

-- A design fixes what may vary: the limits of its sizes, and the number of its lookahead cells.
pub record Design : Type 0 where
  pub limits : Limits
  pub cell_count : Sizes → ℕ

-- The design of the paper, under any limits; `paper` has the paper's own.
abbrev pub full : Limits → Design
full limits = record { limits = limits; cell_count = lookahead }

abbrev pub paper : Design
paper = full paper_limits

-- "One lookahead cell fewer means the steps and refusals of this paper with Q(b - 1) cells where L stands .. and all
-- other sizes kept."
abbrev pub one_fewer : Limits → Design
one_fewer limits = record { limits = limits; cell_count = span }

-- "Work the cycle time out as 5 × (g + 1)" (request 2.4). Up to grade 15, the last that the sizing rule takes, it is
-- document 01's table, "5 ns to 80 ns in steps of 5, grade 0 first" (`table_as_before`, proofs/Numbers).
abbrev pub cycle_time : ℕ → ℕ
cycle_time g = 5 * (g + 1)

-- "At R Gb/s (1 to 100) and memory grade g (0 to 15)": the limits of the sizing rule.
abbrev pub most_rate : ℕ
most_rate = 100

abbrev pub most_grade : ℕ
most_grade = 15

-- "b is R × T / 4 rounded up, T being the cycle time in ns."
abbrev pub block_for : ℕ → ℕ → ℕ
block_for R g = (R * cycle_time g + 3) / 4

-- "11: R or g outside its range, or b over 128"; 0 where the rule gives a block.
abbrev pub sizing_number : ℕ → ℕ → ℕ
sizing_number R g =
    when (not (all_true (
    between 1 R most_rate ∷
    leb g most_grade ∷
    leb (block_for R g) paper_limits.most_block_bytes ∷ []))) 11

-- The sizing rule's answer: the block, or none beside the number 11.
abbrev pub sized_block : ℕ → ℕ → Option ℕ
sized_block R g = choose (eqb (sizing_number R g) 0) (some (block_for R g)) none
