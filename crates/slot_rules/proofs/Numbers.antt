-- The numbers of a state fit exactly where the sizes are accepted, the phase is below b, each mark lies between its
-- fill and its cache size and the last one asked is below Q; and then fills and lookahead lie within their arrays.
use mathlib.Core.Path.{◌≡◌, sym, ◌∙◌}
use mathlib.Core.Bool.{Bool, true, and-true}
use mathlib.Core.List.{List, [], ◌∷◌}
use Prim.Native.Nat.{ℕ, ◌≤◌, ◌<◌}
use native.Mathlib.Omega.{arith}
use lib.Dec.{ltb}
use lib.ListN.{get_or}
use borrow.Author.Tests.{ltb-true, lt-ltb}
use Rattle.model.specs.Basics.{between}
use Rattle.model.specs.Sizes.{paper_limits, accepts, tail_size, head_size, lookahead}
use Rattle.model.proofs.basics.Tests.{between-facts, between-holds}
use Rattle.model.proofs.basics.AllOf.{all_true_at}
use Rattle.layout.specs.Lengths.{tail_places, head_places, cell_places}
use Rattle.layout.specs.declared.Regs.{Regs}
use Rattle.layout.specs.Views.{sizes_in}
use Rattle.layout.proofs.Ranges.{in_limits}
use Rattle.layout.proofs.Fits.{tail_below_array, head_below_array}
use Rattle.slot_rules.specs.Says.{regs_keep}

pub record Fit (regs : Regs) : Type 0 where
  pub sizes-ok : accepts paper_limits (sizes_in regs) ≡ true
  pub phase_ok : regs.phase < regs.block
  pub tail_low : regs.tail_fill ≤ regs.tail_mark
  pub tail_high : regs.tail_mark ≤ tail_size (sizes_in regs)
  pub head_low : regs.head_fill ≤ regs.head_mark
  pub head_high : regs.head_mark ≤ head_size (sizes_in regs)
  pub last_below : regs.last_asked < regs.queues

-- The same rules as tests.
abbrev fit_rules : Regs → List Bool
fit_rules regs =
    accepts paper_limits (sizes_in regs) ∷
    ltb regs.phase regs.block ∷
    between regs.tail_fill regs.tail_mark (tail_size (sizes_in regs)) ∷
    between regs.head_fill regs.head_mark (head_size (sizes_in regs)) ∷
    ltb regs.last_asked regs.queues ∷ []

pub fit_facts : (regs : Regs) → regs_keep regs ≡ true → Fit regs
fit_facts regs e = record {
  sizes-ok = rule 0;
  phase_ok = ltb-true regs.phase regs.block (rule 1);
  tail_low = tail_marked.0;
  tail_high = tail_marked.1;
  head_low = head_marked.0;
  head_high = head_marked.1;
  last_below = ltb-true regs.last_asked regs.queues (rule 4);
}
  where
    rule : (i : ℕ) → get_or (fit_rules regs) i true ≡ true
    rule i = all_true_at (fit_rules regs) i e

    tail_marked : (regs.tail_fill ≤ regs.tail_mark) × (regs.tail_mark ≤ tail_size (sizes_in regs))
    tail_marked = between-facts regs.tail_fill regs.tail_mark (tail_size (sizes_in regs)) (rule 2)

    head_marked : (regs.head_fill ≤ regs.head_mark) × (regs.head_mark ≤ head_size (sizes_in regs))
    head_marked = between-facts regs.head_fill regs.head_mark (head_size (sizes_in regs)) (rule 3)

-- Where all but the last rule hold, the last decides.
pub fit_decided : (regs : Regs) → accepts paper_limits (sizes_in regs) ≡ true → regs.phase < regs.block
    → regs.tail_fill ≤ regs.tail_mark → regs.tail_mark ≤ tail_size (sizes_in regs)
    → regs.head_fill ≤ regs.head_mark → regs.head_mark ≤ head_size (sizes_in regs)
    → ltb regs.last_asked regs.queues ≡ regs_keep regs
fit_decided regs sizes-ok phase_ok tail_low tail_high head_low head_high =
    rw (
      sizes-ok,
      lt-ltb regs.phase regs.block phase_ok,
      between-holds regs.tail_fill regs.tail_mark (tail_size (sizes_in regs)) tail_low tail_high,
      between-holds regs.head_fill regs.head_mark (head_size (sizes_in regs)) head_low head_high,
    )
    (sym (and-true (ltb regs.last_asked regs.queues)))

pub fit_holds : (regs : Regs) → Fit regs → regs_keep regs ≡ true
fit_holds regs f =
    sym (fit_decided regs f.sizes-ok f.phase_ok f.tail_low f.tail_high f.head_low f.head_high)
    ∙ lt-ltb regs.last_asked regs.queues f.last_below

-- Fills that fit lie within their arrays, and so does the lookahead.
pub tail_within : (regs : Regs) → Fit regs → regs.tail_fill < tail_places
tail_within regs f = omega (arith, f.tail_low, f.tail_high, tail_below_array (sizes_in regs) f.sizes-ok)

pub head_within : (regs : Regs) → Fit regs → regs.head_fill < head_places
head_within regs f = omega (arith, f.head_low, f.head_high, head_below_array (sizes_in regs) f.sizes-ok)

pub cells_within : (regs : Regs) → Fit regs → lookahead (sizes_in regs) ≤ cell_places
cells_within regs f = omega (arith, (in_limits regs f.sizes-ok).span_high)
