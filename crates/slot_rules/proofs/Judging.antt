-- The parts in which the code judges a state are the model's rules: where one of them fails the rules do, and where the
-- numbers fit and all queue numbers are below Q, the queues decide.
use mathlib.Core.Path.{◌≡◌, refl, ap, sym, ◌∙◌}
use mathlib.Core.Bool.{Bool, true, false}
use mathlib.Core.List.{List}
use Prim.Native.Nat.{ℕ, ◌≤◌, ◌<◌}
use native.Mathlib.Omega.{arith}
use lib.ListN.{length, get_or}
use Rattle.model.specs.Basics.{all_of, all_below}
use Rattle.model.specs.Sizes.{paper, lookahead}
use Rattle.model.specs.State.{Byte, Cell, Ring, State, ring_of, blocks, first_in_range, has_room, is_backed}
use Rattle.model.specs.State.{tail_bytes, head_bytes, owed_cells, byte_below, cell_below, rules, keeps}
use Rattle.model.proofs.basics.Tests.{by_test, and_both, true_not_false}
use Rattle.model.proofs.basics.AllOf.{all_true_at, all_below_facts, all_below_holds}
use Rattle.model.proofs.basics.Bytes.{below_facts, below_holds}
use Rattle.model.proofs.basics.Cells.{cells_below_facts, cells_below_holds}
use Rattle.model.proofs.one_slot.Rules.{keeps-facts, keeps-holds}
use Rattle.layout.specs.Entries.{counts_in}
use Rattle.layout.specs.Counts.{ByQueue, Tallies}
use Rattle.layout.proofs.Cells.{cells_length}
use Rattle.layout.specs.declared.Regs.{Regs}
use Rattle.layout.specs.Views.{Arrays, Long, sizes_in, state_in}
use Rattle.layout.proofs.Rings.{rings_length, ring-at}
use Rattle.layout.proofs.Fits.{tail_in_array, head_in_array, tail_length, head_length}
use Rattle.slot_rules.specs.Says.{regs_keep, ring_keeps, queue_keeps, queues_keep}
use Rattle.slot_rules.proofs.Numbers.{Fit, fit_holds, tail_within, head_within, cells_within}
use Rattle.slot_rules.proofs.Queues.{ring-first, ring-room, ring-backed}

-- Queue numbers below one bound are below a greater one.
pub bytes-wider : (n m : ℕ) → n ≤ m → (xs : List Byte) → all_of (byte_below n) xs ≡ true → all_of (byte_below m) xs ≡ true
bytes-wider n m h xs e = below_holds n m h xs (below_facts n xs e)

pub cells_wider : (n m : ℕ) → n ≤ m → (cells : List Cell) → all_of (cell_below n) cells ≡ true
    → all_of (cell_below m) cells ≡ true
cells_wider n m h cells e = cells_below_holds n m h cells (cells_below_facts n cells e)

-- Every byte and every cell is of a queue below Q.
pub record Known (x : State) : Type 0 where
  pub tail_below : all_of (byte_below x.sizes.Q) x.tail ≡ true
  pub head_below : all_of (byte_below x.sizes.Q) x.head ≡ true
  pub cells_below : all_of (cell_below x.sizes.Q) x.cells ≡ true

same_test : (s t : Bool) → (s ≡ true → t ≡ true) → (t ≡ true → s ≡ true) → s ≡ t
same_test true t f g = sym (f refl)
same_test false true f g = g refl
same_test false false f g = refl

module _ (regs : Regs) (m : Arrays) (long : Long m) where
  abbrev x : State
  x = state_in regs m

  fails : (keeps paper x ≡ true → ⊥) → keeps paper x ≡ false
  fails h = by_test (keeps paper x) (λ t. absurd (h t)) (λ t. t)

  rule : keeps paper x ≡ true → (i : ℕ) → get_or (rules paper x) i true ≡ true
  rule e i = all_true_at (rules paper x) i e

  -- A state that keeps the rules has numbers that fit: a fill past its array would leave more bytes than the cache has.
  kept_fit : keeps paper x ≡ true → Fit regs
  kept_fit e =
      let v = keeps-facts paper x e in
      let tail_in = tail_in_array regs m long v.sizes-ok v.tail_fits in
      let head_in = head_in_array regs m long v.sizes-ok v.head_fits in
      record {
        sizes-ok = v.sizes-ok;
        phase_ok = v.phase_ok;
        tail_low = omega (arith, v.tail_mark.0, tail_length regs m long tail_in);
        tail_high = v.tail_mark.1;
        head_low = omega (arith, v.head_mark.0, head_length regs m long head_in);
        head_high = v.head_mark.1;
        last_below = v.last_below;
      }

  -- Where one part fails, the rules do.
  pub numbers-fail : regs_keep regs ≡ false → keeps paper x ≡ false
  numbers-fail f = fails (λ e. true_not_false (regs_keep regs) (fit_holds regs (kept_fit e)) f)

  pub tail_fails : all_of (byte_below regs.queues) x.tail ≡ false → keeps paper x ≡ false
  tail_fails f = fails (λ e. true_not_false (all_of (byte_below regs.queues) x.tail) (rule e 7) f)

  pub head_fails : all_of (byte_below regs.queues) x.head ≡ false → keeps paper x ≡ false
  head_fails f = fails (λ e. true_not_false (all_of (byte_below regs.queues) x.head) (rule e 8) f)

  pub cells_fail : all_of (cell_below regs.queues) x.cells ≡ false → keeps paper x ≡ false
  cells_fail f = fails (λ e. true_not_false (all_of (cell_below regs.queues) x.cells) (rule e 9) f)

  -- Where they hold, the queues decide, by counts of their tail bytes, head bytes and Owed cells.
  module _ (f : Fit regs) (known : Known x) {counts : ByQueue} (t : Tallies x counts) where
    abbrev at_queue : ℕ → Bool
    at_queue =
        queue_keeps regs (counts_in m.firsts) (counts_in m.stored) (counts_in counts.tails)
        (counts_in counts.heads)
        (counts_in counts.owing)

    -- The rules of one queue, by its ring and its counts, are the same in the model's words and in the code's.
    abbrev kept_by : Ring → ℕ → ℕ → ℕ → Bool
    kept_by r tail head owing = ring_keeps regs r.first r.count tail head owing

    abbrev in_model : ℕ → Bool
    in_model q = kept_by (ring_of x.rings q) (tail_bytes x q) (head_bytes x q) (owed_cells x q)

    queue_same : (q : ℕ) → q < regs.queues → at_queue q ≡ in_model q
    queue_same q l =
        ap (λ (r : Ring). kept_by r (counts_in counts.tails q) (counts_in counts.heads q)
        (counts_in counts.owing q))
        (sym (ring-at regs.queues m.firsts m.stored q l))
        ∙ ap (λ (n : ℕ). kept_by (ring_of x.rings q) n (counts_in counts.heads q) (counts_in counts.owing q))
        (t.tails_are.count_is q)
        ∙ ap (λ (n : ℕ). kept_by (ring_of x.rings q) (tail_bytes x q) n (counts_in counts.owing q))
        (t.heads_are.count_is q)
        ∙ ap (λ (n : ℕ). kept_by (ring_of x.rings q) (tail_bytes x q) (head_bytes x q) n) (t.owed_are.count_is q)

    kept_queues : keeps paper x ≡ true → all_below regs.queues at_queue ≡ true
    kept_queues e =
        all_below_holds regs.queues at_queue
        (λ q l. queue_same q l
        ∙ and_both (first_in_range x q) _ (all_below_facts regs.queues (first_in_range x) (rule e 4) q l)
        (and_both (has_room x q) _ (all_below_facts regs.queues (has_room x) (rule e 12) q l)
        (and_both (is_backed x q) _ (all_below_facts regs.queues (is_backed x) (rule e 13) q l) refl)))

    queues_kept : all_below regs.queues at_queue ≡ true → keeps paper x ≡ true
    queues_kept e = keeps-holds paper x (record {
      sizes-ok = f.sizes-ok;
      phase_ok = f.phase_ok;
      within = record {
        tail_below = below_facts regs.queues x.tail known.tail_below;
        head_below = below_facts regs.queues x.head known.head_below;
        cells_below = cells_below_facts regs.queues x.cells known.cells_below;
        cells_long = cells_length (lookahead (sizes_in regs)) m.cells
            (omega (arith, cells_within regs f, long.cells_long));
        rings_long = rings_length regs.queues m.firsts m.stored;
        firsts = λ q l. ring-first regs (ring_of x.rings q).first (blocks x q) (tail_bytes x q) (head_bytes x q)
            (owed_cells x q) (queue_holds q l);
        room = λ q l. ring-room regs (ring_of x.rings q).first (blocks x q) (tail_bytes x q) (head_bytes x q)
            (owed_cells x q) (queue_holds q l);
        backed = λ q l. ring-backed regs (ring_of x.rings q).first (blocks x q) (tail_bytes x q) (head_bytes x q)
            (owed_cells x q) (queue_holds q l);
      };
      tail_fits = omega (arith, tail_long, f.tail_low, f.tail_high);
      head_fits = omega (arith, head_long, f.head_low, f.head_high);
      tail_mark = (omega (arith, tail_long, f.tail_low), f.tail_high);
      head_mark = (omega (arith, head_long, f.head_low), f.head_high);
      last_below = f.last_below;
    })
      where
        tail_long : length x.tail ≡ regs.tail_fill
        tail_long = tail_length regs m long (tail_within regs f)

        head_long : length x.head ≡ regs.head_fill
        head_long = head_length regs m long (head_within regs f)

        queue_holds : (q : ℕ) → q < regs.queues → in_model q ≡ true
        queue_holds q l = sym (queue_same q l) ∙ all_below_facts regs.queues at_queue e q l

    pub queues_decide : (answer : Bool)
        → answer ≡ queues_keep regs (counts_in m.firsts) (counts_in m.stored) (counts_in counts.tails)
        (counts_in counts.heads)
        (counts_in counts.owing)
        → answer ≡ keeps paper x
    queues_decide answer e =
        e ∙ same_test (all_below regs.queues at_queue) (keeps paper x) queues_kept kept_queues
