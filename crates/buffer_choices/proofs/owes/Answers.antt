-- `owes` meets its contract: margin and stored bytes fit their type, and are above zero where the paper's test holds.
use mathlib.Core.Path.{◌≡◌}
use native.Mathlib.Omega.{arith}
use Prim.Native.Nat.{ℕ, ◌≤◌}
use lib.IntN.{pos, ◌+ℤ◌, ◌-ℤ◌}
use lib.ListN.{length}
use mir.Syntax.{w32}
use Rattle.std.specs.Prelude.{FitsSigned}
use mir.ValLaws.{to_z-of_z, to_z_pos}
use borrow.Author.Rules.{rules}
use Rattle.model.specs.Sizes.{lookahead}
use Rattle.model.specs.State.{head_bytes, owed_cells}
use Rattle.layout.specs.Lengths.{head_places, cell_places}
use Rattle.layout.specs.Views.{sizes_in}
use Rattle.buffer.specs.declared.State.{State}
use Rattle.buffer.specs.Says.{arrays_of, state_of}
use Rattle.buffer_choices.proofs.Owing.{heads_low, owed_low, sum_fits, owes-now}
use Rattle.buffer_choices.proofs.owes.Goals as goal

-- The arrays of a state are as long as their types say, so that the sum fits.
sum-small : (s : State) (q k : ℕ) → length s.head ≡ head_places → length s.cells ≡ cell_places → k ≤ 514590
    → FitsSigned w32 ((pos (head_bytes (state_of s) q) -ℤ pos (owed_cells (state_of s) q)) +ℤ pos k)
sum-small s q k head-long cells-long low =
    record {
      sfits = sum_fits (head_bytes (state_of s) q) (owed_cells (state_of s) q) k
          (heads_low q s.regs.head_fill s.head head-long)
          (owed_low q (lookahead (sizes_in s.regs)) s.cells cells-long) low;
    }

pub overflow_add-result : goal.overflow_add-result
overflow_add-result c =
    let z = c.margin-margin in
    rw (
      to_z-of_z w32 z.result (record { sfits = z.type_inv }),
      to_z_pos w32 c.stored_bytes-bytes.result (omega (arith, c.stored_bytes-bytes.ensures.1)),
      z.ensures,
    )
    (sum-small c.args.state c.args.queue c.stored_bytes-bytes.result (search rules) (search rules)
    c.stored_bytes-bytes.ensures.1)

pub returns : goal.returns
returns c =
    let s = c.args.state in
    let q = c.args.queue in
    let z = c.margin-margin in
    let k = c.stored_bytes-bytes.result in
    let cells-long : length s.cells ≡ cell_places = search rules in
    rw (
      to_z-of_z w32 z.result (record { sfits = z.type_inv }),
      to_z_pos w32 k (omega (arith, c.stored_bytes-bytes.ensures.1)),
      z.ensures,
      to_z-of_z w32 ((pos (head_bytes (state_of s) q) -ℤ pos (owed_cells (state_of s) q)) +ℤ pos k)
          (sum-small s q k (search rules) cells-long c.stored_bytes-bytes.ensures.1),
    )
    (owes-now s.regs (arrays_of s) q cells-long c.stored_bytes-bytes.ensures.0)
