-- A making keeps its promise: a record with 0 at every place of its arrays holds a fresh state.
use mathlib.Core.Path.{◌≡◌, ap, sym, ◌∙◌}
use mathlib.Core.Bool.{Bool, true, not}
use Prim.Native.Nat.{ℕ}
use lib.ListN.{get_or}
use Rattle.std.specs.Prelude.{Ok}
use Rattle.model.specs.Basics.{when}
use Rattle.model.specs.Sizes.{sizes, paper_limits, accepts}
use Rattle.layout.specs.Lengths.{cell_places}
use Rattle.layout.specs.Entries.{cell_of}
use Rattle.layout.proofs.Fresh.{empty_at, fresh_in}
use Rattle.buffer.specs.declared.State as code
use Rattle.buffer.specs.Says.{state_of, fresh_state, MakeSays}

-- What making gives with sizes that are accepted.
pub made_fresh : (q b k : ℕ) (s : code.State) → accepts paper_limits (sizes q b k) ≡ true → s ≡ fresh_state q b k
    → MakeSays q b k (Ok s)
made_fresh q b k s e f = record {
  number_is = sym (ap (λ (t : Bool). when (not t) 1) e);
  made_is = record {
    record_is = f;
    fresh-is = ap state_of f ∙ fresh_in q b k e;
    cells_empty = λ i l. ap (λ (z : code.State). cell_of (get_or z.cells i 0)) f ∙ empty_at cell_places i;
  };
}
