-- One number for each queue as an array holds it: all 0, and one number stored.
use mathlib.Core.Path.{◌≡◌, refl, sym, ◌∙◌, fun_ext}
use mathlib.Core.List.{List}
use Prim.Native.Nat.{ℕ, zero, suc, ◌<◌}
use lib.ListN.{length, set, replicate}
use lib.Seq.{get_or-set_same, get_or-set_other}
use borrow.Author.Tests.{eqb-false}
use Rattle.model.specs.Basics.{update}
use Rattle.model.proofs.basics.Tests.{at_queue_lem, update_same, update_other}
use Rattle.layout.specs.Entries.{counts_in}

pub counts_zero : (n q : ℕ) → counts_in (replicate n 0) q ≡ 0
unfolding counts_in
counts_zero zero q = refl
counts_zero (suc n) zero = refl
counts_zero (suc n) (suc q) = counts_zero n q

pub counts_stored : (xs : List ℕ) (q v : ℕ) → q < length xs → counts_in (set xs q v) ≡ update (counts_in xs) q v
unfolding counts_in
counts_stored xs q v h =
    fun_ext (at_queue_lem (λ (p : ℕ). counts_in (set xs q v) p ≡ update (counts_in xs) q v p) q
    (get_or-set_same xs q v 0 h ∙ sym (update_same (counts_in xs) q v))
    (λ p t. get_or-set_other xs q p v 0 (λ e. eqb-false q p t (sym e)) ∙ sym (update_other (counts_in xs) q v p t)))
