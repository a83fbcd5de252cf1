-- "Bytes beyond, and bytes of blocks not being written, never change": of a slot and of a list of slots, since a slot
-- puts b bytes at the place of one block and changes no other. `store_elsewhere` and `list_elsewhere` say it.
use mathlib.Core.Path.{◌≡◌, refl, ap, sym, ◌∙◌, subst}
use mathlib.Core.List.{List, [], ◌∷◌}
use mathlib.Core.Option.{Option, some, none}
use Prim.Native.Nat.{ℕ, ◌+◌, ◌<◌, ◌≤◌}
use native.Mathlib.Omega.{arith}
use native.Mathlib.Nat.{mod-lt}
use lib.ListN.{length, take, get_or}
use Rattle.model.specs.Sizes.{Sizes, Design, store_bytes, block_place}
use Rattle.model.specs.State.{State, values_of, ring_of}
use Rattle.model.specs.Slot.{Call, next_block, store_written, asked, halves_taken, Answer, slot}
use Rattle.model.specs.Lists.{last_store}
use Rattle.model.proofs.basics.Tests.{by_option}
use Rattle.model.proofs.basics.Rings.{place_fits}
use Rattle.model.proofs.one_slot.Rules.{Rules}
use Rattle.model.proofs.one_slot.MovesKeepRules.{WriteTaken}
use Rattle.model.proofs.one_slot.Accepted.{RefusedOrAccepted, was_refused, was_accepted, outcome}
use Rattle.model.proofs.one_slot.Kept.{placed-outside, write_taken, values-long, values-fit, rules-3}

-- `not_written`: a slot that writes no block changes no byte. `outside`: one that does changes none outside the block.
-- `beyond`: no slot changes a byte beyond Q × K × b.
pub record StoreElsewhere (x : State) (store : List ℕ) (a : Answer) : Type 0 where
  pub not_written : a.reply.written ≡ none → a.store ≡ store
  pub outside :
      (q : ℕ) → a.reply.written ≡ some q
      → (i : ℕ) → ((block_place x.sizes q (next_block x q) ≤ i) ×
      (i < block_place x.sizes q (next_block x q) + x.sizes.b) → ⊥)
      → get_or a.store i 0 ≡ get_or store i 0
  pub beyond : (i : ℕ) → store_bytes x.sizes ≤ i → get_or a.store i 0 ≡ get_or store i 0

module _ (n : ℕ) (y : State) (store : List ℕ) (o : Option ℕ) (f : WriteTaken y o) (v : Rules n y)
    (h : store_bytes y.sizes ≤ length store) where
  -- The block ends within the bytes that the sizes need.
  block_within : (q : ℕ) → o ≡ some q
      → block_place y.sizes q (next_block y q) + y.sizes.b ≤ store_bytes y.sizes
  block_within q e =
      place_fits y.sizes.Q y.sizes.K y.sizes.b q (next_block y q) (f q e).0
      (mod-lt ((ring_of y.rings q).first + (ring_of y.rings q).count) (omega (arith, v.firsts q (f q e).0)))

  written-outside : (q : ℕ) → o ≡ some q
      → (i : ℕ) → ((block_place y.sizes q (next_block y q) ≤ i) ×
      (i < block_place y.sizes q (next_block y q) + y.sizes.b) → ⊥)
      → get_or (store_written o y store) i 0 ≡ get_or store i 0
  written-outside q e i out =
      ap (λ (p : Option ℕ). get_or (store_written p y store) i 0) e
      ∙ placed-outside (block_place y.sizes q (next_block y q)) (take y.sizes.b (values_of q y.tail)) store
      (values-fit n y q store (f q e) v h) i
      (λ k. out (k.0, omega (arith, values-long n y q store (f q e) v h, k.1)))

  written-within : (i : ℕ) → store_bytes y.sizes ≤ i → get_or (store_written o y store) i 0 ≡ get_or store i 0
  written-within i l =
      by_option o
      (λ e. ap (λ (p : Option ℕ). get_or (store_written p y store) i 0) e)
      (λ q e. written-outside q e i (λ k. absurd (omega (arith, k.1, l, block_within q e))))

module _ (design : Design) where
  pub store_elsewhere : (x : State) (store : List ℕ) (call : Call) → 1 ≤ design.cell_count x.sizes
      → StoreElsewhere x store (slot design x store call)
  store_elsewhere x store call cells_ok = go (slot design x store call) (outcome design x store call)
    where
      go : (a : Answer) → RefusedOrAccepted design x store call a → StoreElsewhere x store a
      go a (was_refused n e) =
          record { not_written = λ w. refl; outside = λ q w i out. refl; beyond = λ i l. refl }
      go a (was_accepted f) =
          let y = asked x (halves_taken x call) in
          let taken = write_taken y in
          let kept = rules-3 design x store (halves_taken x call) cells_ok f.judged in
          record {
            not_written = λ w. ap (λ (o : Option ℕ). store_written o y store) w;
            outside = written-outside _ y store _ taken kept f.judged.store_long;
            beyond = written-within _ y store _ taken kept f.judged.store_long;
          }

  -- A slot leaves the sizes as they are, so that a whole list changes no byte beyond them either.
  same-sizes : (x : State) (store : List ℕ) (call : Call) → (slot design x store call).state.sizes ≡ x.sizes
  same-sizes x store call = go (slot design x store call) (outcome design x store call)
    where
      go : (a : Answer) → RefusedOrAccepted design x store call a → a.state.sizes ≡ x.sizes
      go a (was_refused n e) = refl
      go a (was_accepted f) = refl

  pub list_elsewhere : (s : Sizes) (x : State) (store : List ℕ) (calls : List Call) → x.sizes ≡ s
      → 1 ≤ design.cell_count s
      → (i : ℕ) → store_bytes s ≤ i → get_or (last_store design x store calls) i 0 ≡ get_or store i 0
  list_elsewhere s x store [] e cells_ok i l = refl
  list_elsewhere s x store (call ∷ calls) e cells_ok i l =
      list_elsewhere s (slot design x store call).state (slot design x store call).store calls
      (same-sizes x store call ∙ e) cells_ok i l
      ∙ (store_elsewhere x store call (subst (λ (z : Sizes). 1 ≤ design.cell_count z) (sym e) cells_ok)).beyond i
      (subst (λ (z : Sizes). store_bytes z ≤ i) (sym e) l)
