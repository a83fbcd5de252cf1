-- Two states of the same sizes are the same where their parts are.
use mathlib.Core.Path.{◌≡◌, refl}
use mathlib.Core.List.{List}
use Prim.Native.Nat.{ℕ}
use Rattle.model.specs.Sizes.{Sizes}
use Rattle.model.specs.State.{Byte, Cell, Ring, State, state_from}
use Rattle.model.proofs.basics.States as of

-- A state from its parts.
abbrev pub state_from_lem : Sizes → ℕ → List Byte → List Byte → List Cell → List Ring → ℕ → ℕ → ℕ → State
state_from_lem = state_from

pub same-state : (s : Sizes) {p p' : ℕ} {t t' h h' : List Byte} {c c' : List Cell} {r r' : List Ring}
    {j j' k k' l l' : ℕ}
    → p ≡ p' → t ≡ t' → h ≡ h' → c ≡ c' → r ≡ r' → j ≡ j' → k ≡ k' → l ≡ l'
    → state_from_lem s p t h c r j k l ≡ state_from_lem s p' t' h' c' r' j' k' l'
same-state s {p} {p'} {t} {t'} {h} {h'} {c} {c'} {r} {r'} {j} {j'} {k} {k'} {l} {l'} ep et eh ec er ej ek el =
    of.same-state (state_from_lem s p t h c r j k l) (state_from_lem s p' t' h' c' r' j' k' l') refl ep et eh ec er ej ek el
