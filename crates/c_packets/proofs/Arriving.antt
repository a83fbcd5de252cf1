-- What comes, by the two bits that tell: nothing where the first is 0, else a next byte where the second is 0, else a
-- start.
use mathlib.Core.Path.{◌≡◌, refl}
use mathlib.Core.Option.{some, none}
use Prim.Native.Nat.{ℕ, zero, suc, ◌/◌, ◌%◌}
use native.Mathlib.Omega.{arith}
use Rattle.packets.specs.Packets.{start, next}
use Rattle.c_packets.specs.Words.{arrival_part, packet_arrival_in}

part_none : (m k q n v : ℕ) → m ≡ 0 → arrival_part m k q n v ≡ none
part_none zero k q n v e = refl
part_none (suc m) k q n v e = absurd (omega arith)

part_next : (m k q n v : ℕ) → (m ≡ 0 → ⊥) → k ≡ 0 → arrival_part m k q n v ≡ some (next v)
part_next zero k q n v e f = absurd (e refl)
part_next (suc m) zero q n v e f = refl
part_next (suc m) (suc k) q n v e f = absurd (omega arith)

part_start : (m k q n v : ℕ) → (m ≡ 0 → ⊥) → (k ≡ 0 → ⊥) → arrival_part m k q n v ≡ some (start q n v)
part_start zero k q n v e f = absurd (e refl)
part_start (suc m) zero q n v e f = absurd (f refl)
part_start (suc m) (suc k) q n v e f = refl

module _ (c : ℕ) where
  pub comes-nothing : c / 16777216 % 2 ≡ 0 → packet_arrival_in c ≡ none
  unfolding packet_arrival_in
  comes-nothing e = part_none _ _ _ _ _ e

  pub comes-next : (c / 16777216 % 2 ≡ 0 → ⊥) → c / 288230376151711744 % 2 ≡ 0
      → packet_arrival_in c ≡ some (next (c % 256))
  unfolding packet_arrival_in
  comes-next e f = part_next _ _ _ _ _ e f

  pub comes-start : (c / 16777216 % 2 ≡ 0 → ⊥) → (c / 288230376151711744 % 2 ≡ 0 → ⊥)
      → packet_arrival_in c ≡ some (start (c / 256 % 65536) (c / 4398046511104 % 65536) (c % 256))
  unfolding packet_arrival_in
  comes-start e f = part_start _ _ _ _ _ e f
