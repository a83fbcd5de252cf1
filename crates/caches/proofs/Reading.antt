-- A loop that brings a block in from the store, byte by byte, behind the first n entries.
use mathlib.Core.Path.{◌≡◌, refl, ap, sym, ◌∙◌}
use mathlib.Core.List.{List, [], ◌∷◌, ◌++◌, append_assoc, append-nil}
use Prim.Native.Nat.{ℕ, ◌+◌, ◌*◌, ◌<◌}
use native.Mathlib.Omega.{arith}
use lib.ListN.{length, take, drop, set, get_or, length-drop, length-set}
use lib.Seq.{get_or-drop}
use Rattle.model.specs.State.{Byte, byte}
use Rattle.model.specs.Slot.{bytes_for}
use Rattle.layout.specs.Entries.{bytes_in}
use Rattle.caches.specs.Says.{ReadIn}
use Rattle.layout.proofs.Entries.{take_more, byte-stored}

block_more : (q : ℕ) (vs : List ℕ) (v : ℕ) → bytes_for q (vs ++ v ∷ []) ≡ bytes_for q vs ++ byte q v ∷ []
block_more q [] v = refl
block_more q (x ∷ vs) v = ap (λ (ys : List Byte). byte q x ∷ ys) (block_more q vs v)

module _ (n q place : ℕ) (before store : List ℕ) where
  pub reading_starts : ReadIn n q 0 place before before store
  reading_starts =
      let e : n + 0 ≡ n = omega arith in
      record { joined = rw e (sym (append-nil (bytes_in n before))); same_length = refl }

  pub reads_one : (after : List ℕ) (i : ℕ) → n + i < length before → place + i < length store
      → get_or store (place + i) 0 < 256 → ReadIn n q i place before after store
      → ReadIn n q (i + 1) place before (set after (n + i) (q * 256 + get_or store (place + i) 0)) store
  reads_one after i h g regs w =
      let v = get_or store (place + i) 0 in
      let e : n + (i + 1) ≡ n + i + 1 = omega arith in
      let there : i < length (drop place store) = simp length-drop (omega arith) in
      let block : take (i + 1) (drop place store) ≡ take i (drop place store) ++ v ∷ [] =
      take_more i (drop place store) there ∙ rw get_or-drop in
      record {
        joined =
            rw (e, byte-stored (n + i) after (omega (arith, w.same_length)) q v regs, w.joined, block, block_more)
            (append_assoc (bytes_in n before) (bytes_for q (take i (drop place store))) (byte q v ∷ []));
        same_length = length-set after (n + i) (q * 256 + v) ∙ w.same_length;
      }
