-- What the record notes of packets: lengths for the packets of a list, and for the packet coming in how many of its
-- bytes are in. Each is noted alike through a slot: `note_brings`, `note_grows`, `note_ends`, `note_enters`, and
-- `lengths_drop`, `lengths_append` for the lists.
use mathlib.Core.Path.{◌≡◌, refl, ap, sym}
use mathlib.Core.Bool.{true, false}
use mathlib.Core.List.{List, [], ◌∷◌, ◌++◌, map}
use mathlib.Core.Option.{Option, some, none}
use Prim.Native.Nat.{ℕ, zero, suc, ◌≤◌}
use native.Mathlib.Omega.{arith}
use lib.Dec.{eqb}
use lib.ListN.{length, drop, get_or, length-append}
use borrow.Author.Tests.{leb-true}
use Rattle.model.specs.Basics.{choose, All}
use Rattle.packets.specs.Packets.{Coming, coming, PacketArrival, start, next, byte_in, comes, grown, is_whole}
use Rattle.packets.specs.Packets.{entering}
use Rattle.packets.specs.PacketLists.{Packet, growing, all_in, ended, unended}
use Rattle.model.proofs.basics.Tests.{by_test, true_not_false}
use Rattle.packets.proofs.Slots.{LengthOk}
use Rattle.packets.proofs.Layer.{brings}

-- The packet coming in, as the record notes it.
abbrev pub coming_of : Option Packet → Option Coming
coming_of none = none
coming_of (some p) = some (coming p.queue p.size (length p.bytes))

-- Lists of packets and of their lengths.
pub lengths_append : (ps qs : List (List ℕ)) → map (length {A = ℕ}) (ps ++ qs) ≡ map length ps ++ map length qs
lengths_append [] qs = refl
lengths_append (p ∷ ps) qs = ap (λ (l : List ℕ). length p ∷ l) (lengths_append ps qs)

pub lengths_drop : (n : ℕ) (ps : List (List ℕ)) → map (length {A = ℕ}) (drop n ps) ≡ drop n (map length ps)
lengths_drop zero ps = refl
lengths_drop (suc n) [] = refl
lengths_drop (suc n) (p ∷ ps) = lengths_drop n ps

pub first_length : (ps : List (List ℕ)) → get_or (map (length {A = ℕ}) ps) 0 0 ≡ length (get_or ps 0 [])
first_length [] = refl
first_length (p ∷ ps) = refl

pub first_ok : (ns : List ℕ) → 1 ≤ length ns → All LengthOk ns → LengthOk (get_or ns 0 0)
first_ok [] h v = absurd (omega arith)
first_ok (n ∷ ns) h v = v.0

pub none_left : {A : Type 0} (l : List A) → length l ≡ 0 → l ≡ []
none_left [] e = refl
none_left (x ∷ l) e = absurd (omega (arith, e))

-- Through a slot.
pub note_comes : (p : Option Packet) → comes (coming_of p) ≡ false → p ≡ none
note_comes none e = refl
note_comes (some p) e = absurd (true_not_false true refl e)

pub note_brings : (p : Option Packet) (a : Option PacketArrival) → byte_in (coming_of p) a ≡ brings p a
note_brings p none = refl
note_brings p (some (start q n v)) = refl
note_brings none (some (next v)) = refl
note_brings (some p) (some (next v)) = refl

pub note_grows : (p : Option Packet) (a : Option PacketArrival) → grown (coming_of p) a ≡ coming_of (growing p a)
note_grows p none = refl
note_grows p (some (start q n v)) = refl
note_grows none (some (next v)) = refl
note_grows (some p) (some (next v)) =
    ap (λ (n : ℕ). some (coming p.queue p.size n)) (sym (length-append p.bytes (v ∷ [])))

pub note_ends : (p : Option Packet) → choose (is_whole (coming_of p)) none (coming_of p) ≡ coming_of (unended p)
note_ends none = refl
note_ends (some p) = by_test (all_in p) (λ t. rw t) (λ t. rw t)

-- A packet that is whole now has the length that its start told.
pub note_enters : (q : ℕ) (p : Option Packet) → ((c : Coming) → coming_of p ≡ some c → c.bytes_in ≤ c.size)
    → entering q (coming_of p) ≡ map (length {A = ℕ}) (ended q p)
note_enters q none few = refl
note_enters q (some p) few =
    by_test (all_in p)
    (λ t. by_test (eqb p.queue q)
    (λ u. rw (t, u) (ap (λ (n : ℕ). n ∷ [])
    (let e : p.size ≡ length p.bytes
    = omega (arith, leb-true p.size (length p.bytes) t, few _ refl) in e)))
    (λ u. rw (t, u)))
    (λ t. rw t)
