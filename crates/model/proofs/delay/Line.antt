-- The line that the cells give: a new youngest cell takes the next byte that the Owed cells leave of its stream, and
-- the line looks no further into a stream than they reach, so that there is a byte in it for each of them.
-- `line_youngest`, `line_longer` and `line_at_owed` say it.
use mathlib.Core.Path.{◌≡◌, refl, ap, ◌∙◌, fun_ext}
use mathlib.Core.List.{List, [], ◌∷◌, ◌++◌}
use mathlib.Core.Option.{Option, some, none}
use Prim.Native.Nat.{ℕ, zero, suc, ◌+◌, ◌<◌, ◌≤◌}
use native.Mathlib.Omega.{arith}
use lib.Dec.{eqb}
use lib.ListN.{length, drop, get_or, get_elem?, length-drop}
use lib.Seq.{drop-append-le, drop-drop}
use borrow.Author.Tests.{eqb-true}
use Rattle.model.specs.Basics.{update}
use Rattle.model.specs.State.{Byte, byte, Cell, empty, held, owed, State, owes, owed_of, ring_of}
use Rattle.model.specs.Slot.{as_byte}
use Rattle.model.specs.Ideal.{ring_bytes, line_of, stands_for}
use Rattle.model.proofs.basics.Tests.{by_test}
use Rattle.model.proofs.basics.Cells.{owed_here}

abbrev pub line : State → List ℕ → List (Option Byte)
line x store = (stands_for x store).line

abbrev pub waiting : State → List ℕ → ℕ → List ℕ
waiting x store = (stands_for x store).waiting

abbrev pub ring_values : State → List ℕ → ℕ → List ℕ
ring_values x store q = ring_bytes x.sizes store q (ring_of x.rings q).first (ring_of x.rings q).count

pub first_append : (xs ys : List ℕ) → 1 ≤ length xs → get_elem? (xs ++ ys) 0 ≡ get_elem? xs 0
first_append [] ys h = absurd (omega arith)
first_append (x ∷ xs) ys h = refl

-- An element that is there.
pub element_at : (l : List ℕ) (i : ℕ) → i < length l → (v : ℕ) × (get_elem? l i ≡ some v)
element_at [] i h = absurd (omega arith)
element_at (x ∷ l) zero h = (x, refl)
element_at (x ∷ l) (suc i) h = element_at l i (omega arith)

pub drop-count : (m n : ℕ) (xs : List ℕ) → m ≡ n → drop m xs ≡ drop n xs
drop-count m n xs e = ap (λ (k : ℕ). drop k xs) e

pub line_length : (streams : ℕ → List ℕ) (cells : List Cell) → length (line_of streams cells) ≡ length cells
line_length streams [] = refl
line_length streams (empty ∷ cells) = ap suc (line_length streams cells)
line_length streams (held q v ∷ cells) = ap suc (line_length streams cells)
line_length streams (owed q ∷ cells) = ap suc (line_length (update streams q (drop 1 (streams q))) cells)

-- What the Owed cells leave of each stream.
abbrev pub unasked : (ℕ → List ℕ) → List Cell → ℕ → List ℕ
unasked streams cells p = drop (owed_of p cells) (streams p)

-- One more cell, at the end of the line.
pub streams_used : (streams : ℕ → List ℕ) (q : ℕ) (cells : List Cell) (p : ℕ)
    → unasked (update streams q (drop 1 (streams q))) cells p ≡ unasked streams (owed q ∷ cells) p
streams_used streams q cells p =
    by_test (eqb q p)
    (λ t. rw t (drop-drop (owed_of p cells) 1 (streams q)
    ∙ ap (λ (i : ℕ). drop (1 + owed_of p cells) (streams i)) (eqb-true q p t)))
    (λ t. rw t (drop-count (owed_of p cells) (0 + owed_of p cells) (streams p) (omega arith)))

streams_unused : (streams : ℕ → List ℕ) (cell : Cell) (cells : List Cell) → ((p : ℕ) → owes p cell ≡ 0)
    → unasked streams cells ≡ unasked streams (cell ∷ cells)
streams_unused streams cell cells z =
    fun_ext (λ p. drop-count (owed_of p cells) (owed_of p (cell ∷ cells)) (streams p) (omega (arith, z p)))

pub line_youngest : (streams : ℕ → List ℕ) (cells : List Cell) (cell : Cell)
    → line_of streams (cells ++ cell ∷ [])
    ≡ line_of streams cells ++ line_of (unasked streams cells) (cell ∷ [])
line_youngest streams [] cell = refl
line_youngest streams (empty ∷ cells) cell =
    ap (λ (l : List (Option Byte)). none ∷ l) (line_youngest streams cells cell
    ∙ ap (λ (f : ℕ → List ℕ). line_of streams cells ++ line_of f (cell ∷ []))
    (streams_unused streams empty cells (λ p. refl)))
line_youngest streams (held q v ∷ cells) cell =
    ap (λ (l : List (Option Byte)). some (byte q v) ∷ l) (line_youngest streams cells cell
    ∙ ap (λ (f : ℕ → List ℕ). line_of streams cells ++ line_of f (cell ∷ []))
    (streams_unused streams (held q v) cells (λ p. refl)))
line_youngest streams (owed q ∷ cells) cell =
    ap (λ (l : List (Option Byte)). as_byte q (get_elem? (streams q) 0) ∷ l) (line_youngest used cells cell
    ∙ ap (λ (f : ℕ → List ℕ). line_of used cells ++ line_of f (cell ∷ [])) (fun_ext (streams_used streams q cells)))
  where
    used : ℕ → List ℕ
    used = update streams q (drop 1 (streams q))

-- A stream that reaches every Owed cell reaches those behind the first, once that one has taken its byte.
module _ (streams : ℕ → List ℕ) (q : ℕ) (cells : List Cell)
    (reach : (p : ℕ) → owed_of p (owed q ∷ cells) ≤ length (streams p)) where
  pub byte_left : 1 ≤ length (streams q)
  byte_left = omega (arith, reach q, owed_here q cells)

  pub reach_behind : (p : ℕ) → owed_of p cells ≤ length (update streams q (drop 1 (streams q)) p)
  reach_behind p =
      by_test (eqb q p)
      (λ t. rw t (omega (
        arith,
        length-drop 1 (streams q),
        rw t at (reach p),
        ap (λ (i : ℕ). length (streams i)) (eqb-true q p t),
      )))
      (λ t. rw t (omega (arith, rw t at (reach p))))

-- The line looks no further into a stream than the Owed cells reach.
pub line_longer : (streams more : ℕ → List ℕ) (cells : List Cell) → ((q : ℕ) → owed_of q cells ≤ length (streams q))
    → line_of (λ q. streams q ++ more q) cells ≡ line_of streams cells
line_longer streams more [] h = refl
line_longer streams more (empty ∷ cells) h =
    ap (λ (l : List (Option Byte)). none ∷ l) (line_longer streams more cells (λ q. omega (arith, h q)))
line_longer streams more (held q v ∷ cells) h =
    ap (λ (l : List (Option Byte)). some (byte q v) ∷ l) (line_longer streams more cells (λ p. omega (arith, h p)))
line_longer streams more (owed q ∷ cells) h =
    ap (λ (o : Option ℕ). as_byte q o ∷ line_of (update both q (drop 1 (both q))) cells)
    (first_append (streams q) (more q) (byte_left streams q cells h))
    ∙ ap (λ (l : List (Option Byte)). as_byte q (get_elem? (streams q) 0) ∷ l)
    (ap (λ (f : ℕ → List ℕ). line_of f cells) (fun_ext split)
    ∙ line_longer used more cells (reach_behind streams q cells h))
  where
    both : ℕ → List ℕ
    both p = streams p ++ more p

    used : ℕ → List ℕ
    used = update streams q (drop 1 (streams q))

    split : (p : ℕ) → update both q (drop 1 (both q)) p ≡ used p ++ more p
    split p =
        by_test (eqb q p)
        (λ t. rw t (drop-append-le 1 (streams q) (more q) (byte_left streams q cells h)
        ∙ ap (λ (i : ℕ). drop 1 (streams q) ++ more i) (eqb-true q p t)))
        (λ t. rw t)

-- The line has a byte of q wherever the cells have an Owed one of q: it keeps their places, and the streams reach them.
pub line_at_owed : (streams : ℕ → List ℕ) (cells : List Cell) → ((p : ℕ) → owed_of p cells ≤ length (streams p))
    → (i q : ℕ) → i < length cells → get_or cells i empty ≡ owed q
    → (v : ℕ) × (get_or (line_of streams cells) i none ≡ some (byte q v))
line_at_owed streams [] reach i q l e = absurd (omega arith)
line_at_owed streams (empty ∷ cells) reach zero q l e = absurd (let z : ◌≡◌ {A = ℕ} 0 1 = cc in omega arith)
line_at_owed streams (empty ∷ cells) reach (suc i) q l e =
    line_at_owed streams cells (λ p. omega (arith, reach p)) i q (omega arith) e
line_at_owed streams (held p v ∷ cells) reach zero q l e = absurd (let z : ◌≡◌ {A = ℕ} 0 1 = cc in omega arith)
line_at_owed streams (held p v ∷ cells) reach (suc i) q l e =
    line_at_owed streams cells (λ p. omega (arith, reach p)) i q (omega arith) e
line_at_owed streams (owed p ∷ cells) reach zero q l e =
    let first = element_at (streams p) 0 (byte_left streams p cells reach) in
    let same : p ≡ q = cc in
    (first.0, ap (as_byte p) first.1 ∙ ap (λ (i : ℕ). some (byte i first.0)) same)
line_at_owed streams (owed p ∷ cells) reach (suc i) q l e =
    line_at_owed (update streams p (drop 1 (streams p))) cells (reach_behind streams p cells reach) i q (omega arith) e
