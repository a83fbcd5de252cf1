-- The rings of the first n queues as two arrays hold them: each is at its own queue's place, and storing a queue's
-- first block and count is setting its ring.
use mathlib.Core.Path.{◌≡◌, refl, ap, sym, fun_ext}
use mathlib.Core.List.{List, ◌∷◌}
use Prim.Native.Nat.{ℕ, zero, suc, ◌≤◌, ◌<◌}
use native.Mathlib.Omega.{arith}
use lib.ListN.{length, set, get_or}
use lib.Seq.{get_or-set_same, get_or-set_other}
use Rattle.model.specs.Basics.{tabulate}
use Rattle.model.specs.State.{Ring, ring, ring_of}
use Rattle.model.proofs.basics.AllOf.{tabulate-at}
use Rattle.layout.specs.Entries.{counts_in}
use Rattle.layout.specs.Views.{rings_in}

-- The list f 0, f 1, .., f (n - 1): its length, a place past its end, and one value changed.
length-tabulate : {A : Type 0} (n : ℕ) (f : ℕ → A) → length (tabulate n f) ≡ n
length-tabulate zero f = refl
length-tabulate (suc n) f = ap suc (length-tabulate n (λ i. f (suc i)))

tabulate-past : {A : Type 0} (n : ℕ) (f : ℕ → A) (q : ℕ) (d : A) → n ≤ q → get_or (tabulate n f) q d ≡ d
tabulate-past zero f q d l = refl
tabulate-past (suc n) f zero d l = absurd (omega arith)
tabulate-past (suc n) f (suc q) d l = tabulate-past n (λ i. f (suc i)) q d (omega arith)

tabulate-changed : {A : Type 0} (n : ℕ) (f g : ℕ → A) (q : ℕ) → ((p : ℕ) → (q ≡ p → ⊥) → g p ≡ f p)
    → tabulate n g ≡ set (tabulate n f) q (g q)
tabulate-changed zero f g q h = refl
tabulate-changed {A} (suc n) f g zero h =
    ap (λ (later : ℕ → A). g 0 ∷ tabulate n later) (fun_ext (λ i. h (suc i) (λ e. omega (arith, e))))
tabulate-changed (suc n) f g (suc q) h =
    rw (
      h 0 (λ e. omega (arith, e)),
      ← tabulate-changed n (λ i. f (suc i)) (λ i. g (suc i)) q
          (λ p d. h (suc p) (λ e. d (omega (arith, e)))),
    )

-- A number stored for a queue.
count_same : (xs : List ℕ) (q v : ℕ) → q < length xs → counts_in (set xs q v) q ≡ v
unfolding counts_in
count_same xs q v l = get_or-set_same xs q v 0 l

count_other : (xs : List ℕ) (q v p : ℕ) → (q ≡ p → ⊥) → counts_in (set xs q v) p ≡ counts_in xs p
unfolding counts_in
count_other xs q v p d = get_or-set_other xs q p v 0 (λ e. d (sym e))

-- The ring that two arrays hold for a queue.
abbrev ring_at : List ℕ → List ℕ → ℕ → Ring
ring_at firsts stored q = ring (counts_in firsts q) (counts_in stored q)

pub rings_length : (n : ℕ) (firsts stored : List ℕ) → length (rings_in n firsts stored) ≡ n
unfolding rings_in
rings_length n firsts stored = length-tabulate n (ring_at firsts stored)

pub ring-at : (n : ℕ) (firsts stored : List ℕ) (q : ℕ) → q < n
    → ring_of (rings_in n firsts stored) q ≡ ring (counts_in firsts q) (counts_in stored q)
unfolding rings_in
ring-at n firsts stored q l = tabulate-at n (ring_at firsts stored) q (ring 0 0) l

-- A queue past the last has no block, from block 0.
pub ring-past : (n : ℕ) (firsts stored : List ℕ) (q : ℕ) → n ≤ q → ring_of (rings_in n firsts stored) q ≡ ring 0 0
unfolding rings_in
ring-past n firsts stored q l = tabulate-past n (ring_at firsts stored) q (ring 0 0) l

-- A queue's first block and count are stored, or its count alone.
pub rings_stored : (n : ℕ) (firsts stored : List ℕ) (q f c : ℕ) → q < n → n ≤ length firsts → n ≤ length stored
    → rings_in n (set firsts q f) (set stored q c) ≡ set (rings_in n firsts stored) q (ring f c)
unfolding rings_in
rings_stored n firsts stored q f c l h g =
    rw (tabulate-changed n (ring_at firsts stored) (ring_at (set firsts q f) (set stored q c)) q
    (λ p d. rw (count_other firsts q f p d, count_other stored q c p d)))
    (rw (count_same firsts q f (omega arith), count_same stored q c (omega arith)))

pub rings_counted : (n : ℕ) (firsts stored : List ℕ) (q c : ℕ) → q < n → n ≤ length stored
    → rings_in n firsts (set stored q c) ≡ set (rings_in n firsts stored) q (ring (counts_in firsts q) c)
unfolding rings_in
rings_counted n firsts stored q c l g =
    rw (tabulate-changed n (ring_at firsts stored) (ring_at firsts (set stored q c)) q
    (λ p d. rw (count_other stored q c p d)))
    (rw (count_same stored q c (omega arith)))
