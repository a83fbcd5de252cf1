-- The parts in which the code judges a record are the model's rules.
use mathlib.Core.Path.{◌≡◌, refl, ap, sym, ◌∙◌}
use mathlib.Core.Bool.{Bool, true, false, ◌&&◌, and_comm}
use mathlib.Core.List.{List, [], ◌∷◌}
use Prim.Native.Nat.{ℕ, zero, suc, ◌+◌, ◌*◌, ◌≤◌, ◌<◌}
use native.Mathlib.Numerals.{add-one}
use native.Mathlib.Omega.{arith}
use lib.Dec.{eqb}
use lib.ListN.{length, take, drop, get_or, length-drop}
use lib.Seq.{take-length}
use borrow.Author.Tests.{le-leb, lt-leb}
use Rattle.std.specs.List.{list_all, range_with_len}
use Rattle.std.proofs.lemmas.List.{get_or-drop}
use Rattle.std.proofs.lemmas.List.Folds.{list_all_more}
use Rattle.std.proofs.lemmas.List.FromFn.{length-range_with_len, get_or-range_with_len}
use Rattle.std.proofs.Math.Option.{Option, some, none}
use Rattle.model.specs.Basics.{choose, all_of, all_below, tabulate}
use Rattle.packets.specs.Packets.{Coming, most_listed, length_ok, coming_to, list_ok}
use Rattle.packet_layout.specs.declared.PacketRegs.{PacketRegs}
use Rattle.packet_layout.specs.Views.{list_in, incoming_of, record_in}
use Rattle.packet_record.proofs.Lists.{length-tabulate, tabulate-alike, list_length}

-- A test of n places from one on is that of the values there.
list_of : (n : ℕ) (xs : List ℕ) → n ≤ length xs → take n xs ≡ tabulate n (λ i. get_or xs i 0)
list_of zero xs l = refl
list_of (suc n) [] l = absurd (omega arith)
list_of (suc n) (x ∷ xs) l = ap (λ later. x ∷ later) (list_of n xs (omega (arith, l)))

all_alike : (test : ℕ → Bool) (xs : List ℕ) → list_all test xs ≡ all_of test xs
all_alike test [] = refl
all_alike test (x ∷ xs) = ap (λ t. test x && t) (all_alike test xs)

pub lengths_below : (test : ℕ → Bool) (n first : ℕ) (xs : List ℕ) → first + n ≤ length xs
    → list_all test (take n (drop first xs)) ≡ all_of test (tabulate n (λ i. get_or xs (first + i) 0))
lengths_below test n first xs l =
    all_alike test (take n (drop first xs))
    ∙ ap (all_of test) (list_of n (drop first xs) (omega (arith, length-drop first xs))
    ∙ tabulate-alike n (λ i. get_or (drop first xs) i 0) (λ i. get_or xs (first + i) 0)
    (λ i h. get_or-drop first xs i 0))

-- A test of those that count up from 0 is that of every number below.
tests_below : (test : ℕ → Bool) (n i : ℕ) → i ≤ n → list_all test (take i (range_with_len 0 n)) ≡ all_below i test
tests_below test n zero l = refl
tests_below test n (suc i) l =
    ap (λ (k : ℕ). list_all test (take k (range_with_len 0 n))) (sym (add-one i))
    ∙ list_all_more test (range_with_len 0 n) i 0 (omega (arith, l, length-range_with_len 0 n))
    ∙ ap (λ (k : ℕ). list_all test (take i (range_with_len 0 n)) && test k) here
    ∙ ap (λ (t : Bool). t && test i) (tests_below test n i (omega (arith, l)))
    ∙ and_comm (all_below i test) (test i)
  where
    here : get_or (range_with_len 0 n) i 0 ≡ i
    here = omega (arith, get_or-range_with_len 0 n i 0 (omega (arith, l)))

pub queues_below : (test : ℕ → Bool) (n : ℕ) → list_all test (range_with_len 0 n) ≡ all_below n test
queues_below test n =
    ap (list_all test)
    (sym (ap (λ (k : ℕ). take k (range_with_len 0 n)) (sym (length-range_with_len 0 n)) ∙ take-length (range_with_len 0 n)))
    ∙ tests_below test n n (omega arith)

-- At most one packet comes in to a queue.
one_or_none : (t : Bool) → choose t 1 0 ≤ 1
one_or_none true = omega arith
one_or_none false = omega arith

few : (q : ℕ) (coming : Option Coming) → coming_to q coming ≤ 1
few q none = omega arith
few q (some c) = one_or_none (eqb c.queue q)

pub coming-few : (regs : PacketRegs) (q : ℕ) → coming_to q (incoming_of regs) ≤ 1
coming-few regs q = few q (incoming_of regs)

-- The list of one queue.
module _ (regs : PacketRegs) (lengths listed : List ℕ) (q : ℕ) where
  abbrev in_all : ℕ
  in_all = get_or listed q 0 + coming_to q (incoming_of regs)

  pub list_too_long : most_listed < in_all → false ≡ list_ok (record_in regs lengths listed) q
  list_too_long h = rw (list_length lengths listed q, lt-leb in_all most_listed h)

  pub list_judged : in_all ≤ most_listed → (answer : Bool)
      → answer ≡ all_of length_ok (tabulate (get_or listed q 0) (λ i. get_or lengths (q * most_listed + i) 0))
      → answer ≡ list_ok (record_in regs lengths listed) q
  unfolding list_in
  list_judged h answer e =
      rw (length-tabulate (get_or listed q 0) (λ i. get_or lengths (q * most_listed + i) 0), le-leb in_all most_listed h) e
