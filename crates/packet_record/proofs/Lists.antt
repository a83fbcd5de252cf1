-- The lists of a record in their places. A length stored behind a queue's last, with the count one more, enters its
-- list: `entered`. The places of a list moved down by one, with the count one less, take its oldest out: `taken`. The
-- other lists stay, since each lies in places of its own as far as no count before the queue is over 32.
use mathlib.Core.Path.{◌≡◌, refl, ap, sym, ◌∙◌}
use mathlib.Core.Bool.{false}
use mathlib.Core.Option.{some}
use mathlib.Core.List.{List, [], ◌∷◌, ◌++◌, append-nil}
use Prim.Native.Nat.{ℕ, zero, suc, ◌+◌, ◌-◌, ◌*◌, ◌≤◌, ◌<◌}
use native.Mathlib.Numerals.{add-one}
use native.Mathlib.Omega.{arith}
use lib.Dec.{eqb, ltb}
use lib.ListN.{length, set, get_or, drop, length-set}
use lib.Seq.{get_or-set_same, get_or-set_other}
use borrow.Author.Tests.{eqb-false, ltb-true, ltb-false}
use Rattle.model.specs.Basics.{choose, tabulate}
use Rattle.model.specs.Lists.{asks}
use Rattle.model.proofs.basics.Tests.{by_test, at_queue_lem, eqb_same}
use Rattle.model.proofs.basics.AllOf.{tabulate-at}
use Rattle.layout.specs.Lengths.{queue_places}
use Rattle.packets.specs.Packets.{most_listed}
use Rattle.packet_layout.specs.Views.{list_in, ListsLong}
use Rattle.packet_record.specs.Says.{ShortBefore, EnterSays, TakeSays}
use Rattle.packet_record.proofs.Moving.{MovedDown}

-- The list f 0, f 1, .., f (n - 1): its length, that it goes by those values alone, and one value more.
pub length-tabulate : {A : Type 0} (n : ℕ) (f : ℕ → A) → length (tabulate n f) ≡ n
length-tabulate zero f = refl
length-tabulate (suc n) f = ap suc (length-tabulate n (λ i. f (suc i)))

pub tabulate-alike : {A : Type 0} (n : ℕ) (f g : ℕ → A) → ((i : ℕ) → i < n → f i ≡ g i) → tabulate n f ≡ tabulate n g
tabulate-alike zero f g h = refl
tabulate-alike (suc n) f g h =
    rw (h 0 (omega arith), tabulate-alike n (λ i. f (suc i)) (λ i. g (suc i)) (λ i l. h (suc i) (omega arith)))

tabulate-suc : {A : Type 0} (n : ℕ) (f : ℕ → A) → tabulate (suc n) f ≡ tabulate n f ++ f n ∷ []
tabulate-suc zero f = refl
tabulate-suc {A} (suc n) f = ap (λ (later : List A). f 0 ∷ later) (tabulate-suc n (λ i. f (suc i)))

pub tabulate-more : {A : Type 0} (n : ℕ) (f : ℕ → A) → tabulate (n + 1) f ≡ tabulate n f ++ f n ∷ []
tabulate-more n f = rw add-one (tabulate-suc n f)

-- A list has as many lengths as its count says, and goes by its count and its places alone.
pub list_length : (lengths listed : List ℕ) (q : ℕ) → length (list_in lengths listed q) ≡ get_or listed q 0
unfolding list_in
list_length lengths listed q = length-tabulate (get_or listed q 0) _

same-list : (lengths listed lengths' listed' : List ℕ) (p : ℕ) → get_or listed' p 0 ≡ get_or listed p 0
    → ((i : ℕ) → i < get_or listed p 0 → get_or lengths' (p * most_listed + i) 0 ≡ get_or lengths (p * most_listed + i) 0)
    → list_in lengths' listed' p ≡ list_in lengths listed p
unfolding list_in
same-list lengths listed lengths' listed' p e h =
    rw e (tabulate-alike (get_or listed p 0) (λ i. get_or lengths' (p * most_listed + i) 0)
    (λ i. get_or lengths (p * most_listed + i) 0) h)

module _ (q : ℕ) (lengths listed : List ℕ) (long : ListsLong lengths listed) (below : q < queue_places)
    (short : ShortBefore q listed) where
  -- A place of another list lies before the queue's own, or behind all of them.
  other_place : (P : ℕ → Type 0) → ((k : ℕ) → k < q * most_listed → P k)
      → ((k : ℕ) → q * most_listed + most_listed ≤ k → P k)
      → (p i : ℕ) → eqb q p ≡ false → i < get_or listed p 0 → P (p * most_listed + i)
  other_place P before behind p i t l =
      by_test (ltb p q)
      (λ u. before (p * most_listed + i) (omega (arith, short p (ltb-true p q u), ltb-true p q u)))
      (λ u. behind (p * most_listed + i) (omega (arith, ltb-false p q u, eqb-false q p t)))

  module _ (size : ℕ) (place : get_or listed q 0 < most_listed) where
    abbrev count : ℕ
    count = get_or listed q 0

    abbrev lengths_in : List ℕ
    lengths_in = set lengths (q * most_listed + count) size

    abbrev listed_in : List ℕ
    listed_in = set listed q (count + 1)

    own_entered : list_in lengths_in listed_in q ≡ list_in lengths listed q ++ size ∷ []
    unfolding list_in
    own_entered =
        rw (get_or-set_same listed q (count + 1) 0 (omega (arith, long.listed_long)))
        (tabulate-more count (λ i. get_or lengths_in (q * most_listed + i) 0)
        ∙ rw (get_or-set_same lengths (q * most_listed + count) size 0 (omega (arith, long.lengths_long)))
        (ap (λ (xs : List ℕ). xs ++ size ∷ []) (tabulate-alike count (λ i. get_or lengths_in (q * most_listed + i) 0)
        (λ i. get_or lengths (q * most_listed + i) 0)
        (λ i l. get_or-set_other lengths (q * most_listed + count) (q * most_listed + i) size 0
        (λ e. omega (arith, e, l))))))

    other_entered : (p : ℕ) → eqb q p ≡ false → list_in lengths_in listed_in p ≡ list_in lengths listed p
    other_entered p t =
        same-list lengths listed lengths_in listed_in p
        (get_or-set_other listed q p (count + 1) 0 (λ e. eqb-false q p t (sym e)))
        (λ i l. other_place (λ k. get_or lengths_in k 0 ≡ get_or lengths k 0)
        (λ k h. get_or-set_other lengths (q * most_listed + count) k size 0 (λ e. omega (arith, e)))
        (λ k h. get_or-set_other lengths (q * most_listed + count) k size 0 (λ e. omega (arith, e)))
        p i t l)

    pub entered : EnterSays q size lengths listed lengths_in listed_in
    entered = record {
      lists_long = record {
        lengths_long = length-set lengths (q * most_listed + count) size ∙ long.lengths_long;
        listed_long = length-set listed q (count + 1) ∙ long.listed_long;
      };
      lists_are =
          at_queue_lem
          (λ p. list_in lengths_in listed_in p ≡ list_in lengths listed p ++ choose (eqb q p) (size ∷ []) []) q
          (rw (eqb_same q) own_entered)
          (λ p t. rw t (other_entered p t ∙ sym (append-nil (list_in lengths listed p))));
    }

  module _ (some_there : 1 ≤ get_or listed q 0) (few : get_or listed q 0 ≤ most_listed) (lengths' : List ℕ)
      (down : MovedDown (q * most_listed) (get_or listed q 0) lengths lengths') where
    abbrev listed_out : List ℕ
    listed_out = set listed q (get_or listed q 0 - 1)

    own_taken : list_in lengths' listed_out q ≡ drop 1 (list_in lengths listed q)
    unfolding list_in
    own_taken =
        rw (get_or-set_same listed q (get_or listed q 0 - 1) 0 (omega (arith, long.listed_long)))
        (go (get_or listed q 0) some_there down.moved)
      where
        go : (n : ℕ) → 1 ≤ n
            → ((i : ℕ) → i + 1 < n
            → get_or lengths' (q * most_listed + i) 0 ≡ get_or lengths (q * most_listed + (i + 1)) 0)
            → tabulate (n - 1) (λ i. get_or lengths' (q * most_listed + i) 0)
            ≡ drop 1 (tabulate n (λ i. get_or lengths (q * most_listed + i) 0))
        go zero h moved = absurd (omega arith)
        go (suc n) h moved =
            let less : suc n - 1 ≡ n = omega arith in
            rw less (tabulate-alike n (λ i. get_or lengths' (q * most_listed + i) 0)
            (λ i. get_or lengths (q * most_listed + suc i) 0)
            (λ i l. moved i (omega arith) ∙ rw add-one))

    other_taken : (p : ℕ) → eqb q p ≡ false → list_in lengths' listed_out p ≡ list_in lengths listed p
    other_taken p t =
        same-list lengths listed lengths' listed_out p
        (get_or-set_other listed q p (get_or listed q 0 - 1) 0 (λ e. eqb-false q p t (sym e)))
        (λ i l. other_place (λ k. get_or lengths' k 0 ≡ get_or lengths k 0)
        down.before_same
        (λ k h. down.behind_same k (omega arith))
        p i t l)

    pub taken : TakeSays q lengths listed (get_or lengths (q * most_listed) 0) lengths' listed_out
    unfolding list_in
    taken = record {
      lists_long = record {
        lengths_long = down.same_length ∙ long.lengths_long;
        listed_long = length-set listed q (get_or listed q 0 - 1) ∙ long.listed_long;
      };
      oldest_is = oldest;
      lists_are =
          at_queue_lem
          (λ p. list_in lengths' listed_out p ≡ drop (asks p (some q)) (list_in lengths listed p)) q
          (rw (eqb_same q) own_taken)
          (λ p t. rw t (other_taken p t));
    }
      where
        oldest : get_or lengths (q * most_listed) 0 ≡ get_or (list_in lengths listed q) 0 0
        oldest =
            let first : q * most_listed + 0 ≡ q * most_listed = omega arith in
            sym (tabulate-at (get_or listed q 0) (λ i. get_or lengths (q * most_listed + i) 0) 0 0 (omega arith)
            ∙ rw first)
