-- Document 01, "The state".
use Rattle.std.specs.Prelude.{Bool, true, not, List, [], ◌∷◌, ℕ, ◌+◌, ◌-◌, ◌*◌, eqb, ltb, leb, ℤ, pos, ◌-ℤ◌, length, get_or, replicate}
use Rattle.std.specs.Int.Signed.{lt_z}
use Rattle.model.specs.Basics.{choose, when, between, all_true, all_of, all_below}
use Rattle.model.specs.Sizes.{Sizes, Design, accepts, tail_size, head_size}

-- "Each byte with its queue."
pub record Byte : Type 0 where
  pub queue : ℕ
  pub value : ℕ

abbrev pub byte : ℕ → ℕ → Byte
byte q v = record { queue = q; value = v }

-- "A cell is empty, or Held (queue and byte), or Owed (queue)": the paper's own terms. A Held cell carries the byte
-- that it will deliver; an Owed cell will deliver a byte of the head cache, which may still be in the slow store.
pub data Cell : Type 0 where
  empty : Cell
  held : ℕ → ℕ → Cell
  owed : ℕ → Cell

-- "For each queue, its first ring block (0 to K - 1) and its block count."
pub record Ring : Type 0 where
  pub first : ℕ
  pub count : ℕ

abbrev pub ring : ℕ → ℕ → Ring
ring f n = record { first = f; count = n }

-- "The state is one record that carries its caches and lookahead inside it." Every list has its oldest first, the
-- rings are by queue number. The phase says how far the next move is. "Two states are the same when the items above
-- are": here that is equality. Request 2.2: "the last one asked joins the state", the queue that the round robin
-- arbiter (Arbiter) asked last.
pub record State : Type 0 where
  pub sizes : Sizes
  pub phase : ℕ
  pub tail : List Byte
  pub head : List Byte
  pub cells : List Cell
  pub rings : List Ring
  pub tail_mark : ℕ
  pub head_mark : ℕ
  pub last_asked : ℕ

-- "A fresh state has all L cells empty from the start, empty caches and rings, first block 0, phase 0, marks 0."
-- The last one asked is "fresh Q - 1" (2.2), so that the arbiter begins with queue 0.
abbrev pub fresh : Design → Sizes → State
fresh design s = record {
  sizes = s;
  phase = 0;
  tail = [];
  head = [];
  cells = replicate (design.cell_count s) empty;
  rings = replicate s.Q (ring 0 0);
  tail_mark = 0;
  head_mark = 0;
  last_asked = s.Q - 1;
}

-- A state from its items. A new item of the state is one more here and in each line of the setters below.
abbrev pub state_from : Sizes → ℕ → List Byte → List Byte → List Cell → List Ring → ℕ → ℕ → ℕ → State
state_from s phase tail head cells rings tail_mark head_mark last_asked = record {
  sizes = s;
  phase = phase;
  tail = tail;
  head = head;
  cells = cells;
  rings = rings;
  tail_mark = tail_mark;
  head_mark = head_mark;
  last_asked = last_asked;
}

-- The state with one item anew, and all others as they were: a step names what it changes, and nothing else.
abbrev pub with_phase : ℕ → State → State
with_phase phase x =
    state_from x.sizes phase x.tail x.head x.cells x.rings x.tail_mark x.head_mark x.last_asked

abbrev pub with_tail : List Byte → State → State
with_tail tail x =
    state_from x.sizes x.phase tail x.head x.cells x.rings x.tail_mark x.head_mark x.last_asked

abbrev pub with_head : List Byte → State → State
with_head head x =
    state_from x.sizes x.phase x.tail head x.cells x.rings x.tail_mark x.head_mark x.last_asked

abbrev pub with_cells : List Cell → State → State
with_cells cells x =
    state_from x.sizes x.phase x.tail x.head cells x.rings x.tail_mark x.head_mark x.last_asked

abbrev pub with_rings : List Ring → State → State
with_rings rings x =
    state_from x.sizes x.phase x.tail x.head x.cells rings x.tail_mark x.head_mark x.last_asked

abbrev pub with_tail_mark : ℕ → State → State
with_tail_mark tail_mark x =
    state_from x.sizes x.phase x.tail x.head x.cells x.rings tail_mark x.head_mark x.last_asked

abbrev pub with_head_mark : ℕ → State → State
with_head_mark head_mark x =
    state_from x.sizes x.phase x.tail x.head x.cells x.rings x.tail_mark head_mark x.last_asked

abbrev pub with_last_asked : ℕ → State → State
with_last_asked last_asked x =
    state_from x.sizes x.phase x.tail x.head x.cells x.rings x.tail_mark x.head_mark last_asked

-- "1: sizes outside the limits: no state made." "A making of a state checks 1 only."
abbrev pub making_number : Design → Sizes → ℕ
making_number design s = when (not (accepts design.limits s)) 1

-- The values of one queue in a cache, oldest first, and how many they are.
abbrev pub values_of : ℕ → List Byte → List ℕ
values_of q [] = []
values_of q (x ∷ xs) = choose (eqb x.queue q) (x.value ∷ values_of q xs) (values_of q xs)

abbrev pub count_of : ℕ → List Byte → ℕ
count_of q xs = length (values_of q xs)

-- The Owed cells of one queue.
abbrev pub owes : ℕ → Cell → ℕ
owes q empty = 0
owes q (held p v) = 0
owes q (owed p) = choose (eqb p q) 1 0

abbrev pub owed_of : ℕ → List Cell → ℕ
owed_of q [] = 0
owed_of q (cell ∷ cells) = owes q cell + owed_of q cells

-- What a state has of each queue: tail bytes, head bytes, Owed cells, its ring, its blocks in the slow store. A queue
-- without a ring counts as empty; refusals 4 and 6 keep such queues out.
abbrev pub tail_bytes : State → ℕ → ℕ
tail_bytes x q = count_of q x.tail

abbrev pub head_bytes : State → ℕ → ℕ
head_bytes x q = count_of q x.head

abbrev pub owed_cells : State → ℕ → ℕ
owed_cells x q = owed_of q x.cells

abbrev pub ring_of : List Ring → ℕ → Ring
ring_of rings q = get_or rings q (ring 0 0)

abbrev pub blocks : State → ℕ → ℕ
blocks x q = (ring_of x.rings q).count

-- "Queue numbers are below Q."
abbrev pub byte_below : ℕ → Byte → Bool
byte_below n x = ltb x.queue n

abbrev pub cell_below : ℕ → Cell → Bool
cell_below n empty = true
cell_below n (held q v) = ltb q n
cell_below n (owed q) = ltb q n

-- "Its first ring block (0 to K - 1)."
abbrev pub first_in_range : State → ℕ → Bool
first_in_range x q = ltb (ring_of x.rings q).first x.sizes.K

-- "Tail bytes + b × blocks is at most K × b."
abbrev pub has_room : State → ℕ → Bool
has_room x q = leb (tail_bytes x q + x.sizes.b * blocks x q) (x.sizes.K * x.sizes.b)

-- "Owed cells are at most head bytes + b × blocks."
abbrev pub is_backed : State → ℕ → Bool
is_backed x q = leb (owed_cells x q) (head_bytes x q + x.sizes.b * blocks x q)

-- "A state keeps the rules when the sizes are accepted, the fields lie in the ranges above, queue numbers are below
-- Q, fills fit the caches, and for each queue .." the last two. The two high marks are "each at least the present fill
-- and at most the cache size". What it holds as a list has the length that it must have. The last one asked is "below
-- Q" (2.2).
abbrev pub rules : Design → State → List Bool
rules design x =
    accepts design.limits x.sizes ∷
    ltb x.phase x.sizes.b ∷
    eqb (length x.cells) (design.cell_count x.sizes) ∷
    eqb (length x.rings) x.sizes.Q ∷
    all_below x.sizes.Q (first_in_range x) ∷
    between (length x.tail) x.tail_mark (tail_size x.sizes) ∷
    between (length x.head) x.head_mark (head_size x.sizes) ∷
    all_of (byte_below x.sizes.Q) x.tail ∷
    all_of (byte_below x.sizes.Q) x.head ∷
    all_of (cell_below x.sizes.Q) x.cells ∷
    leb (length x.tail) (tail_size x.sizes) ∷
    leb (length x.head) (head_size x.sizes) ∷
    all_below x.sizes.Q (has_room x) ∷
    all_below x.sizes.Q (is_backed x) ∷
    ltb x.last_asked x.sizes.Q ∷ []

abbrev pub keeps : Design → State → Bool
keeps design x = all_true (rules design x)

-- "The margin of a queue is its head bytes less its Owed cells. Below zero the queue is critical."
abbrev pub margin : State → ℕ → ℤ
margin x q = pos (head_bytes x q) -ℤ pos (owed_cells x q)

abbrev pub critical : State → ℕ → Bool
critical x q = lt_z (margin x q) (pos 0)
