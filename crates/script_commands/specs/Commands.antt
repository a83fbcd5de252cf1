-- Document 01, "Scripts": "A command is one byte (hex), then operands of one byte each unless said". One table, `row`,
-- gives each kind of command its code and its operands; reading, judging and writing all go by it.
use Rattle.std.specs.Prelude.{Bool, true, false, List, [], ◌∷◌, ◌++◌, ℕ, zero, suc, ◌+◌, ◌*◌, ◌/◌, ◌%◌, ◌<◌, eqb, drop}
use Rattle.std.proofs.Math.Option.{Option, some, none}
use Rattle.model.specs.Basics.{choose}

-- What an operand is: Q, b or K; a queue; a byte that arrives; a count of idle slots.
pub data Operand : Type 0 where
  size : Operand
  queue : Operand
  value : Operand
  count : Operand

-- "operands of one byte each unless said .. a 16-bit count"
abbrev pub width : Operand → ℕ
width size = 1
width queue = 1
width value = 1
width count = 2

-- The kinds of command.
pub data Kind : Type 0 where
  sizes : Kind
  idle : Kind
  arrive : Kind
  ask : Kind
  both : Kind
  idles : Kind
  end : Kind

-- A row of the table.
pub record Row : Type 0 where
  pub code : ℕ
  pub operands : List Operand

abbrev pub entry : ℕ → List Operand → Row
entry code operands = record { code = code; operands = operands }

-- "10: Q, b, K. 00: idle slot. 01: arrival queue, byte. 02: request queue. 03: arrival queue, byte, request queue.
-- 04: a 16-bit count, low byte first, of idle slots (0 is none). 05: end." The codes are hex, and 10 hex is 16.
abbrev pub row : Kind → Row
row sizes = entry 16 (size ∷ size ∷ size ∷ [])
row idle = entry 0 []
row arrive = entry 1 (queue ∷ value ∷ [])
row ask = entry 2 (queue ∷ [])
row both = entry 3 (queue ∷ value ∷ queue ∷ [])
row idles = entry 4 (count ∷ [])
row end = entry 5 []

-- All kinds: the rows of the table.
abbrev pub kinds : List Kind
kinds = sizes ∷ idle ∷ arrive ∷ ask ∷ both ∷ idles ∷ end ∷ []

-- The commands that give a script its sizes, and the one that ends it.
abbrev pub is_sizes : Kind → Bool
is_sizes sizes = true
is_sizes idle = false
is_sizes arrive = false
is_sizes ask = false
is_sizes both = false
is_sizes idles = false
is_sizes end = false

abbrev pub is_end : Kind → Bool
is_end sizes = false
is_end idle = false
is_end arrive = false
is_end ask = false
is_end both = false
is_end idles = false
is_end end = true

-- The kind that a code stands for: none for an unknown one.
abbrev pub kind_among : List Kind → ℕ → Option Kind
kind_among [] code = none
kind_among (k ∷ ks) code = choose (eqb (row k).code code) (some k) (kind_among ks code)

abbrev pub kind_of : ℕ → Option Kind
kind_of code = kind_among kinds code

-- How many bytes these operands take.
abbrev pub widths : List Operand → ℕ
widths [] = 0
widths (o ∷ os) = width o + widths os

-- "one value of its kind with its operands"
pub record Command : Type 0 where
  pub kind : Kind
  pub operands : List ℕ

abbrev pub command : Kind → List ℕ → Command
command k values = record { kind = k; operands = values }

-- "low byte first": the number that the first n bytes of a list hold, and the n bytes that hold a number.
abbrev pub number_in : ℕ → List ℕ → ℕ
number_in zero bytes = 0
number_in (suc n) [] = 0
number_in (suc n) (x ∷ bytes) = x + 256 * number_in n bytes

abbrev pub bytes_of : ℕ → ℕ → List ℕ
bytes_of zero v = []
bytes_of (suc n) v = v % 256 ∷ bytes_of n (v / 256)

-- The least number that n bytes cannot hold.
abbrev pub bound : ℕ → ℕ
bound zero = 1
bound (suc n) = 256 * bound n

-- The operands that a list of bytes begins with.
abbrev pub operands_in : List Operand → List ℕ → List ℕ
operands_in [] bytes = []
operands_in (o ∷ os) bytes = number_in (width o) bytes ∷ operands_in os (drop (width o) bytes)

-- The bytes of operands.
abbrev pub operand_bytes : List Operand → List ℕ → List ℕ
operand_bytes [] values = []
operand_bytes (o ∷ os) [] = []
operand_bytes (o ∷ os) (v ∷ values) = bytes_of (width o) v ++ operand_bytes os values

-- Operands as the table has them: as many, each within its width.
abbrev pub Fitting : List Operand → List ℕ → Type 0
Fitting [] [] = Unit {0}
Fitting [] (v ∷ values) = ⊥
Fitting (o ∷ os) [] = ⊥
Fitting (o ∷ os) (v ∷ values) = (v < bound (width o)) × Fitting os values

abbrev pub OperandsFit : Command → Type 0
OperandsFit c = Fitting (row c.kind).operands c.operands
