-- What the low bits of a number say: nothing where the bit that tells is 0, and else a queue or a byte. Bits above them
-- change nothing, and what was put together of a byte or a queue says that byte or queue. Each law holds for a field of
-- any width; whoever cites it shows the bits at a width of their own.
use mathlib.Core.Path.{◌≡◌, refl, ap, ◌∙◌}
use mathlib.Core.Option.{Option, some, none}
use Prim.Native.Nat.{ℕ, zero, suc, ◌+◌, ◌/◌, ◌%◌, ◌<◌}
use native.Mathlib.Omega.{arith}
use Rattle.model.specs.State.{Byte, byte}
use Rattle.run_words.specs.Words.{answer_queues, queue_part, value_of, byte_word, queue_word, byte_in, queue_in}

-- The values that an answer's byte and an answer's queue can have.
abbrev pub ByteFits : Option Byte → Type 0
ByteFits d = (y : Byte) → d ≡ some y → (y.queue < answer_queues) × (y.value < 256)

abbrev pub QueueFits : Option ℕ → Type 0
QueueFits o = (q : ℕ) → o ≡ some q → q < answer_queues

-- By the bit that tells.
queue_part_none : (n q : ℕ) → n ≡ 0 → queue_part n q ≡ none
queue_part_none zero q e = refl
queue_part_none (suc n) q e = absurd (omega arith)

queue_part_some : (n q : ℕ) → (n ≡ 0 → ⊥) → queue_part n q ≡ some q
queue_part_some zero q e = absurd (e refl)
queue_part_some (suc n) q e = refl

module _ (queues w : ℕ) where
  pub queue_none : w / queues % 2 ≡ 0 → queue_in queues w ≡ none
  unfolding queue_in
  queue_none e = queue_part_none (w / queues % 2) (w % queues) e

  pub queue_some : (w / queues % 2 ≡ 0 → ⊥) → queue_in queues w ≡ some (w % queues)
  unfolding queue_in
  queue_some e = queue_part_some (w / queues % 2) (w % queues) e

  -- A queue that was put together.
  pub queue_is : (q : ℕ) → w / queues % 2 ≡ 1 → w % queues ≡ q → queue_in queues w ≡ some q
  queue_is q told is = queue_some (λ e. omega (arith, told)) ∙ ap some is

  -- Bits above it change nothing.
  pub queue_same : (v : ℕ) → v / queues % 2 ≡ w / queues % 2 → v % queues ≡ w % queues
      → queue_in queues v ≡ queue_in queues w
  unfolding queue_in
  queue_same v told queue = rw (told, queue)

-- The same of a byte.
module _ (queues w : ℕ) where
  pub byte-none : w / 256 / queues % 2 ≡ 0 → byte_in queues w ≡ none
  unfolding byte_in
  byte-none e = ap (λ (o : Option ℕ). value_of o (w % 256)) (queue_none queues (w / 256) e)

  pub byte-some : (w / 256 / queues % 2 ≡ 0 → ⊥) → byte_in queues w ≡ some (byte (w / 256 % queues) (w % 256))
  unfolding byte_in
  byte-some e = ap (λ (o : Option ℕ). value_of o (w % 256)) (queue_some queues (w / 256) e)

  pub byte-is : (q v : ℕ) → w / 256 / queues % 2 ≡ 1 → w / 256 % queues ≡ q → w % 256 ≡ v
      → byte_in queues w ≡ some (byte q v)
  byte-is q v told queue value = byte-some (λ e. omega (arith, told)) ∙ rw (queue, value)

  pub byte-same : (v : ℕ) → v / 256 / queues % 2 ≡ w / 256 / queues % 2 → v / 256 % queues ≡ w / 256 % queues
      → v % 256 ≡ w % 256 → byte_in queues v ≡ byte_in queues w
  unfolding byte_in
  byte-same v told queue value = rw (value, queue_same queues (w / 256) (v / 256) told queue)

-- An answer's parts are read back, and are no larger than their bits.
pub byte-word_back : (d : Option Byte) → ByteFits d → byte_in answer_queues (byte_word d) ≡ d
byte-word_back none h = byte-none answer_queues 0 refl
byte-word_back (some y) h =
    byte-is answer_queues (byte_word (some y)) y.queue y.value
    (omega (arith, h y refl)) (omega (arith, h y refl)) (omega (arith, h y refl))

pub queue_word_back : (o : Option ℕ) → QueueFits o → queue_in answer_queues (queue_word o) ≡ o
queue_word_back none h = queue_none answer_queues 0 refl
queue_word_back (some q) h =
    queue_is answer_queues (1024 + q) q (omega (arith, h q refl)) (omega (arith, h q refl))

pub byte-word_low : (d : Option Byte) → ByteFits d → byte_word d < 524288
byte-word_low none h = omega arith
byte-word_low (some y) h = omega (arith, (h y refl).0, (h y refl).1)

pub queue_word_low : (o : Option ℕ) → QueueFits o → queue_word o < 2048
queue_word_low none h = omega arith
queue_word_low (some q) h = omega (arith, h q refl)
