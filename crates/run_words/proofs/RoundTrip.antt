-- An answer that was made a number is read back from it whole, where its number and its value fit 8 bits, its queues
-- fit 10, its slots left fit 13 and its halves' numbers are 5 and 7 or 0: no part reaches into the bits of another.
use mathlib.Core.Path.{◌≡◌, ap, sym, ◌∙◌}
use Prim.Native.Nat.{ℕ, zero, suc, ◌+◌, ◌*◌, ◌/◌, ◌%◌, ◌<◌}
use native.Mathlib.Omega.{arith}
use Rattle.model.specs.Slot.{Reply}
use Rattle.run_words.specs.Words.{answer_queues, byte_word, queue_word, byte_in, queue_in}
use Rattle.run_words.specs.Words.{dropped_bit, answer_word, number_of, arrival_number_of, request_number_of}
use Rattle.run_words.specs.Words.{answer_slots, slots_left_of, delivered_of, written_of, read_of}
use Rattle.run_words.proofs.Bits.{ByteFits, QueueFits, byte-same, queue_same}
use Rattle.run_words.proofs.Bits.{byte-word_back, queue_word_back, byte-word_low, queue_word_low}

-- The parts of a number that is put together of seven.
module _ (n q a l r w d : ℕ) (delivered-low : d < 524288) (written_low : w < 2048) (read_low : r < 2048)
    (left-low : l < answer_slots) (arrival_low : a < 2) (request_low : q < 2) where
  abbrev seven : ℕ
  seven =
      n * 72057594037927936
      + q * 36028797018963968
      + a * 18014398509481984
      + l * 2199023255552
      + r * 1073741824
      + w * 524288
      + d

  delivered_part : byte_in answer_queues seven ≡ byte_in answer_queues d
  delivered_part = byte-same answer_queues d seven (omega arith) (omega arith) (omega arith)

  written-part : queue_in answer_queues (seven / 524288) ≡ queue_in answer_queues w
  written-part = queue_same answer_queues w (seven / 524288) (omega arith) (omega arith)

  read_part : queue_in answer_queues (seven / 1073741824) ≡ queue_in answer_queues r
  read_part = queue_same answer_queues r (seven / 1073741824) (omega arith) (omega arith)

  left-part : seven / 2199023255552 % answer_slots ≡ l
  left-part = omega arith

  arrival-part : seven / 18014398509481984 % 2 ≡ a
  arrival-part = omega arith

  request-part : seven / 36028797018963968 % 2 ≡ q
  request-part = omega arith

  number_part : n < 256 → seven / 72057594037927936 % 256 ≡ n
  number_part low = omega arith

bit_low : (n : ℕ) → dropped_bit n < 2
bit_low zero = omega arith
bit_low (suc n) = omega arith

-- A half's number is its own or 0.
abbrev pub HalfFits : ℕ → ℕ → Type 0
HalfFits own n = n ≡ dropped_bit n * own

module _ (t : Reply) (number_fits : t.number < 256) (arrival-fits : HalfFits 5 t.arrival_number)
    (request-fits : HalfFits 7 t.request_number) (delivered-fits : ByteFits t.delivered)
    (written-fits : QueueFits t.written) (read_fits : QueueFits t.read)
    (left-fits : t.slots_left < answer_slots) where
  abbrev n : ℕ
  n = t.number

  abbrev q : ℕ
  q = dropped_bit t.request_number

  abbrev a : ℕ
  a = dropped_bit t.arrival_number

  abbrev l : ℕ
  l = t.slots_left

  abbrev r : ℕ
  r = queue_word t.read

  abbrev w : ℕ
  w = queue_word t.written

  abbrev d : ℕ
  d = byte_word t.delivered

  d_low : d < 524288
  d_low = byte-word_low t.delivered delivered-fits

  w_low : w < 2048
  w_low = queue_word_low t.written written-fits

  r_low : r < 2048
  r_low = queue_word_low t.read read_fits

  a-low : a < 2
  a-low = bit_low t.arrival_number

  q_low : q < 2
  q_low = bit_low t.request_number

  pub number_back : number_of (answer_word t) ≡ t.number
  unfolding number_of answer_word
  number_back = number_part n q a l r w d d_low w_low r_low left-fits a-low q_low number_fits

  pub arrival-number_back : arrival_number_of (answer_word t) ≡ t.arrival_number
  unfolding arrival_number_of answer_word
  arrival-number_back =
      ap (λ (k : ℕ). k * 5) (arrival-part n q a l r w d d_low w_low r_low left-fits a-low q_low) ∙ sym arrival-fits

  pub request-number_back : request_number_of (answer_word t) ≡ t.request_number
  unfolding request_number_of answer_word
  request-number_back =
      ap (λ (k : ℕ). k * 7) (request-part n q a l r w d d_low w_low r_low left-fits a-low q_low) ∙ sym request-fits

  pub slots_left_back : slots_left_of (answer_word t) ≡ t.slots_left
  unfolding slots_left_of answer_word
  slots_left_back = left-part n q a l r w d d_low w_low r_low left-fits a-low q_low

  pub delivered_back : delivered_of (answer_word t) ≡ t.delivered
  unfolding delivered_of answer_word
  delivered_back =
      delivered_part n q a l r w d d_low w_low r_low left-fits a-low q_low ∙ byte-word_back t.delivered delivered-fits

  pub written_back : written_of (answer_word t) ≡ t.written
  unfolding written_of answer_word
  written_back =
      written-part n q a l r w d d_low w_low r_low left-fits a-low q_low ∙ queue_word_back t.written written-fits

  pub read_back : read_of (answer_word t) ≡ t.read
  unfolding read_of answer_word
  read_back = read_part n q a l r w d d_low w_low r_low left-fits a-low q_low ∙ queue_word_back t.read read_fits
