-- Document 01's listing, and scripts of which each shows a sentence of "Scripts": the definitions compute to these very
-- bytes; and the store that a script leaves.
use mathlib.Core.Path.{◌≡◌, refl}
use mathlib.Core.List.{List, [], ◌∷◌, ◌++◌, map}
use Prim.Native.Nat.{ℕ}
use Prim.Native.Char.{code}
use Prim.Native.String.{String, [] as no_text, ◌∷◌ as ◌then◌}
use lib.ListN.{replicate}
use Rattle.script_commands.specs.Scripts.{judge, judge_from}
use Rattle.script_lines.specs.Lines.{text, decimal, line_text}
use Rattle.script_text.specs.Run.{script_lines, script_store, store_lent, program_text}

-- A row: a script, how many bytes of store it has, and the text that it is to print.
pub record Example : Type 0 where
  pub script : List ℕ
  pub store_length : ℕ
  pub printed : String

abbrev example : List ℕ → ℕ → String → Example
example script store_length printed = record { script = script; store_length = store_length; printed = printed }

-- What a row prints, and its text as bytes.
abbrev pub prints : Example → List ℕ
prints row = text (script_lines row.script (replicate row.store_length 0))

abbrev ascii : String → List ℕ
ascii no_text = []
ascii (c then s) = code c ∷ ascii s

abbrev printed_bytes : Example → List ℕ
printed_bytes row = ascii row.printed

-- Each row prints its text.
abbrev AsPrinted : List Example → Type 0
AsPrinted rows = map prints rows ≡ map printed_bytes rows

-- "Input (hex) .. prints": Q 1, b 2, K 2, so that 4 bytes of store are enough. Request 2.6: "The listing gains
-- `M 7 0 2` before its last D line."
abbrev pub listing : Example
listing =
    example
    (0x10 ∷ 0x01 ∷ 0x02 ∷ 0x02 ∷
    0x03 ∷ 0x00 ∷ 0x41 ∷ 0x00 ∷
    0x01 ∷ 0x00 ∷ 0x42 ∷
    0x02 ∷ 0x00 ∷
    0x02 ∷ 0x00 ∷
    0x01 ∷ 0x00 ∷ 0x43 ∷
    0x01 ∷ 0x00 ∷ 0x44 ∷
    0x00 ∷
    0x02 ∷ 0x00 ∷
    0x04 ∷ 0x02 ∷ 0x00 ∷
    0x05 ∷ [])
    4
    "D 2 0 65\nR 3 7\nD 4 0 66\nM 7 0 2\nD 9 0 67\nE 10\n"

listing_prints : AsPrinted (listing ∷ [])
unfolding script_lines judge judge_from decimal line_text
listing_prints = refl

-- It leaves the block of 43 and 44 that was written, and all other bytes as they were.
listing_leaves : script_store listing.script (replicate 5 0xff) ≡ (0x43 ∷ 0x44 ∷ 0xff ∷ 0xff ∷ 0xff ∷ [])
unfolding script_store judge judge_from
listing_leaves = refl

-- Request 2.1: a full queue that is read and refilled in one slot; and, a case of request 2.5, the same without the
-- first idle slot, where the block is in store: the arrival is dropped with 5, and the request runs. The first of four
-- idle slots then reads the block, whose byte leaves in the next.
abbrev swap_script_after : List ℕ → List ℕ
swap_script_after first =
    0x10 ∷ 0x01 ∷ 0x02 ∷ 0x01 ∷ first
    ++ (0x01 ∷ 0x00 ∷ 0x41 ∷ 0x01 ∷ 0x00 ∷ 0x42 ∷ 0x03 ∷ 0x00 ∷ 0x43 ∷ 0x00 ∷ 0x04 ∷ 0x04 ∷ 0x00 ∷ 0x05 ∷ [])

abbrev swap_scripts : List Example
swap_scripts =
    example (swap_script_after (0x00 ∷ [])) 2 "D 5 0 65\nE 8\n" ∷
    example (swap_script_after []) 2 "R 2 5\nM 3 0 1\nD 4 0 65\nE 7\n" ∷ []

swap_scripts_print : AsPrinted swap_scripts
unfolding script_lines judge judge_from decimal line_text
swap_scripts_print = refl

-- It leaves the block of 42 and 43, the byte that came in the slot of its request.
swap_leaves : script_store (swap_script_after (0x00 ∷ [])) (replicate 3 0xff) ≡ (0x42 ∷ 0x43 ∷ 0xff ∷ [])
unfolding script_store judge judge_from
swap_leaves = refl

-- Request 2.5, "each half has its own answer, so both numbers may come together": a stop is the only answer of a slot
-- whose arrival would be dropped too; and slots that deliver and print 5, 7 or both behind it. Request 2.6: "after that
-- slot's D and R lines": slot 9 reads, too.
abbrev half_scripts : List Example
half_scripts =
    example
    (0x10 ∷ 0x01 ∷ 0x01 ∷ 0x01 ∷ 0x01 ∷ 0x00 ∷ 0x41 ∷ 0x03 ∷ 0x00 ∷ 0x42 ∷ 0x01 ∷ 0x05 ∷ [])
    1
    "R 1 6\nE 1\n" ∷
    example
    (0x10 ∷ 0x02 ∷ 0x02 ∷ 0x01 ∷
    0x01 ∷ 0x00 ∷ 0x42 ∷
    0x01 ∷ 0x01 ∷ 0x43 ∷
    0x01 ∷ 0x01 ∷ 0x44 ∷
    0x00 ∷
    0x01 ∷ 0x00 ∷ 0x46 ∷
    0x01 ∷ 0x00 ∷ 0x47 ∷
    0x02 ∷ 0x00 ∷
    0x02 ∷ 0x01 ∷
    0x02 ∷ 0x01 ∷
    0x03 ∷ 0x01 ∷ 0x4b ∷ 0x01 ∷
    0x02 ∷ 0x01 ∷
    0x05 ∷ [])
    4
    "R 5 5\nM 7 0 2\nD 9 0 66\nR 9 5\nR 9 7\nM 9 1 1\nD 10 1 67\nR 10 7\nE 11\n" ∷ []

half_scripts_print : AsPrinted half_scripts
unfolding script_lines judge judge_from decimal line_text
half_scripts_print = refl

-- Request 2.6, "a line `M t q n` for each read (slot, queue, slots left)": Q 1, b 2, where the read is for the slot's
-- own request, whose byte leaves L slots later; and Q 1, b 3, where it is in the second of five idle slots that are one
-- command, and the byte in the third.
abbrev refill_scripts : List Example
refill_scripts =
    example
    (0x10 ∷ 0x01 ∷ 0x02 ∷ 0x01 ∷
    0x01 ∷ 0x00 ∷ 0x41 ∷
    0x01 ∷ 0x00 ∷ 0x42 ∷
    0x00 ∷
    0x02 ∷ 0x00 ∷
    0x04 ∷ 0x02 ∷ 0x00 ∷
    0x05 ∷ [])
    2
    "M 3 0 2\nD 5 0 65\nE 6\n" ∷
    example
    (0x10 ∷ 0x01 ∷ 0x03 ∷ 0x01 ∷
    0x01 ∷ 0x00 ∷ 0x41 ∷
    0x01 ∷ 0x00 ∷ 0x42 ∷
    0x01 ∷ 0x00 ∷ 0x43 ∷
    0x02 ∷ 0x00 ∷
    0x04 ∷ 0x05 ∷ 0x00 ∷
    0x05 ∷ [])
    3
    "M 5 0 1\nD 6 0 65\nE 9\n" ∷ []

refill_scripts_print : AsPrinted refill_scripts
unfolding script_lines judge judge_from decimal line_text
refill_scripts_print = refl

-- "A script refusal prints only S n offset": an unknown command, operands cut short, a first command other than sizes,
-- sizes again, bytes that run out where a command is due, bytes that follow the end. "At a command byte 12 comes before
-- 14, 14 before 13."
abbrev script_refusals : List Example
script_refusals =
    example (0x10 ∷ 0x01 ∷ 0x01 ∷ 0x01 ∷ 0x06 ∷ []) 1 "S 12 4\n" ∷
    example (0x10 ∷ 0x01 ∷ 0x01 ∷ 0x01 ∷ 0x00 ∷ 0x03 ∷ 0x00 ∷ 0x41 ∷ []) 1 "S 13 5\n" ∷
    example (0x00 ∷ 0x05 ∷ []) 1 "S 14 0\n" ∷
    example (0x10 ∷ 0x01 ∷ 0x01 ∷ 0x01 ∷ 0x10 ∷ 0x01 ∷ 0x01 ∷ 0x01 ∷ 0x05 ∷ []) 1 "S 14 4\n" ∷
    example [] 1 "S 15 0\n" ∷
    example (0x10 ∷ 0x01 ∷ 0x01 ∷ 0x01 ∷ 0x00 ∷ []) 1 "S 15 5\n" ∷
    example (0x10 ∷ 0x01 ∷ 0x01 ∷ 0x01 ∷ 0x05 ∷ 0x06 ∷ []) 1 "S 15 5\n" ∷
    example (0x06 ∷ []) 1 "S 12 0\n" ∷
    example (0x01 ∷ []) 1 "S 14 0\n" ∷ []

script-refusals_print : AsPrinted script_refusals
unfolding script_lines judge judge_from decimal line_text
script-refusals_print = refl

-- "Input over 65,536 bytes prints only S 15 65536", whatever fault it has before; 65,536 bytes are judged as any
-- script.
abbrev long_inputs : List Example
long_inputs =
    example (replicate 65_537 0x06) 1 "S 15 65536\n" ∷
    example (replicate 65_536 0x06) 1 "S 12 0\n" ∷ []

long_inputs_print : AsPrinted long_inputs
unfolding script_lines judge judge_from decimal line_text
long_inputs_print = refl

-- "Refusal 1, or a store that is too short, prints R 0 n and E 0", also where the script has no slot. 1 comes before 2,
-- and a script refusal before both.
abbrev start_refusals : List Example
start_refusals =
    example (0x10 ∷ 0x00 ∷ 0x02 ∷ 0x02 ∷ 0x02 ∷ 0x00 ∷ 0x05 ∷ []) 4 "R 0 1\nE 0\n" ∷
    example (0x10 ∷ 0x01 ∷ 0x02 ∷ 0x02 ∷ 0x02 ∷ 0x00 ∷ 0x05 ∷ []) 3 "R 0 2\nE 0\n" ∷
    example (0x10 ∷ 0x01 ∷ 0x02 ∷ 0x02 ∷ 0x05 ∷ []) 3 "R 0 2\nE 0\n" ∷
    example (0x10 ∷ 0x41 ∷ 0x01 ∷ 0x01 ∷ 0x05 ∷ []) 3 "R 0 1\nE 0\n" ∷
    example (0x10 ∷ 0x00 ∷ 0x02 ∷ 0x02 ∷ 0x06 ∷ []) 3 "S 12 4\n" ∷ []

start_refusals_print : AsPrinted start_refusals
unfolding script_lines judge judge_from decimal line_text
start_refusals_print = refl

-- Where nothing runs the store is left as it came: on a refusal of the script, or of its sizes or its store; and where
-- the input is too long, here a script that else would write a byte.
abbrev store_of : Example → List ℕ
store_of row = replicate row.store_length 0xff

refusals-leave : map (λ (row : Example). script_store row.script (store_of row)) (script_refusals ++ start_refusals)
    ≡ map store_of (script_refusals ++ start_refusals)
unfolding script_store judge judge_from
refusals-leave = refl

abbrev writing_for : ℕ → List ℕ
writing_for n =
    0x10 ∷ 0x01 ∷ 0x01 ∷ 0x01 ∷
    0x01 ∷ 0x00 ∷ 0x41 ∷
    replicate n 0x00 ++
    0x05 ∷ []

long_input_leaves : script_store (writing_for 65_529) (0xff ∷ []) ≡ (0xff ∷ [])
unfolding script_store
long_input_leaves = refl

short-input_writes : script_store (writing_for 9) (0xff ∷ []) ≡ (0x41 ∷ [])
unfolding script_store judge judge_from
short-input_writes = refl

-- "R t n (slot about to run, refusal) .. E t (slots accepted)": a slot that is stopped has no number, so that t may
-- come again, and a slot that runs without its request has one.
-- "A 16-bit count, low byte first, of idle slots (0 is none)": 259 and none.
abbrev counts : List Example
counts =
    example
    (0x10 ∷ 0x01 ∷ 0x01 ∷ 0x01 ∷ 0x00 ∷ 0x02 ∷ 0x01 ∷ 0x02 ∷ 0x00 ∷ 0x00 ∷ 0x05 ∷ [])
    1
    "R 1 6\nR 1 7\nE 3\n" ∷
    example
    (0x10 ∷ 0x01 ∷ 0x01 ∷ 0x01 ∷ 0x04 ∷ 0x03 ∷ 0x01 ∷ 0x04 ∷ 0x00 ∷ 0x00 ∷ 0x05 ∷ [])
    1
    "E 259\n" ∷ []

counts_print : AsPrinted counts
unfolding script_lines judge judge_from decimal line_text
counts_print = refl

-- Q 3, b 1, K 2, and operands that tell their places: a byte of queue 0 arrives while queue 2 is asked, each of which
-- then is read and delivers its own; queue 3 is unknown; queue 1 is full after two blocks.
abbrev operand_places : List Example
operand_places =
    example
    (0x10 ∷ 0x03 ∷ 0x01 ∷ 0x02 ∷
    0x01 ∷ 0x02 ∷ 0x42 ∷
    0x03 ∷ 0x00 ∷ 0x41 ∷ 0x02 ∷
    0x00 ∷
    0x02 ∷ 0x00 ∷
    0x00 ∷
    0x01 ∷ 0x03 ∷ 0x43 ∷
    0x01 ∷ 0x01 ∷ 0x44 ∷
    0x01 ∷ 0x01 ∷ 0x45 ∷
    0x01 ∷ 0x01 ∷ 0x46 ∷
    0x05 ∷ [])
    6
    "M 1 2 1\nD 2 2 66\nM 3 0 1\nD 4 0 65\nR 5 4\nR 7 5\nE 8\n" ∷ []

operand-places_print : AsPrinted operand_places
unfolding script_lines judge judge_from decimal line_text
operand-places_print = refl

-- "lends a store of 65,536": what the program prints for the listing, for sizes that need 65,536 bytes of store, and
-- for sizes that need 65,540.
abbrev program_inputs : List Example
program_inputs =
    listing ∷
    example (0x10 ∷ 64 ∷ 8 ∷ 128 ∷ 0x05 ∷ []) store_lent "E 0\n" ∷
    example (0x10 ∷ 20 ∷ 29 ∷ 113 ∷ 0x05 ∷ []) store_lent "R 0 2\nE 0\n" ∷ []

program_prints : map (λ (row : Example). program_text row.script) program_inputs ≡ map printed_bytes program_inputs
unfolding program_text script_lines judge judge_from decimal line_text
program_prints = refl
