-- A script's bytes pay for its slots (`judged_pays`): a command has two bytes or more for each half of its slot, a
-- command is at most 65,535 slots, a value that arrives is a byte, and a fault's offset is within the script.
use mathlib.Core.Path.{◌≡◌, refl, subst}
use mathlib.Core.Bool.{Bool, true, false}
use mathlib.Core.List.{List, [], ◌∷◌, ◌++◌}
use mathlib.Core.Option.{Option, some, none}
use Prim.Native.Nat.{ℕ, zero, suc, ◌+◌, ◌*◌, ◌≤◌, ◌<◌}
use native.Mathlib.Omega.{arith}
use lib.Dec.{ltb}
use lib.ListN.{length, drop, get_or, length-drop, length-append, length-replicate}
use borrow.Author.Tests.{ltb-false}
use Rattle.model.specs.Basics.{choose, All}
use Rattle.model.specs.Slot.{Call}
use Rattle.model.specs.Calls.{idle, idles}
use Rattle.model.proofs.basics.AllOf.{all_append}
use Rattle.script_commands.specs.Commands as of
use Rattle.script_commands.specs.Scripts.{Reading, refused, taken, out_of_place, read_known, read_code, read_command, Script}
use Rattle.script_commands.specs.Scripts.{after_end, with_command, go_on, judge_within, judge_from, judge}
use Rattle.script_text.specs.Run.{most_bytes, slots_of, slots_of_all}
use Rattle.script_text.proofs.SlotCharges.{halves_of, ArrivalBelow}

-- A script is bytes.
abbrev pub Bytes : List ℕ → Type 0
Bytes bytes = All (λ (x : ℕ). x < 256) bytes

pub bytes-at : (bytes : List ℕ) → ((i : ℕ) → get_or bytes i 0 < 256) → Bytes bytes
bytes-at [] h = tt
bytes-at (x ∷ bytes) h = (h 0, bytes-at bytes (λ i. h (suc i)))

bytes-dropped : (n : ℕ) (bytes : List ℕ) → Bytes bytes → Bytes (drop n bytes)
bytes-dropped zero bytes h = h
bytes-dropped (suc n) [] h = tt
bytes-dropped (suc n) (x ∷ bytes) h = bytes-dropped n bytes h.1

-- A number that is read fits its width.
number_fits : (n : ℕ) (bytes : List ℕ) → Bytes bytes → of.number_in n bytes < of.bound n
number_fits zero bytes h = omega arith
number_fits (suc n) [] h = omega (arith, number_fits n [] tt)
number_fits (suc n) (x ∷ bytes) h = omega (arith, h.0, number_fits n bytes h.1)

-- Idle slots have no half, so nothing arrives in them.
idles-without_half : (n : ℕ) → halves_of (idles n) ≡ 0
idles-without_half zero = refl
idles-without_half (suc n) = omega (arith, idles-without_half n)

idles-without_arrival : (n : ℕ) → All (ArrivalBelow 256) (idles n)
idles-without_arrival zero = tt
idles-without_arrival (suc n) = (tt, idles-without_arrival n)

halves_append : (xs ys : List Call) → halves_of (xs ++ ys) ≡ halves_of xs + halves_of ys
halves_append [] ys = omega arith
halves_append (call ∷ xs) ys = omega (arith, halves_append xs ys)

-- A command of n bytes: two for each half, and one is left where it is the end.
pub record CommandPays (c : of.Command) (n : ℕ) : Type 0 where
  pub halves_paid : 2 * halves_of (slots_of c) + choose (of.is_end c.kind) 1 0 ≤ n
  pub slots_few : length (slots_of c) ≤ 65_535
  pub values_small : All (ArrivalBelow 256) (slots_of c)

kind_pays : (k : of.Kind) (bytes : List ℕ) → Bytes bytes
    → CommandPays (of.command k (of.operands_in (of.row k).operands bytes)) (1 + of.widths (of.row k).operands)
kind_pays of.sizes bytes h = record { halves_paid = omega arith; slots_few = omega arith; values_small = tt }
kind_pays of.idle bytes h = record { halves_paid = omega arith; slots_few = omega arith; values_small = (tt, tt) }
kind_pays of.arrive bytes h = record {
  halves_paid = omega arith;
  slots_few = omega arith;
  values_small = (number_fits 1 (drop 1 bytes) (bytes-dropped 1 bytes h), tt);
}
kind_pays of.ask bytes h = record { halves_paid = omega arith; slots_few = omega arith; values_small = (tt, tt) }
kind_pays of.both bytes h = record {
  halves_paid = omega arith;
  slots_few = omega arith;
  values_small = (number_fits 1 (drop 1 bytes) (bytes-dropped 1 bytes h), tt);
}
kind_pays of.idles bytes h = record {
  halves_paid = omega (arith, idles-without_half (of.number_in 2 bytes));
  slots_few = omega (arith, length-replicate (of.number_in 2 bytes) idle, number_fits 2 bytes h);
  values_small = idles-without_arrival (of.number_in 2 bytes);
}
kind_pays of.end bytes h = record { halves_paid = omega arith; slots_few = omega arith; values_small = tt }

-- What the reader answers where these bytes are left: a refusal's number has two digits, and a command that is taken
-- has a byte or more, and no more than are left.
data ReadingSays (bytes : List ℕ) : Reading → Type 0 where
  says_refused : (n : ℕ) → 1 ≤ n → n < 100 → ReadingSays bytes (refused n)
  says_taken : (c : of.Command) (n : ℕ) → 1 ≤ n → n ≤ length bytes → CommandPays c n → ReadingSays bytes (taken c n)

known_says : (first : Bool) (k : of.Kind) (code : ℕ) (bytes : List ℕ) → Bytes bytes
    → ReadingSays (code ∷ bytes) (read_known first k bytes)
known_says first k code bytes h = by_place (out_of_place first k)
  where
    widths : ℕ
    widths = of.widths (of.row k).operands

    read : Reading
    read = taken (of.command k (of.operands_in (of.row k).operands bytes)) (1 + widths)

    by_length : (t : Bool) → ltb (length bytes) widths ≡ t → ReadingSays (code ∷ bytes) (choose t (refused 13) read)
    by_length true t = says_refused 13 (omega arith) (omega arith)
    by_length false t =
        says_taken _ (1 + widths) (omega arith) (omega (arith, ltb-false (length bytes) widths t)) (kind_pays k bytes h)

    by_place : (t : Bool)
        → ReadingSays (code ∷ bytes) (choose t (refused 14) (choose (ltb (length bytes) widths) (refused 13) read))
    by_place true = says_refused 14 (omega arith) (omega arith)
    by_place false = by_length (ltb (length bytes) widths) refl

code_says : (first : Bool) (found : Option of.Kind) (code : ℕ) (bytes : List ℕ) → Bytes bytes
    → ReadingSays (code ∷ bytes) (read_code first found bytes)
code_says first none code bytes h = says_refused 12 (omega arith) (omega arith)
code_says first (some k) code bytes h = known_says first k code bytes h

reading_says : (first : Bool) (bytes : List ℕ) → Bytes bytes → ReadingSays bytes (read_command first bytes)
reading_says first [] h = says_refused 15 (omega arith) (omega arith)
reading_says first (code ∷ bytes) h = code_says first (of.kind_of code) code bytes h.1

-- The script of n bytes from an offset on, judged: where it is good, its bytes pay for the halves of its slots, and
-- some are left.
pub record ScriptPays (left offset n : ℕ) (s : Script) : Type 0 where
  pub halves_paid : s.number ≡ 0 → 2 * halves_of (slots_of_all s.commands) + left ≤ n
  pub slots_few : length (slots_of_all s.commands) ≤ 65_535 * n
  pub values_small : All (ArrivalBelow 256) (slots_of_all s.commands)
  pub number_small : s.number < 100
  pub offset_within : s.offset ≤ offset + n

nothing-pays : (left offset n number place : ℕ) → (number ≡ 0 → left ≤ n) → number < 100 → place ≤ offset + n
    → ScriptPays left offset n (record { commands = []; number = number; offset = place })
nothing-pays left offset n number place f l m = record {
  halves_paid = λ e. omega (arith, f e);
  slots_few = omega arith;
  values_small = tt;
  number_small = l;
  offset_within = m;
}

after_end_pays : (offset : ℕ) (bytes : List ℕ) → ScriptPays 0 offset (length bytes) (after_end offset bytes)
after_end_pays offset [] = nothing-pays 0 offset 0 0 0 (λ e. omega arith) (omega arith) (omega arith)
after_end_pays offset (x ∷ bytes) =
    nothing-pays 0 offset (length (x ∷ bytes)) 15 offset (λ e. omega arith) (omega arith) (omega arith)

-- One command more, and what the script after it pays.
command-pays : (c : of.Command) (n m whole left offset : ℕ) (s : Script) → 1 ≤ n → n + m ≡ whole → CommandPays c n
    → ScriptPays left (offset + n) m s
    → ScriptPays (left + choose (of.is_end c.kind) 1 0) offset whole (with_command c s)
command-pays c n m whole left offset s l e now later = record {
  halves_paid = λ z.
      omega (arith, e, now.halves_paid, later.halves_paid z, halves_append (slots_of c) (slots_of_all s.commands));
  slots_few =
      omega (arith, l, e, now.slots_few, later.slots_few, length-append (slots_of c) (slots_of_all s.commands));
  values_small =
      all_append (ArrivalBelow 256) (slots_of c) (slots_of_all s.commands) now.values_small later.values_small;
  number_small = later.number_small;
  offset_within = omega (arith, e, later.offset_within);
}

-- What a reading makes of the script. One byte at least is left: that of the end.
go_on_pays : (offset : ℕ) (bytes : List ℕ) (rest : ℕ → Script) (r : Reading) → ReadingSays bytes r
    → ((n : ℕ) → ScriptPays 1 (offset + n) (length (drop n bytes)) (rest n))
    → ScriptPays 1 offset (length bytes) (go_on r offset bytes rest)
go_on_pays offset bytes rest r (says_refused n l m) later =
    nothing-pays 1 offset (length bytes) n offset (λ e. absurd (omega (arith, e, l))) m (omega arith)
go_on_pays offset bytes rest r (says_taken c n l m now) later = by_end (of.is_end c.kind) refl
  where
    whole : n + length (drop n bytes) ≡ length bytes
    whole = omega (arith, m, length-drop n bytes)

    by_end : (t : Bool) → of.is_end c.kind ≡ t
        → ScriptPays 1 offset (length bytes)
        (with_command c (choose t (after_end (offset + n) (drop n bytes)) (rest n)))
    by_end true e =
        subst (λ (t : Bool). ScriptPays (0 + choose t 1 0) offset (length bytes)
        (with_command c (after_end (offset + n) (drop n bytes)))) e
        (command-pays c n (length (drop n bytes)) (length bytes) 0 offset (after_end (offset + n) (drop n bytes)) l whole
        now (after_end_pays (offset + n) (drop n bytes)))
    by_end false e =
        subst (λ (t : Bool). ScriptPays (1 + choose t 1 0) offset (length bytes) (with_command c (rest n))) e
        (command-pays c n (length (drop n bytes)) (length bytes) 1 offset (rest n) l whole now (later n))

judged_within_pays : (steps : ℕ) (first : Bool) (offset : ℕ) (bytes : List ℕ) → Bytes bytes
    → ScriptPays 1 offset (length bytes) (judge_within steps first offset bytes)
judged_within_pays zero first offset bytes h =
    nothing-pays 1 offset (length bytes) 15 offset (λ e. absurd (omega (arith, e))) (omega arith) (omega arith)
judged_within_pays (suc steps) first offset bytes h =
    go_on_pays offset bytes (λ n. judge_within steps false (offset + n) (drop n bytes)) (read_command first bytes)
    (reading_says first bytes h)
    (λ n. judged_within_pays steps false (offset + n) (drop n bytes) (bytes-dropped n bytes h))

pub judged_pays : (bytes : List ℕ) → Bytes bytes → ScriptPays 1 0 (length bytes) (judge bytes)
unfolding judge judge_from
judged_pays bytes h = judged_within_pays (suc (length bytes)) true 0 bytes h

-- The most slots of a script.
pub slots_within : (bytes : List ℕ) → Bytes bytes
    → length (slots_of_all (judge bytes).commands) ≤ 65_535 * length bytes
slots_within bytes h = (judged_pays bytes h).slots_few

-- So 32 bits hold every slot number.
pub slots_below : (bytes : List ℕ) → Bytes bytes → length bytes ≤ most_bytes
    → length (slots_of_all (judge bytes).commands) < 4_294_967_296
slots_below bytes h l = omega (arith, l, slots_within bytes h)
