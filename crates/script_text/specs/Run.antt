-- Document 01, "Scripts", and document 02, 2.5 and 2.6: what a script does, as the lines that it prints and the store
-- that it leaves.
use Rattle.std.specs.Prelude.{List, [], ◌∷◌, ◌++◌, ℕ, zero, suc, ◌+◌, ◌*◌, min, eqb, ltb, length, get_or, replicate}
use Rattle.std.proofs.Math.Option.{Option, some, none}
use Rattle.model.specs.Basics.{choose, when, first_refusal}
use Rattle.model.specs.Sizes.{Sizes, sizes, paper, store_bytes}
use Rattle.model.specs.State.{Byte, byte, fresh, making_number}
use Rattle.model.specs.Slot.{Call, Reply}
use Rattle.model.specs.Calls.{idles}
use Rattle.model.specs.Lists.{Step, last_store, list_of, accepted}
use Rattle.script_commands.specs.Commands as of
use Rattle.script_commands.specs.Scripts.{Script, judge}
use Rattle.script_lines.specs.Lines.{Line, delivery, refusal, refill, ending, fault, text}

-- "reads a script of at most 65,536 bytes"
abbrev pub most_bytes : ℕ
most_bytes = 65536

-- Operand i of a command.
abbrev pub operand : of.Command → ℕ → ℕ
operand c i = get_or c.operands i 0

-- The slots of a kind of command, by its operands.
abbrev pub slots_of_kind : of.Kind → (ℕ → ℕ) → List Call
slots_of_kind of.sizes v = []
slots_of_kind of.idle v = idles 1
slots_of_kind of.arrive v = record { arrival = some (byte (v 0) (v 1)); request = none } ∷ []
slots_of_kind of.ask v = record { arrival = none; request = some (v 0) } ∷ []
slots_of_kind of.both v = record { arrival = some (byte (v 0) (v 1)); request = some (v 2) } ∷ []
slots_of_kind of.idles v = idles (v 0)
slots_of_kind of.end v = []

abbrev pub slots_of : of.Command → List Call
slots_of c = slots_of_kind c.kind (operand c)

abbrev pub slots_of_all : List of.Command → List Call
slots_of_all [] = []
slots_of_all (c ∷ cs) = slots_of c ++ slots_of_all cs

-- The sizes that a script gives with its first command.
abbrev pub sizes_of : List of.Command → Sizes
sizes_of [] = sizes 0 0 0
sizes_of (c ∷ cs) = sizes (operand c 0) (operand c 1) (operand c 2)

-- What a slot delivers, t slots having been accepted before it: "D t q v (slot, queue, byte)".
abbrev pub delivery_lines : ℕ → Option Byte → List Line
delivery_lines t none = []
delivery_lines t (some y) = delivery t y.queue y.value ∷ []

-- "R t n (slot about to run, refusal)". Request 2.5: "each half has its own answer": the line of a half that was
-- dropped, with the slot's own number.
abbrev pub half_lines : ℕ → ℕ → List Line
half_lines t zero = []
half_lines t (suc n) = refusal t (suc n) ∷ []

-- Request 2.6: "`slots` prints a line `M t q n` for each read (slot, queue, slots left)".
abbrev pub refill_lines : ℕ → Option ℕ → ℕ → List Line
refill_lines t none n = []
refill_lines t (some q) n = refill t q n ∷ []

-- The lines of a slot that runs: "A slot's D line comes before its R lines, 5 before 7"; the M line "after that slot's
-- D and R lines".
abbrev pub running_lines : ℕ → Reply → List Line
running_lines t r =
    delivery_lines t r.delivered
    ++ (half_lines t r.arrival_number ++ (half_lines t r.request_number ++ refill_lines t r.read r.slots_left))

-- The lines of one slot. A refusal that stops the slot "is then its only answer".
abbrev pub answer_lines : ℕ → Reply → List Line
answer_lines t r = choose (eqb r.number 0) (running_lines t r) (refusal t r.number ∷ [])

-- How many have been accepted with it. A slot that runs without a half counts: "The slot runs without that half".
abbrev pub count_on : ℕ → ℕ → ℕ
count_on t zero = suc t
count_on t (suc n) = t

-- "A refused slot prints R and the script goes on."
abbrev pub slot_lines : ℕ → List Step → List Line
slot_lines t [] = []
slot_lines t (step ∷ steps) =
    answer_lines t step.reply ++ slot_lines (count_on t step.reply.number) steps

-- All lines of a list of slots: "last E t (slots accepted)"; "The E count is the length of the defined run".
abbrev pub list_lines : List Step → List Line
list_lines steps = slot_lines 0 steps ++ ending (length (accepted steps)) ∷ []

-- "Refusal 1, or a store that is too short": 1 is judged first.
abbrev pub start_number : Sizes → List ℕ → ℕ
start_number s store = first_refusal (making_number paper s ∷ when (ltb (length store) (store_bytes s)) 2 ∷ [])

-- What is run: the slots of a script's commands from a fresh state of its sizes.
abbrev pub script_steps : List of.Command → List ℕ → List Step
script_steps cs store = list_of paper (sizes_of cs) store (slots_of_all cs)

-- The commands of a script that reads well, by the number with which it starts. "prints R 0 n and E 0"
abbrev pub started_lines : ℕ → List of.Command → List ℕ → List Line
started_lines zero cs store = list_lines (script_steps cs store)
started_lines (suc n) cs store = refusal 0 (suc n) ∷ ending 0 ∷ []

abbrev pub started_store : ℕ → List of.Command → List ℕ → List ℕ
started_store zero cs store = last_store paper (fresh paper (sizes_of cs)) store (slots_of_all cs)
started_store (suc n) cs store = store

-- A script judged whole, before any slot runs. "A script refusal prints only S n offset"
abbrev pub judged_lines : Script → List ℕ → List Line
judged_lines script store =
    choose (eqb script.number 0)
    (started_lines (start_number (sizes_of script.commands) store) script.commands store)
    (fault script.number script.offset ∷ [])

abbrev pub judged_store : Script → List ℕ → List ℕ
judged_store script store =
    choose (eqb script.number 0)
    (started_store (start_number (sizes_of script.commands) store) script.commands store)
    store

-- "and input over 65,536 bytes prints only S 15 65536"
unfoldable pub script_lines : List ℕ → List ℕ → List Line
script_lines bytes store =
    choose (ltb most_bytes (length bytes)) (fault 15 most_bytes ∷ []) (judged_lines (judge bytes) store)

unfoldable pub script_store : List ℕ → List ℕ → List ℕ
script_store bytes store = choose (ltb most_bytes (length bytes)) store (judged_store (judge bytes) store)

-- "The program slots reads a script of at most 65,536 bytes and lends a store of 65,536. It prints ..": the text that
-- it prints for an input of any length. What the store holds at first the paper leaves open, and it is zeros.
abbrev pub store_lent : ℕ
store_lent = 65536

unfoldable pub program_text : List ℕ → List ℕ
program_text bytes = text (script_lines bytes (replicate store_lent 0))

-- How much output a script of n bytes can need (`text-fits`, proofs/Bound.antt).
abbrev pub output_bound : ℕ → ℕ
output_bound n = 11 * min n most_bytes + 11
