-- Bytes put over the start of an output: one part behind another, and a command where there is room for it.
use mathlib.Core.Path.{◌≡◌, sym, ◌∙◌}
use mathlib.Core.List.{List, ◌++◌, append_assoc, append-nil}
use Prim.Native.Nat.{ℕ, ◌+◌, ◌-◌, ◌≤◌}
use native.Mathlib.Omega.{arith}
use lib.ListN.{length, take, drop, length-append, length-drop, drop_of_length-le}
use lib.Seq.{take-append_seam, drop-append_seam, drop-drop}
use borrow.Author.Tests.{le-ltb}
use Rattle.script_commands.specs.declared.Command as enum
use Rattle.script_codes.specs.Says.{put_over}
use Rattle.std.specs.Prelude.{Result}
use Rattle.scripts.specs.declared.Refusal.{Refusal}
use Rattle.scripts.specs.Says.{command_bytes_in, CommandWritten}
use Rattle.scripts.proofs.Parts.{rest_from}

-- Bytes put behind those that stand at the start of an output.
pub put_behind : (front bytes output : List ℕ)
    → take (length front) (put_over front output) ++ put_over bytes (drop (length front) (put_over front output))
    ≡ put_over (front ++ bytes) output
put_behind front bytes output =
    rw (
      take-append_seam front (drop (length front) output),
      drop-append_seam front (drop (length front) output),
      drop-drop (length bytes) (length front) output,
      length-append front bytes,
    ) (sym (append_assoc front bytes (drop (length front + length bytes) output)))

pub over_length : (bytes output : List ℕ) → length bytes ≤ length output → length (put_over bytes output) ≡ length output
over_length bytes output room =
    omega (arith, length-append bytes (drop (length bytes) output), length-drop (length bytes) output)

-- A part from a place on is lent, and bytes are put over its start: in the whole they stand behind those before it.
pub part_put : (front bytes output : List ℕ) {output' part' : List ℕ} {at : ℕ} → at ≡ length front
    → output' ≡ put_over front output
    → part' ≡ put_over bytes (take (length output' - at) (drop at output'))
    → take at output' ++ (part' ++ drop (length output' - at) (drop at output')) ≡ put_over (front ++ bytes) output
part_put front bytes output {output'} {part'} {at} place so_far put =
    rw (
      drop_of_length-le (drop at output') {i = length output' - at} (omega (arith, length-drop at output')),
      put,
      rest_from at output',
      append-nil (put_over bytes (drop at output')),
      so_far,
      place,
    ) (put_behind front bytes output)

-- A command written where there is room for it.
pub command-put : {c : enum.Command} {output output' : List ℕ} {r : Result ℕ Refusal} → CommandWritten c output r output'
    → length (command_bytes_in c) ≤ length output → output' ≡ put_over (command_bytes_in c) output
command-put {c} {output} w room = w.output_is ∙ rw (le-ltb (length output) (length (command_bytes_in c)) room)
