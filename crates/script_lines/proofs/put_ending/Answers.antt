-- `script_lines::put_ending` meets its contract: its letter, the slots and the newline are the line.
use Rattle.std.proofs.Common.{arith}
use Rattle.script_lines.specs.Lines.{ending}
use Rattle.script_lines.proofs.Pieces.{rest_fits, puts_piece, all_put, line_starts}
use Rattle.script_lines.proofs.put_ending.Goals as goal

pub put_byte-behind_letter-requires : goal.put_byte-behind_letter-requires
put_byte-behind_letter-requires c =
    let begun = line_starts (ending c.args.slots) c.args.place c.args.output.now c.requires in
    omega (arith, rest_fits begun)

pub put_number-behind_slots-requires : goal.put_number-behind_slots-requires
put_number-behind_slots-requires c =
    let begun = line_starts (ending c.args.slots) c.args.place c.args.output.now c.requires in
    let after-letter = puts_piece begun c.put_byte-behind_letter.ensures in
    omega (arith, rest_fits after-letter)

pub put_byte-requires : goal.put_byte-requires
put_byte-requires c =
    let begun = line_starts (ending c.args.slots) c.args.place c.args.output.now c.requires in
    let after-letter = puts_piece begun c.put_byte-behind_letter.ensures in
    let after-slots = puts_piece after-letter c.put_number-behind_slots.ensures in
    omega (arith, rest_fits after-slots)

pub returns : goal.returns
returns c =
    let begun = line_starts (ending c.args.slots) c.args.place c.args.output.now c.requires in
    let after-letter = puts_piece begun c.put_byte-behind_letter.ensures in
    let after-slots = puts_piece after-letter c.put_number-behind_slots.ensures in
    let after-newline = puts_piece after-slots c.put_byte.ensures in
    all_put after-newline
