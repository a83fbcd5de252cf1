-- `script_lines::put_refill` meets its contract: its letter, the slot, the queue, the slots left and the newline are
-- the line.
use Rattle.std.proofs.Common.{arith}
use Rattle.script_lines.specs.Lines.{refill}
use Rattle.script_lines.proofs.Pieces.{rest_fits, puts_piece, all_put, line_starts}
use Rattle.script_lines.proofs.put_refill.Goals as goal

pub put_byte-behind_letter-requires : goal.put_byte-behind_letter-requires
put_byte-behind_letter-requires c =
    let begun = line_starts (refill c.args.slot c.args.queue c.args.slots_left) c.args.place c.args.output.now c.requires in
    omega (arith, rest_fits begun)

pub put_number-behind_slot-requires : goal.put_number-behind_slot-requires
put_number-behind_slot-requires c =
    let begun = line_starts (refill c.args.slot c.args.queue c.args.slots_left) c.args.place c.args.output.now c.requires in
    let after-letter = puts_piece begun c.put_byte-behind_letter.ensures in
    omega (arith, rest_fits after-letter)

pub put_number-behind_read-requires : goal.put_number-behind_read-requires
put_number-behind_read-requires c =
    let begun = line_starts (refill c.args.slot c.args.queue c.args.slots_left) c.args.place c.args.output.now c.requires in
    let after-letter = puts_piece begun c.put_byte-behind_letter.ensures in
    let after-slot = puts_piece after-letter c.put_number-behind_slot.ensures in
    omega (arith, rest_fits after-slot)

pub put_number-behind_left-requires : goal.put_number-behind_left-requires
put_number-behind_left-requires c =
    let begun = line_starts (refill c.args.slot c.args.queue c.args.slots_left) c.args.place c.args.output.now c.requires in
    let after-letter = puts_piece begun c.put_byte-behind_letter.ensures in
    let after-slot = puts_piece after-letter c.put_number-behind_slot.ensures in
    let after-read = puts_piece after-slot c.put_number-behind_read.ensures in
    omega (arith, rest_fits after-read)

pub put_byte-requires : goal.put_byte-requires
put_byte-requires c =
    let begun = line_starts (refill c.args.slot c.args.queue c.args.slots_left) c.args.place c.args.output.now c.requires in
    let after-letter = puts_piece begun c.put_byte-behind_letter.ensures in
    let after-slot = puts_piece after-letter c.put_number-behind_slot.ensures in
    let after-read = puts_piece after-slot c.put_number-behind_read.ensures in
    let after-left = puts_piece after-read c.put_number-behind_left.ensures in
    omega (arith, rest_fits after-left)

pub returns : goal.returns
returns c =
    let begun = line_starts (refill c.args.slot c.args.queue c.args.slots_left) c.args.place c.args.output.now c.requires in
    let after-letter = puts_piece begun c.put_byte-behind_letter.ensures in
    let after-slot = puts_piece after-letter c.put_number-behind_slot.ensures in
    let after-read = puts_piece after-slot c.put_number-behind_read.ensures in
    let after-left = puts_piece after-read c.put_number-behind_left.ensures in
    let after-newline = puts_piece after-left c.put_byte.ensures in
    all_put after-newline
