-- `script_lines::put_delivery` meets its contract: its letter, the slot, the queue, the byte and the newline are the
-- line.
use Rattle.std.proofs.Common.{arith}
use Rattle.script_lines.specs.Lines.{delivery}
use Rattle.script_lines.proofs.Pieces.{rest_fits, puts_piece, all_put, line_starts}
use Rattle.script_lines.proofs.put_delivery.Goals as goal

pub put_byte-behind_letter-requires : goal.put_byte-behind_letter-requires
put_byte-behind_letter-requires c =
    let begun = line_starts (delivery c.args.slot c.args.queue c.args.value) c.args.place c.args.output.now c.requires in
    omega (arith, rest_fits begun)

pub put_number-behind_slot-requires : goal.put_number-behind_slot-requires
put_number-behind_slot-requires c =
    let begun = line_starts (delivery c.args.slot c.args.queue c.args.value) c.args.place c.args.output.now c.requires in
    let after-letter = puts_piece begun c.put_byte-behind_letter.ensures in
    omega (arith, rest_fits after-letter)

pub put_number-behind_queue-requires : goal.put_number-behind_queue-requires
put_number-behind_queue-requires c =
    let begun = line_starts (delivery c.args.slot c.args.queue c.args.value) c.args.place c.args.output.now c.requires in
    let after-letter = puts_piece begun c.put_byte-behind_letter.ensures in
    let after-slot = puts_piece after-letter c.put_number-behind_slot.ensures in
    omega (arith, rest_fits after-slot)

pub put_number-behind_value-requires : goal.put_number-behind_value-requires
put_number-behind_value-requires c =
    let begun = line_starts (delivery c.args.slot c.args.queue c.args.value) c.args.place c.args.output.now c.requires in
    let after-letter = puts_piece begun c.put_byte-behind_letter.ensures in
    let after-slot = puts_piece after-letter c.put_number-behind_slot.ensures in
    let after-queue = puts_piece after-slot c.put_number-behind_queue.ensures in
    omega (arith, rest_fits after-queue)

pub put_byte-requires : goal.put_byte-requires
put_byte-requires c =
    let begun = line_starts (delivery c.args.slot c.args.queue c.args.value) c.args.place c.args.output.now c.requires in
    let after-letter = puts_piece begun c.put_byte-behind_letter.ensures in
    let after-slot = puts_piece after-letter c.put_number-behind_slot.ensures in
    let after-queue = puts_piece after-slot c.put_number-behind_queue.ensures in
    let after-value = puts_piece after-queue c.put_number-behind_value.ensures in
    omega (arith, rest_fits after-value)

pub returns : goal.returns
returns c =
    let begun = line_starts (delivery c.args.slot c.args.queue c.args.value) c.args.place c.args.output.now c.requires in
    let after-letter = puts_piece begun c.put_byte-behind_letter.ensures in
    let after-slot = puts_piece after-letter c.put_number-behind_slot.ensures in
    let after-queue = puts_piece after-slot c.put_number-behind_queue.ensures in
    let after-value = puts_piece after-queue c.put_number-behind_value.ensures in
    let after-newline = puts_piece after-value c.put_byte.ensures in
    all_put after-newline
