-- `script_lines::put_number` meets its contract: the digits that `io::decimal` made are the number in decimal, and they
-- go behind the space.
use Rattle.std.proofs.Common.{arith, ap, ◌∙◌, length}
use Rattle.script_lines.proofs.Decimal.{digits_are_decimal}
use Rattle.script_lines.proofs.Pieces.{rest_fits, puts_piece, number_starts, number_ends}
use Rattle.script_lines.proofs.put_number.Goals as goal

pub put_byte-behind_space-requires : goal.put_byte-behind_space-requires
put_byte-behind_space-requires c =
    omega (arith, rest_fits (number_starts c.args.n c.args.place c.args.output.now c.requires))

pub put_bytes-requires : goal.put_bytes-requires
put_bytes-requires c =
    let d = c.decimal-k in
    let stand = d.ensures.digits ∙ digits_are_decimal d.result c.args.n d.ensures.len in
    let spaced =
    puts_piece (number_starts c.args.n c.args.place c.args.output.now c.requires)
    c.put_byte-behind_space.ensures in
    omega (arith, ap length stand, rest_fits spaced)

pub returns : goal.returns
returns c =
    let d = c.decimal-k in
    let stand = d.ensures.digits ∙ digits_are_decimal d.result c.args.n d.ensures.len in
    let spaced =
    puts_piece (number_starts c.args.n c.args.place c.args.output.now c.requires)
    c.put_byte-behind_space.ensures in
    number_ends c.args.n stand spaced c.put_bytes.ensures
