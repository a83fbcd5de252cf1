-- `stored_blocks` meets its contract: a queue past the last has no block, nor has one past the array.
use Rattle.std.proofs.Common.{◌≡◌, ◌<◌, ◌≤◌, sym, ◌∙◌, length, take, get_or, arith, rules}
use lib.Seq.{length-take-le, get_or-take}
use Rattle.buffer_choices.proofs.Stored.{blocks_outside, blocks-known}
use Rattle.buffer_choices.proofs.stored_blocks.Goals as goal

pub returns-in-Some : goal.returns-in-Some
returns-in-Some c =
    let a = c.args in
    let n = c.min.result in
    let inside : a.queue < length (take n a.stored.now) = search rules in
    let found : c.in-Some.field-0.now ≡ get_or (take n a.stored.now) a.queue 0 = search rules in
    let low : a.queue < n = omega (arith, inside, length-take-le n a.stored.now (omega (arith, c.min.ensures))) in
    let here : c.in-Some.field-0.now ≡ get_or a.stored.now a.queue 0 = found ∙ get_or-take n a.stored.now a.queue 0 low in
    (here ∙ sym (blocks-known a.queues a.stored.now a.queue (omega (arith, low, c.min.ensures))), omega (arith, here, c.fits-stored a.queue))

pub returns-in-None : goal.returns-in-None
returns-in-None c =
    let a = c.args in
    let n = c.min.result in
    let past : length (take n a.stored.now) ≤ a.queue = search rules in
    let taken : length (take n a.stored.now) ≡ n = length-take-le n a.stored.now (omega (arith, c.min.ensures)) in
    (sym (blocks_outside a.queues a.stored.now a.queue (omega (arith, past, taken, c.min.ensures, c.told-stored))), omega arith)
