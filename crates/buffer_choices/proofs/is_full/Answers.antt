-- `is_full` meets its contract: a queue is full where its tail bytes are whole blocks that with the stored ones make K.
use Rattle.std.proofs.Common.{◌∙◌, ◌%◌, arith}
use borrow.Author.Tests.{ne_eqb}
use Rattle.buffer_choices.proofs.Swapping.{part_block_not_full, whole_blocks_full}
use Rattle.buffer_choices.proofs.is_full.Goals as goal

pub returns-then-bytes-block-eq0 : goal.returns-then-bytes-block-eq0
returns-then-bytes-block-eq0 c =
    let a = c.args in
    whole_blocks_full a.bytes a.blocks a.block a.depth (omega (arith, c.if-block-eq0.false)) c.if-bytes-block-eq0.true

pub returns-else-bytes-block-eq0 : goal.returns-else-bytes-block-eq0
returns-else-bytes-block-eq0 c =
    let a = c.args in
    ne_eqb (a.bytes % a.block) 0 c.if-bytes-block-eq0.false
    ∙ part_block_not_full a.bytes a.blocks a.block a.depth c.if-bytes-block-eq0.false
