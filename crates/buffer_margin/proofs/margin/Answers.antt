-- `margin` meets its contract: each count is that of as many places as the array has, and their difference fits.
use Rattle.std.proofs.Common.{ℕ, ◌+◌, ◌-◌, ◌*◌, ap, ◌∙◌, arith, rules}
use Rattle.model.specs.State.{count_of, owed_of}
use Rattle.layout.specs.Lengths.{head_places, cell_places}
use Rattle.layout.specs.Entries.{bytes_in, cells_in}
use Rattle.buffer_margin.proofs.Counting.{bytes_counted, owed_counted, bytes-within, cells_within}
use Rattle.buffer_margin.proofs.Differences.{difference_back, same-difference}
use Rattle.buffer_margin.proofs.margin.Goals as goal

pub returns : goal.returns
returns c =
    let a = c.args in
    difference_back c.count_of-bytes.result c.count_owed-owed.result (omega arith) (omega arith)
    ∙ same-difference
    (c.count_of-bytes.ensures
    ∙ bytes_counted a.queue c.min.result a.head.now
    ∙ ap (λ (n : ℕ). count_of a.queue (bytes_in n a.head.now)) c.min.ensures
    ∙ ap (count_of a.queue) (bytes-within a.fill head_places a.head.now (search rules)))
    (c.count_owed-owed.ensures
    ∙ owed_counted a.queue c.cells_within.result a.cells.now
    ∙ ap (λ (n : ℕ). owed_of a.queue (cells_in n a.cells.now)) c.cells_within.ensures
    ∙ ap (owed_of a.queue) (cells_within (a.queues * (a.block - 1) + 1) cell_places a.cells.now (search rules)))
