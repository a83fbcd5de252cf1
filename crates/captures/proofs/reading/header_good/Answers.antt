-- `header_good` meets its contract: its tests in turn.
use Rattle.std.proofs.Common.{◌-◌, sym, ◌∙◌, ap, length, take, drop}
use Rattle.std.proofs.lemmas.Bool.{false≢true}
use borrow.Author.Tests.{lt-leb}
use Rattle.scripts.proofs.Parts.{rest_from}
use Rattle.capture_frames.specs.Frames.{starts_with, first_bytes, link_type}
use Rattle.captures.proofs.Compared.{same_start, header_short, header_other, header_read}
use Rattle.captures.proofs.reading.header_good.Goals as goal
use Rattle.captures.proofs.reading.header_good.Goals.{then-capture-ge-HEADER, else-capture-ge-HEADER}

pub returns-then-starts_with : goal.returns-then-starts_with
returns-then-starts_with c =
    let capture = c.args.capture.now in
    elim c.if-capture-ge-HEADER.branch [
      | then-capture-ge-HEADER w ↦
          c.starts_with-then-starts_with.ensures.value
          ∙ same_start link_type (take (length capture - 20) (drop 20 capture))
          ∙ ap (starts_with link_type) (rest_from 20 capture)
          ∙ sym (header_read capture w.if-capture-ge-HEADER.true
          (sym (same_start first_bytes capture) ∙ sym w.starts_with.ensures.value ∙ sym w.value-is ∙ c.if-starts_with.true))
      | else-capture-ge-HEADER w ↦
          absurd (false≢true (sym (lt-leb 24 (length capture) w.if-capture-ge-HEADER.false) ∙ sym w.value-is ∙ c.if-starts_with.true))
    ]

pub returns-else-starts_with : goal.returns-else-starts_with
returns-else-starts_with c =
    let capture = c.args.capture.now in
    elim c.if-capture-ge-HEADER.branch [
      | then-capture-ge-HEADER w ↦
          c.if-starts_with.false
          ∙ sym (header_other capture
          (sym (same_start first_bytes capture) ∙ sym w.starts_with.ensures.value ∙ sym w.value-is ∙ c.if-starts_with.false))
      | else-capture-ge-HEADER w ↦
          w.value-is
          ∙ lt-leb 24 (length capture) w.if-capture-ge-HEADER.false
          ∙ sym (header_short capture w.if-capture-ge-HEADER.false)
    ]
