-- `packet_record::ask` meets its contract: where the packet request is not dropped, its list has a length.
use mathlib.Core.Path.{sym, ap, ◌∙◌}
use native.Mathlib.Omega.{arith}
use Rattle.packet_layout.specs.Views.{request_of}
use Rattle.packet_record.proofs.Turning.{one_listed}
use Rattle.packet_record.proofs.ask.Goals as goal

pub take_oldest-left-requires : goal.take_oldest-left-requires
take_oldest-left-requires c =
    let a = c.args in
    let q = c.in-Some.queue in
    let fits = c.requires.1 in
    let below = fits.request-below q (ap request_of c.in-Some.is) in (
      c.requires.0,
      omega (arith, below, fits.queues_few),
      (λ p l. fits.lists_short p (omega (arith, l, below))),
      one_listed a.regs a.lengths.now a.listed.now q
          (sym (c.drops.ensures a.lengths.now) ∙ c.if-not-drops.true),
      fits.lists_short q below,
    )
