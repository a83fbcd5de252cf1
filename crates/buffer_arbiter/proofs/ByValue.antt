-- A slot of the arbiter's on the arrays of a record, told of the record: `by_value`.
use mathlib.Core.Path.{◌≡◌, ap, sym, ◌∙◌, subst}
use mathlib.Core.List.{List}
use mathlib.Core.Option.{Option}
use Prim.Native.Nat.{ℕ}
use Rattle.model.specs.State.{Byte}
use Rattle.layout.specs.declared.Regs.{Regs}
use Rattle.layout.specs.Views.{Arrays}
use Rattle.arbiter_in_place.specs.declared.Arbitrated.{Arbitrated}
use Rattle.arbiter_in_place.specs.Says.{ArbiterAdvanceSays}
use Rattle.buffer.specs.declared.State as code
use Rattle.buffer.specs.Says.{arrays_of}
use Rattle.buffer_arbiter.specs.declared.ArbiterSlotted.{ArbiterSlotted}
use Rattle.buffer_arbiter.specs.Says.{ArbiterSlotSays}

-- The record of some registers and arrays, and what is handed back with it.
abbrev record_of : Regs → Arrays → code.State
record_of regs m = record {
  regs = regs;
  tail = m.tail;
  head = m.head;
  cells = m.cells;
  firsts = m.firsts;
  stored = m.stored;
}

abbrev slotted_of : Regs → Arrays → Arbitrated → ArbiterSlotted
slotted_of regs m r = record { state = record_of regs m; reply = r.reply; asked = r.asked }

pub by_value : (s : code.State) {store : List ℕ} {arrival : Option Byte} {r : Arbitrated} {lent lent' next : Regs}
    (m : Arrays) {store' : List ℕ} → lent ≡ s.regs → next ≡ lent'
    → ArbiterAdvanceSays lent (arrays_of s) store arrival r lent' m store'
    → ArbiterSlotSays s store arrival (slotted_of next m r) store'
by_value s {store} {arrival} {r} {lent} {lent'} {next} m {store'} put read says = record {
  promised = told.answer-is;
  asked_is = told.asked_is;
  as_given = λ f. let back = told.as_given f in
      ap (λ (k : Regs). record_of k m) back.0 ∙ ap (record_of s.regs) back.1;
}
  where
    told : ArbiterAdvanceSays s.regs (arrays_of s) store arrival r next m store'
    told =
        subst (λ (k : Regs). ArbiterAdvanceSays s.regs (arrays_of s) store arrival r k m store') (sym read)
        (subst (λ (k : Regs). ArbiterAdvanceSays k (arrays_of s) store arrival r lent' m store') put says)
