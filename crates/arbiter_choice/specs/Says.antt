-- The arbiter's choice by the figures of a state. That it is the model's own is shown in proofs/Paper.antt.
use Rattle.std.specs.Prelude.{Bool, ◌||◌, ℕ, ltb, leb}
use Rattle.std.proofs.Math.Option.{Option, some, none}
use Rattle.model.specs.Basics.{choose}
use Rattle.model.specs.State.{Byte}
use Rattle.model.specs.Arbiter.{queue_after, first_from}
use Rattle.layout.specs.Figures.{Figures}
use Rattle.slot_refusals.specs.Says.{owes_now, arrives_at, queue_full_now}

-- The arrival that counts: of a known queue that is not full.
abbrev pub counted_now : Figures → Option Byte → Option Byte
counted_now f none = none
counted_now f (some y) = choose (leb f.sizes.Q y.queue) none (choose (queue_full_now f y.queue) none (some y))

-- A queue has an unrequested byte: a request would take an Owed cell, or the tail has a byte of it, or one arrives.
abbrev pub can_ask_now : Figures → Option Byte → ℕ → Bool
can_ask_now f counted q = owes_now f (some q) || (ltb 0 (f.tails q) || arrives_at counted q)

abbrev pub choice_now : Figures → ℕ → Option Byte → Option ℕ
choice_now f last arrival =
    first_from f.sizes.Q (can_ask_now f (counted_now f arrival)) f.sizes.Q (queue_after f.sizes.Q last)
