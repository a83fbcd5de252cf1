-- What the statements of demand 3 rule out, of the first step of a list (of the others `All` says the same): a refused
-- slot that delivers, writes or reads, a cache over its size when it is looked at, and the refusals that never come. A
-- statement that says less is refused here.
use mathlib.Core.Path.{◌≡◌, sym, ◌∙◌}
use mathlib.Core.List.{List, ◌∷◌}
use mathlib.Core.Option.{some}
use Prim.Native.Nat.{ℕ, ◌+◌, ◌-◌, ◌*◌, ◌<◌, ◌≤◌}
use native.Mathlib.Omega.{arith}
use lib.ListN.{length}
use Rattle.model.specs.Sizes.{Sizes}
use Rattle.model.specs.State.{Byte}
use Rattle.model.specs.Lists.{Step}
use Rattle.model.specs.Demand.{ListMeets}
use Rattle.model.proofs.basics.Tests.{none_not_some}

module _ (s : Sizes) (store : List ℕ) (step : Step) (steps : List Step) (meets : ListMeets s store (step ∷ steps)) where
  refused-delivers : (n : ℕ) (y : Byte) → step.reply.number ≡ n + 1 → step.reply.delivered ≡ some y → ⊥
  refused-delivers n y e d =
      none_not_some y (sym (meets.refused.0.delivers_nothing (λ z. omega (arith, z, e))) ∙ d)

  refused-writes : (n q : ℕ) → step.reply.number ≡ n + 1 → step.reply.written ≡ some q → ⊥
  refused-writes n q e d = none_not_some q (sym (meets.refused.0.writes_nothing (λ z. omega (arith, z, e))) ∙ d)

  refused-reads : (n q : ℕ) → step.reply.number ≡ n + 1 → step.reply.read ≡ some q → ⊥
  refused-reads n q e d = none_not_some q (sym (meets.refused.0.reads_nothing (λ z. omega (arith, z, e))) ∙ d)

  tail_over_as_joined : s.Q * (s.b - 1) + s.b < step.joined_fill → ⊥
  tail_over_as_joined h = omega (arith, h, meets.caches.0.tail_joined)

  tail_over_in_the_end : s.Q * (s.b - 1) + s.b < length step.state.tail → ⊥
  tail_over_in_the_end h = omega (arith, h, meets.caches.0.tail_ends)

  head_over_as_read : 2 * (s.Q * (s.b - 1)) + 1 < step.read_fill → ⊥
  head_over_as_read h = omega (arith, h, meets.caches.0.head_read)

  head_over_in_the_end : 2 * (s.Q * (s.b - 1)) + 1 < length step.state.head → ⊥
  head_over_in_the_end h = omega (arith, h, meets.caches.0.head_ends)

  answers-8 : step.reply.number ≡ 8 → ⊥
  answers-8 e = meets.no_miss.0.not-8 e

  answers-9 : step.reply.number ≡ 9 → ⊥
  answers-9 e = meets.no_miss.0.not_9 e

  answers-10 : step.reply.number ≡ 10 → ⊥
  answers-10 e = meets.no_miss.0.not_10 e

  answers-3 : step.reply.number ≡ 3 → ⊥
  answers-3 e = meets.no_3.0 e

  answers-2 : s.Q * s.K * s.b ≤ length store → step.reply.number ≡ 2 → ⊥
  answers-2 h e = (meets.no_2 h).0 e
