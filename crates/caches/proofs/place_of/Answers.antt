-- `caches::place_of` meets its contract: none before the place that the chain finds is of the queue.
use mathlib.Core.Path.{◌≡◌, sym, ◌∙◌}
use Prim.Native.Nat.{◌/◌}
use borrow.Author.Rules.{rules}
use borrow.Author.Tests.{tests}
use lib.ListN.{length, take}
use lib.Seq.{length-take-le}
use Rattle.std.proofs.lemmas.Iterator.{YieldsList-from_slice, IsFirst-from_position}
use Rattle.layout.specs.Entries.{bytes_in}
use Rattle.caches.proofs.Places.{place_found, place_none}
use Rattle.caches.proofs.place_of.Goals as goal

pub returns-in-Some : goal.returns-in-Some
unfolding bytes_in
returns-in-Some c =
    let a = c.args in
    let before = c.skip_to-start.ensures in
    let found =
    IsFirst-from_position _ _ c.position.result (λ x. x / 256 ≡ a.q) (λ x. x / 256 ≡ a.q → ⊥) c.position.ensures.ran
    (YieldsList-from_slice _ c.iter.ensures.rest) (λ x q k. search (rules, tests)) (λ x q k. search (rules, tests)) in
    place_found a.q (take a.n a.entries.now) c.skip_to-start.result before.0 before.1 c.in-Some.further (rw c.in-Some.is at found)

pub returns-in-None : goal.returns-in-None
unfolding bytes_in
returns-in-None c =
    let a = c.args in
    let before = c.skip_to-start.ensures in
    let all : length (take a.n a.entries.now) ≡ a.n = length-take-le a.n a.entries.now c.requires in
    let found =
    IsFirst-from_position _ _ c.position.result (λ x. x / 256 ≡ a.q) (λ x. x / 256 ≡ a.q → ⊥) c.position.ensures.ran
    (YieldsList-from_slice _ c.iter.ensures.rest) (λ x q k. search (rules, tests)) (λ x q k. search (rules, tests)) in
    sym all ∙ place_none a.q (take a.n a.entries.now) c.skip_to-start.result before.0 before.1 (rw c.in-None.is at found)
