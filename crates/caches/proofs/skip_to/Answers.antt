-- `caches::skip_to` meets its contract: a chunk that is passed has none of the queue.
use mathlib.Core.Path.{◌≡◌, ap, ◌∙◌}
use Prim.Native.Nat.{◌/◌, ◌<◌}
use native.Mathlib.Omega.{arith}
use borrow.Author.Rules.{rules}
use Rattle.std.specs.Slice.Iter.{chunks_exact_size, chunks_exact_rest}
use lib.ListN.{length}
use Rattle.caches.proofs.Places.{chunk_clear, none_in_chunks, some_there}
use Rattle.caches.proofs.skip_to.Goals as goal

pub returns-in-Some : goal.returns-in-Some
returns-in-Some c =
    let a = c.args in
    let xs = a.entries.now in
    let run = c.position.ensures.runs in
    let m = c.in-Some.chunks in
    let inside : m < length xs / 32 = search rules in
    let size : chunks_exact_size run.0.from ≡ 32 = ap chunks_exact_size run.1 ∙ c.chunks_exact.ensures.size in
    let rest : chunks_exact_rest run.0.from ≡ xs = ap chunks_exact_rest run.1 ∙ c.chunks_exact.ensures.rest in
    let chunks = rw (size, rest) at (c.chunks_exact.ensures.runs run.0 run.0.seen (search rules)) in
    let passed = ((rw c.in-Some.is at run.2).1 (λ x r g k. search rules)).1 in
    (omega arith, none_in_chunks a.q xs m (λ j l. chunk_clear a.q xs j _ (λ x k. search rules) (run.0.at j) (passed j l) (chunks.2 j)))

pub returns-in-None : goal.returns-in-None
returns-in-None c =
    let a = c.args in
    let xs = a.entries.now in
    let run = c.position.ensures.runs in
    let size : chunks_exact_size run.0.from ≡ 32 = ap chunks_exact_size run.1 ∙ c.chunks_exact.ensures.size in
    let rest : chunks_exact_rest run.0.from ≡ xs = ap chunks_exact_rest run.1 ∙ c.chunks_exact.ensures.rest in
    let chunks = rw (size, rest) at (c.chunks_exact.ensures.runs run.0 run.0.seen (search rules)) in
    let none = rw c.in-None.is at run.2 in
    let long : run.0.len ≡ length xs / 32 = chunks.1 none.0 in
    let passed = none.1 (λ x r g k. search rules) in (
      omega arith,
      none_in_chunks a.q xs (length xs / 32) (λ j l.
          chunk_clear a.q xs j _ (λ x k. search rules) (run.0.at j)
          (some_there _ (run.0.at j) _ (run.0.reads j a.entries (omega (arith, long))) (passed j)) (chunks.2 j)),
    )
