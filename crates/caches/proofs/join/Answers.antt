-- `caches::join` meets its contract: one number stored behind the first n is one byte more.
use native.Mathlib.Omega.{arith}
use borrow.Author.Rules.{rules}
use Rattle.layout.proofs.Entries.{byte-stored}
use Rattle.caches.proofs.join.Goals as goal

pub returns : goal.returns
returns c =
    let a = c.args in
    record {
      joined = byte-stored a.n a.entries.now c.requires a.q a.v (omega arith);
      same_length = search rules;
    }
