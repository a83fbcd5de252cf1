-- What many slots by value promise, of any state and any store: of the record that went in and the one that comes back
-- what crates/run_checked promises of lent arrays.
use Rattle.std.specs.Prelude.{List, ℕ}
use Rattle.idle_in_place.specs.declared.Passed.{Passed}
use Rattle.run_checked.specs.Says.{RunCheckedSays, IdleCheckedSays}
use Rattle.buffer.specs.declared.State as code
use Rattle.buffer.specs.Says.{state_of}
use Rattle.buffer_runs.specs.declared.Idled.{Idled}

-- A list of slots is the model's own list: an answer for each slot, refused ones included, the whole state with its
-- high marks and the whole store as they leave them. What it leaves of a state that keeps the rules keeps them.
abbrev pub RunSays : code.State → List ℕ → List ℕ → List ℕ → code.State → List ℕ → List ℕ → Type 0
RunSays s calls answers store r answers' store' =
    RunCheckedSays (state_of s) calls answers store (state_of r) answers' store'

-- What a stretch of idle slots hands back, as it is on lent arrays.
abbrev pub passed_of : Idled → Passed
passed_of r = record { regs = r.state.regs; passed = r.passed; reply = r.reply }

-- A stretch of at most n idle slots is the model's own: how many passed, all before the last being quiet, what the last
-- answered or that there was none, the whole state and the whole store.
abbrev pub IdleSays : code.State → List ℕ → ℕ → Idled → List ℕ → Type 0
IdleSays s store n r store' = IdleCheckedSays (state_of s) store n (passed_of r) (state_of r.state) store'
