-- What the program's parts promise of the script that is written.
use Rattle.std.specs.Prelude.{◌≡◌, List, ℕ}
use Rattle.model.specs.Sizes.{Sizes}
use Rattle.capture_frames.specs.Script.{capture_script, capture_fault}

-- The script of some capture that is good for some sizes.
pub record IsCaptureScript (bytes : List ℕ) : Type 0 where
  pub sizes : Sizes
  pub capture : List ℕ
  pub good : capture_fault sizes capture ≡ 0
  pub bytes_are : bytes ≡ capture_script sizes capture
