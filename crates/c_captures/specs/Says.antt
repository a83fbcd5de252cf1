-- The answer of the conversion for C and C++, by the definitions of captures: 0 and the script's length, or the number
-- and 0; and the output as it is left.
use Rattle.std.specs.Prelude.{◌≡◌, List, ℕ, eqb, length}
use Rattle.model.specs.Basics.{choose}
use Rattle.model.specs.Sizes.{sizes}
use Rattle.capture_frames.specs.Script.{capture_script, capture_number, capture_output}
use Rattle.c_scripts.specs.declared.NumbersPut.{NumbersPut}

pub record CaptureConverted (q b k : ℕ) (capture output : List ℕ) (r : NumbersPut) (output' : List ℕ) : Type 0 where
  pub number_is : r.number ≡ capture_number (sizes q b k) capture (length output)
  pub length-is : r.length ≡ choose (eqb r.number 0) (length (capture_script (sizes q b k) capture)) 0
  pub output_is : output' ≡ capture_output (sizes q b k) capture output
