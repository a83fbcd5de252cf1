-- Every row of the table of captures holds of the definitions, by computing them, and no row of the false ones does.
use mathlib.Core.Path.{◌≡◌, refl}
use mathlib.Core.Bool.{true, false}
use Rattle.model.specs.Basics.{all_of, some_of}
use Rattle.capture_frames.specs.Frames.{frames_from}
use Rattle.capture_frames.specs.Examples.{capture_examples, false_capture_examples, holds}

pub capture_examples_hold : all_of holds capture_examples ≡ true
unfolding frames_from
capture_examples_hold = refl

pub false_capture_examples_fail : some_of holds false_capture_examples ≡ false
unfolding frames_from
false_capture_examples_fail = refl
