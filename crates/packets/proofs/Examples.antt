-- Every row of the table of packet slots holds of the definitions, by computing them, and no row of the false ones
-- does.
use mathlib.Core.Path.{◌≡◌, refl}
use mathlib.Core.Bool.{true, false}
use Rattle.model.specs.Basics.{all_of, some_of}
use Rattle.packets.specs.Examples.{packet_examples, false_packet_examples, holds}

pub packet_examples_hold : all_of holds packet_examples ≡ true
packet_examples_hold = refl

pub false_packet_examples_fail : some_of holds false_packet_examples ≡ false
false_packet_examples_fail = refl
