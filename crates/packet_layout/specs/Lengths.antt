-- How long the arrays of a record are, each number once: the code's own are the constants of src/lib.rt.
use Rattle.std.specs.Prelude.{ℕ, ◌*◌}
use Rattle.layout.specs.Lengths.{queue_places}
use Rattle.packets.specs.Packets.{most_listed}

-- So many places for the lengths of each queue.
abbrev pub length_places : ℕ
length_places = queue_places * most_listed

abbrev pub packet_reg_places : ℕ
packet_reg_places = 6
