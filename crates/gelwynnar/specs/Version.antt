-- The interface that include/gelwynnar.h describes, by its number.
use Rattle.std.specs.Prelude.{ℕ}

abbrev pub interface_version : ℕ
interface_version = 5
