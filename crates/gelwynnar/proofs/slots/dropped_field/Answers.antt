-- `dropped_field` meets its contract: a number that is not 0 is that of a half that was dropped.
use mathlib.Core.Path.{◌∙◌}
use Rattle.gelwynnar.proofs.Told.{by_numbers}
use Rattle.gelwynnar.proofs.slots.dropped_field.Goals as goal

pub returns : goal.returns
returns c = c.dropped_halves.ensures ∙ by_numbers c.args.arrival_number c.args.request_number
