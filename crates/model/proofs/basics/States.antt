-- Two states are the same where their items are: `same-state`.
use mathlib.Core.Path.{◌≡◌}
use Rattle.model.specs.State.{State, state_from}

pub same-state : (x y : State) → x.sizes ≡ y.sizes → x.phase ≡ y.phase → x.tail ≡ y.tail → x.head ≡ y.head
    → x.cells ≡ y.cells → x.rings ≡ y.rings → x.tail_mark ≡ y.tail_mark → x.head_mark ≡ y.head_mark
    → x.last_asked ≡ y.last_asked → x ≡ y
same-state x y es ep et eh ec er em en el =
    let parts_alike :
    state_from x.sizes x.phase x.tail x.head x.cells x.rings x.tail_mark x.head_mark
    x.last_asked
    ≡ state_from y.sizes y.phase y.tail y.head y.cells y.rings y.tail_mark y.head_mark
    y.last_asked = cc in
    parts_alike
