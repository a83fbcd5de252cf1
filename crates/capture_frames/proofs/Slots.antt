-- The slots that a capture becomes: an arrival for each captured byte, in order, at its frame's queue, and no request
-- (`capture_slots_lem`). So their values are the captured bytes (`slots_values`), none of them asks (`slots_ask_nothing`),
-- and their queues are among eight (`slots_of_eight`).
use mathlib.Core.Path.{◌≡◌, refl, ap, sym, ◌∙◌}
use mathlib.Core.List.{List, [], ◌∷◌, ◌++◌, map, map-append, append_assoc}
use mathlib.Core.Option.{Option, some, none}
use Prim.Native.Nat.{ℕ, ◌<◌}
use Rattle.model.specs.Basics.{All}
use Rattle.model.specs.Sizes.{Sizes}
use Rattle.model.specs.Slot.{Call}
use Rattle.model.specs.Calls.{arrival}
use Rattle.model.proofs.basics.AllOf.{all_append}
use Rattle.script_commands.specs.Commands as of
use Rattle.script_commands.specs.Commands.{Command, command}
use Rattle.script_text.specs.Run.{slots_of_all}
use Rattle.capture_frames.specs.Script.{queue_of, arrivals, all_arrivals, capture_commands}
use Rattle.capture_frames.specs.Sentences.{Bytes, captured_bytes, arrived_value, values, slots_at}
use Rattle.capture_frames.specs.Sentences.{frame_slots}
use Rattle.capture_frames.proofs.Commands.{queue_of_eight}

arrivals-slots : (queue : ℕ) (frame : List ℕ) (cs : List Command)
    → slots_of_all (arrivals queue frame ++ cs) ≡ slots_at queue frame ++ slots_of_all cs
arrivals-slots queue [] cs = refl
arrivals-slots queue (v ∷ frame) cs =
    ap (λ (calls : List Call). arrival queue v ∷ calls) (arrivals-slots queue frame cs)

all_slots : (frames : List (List ℕ))
    → slots_of_all (all_arrivals frames ++ command of.end [] ∷ []) ≡ frame_slots frames
all_slots [] = refl
all_slots (frame ∷ frames) =
    rw append_assoc (arrivals-slots (queue_of frame) frame (all_arrivals frames ++ command of.end [] ∷ [])
    ∙ ap (λ (calls : List Call). slots_at (queue_of frame) frame ++ calls) (all_slots frames))

pub capture_slots_lem : (s : Sizes) (frames : List (List ℕ)) → slots_of_all (capture_commands s frames) ≡ frame_slots frames
capture_slots_lem s frames = all_slots frames

-- Their values.
values-at : (queue : ℕ) (frame : List ℕ) → values (slots_at queue frame) ≡ map some frame
values-at queue [] = refl
values-at queue (v ∷ frame) = ap (λ (vs : List (Option ℕ)). some v ∷ vs) (values-at queue frame)

pub slots_values : (frames : List (List ℕ)) → values (frame_slots frames) ≡ map some (captured_bytes frames)
slots_values [] = refl
slots_values (frame ∷ frames) =
    map-append (λ (call : Call). arrived_value call.arrival) (slots_at (queue_of frame) frame) (frame_slots frames)
    ∙ rw (values-at (queue_of frame) frame, slots_values frames)
    (sym (map-append some frame (captured_bytes frames)))

-- No request.
abbrev pub AsksNothing : Call → Type 0
AsksNothing call = call.request ≡ none

asks-nothing_at : (queue : ℕ) (frame : List ℕ) → All AsksNothing (slots_at queue frame)
asks-nothing_at queue [] = tt
asks-nothing_at queue (v ∷ frame) = (refl, asks-nothing_at queue frame)

pub slots_ask_nothing : (frames : List (List ℕ)) → All AsksNothing (frame_slots frames)
slots_ask_nothing [] = tt
slots_ask_nothing (frame ∷ frames) =
    all_append AsksNothing (slots_at (queue_of frame) frame) (frame_slots frames)
    (asks-nothing_at (queue_of frame) frame) (slots_ask_nothing frames)

-- Each is an arrival at a queue below 8, and nothing else.
pub data ArrivesBelow (queues : ℕ) : Call → Type 0 where
  arrives : (q v : ℕ) → q < queues → ArrivesBelow queues (arrival q v)

below_at : (queue : ℕ) (frame : List ℕ) → queue < 8 → All (ArrivesBelow 8) (slots_at queue frame)
below_at queue [] l = tt
below_at queue (v ∷ frame) l = (arrives queue v l, below_at queue frame l)

pub slots_of_eight : (frames : List (List ℕ)) → All Bytes frames → All (ArrivesBelow 8) (frame_slots frames)
slots_of_eight [] h = tt
slots_of_eight (frame ∷ frames) h =
    all_append (ArrivesBelow 8) (slots_at (queue_of frame) frame) (frame_slots frames)
    (below_at (queue_of frame) frame (queue_of_eight frame h.0)) (slots_of_eight frames h.1)
