-- A text that is put piece by piece: each piece finds room where the whole has it, and in the end the whole stands.
use mathlib.Core.Path.{◌≡◌, refl, ap, ◌∙◌}
use mathlib.Core.List.{List, [], ◌∷◌, ◌++◌, append_assoc, append-nil}
use Prim.Native.Nat.{ℕ, ◌+◌, ◌≤◌}
use native.Mathlib.Omega.{arith}
use lib.ListN.{length, length-append}
use Rattle.script_lines.specs.Lines.{Line, letter, numbers, decimal, spaced, numbers_text, line_text, text}
use Rattle.script_lines.specs.Says.{PutSays}
use Rattle.script_lines.proofs.Placed.{put_nothing, put_keeps_length, put_then_put}

-- Pieces, as the text that they make, and how long that is.
abbrev pub joined : List (List ℕ) → List ℕ
joined [] = []
joined (piece ∷ pieces) = piece ++ joined pieces

abbrev pub total : List (List ℕ) → ℕ
total [] = 0
total (piece ∷ pieces) = length piece + total pieces

length-joined : (pieces : List (List ℕ)) → length (joined pieces) ≡ total pieces
length-joined [] = refl
length-joined (piece ∷ pieces) = rw (length-append, length-joined pieces)

-- Some of the text stands, these pieces are left, and there is room for all.
pub record Putting (text : List ℕ) (left : List (List ℕ)) (p : ℕ) (o : List ℕ) (r : ℕ) (o' : List ℕ) : Type 0 where
  pub so_far : List ℕ
  pub splits : so_far ++ joined left ≡ text
  pub put : PutSays so_far p o r o'
  pub room : p + length text ≤ length o

module _ {text : List ℕ} {p : ℕ} {o : List ℕ} {r : ℕ} {o' : List ℕ} where
  pub rest_fits : {left : List (List ℕ)} → Putting text left p o r o' → r + total left ≤ length o'
  rest_fits {left} w =
      let long : length w.so_far + total left ≡ length text =
      rw (← (length-joined left), ← length-append) (ap length w.splits) in
      let kept : length o' ≡ length o = put_keeps_length w.put (omega (arith, w.room)) in
      omega (arith, w.room, w.put.place_is)

  pub puts_piece : {piece : List ℕ} {left : List (List ℕ)} {r' : ℕ} {o'' : List ℕ}
      → Putting text (piece ∷ left) p o r o' → PutSays piece r o' r' o'' → Putting text left p o r' o''
  puts_piece {piece} {left} w next =
      let long : length w.so_far + (length piece + length (joined left)) ≡ length text =
      rw (← length-append, ← length-append) (ap length w.splits) in
      record {
        so_far = w.so_far ++ piece;
        splits = append_assoc w.so_far piece (joined left) ∙ w.splits;
        put = put_then_put w.put next (simp length-append (omega (arith, w.room)));
        room = w.room;
      }

pub all_put : {text : List ℕ} {p : ℕ} {o : List ℕ} {r : ℕ} {o' : List ℕ} → Putting text [] p o r o'
    → PutSays text p o r o'
all_put w = rw (← w.splits, append-nil) w.put

-- A number's pieces: its space, its digits.
pub number_starts : (n p : ℕ) (o : List ℕ) → p + length (spaced n) ≤ length o
    → Putting (spaced n) ((32 ∷ []) ∷ decimal n ∷ []) p o p o
number_starts n p o h = record {
  so_far = [];
  splits = ap (λ (ds : List ℕ). 32 ∷ ds) (append-nil (decimal n));
  put = put_nothing p o;
  room = h;
}

pub number_ends : (n : ℕ) {p : ℕ} {o : List ℕ} {r : ℕ} {o' ds : List ℕ} {r' : ℕ} {o'' : List ℕ} → ds ≡ decimal n
    → Putting (spaced n) (decimal n ∷ []) p o r o' → PutSays ds r o' r' o'' → PutSays (spaced n) p o r' o''
number_ends n e w put = all_put (puts_piece w (rw e at put))

-- A line's pieces: its letter, each number after its space, the newline.
abbrev number_pieces : List ℕ → List (List ℕ)
number_pieces [] = (10 ∷ []) ∷ []
number_pieces (n ∷ ns) = spaced n ∷ number_pieces ns

abbrev pub pieces : Line → List (List ℕ)
pieces line = (letter line ∷ []) ∷ number_pieces (numbers line)

number_pieces_join : (ns : List ℕ) → joined (number_pieces ns) ≡ numbers_text ns
number_pieces_join [] = refl
number_pieces_join (n ∷ ns) = ap (λ (ys : List ℕ). spaced n ++ ys) (number_pieces_join ns)

pub line_starts : (line : Line) (p : ℕ) (o : List ℕ) → p + length (line_text line) ≤ length o
    → Putting (line_text line) (pieces line) p o p o
unfolding line_text
line_starts line p o h = record {
  so_far = [];
  splits = ap (λ (ys : List ℕ). letter line ∷ ys) (number_pieces_join (numbers line));
  put = put_nothing p o;
  room = h;
}

-- One line is all of its text.
pub one_line : (line : Line) → text (line ∷ []) ≡ line_text line
one_line line = append-nil (line_text line)
