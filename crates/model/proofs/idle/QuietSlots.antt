-- m quiet slots shift the cells by m, turn the phase by m and change nothing else, since each leaves a state from
-- which the others are quiet. `quiet_slots` says it.
use mathlib.Core.Path.{◌≡◌, refl, ap, sym, ◌∙◌, subst}
use mathlib.Core.List.{List, [], ◌∷◌, ◌++◌, append_assoc, append-nil}
use Prim.Native.Nat.{ℕ, zero, suc, ◌+◌, ◌%◌, ◌≤◌, ◌<◌}
use native.Mathlib.Omega.{arith}
use native.Mathlib.Nat.{mod-le, mod-add-mod, add_assoc}
use lib.ListN.{length, drop, replicate, length-append, length-drop, replicate-append-replicate, get_or-append}
use lib.Seq.{drop-append-le, drop-drop, get_or-drop}
use Rattle.model.specs.Basics.{All}
use Rattle.model.specs.Sizes.{Design, store_bytes}
use Rattle.model.specs.State.{Cell, empty, State, with_phase, with_cells, head_bytes}
use Rattle.model.specs.Slot.{Answer, slot}
use Rattle.model.specs.Calls.{idle, idles}
use Rattle.model.specs.Lists.{run, last_state, last_store}
use Rattle.model.specs.Idle.{turned, quietly, NothingToMove, Quiet, QuietStep}
use Rattle.model.proofs.one_slot.Rules.{Keeps}
use Rattle.model.proofs.one_slot.Kept.{slot_kept}
use Rattle.model.proofs.idle.QuietSlot.{scan_shifted, oldest_empty, phase_stays, quiet_answer, quiet_slot}

-- n idle slots are i of them and then j.
pub idles-parts : (n i j : ℕ) → n ≡ i + j → idles n ≡ idles i ++ idles j
idles-parts n i j parts = ap idles parts ∙ sym (replicate-append-replicate i j idle)

-- What m idle slots leave, all of them quiet.
pub record PassedQuietly (design : Design) (x : State) (store : List ℕ) (m : ℕ) (y : State) : Type 0 where
  pub state_is : last_state design x store (idles m) ≡ y
  pub store_is : last_store design x store (idles m) ≡ store
  pub steps_quiet : All QuietStep (run design x store (idles m))
  pub kept : Keeps design y

pub none_passed : (design : Design) (x y : State) (store : List ℕ) → x ≡ y → Keeps design x
    → PassedQuietly design x store 0 y
none_passed design x y store e v = record {
  state_is = e;
  store_is = refl;
  steps_quiet = tt;
  kept = subst (Keeps design) e v;
}

pub one_more : (design : Design) (x y z : State) (store : List ℕ) (m : ℕ)
    → slot design x store idle ≡ quiet_answer y store
    → PassedQuietly design y store m z
    → PassedQuietly design x store (suc m) z
one_more design x y z store m e p = record {
  state_is = ap (λ (a : Answer). last_state design a.state a.store (idles m)) e ∙ p.state_is;
  store_is = ap (λ (a : Answer). last_store design a.state a.store (idles m)) e ∙ p.store_is;
  steps_quiet = (
    ap (λ (a : Answer). a.reply) e,
    subst (λ (a : Answer). All QuietStep (run design a.state a.store (idles m))) (sym e) p.steps_quiet,
  );
  kept = p.kept;
}

-- The first of several quiet slots, and the others from what it leaves.
first_quiet : (m : ℕ) (x : State) → Quiet (suc m) x → Quiet 1 x
first_quiet m x quiet = record {
  within = omega (arith, quiet.within);
  empties = λ i l. quiet.empties i (omega (arith, l));
  still = λ l. quiet.still (omega (arith, l));
}

others_quiet : (m : ℕ) (x : State) → Quiet (suc m) x → Quiet m (quietly 1 x)
others_quiet m x quiet = record {
  within = omega (arith, quiet.within, length-append (drop 1 x.cells) (empty ∷ []), length-drop 1 x.cells);
  empties = λ i l.
      get_or-append (drop 1 x.cells) (empty ∷ []) empty i
      (omega (arith, l, quiet.within, length-drop 1 x.cells))
      ∙ get_or-drop 1 x.cells i empty
      ∙ quiet.empties (1 + i) (omega (arith, l));
  still = λ l. nothing-still (quiet.still (omega (arith, l, mod-le (x.phase + 1) x.sizes.b)));
}
  where
    nothing-still : NothingToMove x → NothingToMove (quietly 1 x)
    nothing-still n = record {
      none_to_write = n.none_to_write;
      none_to_read =
          scan_shifted (head_bytes x) x.cells (oldest_empty x.cells (quiet.empties 0 (omega arith)))
          ∙ n.none_to_read;
    }

-- n slots after m slots are m + n.
pub turned-twice : (b p m n : ℕ) → ((p + m) % b + n) % b ≡ (p + (m + n)) % b
turned-twice b p m n = mod-add-mod (p + m) b n ∙ ap (λ (k : ℕ). k % b) (add_assoc p m n)

pub quietly-plus : (m n : ℕ) (x : State) → m + n ≤ length x.cells → quietly n (quietly m x) ≡ quietly (m + n) x
quietly-plus m n x h =
    ap (λ (phase : ℕ). with_cells (quietly n (quietly m x)).cells (with_phase phase x))
    (turned-twice x.sizes.b x.phase m n)
    ∙ ap (λ (cells : List Cell). with_cells cells (turned (m + n) x)) cells_plus
  where
    cells_plus : (quietly n (quietly m x)).cells ≡ (quietly (m + n) x).cells
    cells_plus =
        ap (λ (cells : List Cell). cells ++ replicate n empty)
        (drop-append-le n (drop m x.cells) (replicate m empty) (omega (arith, h, length-drop m x.cells)))
        ∙ append_assoc (drop n (drop m x.cells)) (replicate m empty) (replicate n empty)
        ∙ ap (λ (cells : List Cell). cells ++ (replicate m empty ++ replicate n empty)) (drop-drop n m x.cells)
        ∙ ap (λ (cells : List Cell). drop (m + n) x.cells ++ cells) (replicate-append-replicate m n empty)

quietly-none : (x : State) → x.phase < x.sizes.b → x ≡ quietly 0 x
quietly-none x l =
    ap (λ (phase : ℕ). with_phase phase x) (phase_stays x l)
    ∙ ap (λ (cells : List Cell). with_cells cells (turned 0 x)) (sym (append-nil x.cells))

-- m quiet slots.
module _ (design : Design) where
  pub kept_quietly : (x : State) (store : List ℕ) → Keeps design x → store_bytes x.sizes ≤ length store → Quiet 1 x
      → Keeps design (quietly 1 x)
  kept_quietly x store kept long quiet =
      subst (λ (a : Answer). Keeps design a.state) (quiet_slot design x store kept long quiet)
      (slot_kept design x store idle (omega (arith, quiet.within, kept.within.cells_long)) kept).kept

  pub quiet_slots : (m : ℕ) (x : State) (store : List ℕ) → Keeps design x → store_bytes x.sizes ≤ length store
      → Quiet m x → PassedQuietly design x store m (quietly m x)
  quiet_slots zero x store kept long quiet =
      none_passed design x (quietly 0 x) store (quietly-none x kept.phase_ok) kept
  quiet_slots (suc m) x store kept long quiet =
      one_more design x (quietly 1 x) (quietly (suc m) x) store m (quiet_slot design x store kept long first)
      (subst (PassedQuietly design (quietly 1 x) store m) together
      (quiet_slots m (quietly 1 x) store (kept_quietly x store kept long first) long (others_quiet m x quiet)))
    where
      first : Quiet 1 x
      first = first_quiet m x quiet

      one_and_others : 1 + m ≡ suc m
      one_and_others = omega arith

      together : quietly m (quietly 1 x) ≡ quietly (suc m) x
      together =
          quietly-plus 1 m x (omega (arith, quiet.within)) ∙ ap (λ (k : ℕ). quietly k x) one_and_others
