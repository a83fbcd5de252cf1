-- Every cache of accepted sizes is smaller than its array, so that a fill that keeps the rules lies within it, and one
-- past the array's end breaks the paper's own rule.
use mathlib.Core.Path.{◌≡◌, ap}
use mathlib.Core.Bool.{true, false}
use mathlib.Core.List.{List}
use Prim.Native.Nat.{ℕ, ◌-◌, ◌*◌, ◌<◌, ◌≤◌}
use native.Mathlib.Omega.{arith}
use lib.Dec.{ltb}
use lib.ListN.{length, take, length-take, length-map}
use borrow.Author.Tests.{ltb-true, ltb-false}
use Rattle.model.specs.Sizes.{Sizes, paper_limits, accepts, tail_size, head_size}
use Rattle.model.proofs.basics.Tests.{by_test}
use Rattle.model.proofs.basics.Limits.{Within, within_limits}
use Rattle.layout.specs.Entries.{byte_of, bytes_in}
use Rattle.layout.proofs.Entries.{bytes-length}
use Rattle.layout.specs.Lengths.{tail_places, head_places}
use Rattle.layout.specs.declared.Regs.{Regs}
use Rattle.layout.specs.Views.{Arrays, Long, sizes_in, state_in}

pub tail_below_array : (s : Sizes) → accepts paper_limits s ≡ true → tail_size s < tail_places
tail_below_array s e =
    by_test (ltb s.b 128)
    (λ t. omega (arith, limits.span_high, ltb-true s.b 128 t))
    (λ t. largest (whole t))
  where
    limits : Within paper_limits s
    limits = within_limits paper_limits s e

    whole : ltb s.b 128 ≡ false → s.b ≡ 128
    whole t = omega (arith, limits.b_high, ltb-false s.b 128 t)

    largest : s.b ≡ 128 → tail_size s < tail_places
    largest w = omega (arith, limits.span_high, w, ap (λ (n : ℕ). s.Q * (n - 1)) w)

pub head_below_array : (s : Sizes) → accepts paper_limits s ≡ true → head_size s < head_places
head_below_array s e = omega (arith, (within_limits paper_limits s e).span_high)

-- A fill whose bytes are fewer than the array's entries lies within it.
pub fill_within : (n : ℕ) (xs : List ℕ) → length (bytes_in n xs) < length xs → n < length xs
unfolding bytes_in
fill_within n xs h = omega (arith, length-map (take n xs) byte_of, length-take n xs)

-- Caches that fit have their fills within their arrays.
module _ (regs : Regs) (m : Arrays) (long : Long m) (sizes-ok : accepts paper_limits (sizes_in regs) ≡ true) where
  pub tail_in_array : length (state_in regs m).tail ≤ tail_size (sizes_in regs) → regs.tail_fill < tail_places
  tail_in_array h =
      omega (
        arith,
        long.tail_long,
        fill_within regs.tail_fill m.tail
            (omega (arith, h, tail_below_array (sizes_in regs) sizes-ok, long.tail_long)),
      )

  pub head_in_array : length (state_in regs m).head ≤ head_size (sizes_in regs) → regs.head_fill < head_places
  head_in_array h =
      omega (
        arith,
        long.head_long,
        fill_within regs.head_fill m.head
            (omega (arith, h, head_below_array (sizes_in regs) sizes-ok, long.head_long)),
      )

-- A fill within its array is the number of its cache's bytes.
module _ (regs : Regs) (m : Arrays) (long : Long m) where
  pub tail_length : regs.tail_fill < tail_places → length (state_in regs m).tail ≡ regs.tail_fill
  tail_length h = bytes-length regs.tail_fill m.tail (omega (arith, h, long.tail_long))

  pub head_length : regs.head_fill < head_places → length (state_in regs m).head ≡ regs.head_fill
  head_length h = bytes-length regs.head_fill m.head (omega (arith, h, long.head_long))
