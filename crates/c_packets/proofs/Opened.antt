-- A record with 0 at every place is the fresh one, since each list has as many lengths as its count says, and it keeps
-- its rules wherever there is a queue.
use mathlib.Core.Path.{◌≡◌, refl, ap, ◌∙◌, fun_ext}
use mathlib.Core.List.{List, []}
use Prim.Native.Nat.{ℕ, zero, suc}
use lib.ListN.{get_or, replicate}
use Rattle.layout.specs.Lengths.{queue_places}
use Rattle.packets.specs.Packets.{fresh_record, record_keeps}
use Rattle.packets.proofs.Slots.{record-holds, fresh-record_keeps}
use Rattle.packet_layout.specs.Lengths.{length_places, packet_reg_places}
use Rattle.packet_layout.specs.Views.{list_in, packet_regs_in, record_in}
use Rattle.c_packets.specs.Says.{OpenSays}

zeros_at : (n i : ℕ) → ◌≡◌ {A = ℕ} (get_or (replicate n 0) i 0) 0
zeros_at zero i = refl
zeros_at (suc n) zero = refl
zeros_at (suc n) (suc i) = zeros_at n i

none_listed : (lengths : List ℕ) (n q : ℕ) → list_in lengths (replicate n 0) q ≡ []
unfolding list_in
none_listed lengths n q = rw (zeros_at n q)

zeros_fresh : record_in (packet_regs_in (replicate packet_reg_places 0)) (replicate length_places 0) (replicate queue_places 0)
    ≡ fresh_record
zeros_fresh =
    ap (λ (lists : ℕ → List ℕ). record {
      lengths = lists;
      incoming = fresh_record.incoming;
      asked = 0;
      left = 0;
    }) (fun_ext (none_listed (replicate length_places 0) queue_places))

pub opened : OpenSays (replicate packet_reg_places 0) (replicate length_places 0) (replicate queue_places 0)
opened = record {
  fresh-is = zeros_fresh;
  places_are = (refl, refl, refl);
  lists_long = record { lengths_long = refl; listed_long = refl };
  kept = λ queues some-queue.
      ap (record_keeps queues) zeros_fresh
      ∙ record-holds queues fresh_record (fresh-record_keeps queues some-queue);
}
