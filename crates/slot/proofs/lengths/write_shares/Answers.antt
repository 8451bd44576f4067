-- `slot::lengths::write_shares` meets its contract. What holds at each iteration: storing the descriptors that are left at the
-- place reached gives the block that the contract asks for. An iteration stores the first of them. Assumes nothing.
use mathlib.Core.Path.{◌≡◌, sym, ap, ◌∙◌}
use mathlib.Core.List.{List}
use Prim.Native.Nat.{ℕ, ◌+◌, ◌-◌, ◌*◌, ◌≤◌, ◌<◌, min}
use native.Mathlib.Omega.{arith}
use Rattle.sys.specs.Bytes.{store}
use Rattle.sys.specs.Descriptor.{desc_size, desc_bytes, packet_of}
use Rattle.ledger.specs.Slot.{shares, descriptors}
use Rattle.slot.proofs.PacketLengths.{share-left}
use Rattle.slot.proofs.Descriptors.{store-next, store-none, further, shares-next, shares-none}
use Rattle.slot.proofs.lengths.write_shares.Goals as goal

-- the next packet's descriptor, then those of the others
turn : (at packets most rest k take : ℕ) (block : List ℕ) → k < packets → take ≡ min rest most
    → store (at + desc_size * (k + 1)) (descriptors (shares (packets - (k + 1)) most (rest - take))) (store (at + desc_size * k) (desc_bytes (packet_of take)) block)
    ≡ store (at + desc_size * k) (descriptors (shares (packets - k) most rest)) block
turn at packets most rest k take block h e =
    rw (shares-next packets most rest k h, e, share-left rest most, further at k)
    (store-next (at + desc_size * k) (min rest most) (shares (packets - (k + 1)) most (rest - most)) block)

-- no packet is left
done : (at packets most rest k : ℕ) (block : List ℕ) → packets ≤ k → block ≡ store (at + desc_size * k) (descriptors (shares (packets - k) most rest)) block
done at packets most rest k block h = rw (shares-none packets most rest k h) (sym (store-none (at + desc_size * k) block))

pub returns : goal.returns
returns c = done _ _ _ c.loop-k.rest c.loop-k.k _ c.loop-k-test.false ∙ c.loop-k.invariant.2

pub loop-k-preserved : goal.loop-k-preserved
loop-k-preserved c =
    let loop = c.loop-k in
    let at = c.args.at in
    let take = c.min-take.result in (
      omega arith,
      c.set_packet.auto.block ∙ loop.invariant.1,
      ap (store (at + desc_size * (loop.k + 1)) (descriptors (shares (c.args.packets - (loop.k + 1)) c.args.most (loop.rest - take)))) c.set_packet.ensures
          ∙ turn at c.args.packets c.args.most loop.rest loop.k take loop.block c.loop-k-test.true c.min-take.ensures
          ∙ loop.invariant.2,
    )
