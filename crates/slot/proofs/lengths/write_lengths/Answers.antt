-- `slot::lengths::write_lengths` meets its contract. What holds at each iteration: storing the descriptors of the lengths left at the
-- place reached gives the block that the contract asks for. An iteration stores the first of them. Assumes nothing.
use mathlib.Core.Path.{◌≡◌, sym, ap, ◌∙◌}
use mathlib.Core.List.{List}
use Prim.Native.Nat.{ℕ, suc, ◌+◌, ◌*◌, ◌≤◌, ◌<◌}
use native.Mathlib.Numerals.{add-one}
use native.Mathlib.Omega.{arith}
use lib.ListN.{length, drop, get_or, drop_of_length-le}
use lib.Seq.{drop-cons}
use Rattle.sys.specs.Bytes.{store}
use Rattle.sys.specs.Descriptor.{desc_size, desc_bytes, packet_of}
use Rattle.ledger.specs.Slot.{descriptors}
use Rattle.slot.proofs.PacketLengths.{each_within}
use Rattle.slot.proofs.Descriptors.{store-next, store-none, further}
use Rattle.slot.proofs.lengths.write_lengths.Goals as goal

-- the next length's descriptor, then those of the others
turn : (at k : ℕ) (lengths block : List ℕ) → k < length lengths
    → store (at + desc_size * (k + 1)) (descriptors (drop (k + 1) lengths)) (store (at + desc_size * k) (desc_bytes (packet_of (get_or lengths k 0))) block)
    ≡ store (at + desc_size * k) (descriptors (drop k lengths)) block
turn at k lengths block h =
    rw (further at k, add-one k, drop-cons lengths k 0 h) (store-next (at + desc_size * k) (get_or lengths k 0) (drop (suc k) lengths) block)

-- no length is left
done : (at k : ℕ) (lengths block : List ℕ) → length lengths ≤ k → block ≡ store (at + desc_size * k) (descriptors (drop k lengths)) block
done at k lengths block h = rw (drop_of_length-le lengths h) (sym (store-none (at + desc_size * k) block))

pub set_packet-requires : goal.set_packet-requires
set_packet-requires c =
    let loop = c.loop-k in
    omega (arith, each_within c.args.lengths.now loop.k)

pub returns : goal.returns
returns c = done _ c.loop-k.k _ _ c.loop-k-test.false ∙ c.loop-k.invariant.1

pub loop-k-preserved : goal.loop-k-preserved
loop-k-preserved c =
    let loop = c.loop-k in
    let lengths = c.args.lengths.now in (
      c.set_packet.auto.block ∙ loop.invariant.0,
      ap (store (c.args.at + desc_size * (loop.k + 1)) (descriptors (drop (loop.k + 1) lengths))) c.set_packet.ensures
          ∙ turn c.args.at loop.k lengths loop.block c.loop-k-test.true
          ∙ loop.invariant.1,
    )
