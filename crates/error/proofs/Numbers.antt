-- Number and value tell all refusals apart, since a table by the number gives each refusal back; and no number is 0, since 0 would give back what
-- has 1. Assumes nothing.
use Prim.Native.Nat.{ℕ, ◌-◌}
use native.Mathlib.Omega.{arith}
use mathlib.Core.Path.{◌≡◌, refl, sym, ap, ◌∙◌}
use mathlib.Core.List.{List, [], ◌∷◌}
use lib.ListN.{get_or}
use Rattle.error.specs.declared.Error.{Error}
use Rattle.error.specs.declared.Error.TheVariants.{TooFewSlots, ZeroSize, TooManyPackets, LayoutOverflow, TooLarge, BlockLength, BaseAddress, Unsound, WrongHand, CommitTooLong, PacketCount, PacketTooLong, Disconnected, UsbfsMemory, PermissionDenied, Unsupported, Io, StrayNotice, Underrun, ListTooShort, UnsupportedSpeed, InvalidInterval, ZeroPacketBytes, ZeroPackets, ProductOverflow, NotIsochronous, IntervalUnknown, PacketSizeUnknown, PacketBytesTooLarge, InvalidEndpoint, NotAnImage, FrameSize, PositionBeyond}
use Rattle.error.specs.Number.{number_of, value_of}

-- the refusals in the order of their numbers, from 1 on, with that value; 32 is no refusal's number, and in its place stands any
refusals : ℕ → List Error
refusals value =
    TooFewSlots
    ∷ ZeroSize
    ∷ TooManyPackets
    ∷ LayoutOverflow
    ∷ TooLarge
    ∷ BlockLength
    ∷ BaseAddress
    ∷ Unsound
    ∷ WrongHand
    ∷ CommitTooLong
    ∷ PacketCount
    ∷ PacketTooLong
    ∷ Disconnected
    ∷ UsbfsMemory value
    ∷ PermissionDenied
    ∷ Unsupported
    ∷ Io value
    ∷ StrayNotice
    ∷ Underrun value
    ∷ ListTooShort
    ∷ UnsupportedSpeed
    ∷ InvalidInterval
    ∷ ZeroPacketBytes
    ∷ ZeroPackets
    ∷ ProductOverflow
    ∷ NotIsochronous
    ∷ IntervalUnknown
    ∷ PacketSizeUnknown
    ∷ PacketBytesTooLarge
    ∷ InvalidEndpoint
    ∷ NotAnImage
    ∷ Unsound
    ∷ FrameSize
    ∷ PositionBeyond
    ∷ []

pub refusal_from : ℕ → ℕ → Error
refusal_from number value = get_or (refusals value) (number - 1) Unsound

pub refusal-back : (e : Error) → refusal_from (number_of e) (value_of e) ≡ e
unfolding refusal_from refusals
refusal-back TooFewSlots = refl
refusal-back ZeroSize = refl
refusal-back TooManyPackets = refl
refusal-back LayoutOverflow = refl
refusal-back TooLarge = refl
refusal-back BlockLength = refl
refusal-back BaseAddress = refl
refusal-back Unsound = refl
refusal-back WrongHand = refl
refusal-back CommitTooLong = refl
refusal-back PacketCount = refl
refusal-back PacketTooLong = refl
refusal-back Disconnected = refl
refusal-back (UsbfsMemory bytes) = refl
refusal-back PermissionDenied = refl
refusal-back Unsupported = refl
refusal-back (Io errno) = refl
refusal-back StrayNotice = refl
refusal-back (Underrun count) = refl
refusal-back ListTooShort = refl
refusal-back UnsupportedSpeed = refl
refusal-back InvalidInterval = refl
refusal-back ZeroPacketBytes = refl
refusal-back ZeroPackets = refl
refusal-back ProductOverflow = refl
refusal-back NotIsochronous = refl
refusal-back IntervalUnknown = refl
refusal-back PacketSizeUnknown = refl
refusal-back PacketBytesTooLarge = refl
refusal-back InvalidEndpoint = refl
refusal-back NotAnImage = refl
refusal-back FrameSize = refl
refusal-back PositionBeyond = refl

pub never-0 : (e : Error) → number_of e ≡ 0 → ⊥
unfolding refusal_from refusals
never-0 e z =
    let one : number_of e ≡ 1 = ap number_of (sym (refusal-back e) ∙ ap (λ (n : ℕ). refusal_from n (value_of e)) z) in
    omega arith
