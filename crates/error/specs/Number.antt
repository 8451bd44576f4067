-- The paper's number of each refusal, and the value that comes with it.
use Rattle.std.specs.Prelude.{ℕ}
use Rattle.error.specs.declared.Error.{Error}
use Rattle.error.specs.declared.Error.TheVariants.{TooFewSlots, ZeroSize, TooManyPackets, LayoutOverflow, TooLarge, BlockLength}
use Rattle.error.specs.declared.Error.TheVariants.{BaseAddress, Unsound, WrongHand, CommitTooLong, PacketCount, PacketTooLong}
use Rattle.error.specs.declared.Error.TheVariants.{Disconnected, UsbfsMemory, PermissionDenied, Unsupported, Io, StrayNotice}
use Rattle.error.specs.declared.Error.TheVariants.{Underrun, ListTooShort, UnsupportedSpeed, InvalidInterval, ZeroPacketBytes}
use Rattle.error.specs.declared.Error.TheVariants.{ZeroPackets, ProductOverflow, NotIsochronous, IntervalUnknown}
use Rattle.error.specs.declared.Error.TheVariants.{PacketSizeUnknown, PacketBytesTooLarge, InvalidEndpoint, NotAnImage, FrameSize}
use Rattle.error.specs.declared.Error.TheVariants.{PositionBeyond}

abbrev pub number_of : Error → ℕ
number_of TooFewSlots = 1
number_of ZeroSize = 2
number_of TooManyPackets = 3
number_of LayoutOverflow = 4
number_of TooLarge = 5
number_of BlockLength = 6
number_of BaseAddress = 7
number_of Unsound = 8
number_of WrongHand = 9
number_of CommitTooLong = 10
number_of PacketCount = 11
number_of PacketTooLong = 12
number_of Disconnected = 13
number_of (UsbfsMemory bytes) = 14
number_of PermissionDenied = 15
number_of Unsupported = 16
number_of (Io errno) = 17
number_of StrayNotice = 18
number_of (Underrun count) = 19
number_of ListTooShort = 20
number_of UnsupportedSpeed = 21
number_of InvalidInterval = 22
number_of ZeroPacketBytes = 23
number_of ZeroPackets = 24
number_of ProductOverflow = 25
number_of NotIsochronous = 26
number_of IntervalUnknown = 27
number_of PacketSizeUnknown = 28
number_of PacketBytesTooLarge = 29
number_of InvalidEndpoint = 30
number_of NotAnImage = 31
number_of FrameSize = 33
number_of PositionBeyond = 34

-- 14 comes with n × p × b, 17 with the errno, 19 with the count; the others have no value, which is 0 here.
abbrev pub value_of : Error → ℕ
value_of TooFewSlots = 0
value_of ZeroSize = 0
value_of TooManyPackets = 0
value_of LayoutOverflow = 0
value_of TooLarge = 0
value_of BlockLength = 0
value_of BaseAddress = 0
value_of Unsound = 0
value_of WrongHand = 0
value_of CommitTooLong = 0
value_of PacketCount = 0
value_of PacketTooLong = 0
value_of Disconnected = 0
value_of (UsbfsMemory bytes) = bytes
value_of PermissionDenied = 0
value_of Unsupported = 0
value_of (Io errno) = errno
value_of StrayNotice = 0
value_of (Underrun count) = count
value_of ListTooShort = 0
value_of UnsupportedSpeed = 0
value_of InvalidInterval = 0
value_of ZeroPacketBytes = 0
value_of ZeroPackets = 0
value_of ProductOverflow = 0
value_of NotIsochronous = 0
value_of IntervalUnknown = 0
value_of PacketSizeUnknown = 0
value_of PacketBytesTooLarge = 0
value_of InvalidEndpoint = 0
value_of NotAnImage = 0
value_of FrameSize = 0
value_of PositionBeyond = 0
