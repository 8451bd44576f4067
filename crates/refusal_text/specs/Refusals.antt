-- What each refusal's number means: a name and a text. A number that is not listed has neither: both are empty.
use Rattle.std.specs.Prelude.{ℕ, cond, List, [], ◌∷◌, eqb}
use Prim.Native.String.{String}

-- number, name and text, in the order of the numbers; 32 is no refusal
abbrev pub Refusal : Type 0
Refusal = ℕ × String × String

unfoldable pub refusals : List Refusal
refusals =
    (1, "TooFewSlots", "fewer than 2 slots")
    ∷ (2, "ZeroSize", "no packets, or no bytes a packet")
    ∷ (3, "TooManyPackets", "more than 128 packets a URB")
    ∷ (4, "LayoutOverflow", "a product, sum or raising above 2^64 - 1")
    ∷ (5, "TooLarge", "more than 256 slots, or more than 49,152 bytes a packet")
    ∷ (6, "BlockLength", "the block has the wrong length")
    ∷ (7, "BaseAddress", "base no multiple of 64, or the block goes past the address space")
    ∷ (8, "Unsound", "the record breaks one of its rules")
    ∷ (9, "WrongHand", "the hand is wrong for this call")
    ∷ (10, "CommitTooLong", "more bytes than the capacity")
    ∷ (11, "PacketCount", "not as many lengths as packets")
    ∷ (12, "PacketTooLong", "a length above the bytes of a packet")
    ∷ (13, "Disconnected", "the device is gone; from finish: buffers are still out")
    ∷ (14, "UsbfsMemory", "usbfs has no memory for the ring; carries its payload bytes")
    ∷ (15, "PermissionDenied", "no permission")
    ∷ (16, "Unsupported", "not supported")
    ∷ (17, "Io", "another errno, which it carries")
    ∷ (18, "StrayNotice", "a notice for a slot that is not out")
    ∷ (19, "Underrun", "an underrun under the policy Error; carries the count")
    ∷ (20, "ListTooShort", "the list is shorter than the slots to discard")
    ∷ (21, "UnsupportedSpeed", "a speed other than Full, High, Super, SuperPlus")
    ∷ (22, "InvalidInterval", "bInterval outside 1 to 16")
    ∷ (23, "ZeroPacketBytes", "no bytes a packet")
    ∷ (24, "ZeroPackets", "no packets")
    ∷ (25, "ProductOverflow", "a product above 2^64 - 1")
    ∷ (26, "NotIsochronous", "the endpoint is not isochronous")
    ∷ (27, "IntervalUnknown", "interval unknown")
    ∷ (28, "PacketSizeUnknown", "packet size unknown")
    ∷ (29, "PacketBytesTooLarge", "packet bytes above the packet size")
    ∷ (30, "InvalidEndpoint", "the endpoint is not an OUT endpoint")
    ∷ (
      31,
      "NotAnImage",
      "the image is too short or not that of a sound record; at opening: an unknown policy or tag, or a buffer too short",
    )
    ∷ (32, "", "")
    ∷ (33, "FrameSize", "no bytes a frame, or more than a packet has")
    ∷ []

-- The row with that number.
unfoldable pub row : ℕ → List Refusal → Refusal
row n [] = (n, "", "")
row n (r ∷ rs) = cond (eqb n r.0) r (row n rs)

unfoldable pub name_of : ℕ → String
name_of n = (row n refusals).1

unfoldable pub text_of : ℕ → String
text_of n = (row n refusals).2
