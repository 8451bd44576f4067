-- A setup whose endpoint and silence byte are bytes is read back from its numbers. By the cases of policy and tag. Assumes nothing.
use Prim.Native.Nat.{ℕ, ◌%◌, ◌<◌}
use mathlib.Core.Path.{◌≡◌, refl}
use mathlib.Core.Bool.{Bool, true, false, cond}
use native.Mathlib.Omega.{arith}
use lib.Dec.{eqb}
use Rattle.layout.specs.declared.Setup.{Setup}
use Rattle.layout.specs.declared.Underrun.{Underrun}
use Rattle.layout.specs.declared.Underrun.TheVariants.{Continue, FillSilence, Error}
use Rattle.layout.specs.Numbers.{policy_number, policy_from, setup_numbers, setup_from}

policy-back : (u : Underrun) → policy_from (policy_number u) ≡ u
unfolding policy_from policy_number
policy-back Continue = refl
policy-back FillSilence = refl
policy-back Error = refl

tag_back : (b : Bool) → eqb (cond b 1 0) 1 ≡ b
tag_back true = refl
tag_back false = refl

byte-back : (v : ℕ) → v < 256 → v % 256 ≡ v
byte-back v h = omega arith

pub setup-back : (s : Setup) → s.endpoint < 256 → s.silence_byte < 256 → setup_from (setup_numbers s) ≡ s
unfolding setup_from setup_numbers
setup-back s e b =
    λ i.
    record {
      slots = s.slots;
      packets_per_urb = s.packets_per_urb;
      packet_bytes = s.packet_bytes;
      endpoint = byte-back s.endpoint e i;
      underrun = policy-back s.underrun i;
      silence_byte = byte-back s.silence_byte b i;
      base = s.base;
      tagged = tag_back s.tagged i;
      frame_bytes = s.frame_bytes;
    }
