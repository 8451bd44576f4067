-- Opening's values but the block as a list of numbers, in the paper's order: n, p, b, endpoint, policy (0 Continue, 1 FillSilence, 2
-- Error), silence byte, base, tag (1 or 0), f.
use Rattle.std.specs.Prelude.{ℕ, ◌%◌, cond, List, [], ◌∷◌, eqb, get_or}
use Rattle.layout.specs.declared.Setup.{Setup}
use Rattle.layout.specs.declared.Underrun.{Underrun}
use Rattle.layout.specs.declared.Underrun.TheVariants.{Continue, FillSilence, Error}

unfoldable pub policy_number : Underrun → ℕ
policy_number Continue = 0
policy_number FillSilence = 1
policy_number Error = 2

-- Any other number is read as Continue.
unfoldable pub policy_from : ℕ → Underrun
policy_from number = get_or (Continue ∷ FillSilence ∷ Error ∷ []) number Continue

unfoldable pub setup_numbers : Setup → List ℕ
setup_numbers s =
    s.slots
    ∷ s.packets_per_urb
    ∷ s.packet_bytes
    ∷ s.endpoint
    ∷ policy_number s.underrun
    ∷ s.silence_byte
    ∷ s.base
    ∷ cond s.tagged 1 0
    ∷ s.frame_bytes
    ∷ []

-- What is missing is read as 0. Endpoint and silence byte are a byte each: of a larger number the lowest byte is read.
unfoldable pub setup_from : List ℕ → Setup
setup_from numbers =
    record {
      slots = get_or numbers 0 0;
      packets_per_urb = get_or numbers 1 0;
      packet_bytes = get_or numbers 2 0;
      endpoint = get_or numbers 3 0 % 256;
      underrun = policy_from (get_or numbers 4 0);
      silence_byte = get_or numbers 5 0 % 256;
      base = get_or numbers 6 0;
      tagged = eqb (get_or numbers 7 0) 1;
      frame_bytes = get_or numbers 8 0;
    }
