-- The front slot taken to be silenced, and the block once a silent hand's slot is silenced. Together they are the rule silence_front
-- (proofs/Taking). Only internal functions promise these.
use Rattle.std.specs.Prelude.{ℕ, List, [], ◌∷◌}
use Rattle.layout.specs.declared.Setup.{Setup}
use Rattle.layout.specs.Opening.{capacity_of}
use Rattle.ring.specs.declared.Hand.{Hand}
use Rattle.stream.specs.declared.Answer.{Answer}
use Rattle.ledger.specs.Ledger.{Ledger, with_hand, with_queue}
use Rattle.ledger.specs.Slot.{lengths_of, committed, silenced}
use Rattle.ledger.specs.Step.{Next}
use Rattle.ledger.specs.Turn.{take_front}

-- Front slot taken: Silent(i, left), answer Submit(i); empty queue: Idle, Nothing.
unfoldable pub take_silent : ℕ → List ℕ → Ledger → Next
take_silent left [] l = take_front [] l []
take_silent left (i ∷ rest) l =
    record { ledger = with_hand (Hand.Silent i left) (with_queue rest l); answer = Answer.Submit i; lent = [] }

-- A silent hand's slot has its capacity filled with the silence byte and full lengths set.
unfoldable pub after_silence : Setup → Hand → List ℕ → List ℕ
after_silence s Hand.Idle block = block
after_silence s (Hand.Held i) block = block
after_silence s (Hand.Sending i) block = block
after_silence s (Hand.Silent i left) block = committed s i (lengths_of s (capacity_of s)) (silenced s i block)
