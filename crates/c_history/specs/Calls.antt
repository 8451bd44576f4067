-- A list of calls from C, each on the image as the last one left it. Lists are held newest first.
use Rattle.std.specs.Prelude.{ℕ, List, [], ◌∷◌, ◌++◌, map, length, take}
use Rattle.layout.specs.declared.Setup.{Setup}
use Rattle.ledger.specs.Calls.{Call, turn, commit, commit_full, commit_packets, submitted, reaped, give_back, start, stop, finish, lent_to}
use Rattle.history.specs.History.{ledger_after}
use Rattle.encoding.specs.Words.{list_in}
use Rattle.image.specs.Image.{ledger_image}
use Rattle.from_c.specs.Told.{FromC, told}
use Rattle.from_c.specs.Calls.{rule_from_c, made_from_c}

-- A call, its lists as bytes; what stands behind the image in its buffer; and the slice for the eight numbers.
pub record CCall : Type 0 where
  pub call : Call
  pub rest : List ℕ
  pub out : List ℕ

-- The call as the ledger takes it: its lists as numbers.
unfoldable pub in_numbers : Call → Call
in_numbers (turn block) = turn block
in_numbers (commit bytes block) = commit bytes block
in_numbers (commit_full block) = commit_full block
in_numbers (commit_packets lengths block) = commit_packets (list_in lengths) block
in_numbers (submitted reply block) = submitted reply block
in_numbers (reaped reply block) = reaped reply block
in_numbers give_back = give_back
in_numbers start = start
in_numbers (stop list) = stop (list_in list)
in_numbers finish = finish

unfoldable pub calls_of : List CCall → List Call
calls_of h = map (λ (c : CCall). in_numbers c.call) h

-- The image after a list that starts with this one: what a call left in its buffer, without the rest.
unfoldable pub image_after : List ℕ → List CCall → List ℕ
image_after first [] = first
image_after first (c ∷ before) =
    let image = image_after first before in
    take (length image) (made_from_c c.call (image ++ c.rest) c.out).image

-- What C was told by each call: returned number, buffer, block or list, and the eight numbers.
unfoldable pub c_log : List ℕ → List CCall → List FromC
c_log first [] = []
c_log first (c ∷ before) = made_from_c c.call (image_after first before ++ c.rest) c.out ∷ c_log first before

-- The same by the ledger, from opening's values, the calls and what is lent to them alone.
unfoldable pub ledger_clog : Setup → List CCall → List FromC
ledger_clog s [] = []
ledger_clog s (c ∷ before) =
    let next = rule_from_c c.call s (ledger_after s (calls_of before)) (lent_to c.call) in
    told next.answer (ledger_image s next.ledger ++ c.rest) next.lent c.out ∷ ledger_clog s before
