-- The ten calls as C makes them: their lists are lent as bytes.
use Rattle.std.specs.Prelude.{ℕ, List}
use Rattle.sys.specs.Bytes.{store}
use Rattle.ledger.specs.Step.{Rule}
use Rattle.ledger.specs.Commit.{commit_packets as commit_packets_rule}
use Rattle.ledger.specs.Control.{stop as stop_rule}
use Rattle.ledger.specs.Calls.{Call, turn, commit, commit_full, commit_packets, submitted, reaped, give_back, start, stop, finish}
use Rattle.ledger.specs.Calls.{rule, lent_to}
use Rattle.encoding.specs.Words.{words, list_in}
use Rattle.from_c.specs.Told.{FromC}
use Rattle.from_c.specs.FromC.{from_c}

-- A rule on a list that is lent as bytes: a ragged end doesn't count and stays.
unfoldable pub on_list : Rule → Rule
on_list rule s l bytes =
    let next = rule s l (list_in bytes) in
    record { ledger = next.ledger; answer = next.answer; lent = store 0 (words 8 next.lent) bytes }

-- A call's rule, the call's lists being bytes.
unfoldable pub rule_from_c : Call → Rule
rule_from_c (turn block) = rule (turn block)
rule_from_c (commit bytes block) = rule (commit bytes block)
rule_from_c (commit_full block) = rule (commit_full block)
rule_from_c (commit_packets lengths block) = commit_packets_rule (list_in lengths)
rule_from_c (submitted reply block) = rule (submitted reply block)
rule_from_c (reaped reply block) = rule (reaped reply block)
rule_from_c give_back = rule give_back
rule_from_c start = rule start
rule_from_c (stop list) = on_list stop_rule
rule_from_c finish = rule finish

-- A call from C on an image's buffer, with the slice for the eight numbers.
unfoldable pub made_from_c : Call → List ℕ → List ℕ → FromC
made_from_c c bytes out = from_c (rule_from_c c) bytes (lent_to c) out
