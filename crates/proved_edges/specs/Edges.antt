-- The paper's "Edges by number", those marked P, in its order and about the definitions that the contracts cite; after High's figures
-- those of request 2026-05, and at the end the case of request 2026-12.
use Rattle.std.specs.Prelude.{ℕ, ◌-◌, ◌^◌, true, false, List, [], ◌∷◌, map, ◌≡◌, ℤ, pos, negsuc, drop, Ok, Err, Some}
use Rattle.error.specs.declared.Error.{Error}
use Rattle.error.specs.Number.{number_of}
use Rattle.sys.specs.Bytes.{le}
use Rattle.sys.specs.Header.{status_at}
use Rattle.sys.specs.declared.descriptor.IsoPacketDesc.{IsoPacketDesc}
use Rattle.schedule.specs.declared.speed.Speed.{Speed}
use Rattle.schedule.specs.declared.descriptor.Endpoint.{Endpoint}
use Rattle.schedule.specs.declared.Depth.{Depth}
use Rattle.schedule.specs.Interval.{packet_interval_us}
use Rattle.schedule.specs.Derive.{derived}
use Rattle.schedule.specs.Endpoint.{bytes_per_interval}
use Rattle.layout.specs.declared.Setup.{Setup}
use Rattle.layout.specs.Layout.{laid_out}
use Rattle.layout.specs.Numbers.{setup_from}
use Rattle.layout.specs.Places.{places_of}
use Rattle.stream.specs.declared.Answer.{Answer}
use Rattle.stream.specs.declared.IsoStats.{IsoStats}
use Rattle.opening.specs.Opened.{opened_stream}
use Rattle.opening.specs.Open.{opened_block}
use Rattle.ledger.specs.Notice.{slot_of_urb, packets_at}
use Rattle.ledger.specs.Record.{Outcome}
use Rattle.ledger.specs.Calls.{turn, commit, commit_full, submitted, reaped, start, stop, finish, made}
use Rattle.history.specs.History.{record_after}
use Rattle.proved_edges.specs.Hosts.{Host, opened, call_plain, call_lent, kernel_writes}

-- An answer is the refusal with that number.
pub record Refuses {A : Type 0} (refused : Error → A) (answer : A) (number : ℕ) : Type 0 where
  pub error : Error
  pub is : answer ≡ refused error
  pub numbered : number_of error ≡ number

-- R, at base 65,536: n, p, b, endpoint, policy, silence byte, base, tag, f.
abbrev pub R : Setup
R = setup_from (4 ∷ 8 ∷ 100 ∷ 1 ∷ 0 ∷ 0 ∷ 65536 ∷ 0 ∷ 1 ∷ [])

-- Two slots, FillSilence.
abbrev pub two : Setup
two = setup_from (2 ∷ 1 ∷ 192 ∷ 1 ∷ 1 ∷ 0 ∷ 65536 ∷ 0 ∷ 1 ∷ [])

-- On a ring: a commit of slot 0, which the first turn gave.
abbrev pub committed_on : Setup → ℕ → Outcome
committed_on s bytes = made (commit bytes (opened_block s)) (record_after (opened_stream s) (turn (opened_block s) ∷ []))

-- It is taken, and leaves these lengths in the slot's eight descriptors.
pub record Commits (s : Setup) (bytes : ℕ) (lengths : List ℕ) : Type 0 where
  pub answer : (committed_on s bytes).answer ≡ Answer.Submit 0
  pub written : map (λ (d : IsoPacketDesc). d.length) (packets_at 8 (places_of s 0).descs (committed_on s bytes).lent) ≡ lengths

-- On R as opened: a notice of that address.
abbrev pub notice_on : ℕ → Answer
notice_on address = (made (reaped (Ok address) (opened_block R)) (opened_stream R)).answer

-- start, turn, commit, accepted, reaped 0, turn, accepted, accepted.
unfoldable pub eight_calls : Host
eight_calls =
    call_lent (submitted (Ok tt))
    (call_lent (submitted (Ok tt))
    (call_lent turn
    (call_lent (reaped (Ok 65536))
    (call_lent (submitted (Ok tt))
    (call_lent (commit 192)
    (call_lent turn
    (call_plain start
    (opened two))))))))

-- The front slot is sent.
unfoldable pub sent : Host → Host
sent h = call_lent (submitted (Ok tt)) (call_lent commit_full (call_lent turn h))

-- R with three out, and stop.
unfoldable pub stopped_r : Host
stopped_r = call_plain (stop (0 ∷ 0 ∷ 0 ∷ 0 ∷ [])) (sent (sent (sent (opened R))))

-- Slots 2 and 1 are returned, in the other order than they were sent in; a notice of slot 3, which was not out; finish.
unfoldable pub two_returned : Host
two_returned =
    call_plain finish
    (call_lent (reaped (Ok 65992))
    (call_lent (reaped (Ok 65688))
    (call_lent (reaped (Ok 65840))
    stopped_r)))

-- Slot 0 is returned with status -19; finish.
unfoldable pub all_returned : Host
all_returned =
    call_plain finish
    (call_lent (reaped (Ok 65536))
    (kernel_writes status_at (le 4 (2 ^ 32 - 19))
    two_returned))

-- A full slot of R that was discarded before any of it was played, with this status.
abbrev pub discarded_with : ℤ → Answer
discarded_with status =
    Answer.Completed
    (record {
      status = status;
      actual_bytes = 0;
      requested_bytes = 800;
      short_bytes = 800;
      packet_errors = 0;
      was_discarded = true;
    })

-- The counters with three full slots of R submitted, and nothing else.
abbrev pub three_submitted : IsoStats
three_submitted =
    record {
      urbs_submitted = 3;
      urbs_completed = 0;
      bytes_submitted = 2400;
      bytes_transferred = 0;
      short_bytes = 0;
      packet_errors = 0;
      urb_errors = 0;
      underruns = 0;
    }

-- An isochronous endpoint with this wMaxPacketSize.
abbrev pub endpoint_of : ℕ → Endpoint
endpoint_of size = record { address = 1; attributes = 1; max_packet_size = size; interval = 1 }

pub record Edges : Type 0 where
  -- Layout (2,1,192): strides 72 and 192, data base 192, total 576.
  pub layout-2-1-192 :
      laid_out 2 1 192 1
      ≡ Ok
      (record {
        slots = 2;
        slot_stride = 72;
        data_base = 192;
        data_stride = 192;
        packet_bytes = 192;
        packets_per_urb = 1;
        total_bytes = 576;
        align = 64;
        slot_capacity = 192;
      })
  -- (4,8,100), call it R: 152, 832, 640, 3968.
  pub layout-R :
      laid_out 4 8 100 1
      ≡ Ok
      (record {
        slots = 4;
        slot_stride = 152;
        data_base = 640;
        data_stride = 832;
        packet_bytes = 100;
        packets_per_urb = 8;
        total_bytes = 3968;
        align = 64;
        slot_capacity = 800;
      })
  -- (2,128,1): stride 1592, base 3200, total 3456.
  pub layout-2-128-1 :
      laid_out 2 128 1 1
      ≡ Ok
      (record {
        slots = 2;
        slot_stride = 1592;
        data_base = 3200;
        data_stride = 128;
        packet_bytes = 1;
        packets_per_urb = 128;
        total_bytes = 3456;
        align = 64;
        slot_capacity = 128;
      })
  -- 129 packets: 3.
  pub packets-129 : Refuses Err (laid_out 2 129 1 1) 3
  -- On R, commit 800: all 100; 801: 10; 250: 100, 100, 50, five 0; 0: zeros.
  pub commit-800 : Commits R 800 (100 ∷ 100 ∷ 100 ∷ 100 ∷ 100 ∷ 100 ∷ 100 ∷ 100 ∷ [])
  pub commit-801 : Refuses Answer.Refused (committed_on R 801).answer 10
  pub commit-250 : Commits R 250 (100 ∷ 100 ∷ 50 ∷ 0 ∷ 0 ∷ 0 ∷ 0 ∷ 0 ∷ [])
  pub commit-0 : Commits R 0 (0 ∷ 0 ∷ 0 ∷ 0 ∷ 0 ∷ 0 ∷ 0 ∷ 0 ∷ [])
  -- R at base 65,536: address 65,688 names slot 1 (18 while that is Free);
  pub address-65688 : slot_of_urb R 65688 (opened_block R) ≡ Some 1
  pub stray-65688 : Refuses Answer.Refused (notice_on 65688) 18
  -- 65,689, 66,144 and 65,535 Foreign.
  pub address-65689 : notice_on 65689 ≡ Answer.Foreign
  pub address-66144 : notice_on 66144 ≡ Answer.Foreign
  pub address-65535 : notice_on 65535 ≡ Answer.Foreign
  -- High, bInterval 4, 20 ms, 8 packets: 1000 µs, 3 URBs.
  pub high-20-ms :
      derived Speed.High 4 192 (Depth.Millis 20) (Some 8)
      ≡ Ok
      (record { speed = Speed.High; b_interval = 4; packet_interval_us = 1000; packets_per_urb = 8; urbs = 3; packet_bytes = 192 })
  -- Full 11 and 12, High 14 and 16: 1,024,000 µs.
  pub full-11 : packet_interval_us Speed.Full 11 ≡ Ok 1024000
  pub full-12 : packet_interval_us Speed.Full 12 ≡ Ok 1024000
  pub high-14 : packet_interval_us Speed.High 14 ≡ Ok 1024000
  pub high-16 : packet_interval_us Speed.High 16 ≡ Ok 1024000
  -- Request 2026-05: Super and SuperPlus 15: 2,048,000 µs; 16: 4,096,000 µs. Their 14 and High's 15 stay at 1,024,000 µs.
  pub high-15 : packet_interval_us Speed.High 15 ≡ Ok 1024000
  pub super-14 : packet_interval_us Speed.Super 14 ≡ Ok 1024000
  pub super-15 : packet_interval_us Speed.Super 15 ≡ Ok 2048000
  pub super-16 : packet_interval_us Speed.Super 16 ≡ Ok 4096000
  pub super-plus-14 : packet_interval_us Speed.SuperPlus 14 ≡ Ok 1024000
  pub super-plus-15 : packet_interval_us Speed.SuperPlus 15 ≡ Ok 2048000
  pub super-plus-16 : packet_interval_us Speed.SuperPlus 16 ≡ Ok 4096000
  -- wMaxPacketSize 1400 hex: 3072.
  pub size-1400 : bytes_per_interval (endpoint_of 0x1400) ≡ 3072
  -- Two slots, FillSilence: start, turn Slot(0), commit, accepted, reaped 0, turn Submit(1), accepted Submit(0), accepted Nothing:
  pub silence-answers :
      eight_calls.answers
      ≡ Answer.Done
      ∷ Answer.Slot 0
      ∷ Answer.Submit 0
      ∷ Answer.Done
      ∷ Answer.Completed
      (record {
        status = pos 0;
        actual_bytes = 0;
        requested_bytes = 192;
        short_bytes = 192;
        packet_errors = 0;
        was_discarded = false;
      })
      ∷ Answer.Submit 1
      ∷ Answer.Submit 0
      ∷ Answer.Nothing
      ∷ []
  -- submitted 3, completed 1, underruns 1.
  pub silence-counters :
      eight_calls.stream.stats
      ≡ record {
        urbs_submitted = 3;
        urbs_completed = 1;
        bytes_submitted = 576;
        bytes_transferred = 0;
        short_bytes = 192;
        packet_errors = 0;
        urb_errors = 0;
        underruns = 1;
      }
  -- Request 2026-12, R with three out: stop; two returned, in the other order, and 18 for a slot that was not out: 13; the third, with
  -- status -19: Yes; the counters as at the stop.
  pub shutdown-answers :
      drop 9 all_returned.answers
      ≡ Answer.Stopped 3
      ∷ discarded_with (pos 0)
      ∷ discarded_with (pos 0)
      ∷ Answer.Refused Error.StrayNotice
      ∷ Answer.Refused Error.Disconnected
      ∷ discarded_with (negsuc 18)
      ∷ Answer.Yes
      ∷ []
  pub shutdown-at-stop : stopped_r.stream.stats ≡ three_submitted
  pub shutdown-counters : all_returned.stream.stats ≡ three_submitted
