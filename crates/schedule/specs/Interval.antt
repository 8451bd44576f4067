-- packet_interval_us: refusals 21 and 22, then base × 2^(bInterval - 1), the multiplier capped.
use Rattle.std.specs.Prelude.{ℕ, ◌-◌, ◌*◌, ◌^◌, min, cond, ltb, Result, Ok, Err, Option, Some, None}
use Rattle.error.specs.declared.Error.{Error}
use Rattle.schedule.specs.declared.speed.Speed.{Speed}
use Rattle.schedule.specs.Speed.{service_interval_us, max_intervals}

-- bInterval is an exponent: 2^(bInterval - 1) service intervals, at most the cap.
abbrev pub multiplier : ℕ → ℕ → ℕ
multiplier b_interval cap = min (2 ^ (b_interval - 1)) cap

-- 21 without a base; 22 for a bInterval outside 1..16; else the base times the multiplier.
unfoldable pub interval_from : Option ℕ → ℕ → ℕ → Result ℕ Error
interval_from None b_interval cap = Err Error.UnsupportedSpeed
interval_from (Some base) b_interval cap =
    cond (ltb b_interval 1) (Err Error.InvalidInterval)
    (cond (ltb 16 b_interval) (Err Error.InvalidInterval)
    (Ok (base * multiplier b_interval cap)))

unfoldable pub packet_interval_us : Speed → ℕ → Result ℕ Error
packet_interval_us speed b_interval = interval_from (service_interval_us speed) b_interval (max_intervals speed)
