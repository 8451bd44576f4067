-- The service interval and the multiplier: their bounds, and that a packet interval is not zero.
-- Assumes nothing.
use Rattle.std.specs.Prelude.{Ok}
use Rattle.std.proofs.Common.{◌≡◌, ◌-◌, ◌*◌, ◌^◌, ◌≤◌, ◌<◌, ℕ, arith}
use native.Mathlib.Nat.{mul-le-mul, mul-pos}
use lib.Pow.{pow_pos}
use Rattle.schedule.specs.declared.speed.Speed.{Speed}
use Rattle.schedule.specs.Speed.{max_intervals}
use Rattle.schedule.specs.Interval.{packet_interval_us, interval_from}

-- the cap on the multiplier is not zero, and at most 32768
pub cap-bounds : (s : Speed) → (0 < max_intervals s) × (max_intervals s ≤ 32768)
cap-bounds Speed.Unknown = omega arith
cap-bounds Speed.Low = omega arith
cap-bounds Speed.Full = omega arith
cap-bounds Speed.High = omega arith
cap-bounds Speed.Wireless = omega arith
cap-bounds Speed.Super = omega arith
cap-bounds Speed.SuperPlus = omega arith

-- a service interval times its multiplier fits 32 bits
pub interval-fits : (base most m : ℕ) → base ≤ 1000 → most ≤ 32768 → m ≤ most → base * m < 2 ^ 32
interval-fits base most m p q r =
    let k : m ≤ 32768 = omega arith in
    let h : base * m ≤ 1000 * 32768 = mul-le-mul p k in
    omega arith

-- a packet interval is not zero
pub interval-positive : (s : Speed) (b us : ℕ) → Ok us ≡ packet_interval_us s b → 0 < us
unfolding packet_interval_us interval_from
interval-positive s b us e = let p : 0 < 2 ^ (b - 1) = pow_pos (b - 1) in grind (arith, mul-pos)
