-- Bus speed: the kernel's numbers, the probe of a device, the service interval of each speed and the cap on how many
-- of them lie between two packets.
use Rattle.std.specs.Prelude.{ℕ, Bool, cond, ℤ, pos, negsuc, eqb, Option, Some, None}
use Rattle.schedule.specs.declared.speed.Speed.{Speed}
use Rattle.schedule.specs.declared.speed.Speed.TheVariants.{Unknown, Low, Full, High, Wireless, Super, SuperPlus}

-- 1 to 6 are Low, Full, High, Wireless, Super, SuperPlus, all else Unknown.
unfoldable pub from_raw : ℤ → Speed
from_raw (negsuc n) = Unknown
from_raw (pos n) =
    cond (eqb n 1) Low
    (cond (eqb n 2) Full
    (cond (eqb n 3) High
    (cond (eqb n 4) Wireless
    (cond (eqb n 5) Super
    (cond (eqb n 6) SuperPlus
    Unknown)))))

-- First packet size 9 gives Super, else with a qualifier High, without one Full.
abbrev pub from_device_probe : ℕ → Bool → Speed
from_device_probe size qualifier = cond (eqb size 9) Super (cond qualifier High Full)

-- Base: 1000 µs (Full) or 125 µs (High, Super, SuperPlus); the other speeds have none, which gives 21.
abbrev pub service_interval_us : Speed → Option ℕ
service_interval_us Unknown = None
service_interval_us Low = None
service_interval_us Full = Some 1000
service_interval_us High = Some 125
service_interval_us Wireless = None
service_interval_us Super = Some 125
service_interval_us SuperPlus = Some 125

-- At most 1024 service intervals (Full) or 8192; on Super and SuperPlus 32,768 (request 2026-05). The kernel's caps: USB 2.0 has none.
abbrev pub max_intervals : Speed → ℕ
max_intervals Unknown = 8192
max_intervals Low = 8192
max_intervals Full = 1024
max_intervals High = 8192
max_intervals Wireless = 8192
max_intervals Super = 32768
max_intervals SuperPlus = 32768
