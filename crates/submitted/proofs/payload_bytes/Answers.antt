-- `submitted::payload_bytes` meets its contract: within opening's limits the product fits.
-- Assumes nothing.
use Rattle.std.proofs.Common.{arith}
use Rattle.layout.proofs.Admission.{admits}
use Rattle.submitted.proofs.Failing.{payload-fits}
use Rattle.submitted.proofs.payload_bytes.Goals as goal

pub overflow_mul-result : goal.overflow_mul-result
overflow_mul-result c =
    omega (arith, (payload-fits c.args.setup (admits _ c.requires).limits).0)

pub overflow_mul-result-2 : goal.overflow_mul-result-2
overflow_mul-result-2 c =
    omega (arith, (payload-fits c.args.setup (admits _ c.requires).limits).1)
