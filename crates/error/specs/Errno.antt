-- What a kernel's errno means: 13 for 19 or 108 (ENODEV, ESHUTDOWN); 14 for 12 (ENOMEM) of a submission, with n × p × b,
-- which the caller gives; 15 for 13 or 1 (EACCES, EPERM); 16 for 25 (ENOTTY); 17 otherwise, with the errno, 12 of another call among these.
use Rattle.std.specs.Prelude.{ℕ, cond, ◌||◌, eqb}
use Rattle.error.specs.declared.Error.{Error}
use Rattle.error.specs.declared.ErrnoContext.{ErrnoContext}

unfoldable pub out_of_memory : ℕ → ErrnoContext → Error
out_of_memory errno (ErrnoContext.Submit bytes) = Error.UsbfsMemory bytes
out_of_memory errno ErrnoContext.Other = Error.Io errno

unfoldable pub from_errno : ℕ → ErrnoContext → Error
from_errno errno context =
    cond (eqb errno 19 || eqb errno 108) Error.Disconnected
    (cond (eqb errno 12) (out_of_memory errno context)
    (cond (eqb errno 13 || eqb errno 1) Error.PermissionDenied
    (cond (eqb errno 25) Error.Unsupported (Error.Io errno))))
