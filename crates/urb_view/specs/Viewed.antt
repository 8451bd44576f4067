-- What is read through a view of a block: the fields of the header that stands at its offset.
use Rattle.error.specs.declared.Error.{Error}
use Rattle.std.specs.Prelude.{ℕ, ◌+◌, cond, List, leb, length, Result, Ok, Err}
use Rattle.error.specs.declared.Error.TheVariants.{BlockLength}
use Rattle.sys.specs.declared.header.Urb.{Urb}
use Rattle.sys.specs.Header.{header_at, header_size}
use Rattle.urb_view.specs.declared.UrbFields.{UrbFields}

-- The fields of a header that the ring reads.
unfoldable pub fields_of : Urb → UrbFields
fields_of u = record {
  status = u.status;
  buffer_length = u.buffer_length;
  actual_length = u.actual_length;
  error_count = u.error_count;
  usercontext = u.usercontext;
}

-- Reading them: refused with 6 where the block has no 56 bytes there.
unfoldable pub fields_read : ℕ → List ℕ → Result UrbFields Error
fields_read at block = cond (leb (at + header_size) (length block)) (Ok (fields_of (header_at at block))) (Err BlockLength)
