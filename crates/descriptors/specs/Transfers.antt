-- What one call of `read` or `write` did, and what the functions that make it promise of their counts. Assumes nothing.
use Rattle.std.specs.Prelude.{ℕ, zero, suc, ◌+◌, ◌≤◌, ◌<◌, Bool, true, false, List, ℤ, pos, negsuc, eqb, length, Option, None, Some, Result, Ok, Err}
use Rattle.std.specs.IoError.{raw_os_error}
use Rattle.std.specs.declared.io.Error.{Error}
use Rattle.descriptors.specs.declared.transfers.Transfer.{Transfer}
use Rattle.descriptors.specs.declared.transfers.Transfer.TheVariants.{Bytes, Nothing, Interrupted, Failed}

-- the error of a call that a signal interrupted (EINTR)
abbrev pub interrupted : ℤ → Bool
interrupted (pos n) = eqb n 4
interrupted (negsuc n) = false

-- an error that is not the system's has no number
abbrev pub interrupted_by : Option ℤ → Bool
interrupted_by None = false
interrupted_by (Some number) = interrupted number

abbrev pub failed_by : Bool → Error → Transfer
failed_by true e = Interrupted e
failed_by false e = Failed e

-- by the answer, and the error's number
abbrev pub transfer_of : Result ℕ Error → Transfer
transfer_of (Ok zero) = Nothing
transfer_of (Ok (suc n)) = Bytes (suc n)
transfer_of (Err e) = failed_by (interrupted_by (raw_os_error e)) e

-- what was moved is something, and fits behind the first `done` of `most` bytes
abbrev pub Room : Transfer → ℕ → ℕ → Type 0
Room (Bytes n) done most = (0 < n) × (done + n ≤ most)
Room Nothing done most = Unit {0}
Room (Interrupted e) done most = Unit {0}
Room (Failed e) done most = Unit {0}

-- a whole input stands in the buffer
abbrev pub Held : Result ℕ Error → List ℕ → Type 0
Held (Ok n) buffer = n ≤ length buffer
Held (Err e) buffer = Unit {0}
