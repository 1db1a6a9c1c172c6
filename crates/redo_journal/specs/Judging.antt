-- What a reader of an area answers, beside what reading its bytes gives.
use Rattle.std.specs.Prelude.{◌≡◌, ⊤, ℕ, Result, Ok, Err}
use Rattle.redo_journal.specs.declared.faults.AreaFault.{AreaFault}
use Rattle.redo_journal.specs.declared.faults.AreaFault.TheVariants.{DiskFault, BadRecord, Memory}

-- a place is that of the first wrong field; want of memory says nothing of the bytes
abbrev pub IsAreaFaultIn : {Y : Type 0} → Result Y ℕ → AreaFault → Type 0
IsAreaFaultIn read DiskFault = ⊥
IsAreaFaultIn read (BadRecord at) = read ≡ Err at
IsAreaFaultIn read Memory = ⊤

-- a reader gives what reading gives
abbrev pub AreaGives : {X : Type 0} → Result X ℕ → Result X AreaFault → Type 0
AreaGives read (Ok x) = read ≡ Ok x
AreaGives read (Err fault) = IsAreaFaultIn read fault
