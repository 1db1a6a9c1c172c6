-- A script that is read in pieces: its lines, whole or not, and what one read does.
use Rattle.std.specs.Prelude.{◌≡◌, ℕ, ◌+◌, ◌≤◌, List, [], ◌∷◌, ◌++◌, length, nat_eq, if◌then◌else◌, Option, Result, Ok, Err}
use Rattle.std.specs.Io.KnownBytes.{Consumes, IsAtEnd}
use Rattle.store_run.specs.declared.pieces.TheConstants.{SCRIPT_LIMIT, PIECE_LIMIT}
use Rattle.store_run.specs.declared.pieces.Unread.{Unread}
use Rattle.store_run.specs.declared.status.Status.{Status}
use Rattle.store_run.specs.declared.status.Status.TheVariants.{ReadFault, TooLong}

-- a byte before the first of these whole lines; where there is none, its line isn't whole
abbrev pub onto_whole : ℕ → List (List ℕ) → List (List ℕ)
onto_whole b [] = []
onto_whole b (line ∷ lines) = (b ∷ line) ∷ lines

-- the whole lines of a text: those that the byte 10 ends
abbrev pub whole_lines : List ℕ → List (List ℕ)
whole_lines [] = []
whole_lines (b ∷ bytes) = if nat_eq b 10 then [] ∷ whole_lines bytes else onto_whole b (whole_lines bytes)

-- so many bytes were read, behind those that were unread
pub record PieceRead (before now : Option (List ℕ)) (old new : Unread) (count : ℕ) : Type 0 where
  pub more : List ℕ
  pub ahead : new.ahead.items ≡ old.ahead.items ++ more
  pub len : length more ≡ count
  pub few : count ≤ PIECE_LIMIT
  pub consumed : Consumes before now more
  pub at_end : count ≡ 0 → IsAtEnd now
  pub taken : new.taken ≡ old.taken + count
  pub within : new.taken ≤ SCRIPT_LIMIT

-- there is a byte more than a script may have
pub record ByteOver (before now : Option (List ℕ)) (old : Unread) : Type 0 where
  pub byte : ℕ
  pub consumed : Consumes before now (byte ∷ [])
  pub all_taken : old.taken ≡ SCRIPT_LIMIT

-- what one read did
abbrev pub Reads : Option (List ℕ) → Option (List ℕ) → Unread → Unread → Result ℕ Status → Type 0
Reads before now old new (Ok count) = PieceRead before now old new count
Reads before now old new (Err ReadFault) = Consumes before now [] × (new ≡ old)
Reads before now old new (Err TooLong) = ByteOver before now old × (new ≡ old)
Reads before now old new (Err status) = ⊥

-- what a read of a byte did, where a script's limit was taken
abbrev pub ReadsEnd : Option (List ℕ) → Option (List ℕ) → Result ℕ Status → Type 0
ReadsEnd before now (Ok count) = (count ≡ 0) × Consumes before now [] × IsAtEnd now
ReadsEnd before now (Err ReadFault) = Consumes before now []
ReadsEnd before now (Err TooLong) = (byte : ℕ) × Consumes before now (byte ∷ [])
ReadsEnd before now (Err status) = ⊥
