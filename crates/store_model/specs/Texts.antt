-- The texts of calls, replies, entries and histories.
use Rattle.std.specs.Prelude.{ℕ, ◌<◌, ◌≤◌, ◌^◌, Bool, true, false, Option, Some, None, List, [], ◌∷◌, ◌++◌, codes, map, flat_map, decimal}
use Rattle.std.specs.List.{AllByRecursion}
use Rattle.object_graph.specs.NameParts.{NameParts, IsName}
use Rattle.object_graph.specs.declared.limits.TheConstants.{MOST_SLOTS}
use Rattle.object_graph.specs.Slots.{slots_in}
use Rattle.object_graph.specs.declared.calls.Call.{Call}
use Rattle.object_graph.specs.declared.calls.Call.TheVariants.{Begin, Get, Number, Set, Put, New, Commit, Abort, OpenCut, Copy, HandIn, Close, Mark, Sweep, EndCut, DropCut, Reopen}
use Rattle.object_graph.specs.declared.calls.Reply.{Reply}
use Rattle.object_graph.specs.declared.calls.Reply.TheVariants.{Done, Ref, Num, Made, Committed, Cut, Freed, Reopened, Refused}
use Rattle.object_graph.specs.declared.calls.Phase.{Phase}
use Rattle.object_graph.specs.declared.calls.Phase.TheVariants.{Copying, Closed, Sweeping}
use Rattle.object_graph.specs.declared.calls.Refusal.{Refusal}
use Rattle.object_graph.specs.declared.calls.Refusal.TheVariants.{NotOpen, Stranger, BadField, NoPage, Busy, TooWide, KnowsTooMany, PageFull, AlreadyOpen, TooMany, CutThere, NoCut, WrongPhase, AlreadyCopied, Uncopied, OtherCut, AlreadySwept, Unswept, Spent, DiskFault, Broken, NotAStore, Damaged, Memory}
use Rattle.object_graph.specs.declared.calls.Entry.{Entry}
use Rattle.store_model.specs.Worlds.{Event}

-- page, slot and generation, parted by points
abbrev pub name_text : NameParts → List ℕ
name_text n = decimal n.page ++ (46 ∷ decimal n.slot ++ (46 ∷ decimal n.generation))

abbrev pub ref_text : Option NameParts → List ℕ
ref_text None = codes "none"
ref_text (Some name) = name_text name

abbrev pub phase_text : Phase → List ℕ
phase_text Copying = codes "copying"
phase_text Closed = codes "closed"
phase_text Sweeping = codes "sweeping"

-- the slots of a list, each after a space
abbrev pub slots_text : List ℕ → List ℕ
slots_text [] = codes " none"
slots_text (slot ∷ slots) = flat_map (λ s. 32 ∷ decimal s) (slot ∷ slots)

abbrev pub refusal_text : Refusal → List ℕ
refusal_text NotOpen = codes "not open"
refusal_text Stranger = codes "stranger"
refusal_text BadField = codes "bad field"
refusal_text NoPage = codes "no page"
refusal_text (Busy holder) = codes "busy " ++ decimal holder
refusal_text TooWide = codes "too wide"
refusal_text KnowsTooMany = codes "knows too many"
refusal_text (PageFull page) = codes "page full " ++ decimal page
refusal_text AlreadyOpen = codes "already open"
refusal_text TooMany = codes "too many"
refusal_text (CutThere number) = codes "cut there " ++ decimal number
refusal_text NoCut = codes "no cut"
refusal_text (WrongPhase now) = codes "wrong phase " ++ phase_text now
refusal_text (AlreadyCopied page) = codes "already copied " ++ decimal page
refusal_text (Uncopied page) = codes "uncopied " ++ decimal page
refusal_text (OtherCut now) = codes "other cut " ++ decimal now
refusal_text (AlreadySwept page) = codes "already swept " ++ decimal page
refusal_text (Unswept page) = codes "unswept " ++ decimal page
refusal_text (Spent count) = codes "spent " ++ decimal count
refusal_text DiskFault = codes "disk fault"
refusal_text (Broken faults) = codes "broken " ++ decimal faults
refusal_text NotAStore = codes "not a store"
refusal_text (Damaged at) = codes "damaged " ++ decimal at
refusal_text Memory = codes "memory"

abbrev pub reply_text : Reply → List ℕ
reply_text Done = codes "ok"
reply_text (Ref target) = codes "ref " ++ ref_text target
reply_text (Num value) = codes "num " ++ decimal value
reply_text (Made name) = codes "new " ++ name_text name
reply_text (Committed commits) = codes "commit " ++ decimal commits
reply_text (Cut number) = codes "cut " ++ decimal number
reply_text (Freed slots) = codes "freed" ++ slots_text (slots_in slots)
reply_text (Reopened commits) = codes "open " ++ decimal commits
reply_text (Refused why) = refusal_text why

-- the numbers in a refusal, in the order of its text
abbrev pub refusal_numbers : Refusal → List ℕ
refusal_numbers (Busy holder) = holder ∷ []
refusal_numbers (PageFull page) = page ∷ []
refusal_numbers (CutThere number) = number ∷ []
refusal_numbers (AlreadyCopied page) = page ∷ []
refusal_numbers (Uncopied page) = page ∷ []
refusal_numbers (OtherCut now) = now ∷ []
refusal_numbers (AlreadySwept page) = page ∷ []
refusal_numbers (Unswept page) = page ∷ []
refusal_numbers (Spent count) = count ∷ []
refusal_numbers (Broken faults) = faults ∷ []
refusal_numbers (Damaged at) = at ∷ []
refusal_numbers _ = []

-- the numbers in a reply that frees nothing, in the order of its text
abbrev pub reply_numbers : Reply → List ℕ
reply_numbers (Ref (Some name)) = name.page ∷ name.slot ∷ name.generation ∷ []
reply_numbers (Num value) = value ∷ []
reply_numbers (Made name) = name.page ∷ name.slot ∷ name.generation ∷ []
reply_numbers (Committed commits) = commits ∷ []
reply_numbers (Cut number) = number ∷ []
reply_numbers (Reopened commits) = commits ∷ []
reply_numbers (Refused why) = refusal_numbers why
reply_numbers _ = []

-- the reply tells which slots were freed
abbrev pub is_freeing : Reply → Bool
is_freeing (Freed slots) = true
is_freeing _ = false

-- what is freed is a set of slots
abbrev pub FreesSlots : Reply → Type 0
FreesSlots (Freed slots) = slots < 2 ^ MOST_SLOTS
FreesSlots _ = Unit {0}

-- each number fits 64 bits
abbrev pub AreShort : List ℕ → Type 0
AreShort numbers = AllByRecursion (λ n. n < 2 ^ 64) numbers

-- a reply's line
abbrev pub event_text : Event → List ℕ
event_text e = reply_text e.entry.reply ++ 10 ∷ []

-- what a run writes: the line of each reply
abbrev pub history_text : List Event → List ℕ
history_text = flat_map event_text

-- a word of a line: a fixed one, a transaction, page or field, a value, a count of workers or a lane, or a name
pub data Word : Type 0 where
  label : List ℕ → Word
  short : ℕ → Word
  long : ℕ → Word
  few : ℕ → Word
  named : NameParts → Word

abbrev pub word_text : Word → List ℕ
word_text (label text) = text
word_text (short n) = decimal n
word_text (long n) = decimal n
word_text (few n) = decimal n
word_text (named name) = name_text name

-- the word is in its range
abbrev pub IsWord : Word → Type 0
IsWord (label text) = Unit {0}
IsWord (short n) = n < 2 ^ 32
IsWord (long n) = n < 2 ^ 64
IsWord (few n) = (1 ≤ n) × (n ≤ 16)
IsWord (named name) = IsName name

-- words parted by single spaces
abbrev pub joined_words : List (List ℕ) → List ℕ
joined_words [] = []
joined_words (word ∷ []) = word
joined_words (word ∷ next ∷ words) = word ++ 32 ∷ joined_words (next ∷ words)

-- the table of the calls' lines; a reference is set to none by a word of its own
abbrev pub call_words : Call → List Word
call_words (Begin txn) = label (codes "begin") ∷ short txn ∷ []
call_words (Get txn name field) = label (codes "get") ∷ short txn ∷ named name ∷ short field ∷ []
call_words (Number txn name) = label (codes "num") ∷ short txn ∷ named name ∷ []
call_words (Set txn name field (Some target)) = label (codes "set") ∷ short txn ∷ named name ∷ short field
    ∷ named target ∷ []
call_words (Set txn name field None) = label (codes "nil") ∷ short txn ∷ named name ∷ short field ∷ []
call_words (Put txn name value) = label (codes "put") ∷ short txn ∷ named name ∷ long value ∷ []
call_words (New txn page) = label (codes "new") ∷ short txn ∷ short page ∷ []
call_words (Commit txn) = label (codes "commit") ∷ short txn ∷ []
call_words (Abort txn) = label (codes "abort") ∷ short txn ∷ []
call_words OpenCut = label (codes "open") ∷ []
call_words (Copy page) = label (codes "copy") ∷ short page ∷ []
call_words (HandIn page cut seen) = label (codes "copy") ∷ short page ∷ []
call_words Close = label (codes "close") ∷ []
call_words (Mark workers) = label (codes "mark") ∷ few workers ∷ []
call_words (Sweep page) = label (codes "sweep") ∷ short page ∷ []
call_words EndCut = label (codes "end") ∷ []
call_words DropCut = label (codes "drop") ∷ []
call_words Reopen = label (codes "reopen") ∷ []

-- a call's line
abbrev pub call_text : Call → List ℕ
call_text call = joined_words (map word_text (call_words call))

abbrev pub word_numbers : Word → List ℕ
word_numbers (label text) = []
word_numbers (short n) = n ∷ []
word_numbers (long n) = n ∷ []
word_numbers (few n) = n ∷ []
word_numbers (named name) = name.page ∷ name.slot ∷ name.generation ∷ []

-- the numbers in a call, in the order of its text
abbrev pub call_numbers : Call → List ℕ
call_numbers call = flat_map word_numbers (call_words call)

-- the call is a copy that is handed in, whose text is that of a copy
abbrev pub is_hand_in : Call → Bool
is_hand_in (HandIn page cut seen) = true
is_hand_in _ = false

-- an entry's line with its end: lane, call and reply
abbrev pub entry_text : Entry → List ℕ
entry_text e = decimal e.lane ++ (32 ∷ call_text e.call ++ (codes ": " ++ (reply_text e.reply ++ 10 ∷ [])))

-- what lanes write: the line of each entry
abbrev pub chronicle_text : List Event → List ℕ
chronicle_text = flat_map (λ (e : Event). entry_text e.entry)
