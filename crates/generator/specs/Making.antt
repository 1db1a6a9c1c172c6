-- What the calls of a run did to a store, on the way.
use Rattle.std.specs.Prelude.{◌≡◌, ℕ, ◌+◌, ◌*◌, ◌<◌, ◌≤◌, Bool, true, false, Option, Some, None, Result, Ok, Err, List, [], ◌∷◌, map}
use Rattle.disk_trait.specs.declared.disk.Disk.{Ghosts as DiskOf}
use Rattle.object_graph.specs.NameParts.{NameParts}
use Rattle.object_graph.specs.Names.{root_name}
use Rattle.object_graph.specs.Slots.{below}
use Rattle.object_graph.specs.declared.calls.Phase.TheVariants.{Copying, Sweeping}
use Rattle.object_graph.specs.declared.calls.Call.{Call}
use Rattle.object_graph.specs.declared.calls.Call.TheVariants.{Begin, Get, New, Copy, Sweep}
use Rattle.object_graph.specs.declared.calls.Reply.{Reply}
use Rattle.object_graph.specs.declared.calls.Reply.TheVariants.{Done, Ref, Made as MadeReply, Committed, Refused}
use Rattle.object_graph.specs.declared.calls.Refusal.{Refusal}
use Rattle.object_graph.specs.declared.calls.Refusal.TheVariants.{Memory, DiskFault}
use Rattle.object_graph.specs.declared.calls.Entry.{Entry}
use Rattle.store_model.specs.Worlds.{World, Event, Note}
use Rattle.store_model.specs.Replies.{Answers}
use Rattle.store_model.specs.Steps.{after_answer, with_transaction, makes}
use Rattle.store_model.specs.Histories.{collection, is_refused}
use Rattle.cut_core.specs.Seen.{Seen}
use Rattle.store_machine.specs.Acts.{Acts, IsLegalRun}
use Rattle.generator.specs.Draws.{page_drawn}
use Rattle.generator.specs.Rounds.{store_pages, store_slots, caller_entry, made_on, writes_of, transaction_of, AreAnswered, IsRound, StopsRound, StopsCollection, FollowsGenerator, StopsGenerator, entries_of}
use Rattle.generator.specs.Summaries.{Counts, summary_text, summary}
use Rattle.generator.specs.Between.{IsResting, IsAlone, IsCollecting, learnt}
use Rattle.generator.specs.declared.asking.Stop.{Stop}
use Rattle.generator.specs.declared.asking.Stop.TheVariants.{Memory as ByMemory, DiskFault as ByDisk}
use Rattle.generator.specs.declared.summary.Tally.{Tally}

-- the refusal that stops a run
abbrev pub why_of : Stop → Refusal
why_of ByMemory = Memory
why_of ByDisk = DiskFault

-- neither a commit nor the opening of a cut
pub record IsUncounted (old new : World) : Type 0 where
  pub commits : new.commits ≡ old.commits
  pub cuts : new.last_cut ≡ old.last_cut

-- whether no object was made
abbrev pub is_none_made : Option NameParts → Bool
is_none_made None = true
is_none_made (Some name) = false

-- the name that a reply says was made
abbrev pub made_name : Reply → Option NameParts
made_name (MadeReply name) = Some name
made_name reply = None

-- the number of commits that a reply tells
abbrev pub commits_told : Reply → ℕ
commits_told (Committed commits) = commits
commits_told reply = 0

-- a run of so many rounds counts no more than this
pub record IsFew (tally : Tally) (rounds : ℕ) : Type 0 where
  pub full : tally.full ≤ rounds
  pub freed : tally.freed ≤ store_slots * rounds
  pub ended : tally.ended ≤ rounds

-- the world after New: as before, where the page was full
abbrev pub after_new : World → Option NameParts → World
after_new w None = w
after_new w (Some name) = with_transaction w 1 (makes name)

-- What follows speaks of a store over a disk with these members.
module _ {D : Type 0} (disks : DiskOf D) where
  -- the store made these entries, a legal history
  pub record MadeEntries (old new : Seen D) (entries : List Entry) : Type 0 where
    pub history : List Event
    pub acts : Acts disks old new history
    pub legal : IsLegalRun old.world history new.world
    pub are : entries_of history ≡ entries

  -- ---- one call

  -- the store answered the call
  pub record Replied (old new : Seen D) (call : Call) (reply : Reply) : Type 0 where
    pub made : MadeEntries old new (caller_entry call reply ∷ [])
    pub unrefused : is_refused reply ≡ false
    pub note : Note
    pub answers : Answers old.world call note reply
    pub is : new.world ≡ after_answer old.world call note reply

  -- it answered it, or the run stops
  abbrev pub Asked : Seen D → Seen D → Call → Result Reply Stop → Type 0
  Asked old new call (Ok reply) = Replied old new call reply
  Asked old new call (Err stop) = MadeEntries old new (caller_entry call (Refused (why_of stop)) ∷ [])

  -- an object was made on the page, or that is full
  pub record MadeNew (old new : Seen D) (page : ℕ) (made : Option NameParts) : Type 0 where
    pub entries : MadeEntries old new (caller_entry (New 1 page) (made_on page made) ∷ [])
    pub is : new.world ≡ after_new old.world made

  -- ---- a transaction

  pub record HasBegun (old new : Seen D) (field : ℕ) (target : Option NameParts) : Type 0 where
    pub made : MadeEntries old new
        (caller_entry (Begin 1) Done ∷ caller_entry (Get 1 root_name field) (Ref target) ∷ [])
    pub alone : IsAlone (learnt target (root_name ∷ [])) 1 new.world
    pub uncounted : IsUncounted old.world new.world

  abbrev pub BeginsRound : Seen D → Seen D → ℕ → Result (Option NameParts) Stop → Type 0
  BeginsRound old new field (Ok target) = HasBegun old new field target
  BeginsRound old new field (Err stop) = MadeEntries old new (caller_entry (Begin 1) (Refused (why_of stop)) ∷ [])

  -- these entries of the one open transaction were made, which knows these names afterwards
  pub record GoesOn (old new : Seen D) (entries : List Entry) (names : List NameParts) (calls : ℕ) : Type 0 where
    pub made : MadeEntries old new entries
    pub alone : IsAlone names calls new.world
    pub uncounted : IsUncounted old.world new.world

  -- the object of a round was made and written, or the page was full
  pub record Fills (old new : Seen D) (x i : ℕ) (before : Option NameParts) (full : Bool) : Type 0 where
    pub object : Option NameParts
    pub is_full : full ≡ is_none_made object
    pub goes : GoesOn old new (caller_entry (New 1 (page_drawn x)) (made_on (page_drawn x) object)
        ∷ writes_of x i before object) [] 10

  -- the transaction of a round was committed
  pub record HasTransacted (old new : Seen D) (x i : ℕ) (full : Bool) (number : ℕ) : Type 0 where
    pub before : Option NameParts
    pub object : Option NameParts
    pub is_full : full ≡ is_none_made object
    pub told : number ≡ new.world.commits
    pub made : MadeEntries old new (transaction_of x i before object)
    pub resting : IsResting new.world
    pub commits : new.world.commits ≡ old.world.commits + 1
    pub cuts : new.world.last_cut < new.world.commits

  -- entries were made that stop a round
  pub record Stops (old new : Seen D) (x i : ℕ) (stop : Stop) : Type 0 where
    pub entries : List Entry
    pub made : MadeEntries old new entries
    pub stops : StopsRound x i (why_of stop) entries

  abbrev pub Transacts : Seen D → Seen D → ℕ → ℕ → Result (Bool × ℕ) Stop → Type 0
  Transacts old new x i (Ok end) = HasTransacted old new x i end.0 end.1
  Transacts old new x i (Err stop) = Stops old new x i stop

  -- ---- a collection

  -- these calls were made, none of which is a commit, and none was refused: so many slots were freed and cuts ended
  pub record AllAnswered (old new : Seen D) (calls : List Call) (freed ended : ℕ) : Type 0 where
    pub entries : List Entry
    pub made : MadeEntries old new entries
    pub answered : AreAnswered calls entries
    pub counts : Counts entries 0 freed ended
    pub commits : new.world.commits ≡ old.world.commits

  -- the pages below this one were copied
  pub record HasCopied (old new : Seen D) (page : ℕ) : Type 0 where
    pub part : AllAnswered old new (map (λ p. Copy p) (below page)) 0 0
    pub collecting : IsCollecting Copying page 0 new.world

  -- a page was swept, and so many slots were freed
  pub record SweepsPage (old new : Seen D) (page freed : ℕ) : Type 0 where
    pub part : AllAnswered old new (Sweep page ∷ []) freed 0
    pub collecting : IsCollecting Sweeping store_pages (page + 1) new.world

  abbrev pub SweptPage : Seen D → Seen D → ℕ → Result ℕ Stop → Type 0
  SweptPage old new page (Ok freed) = SweepsPage old new page freed
  SweptPage old new page (Err stop) = MadeEntries old new (caller_entry (Sweep page) (Refused (why_of stop)) ∷ [])

  -- the pages below this one were swept
  pub record HasSwept (old new : Seen D) (page freed : ℕ) : Type 0 where
    pub part : AllAnswered old new (map (λ p. Sweep p) (below page)) freed 0
    pub collecting : IsCollecting Sweeping store_pages page new.world

  -- a list of calls was made up to one that was refused
  pub record StopsAmong (old new : Seen D) (calls : List Call) (stop : Stop) : Type 0 where
    pub entries : List Entry
    pub made : MadeEntries old new entries
    pub stops : StopsCollection calls (why_of stop) entries

  abbrev pub Swept : Seen D → Seen D → Result ℕ Stop → Type 0
  Swept old new (Ok freed) = HasSwept old new store_pages freed
  Swept old new (Err stop) = StopsAmong old new (map (λ p. Sweep p) (below store_pages)) stop

  -- a whole collection was made
  pub record HasCollected (old new : Seen D) (freed : ℕ) : Type 0 where
    pub part : AllAnswered old new (collection store_pages 4) freed 1
    pub resting : IsResting new.world

  abbrev pub Collects : Seen D → Seen D → Result ℕ Stop → Type 0
  Collects old new (Ok freed) = HasCollected old new freed
  Collects old new (Err stop) = StopsAmong old new (collection store_pages 4) stop

  -- ---- rounds

  -- the counts of a run grow by those of these entries
  pub record TallyGrows (old new : Tally) (entries : List Entry) : Type 0 where
    pub full : ℕ
    pub freed : ℕ
    pub ended : ℕ
    pub counts : Counts entries full freed ended
    pub full_is : new.full ≡ old.full + full
    pub freed_is : new.freed ≡ old.freed + freed
    pub ended_is : new.ended ≡ old.ended + ended

  -- a whole round was made
  pub record HasMadeRound (old new : Seen D) (x i : ℕ) (before now : Tally) : Type 0 where
    pub entries : List Entry
    pub made : MadeEntries old new entries
    pub round : IsRound x i entries
    pub adds : TallyGrows before now entries
    pub counted : now.rounds ≡ before.rounds + 1
    pub told : now.commits ≡ new.world.commits
    pub few : IsFew now (i + 1)
    pub resting : IsResting new.world
    pub commits : new.world.commits ≡ old.world.commits + 1

  abbrev pub MakesRound : Seen D → Seen D → ℕ → ℕ → Tally → Tally → Result (Unit {0}) Stop → Type 0
  MakesRound old new x i before now (Ok done) = HasMadeRound old new x i before now
  MakesRound old new x i before now (Err stop) = Stops old new x i stop

  -- so many rounds were made from this number, of which this was counted
  pub record HasRun (old new : Seen D) (from count : ℕ) (tally : Tally) : Type 0 where
    pub history : List Event
    pub acts : Acts disks old new history
    pub legal : IsLegalRun old.world history new.world
    pub follows : FollowsGenerator from count history
    pub line : summary_text tally.rounds tally.commits tally.full tally.freed tally.ended
        ≡ summary count old.world history

  -- such a run stopped
  pub record HasStopped (old new : Seen D) (from count : ℕ) (stop : Stop) : Type 0 where
    pub history : List Event
    pub acts : Acts disks old new history
    pub legal : IsLegalRun old.world history new.world
    pub follows : StopsGenerator from count (why_of stop) history

  abbrev pub Runs : Seen D → Seen D → ℕ → ℕ → Result Tally Stop → Type 0
  Runs old new from count (Ok tally) = HasRun old new from count tally
  Runs old new from count (Err stop) = HasStopped old new from count stop

  -- a run was made, and this is its line
  pub record HasGenerated (old new : Seen D) (from count : ℕ) (line : List ℕ) : Type 0 where
    pub history : List Event
    pub acts : Acts disks old new history
    pub legal : IsLegalRun old.world history new.world
    pub follows : FollowsGenerator from count history
    pub line_is : line ≡ summary count old.world history

  abbrev pub Generates : Seen D → Seen D → ℕ → ℕ → List ℕ → Result (Unit {0}) Stop → Type 0
  Generates old new from count line (Ok done) = HasGenerated old new from count line
  Generates old new from count line (Err stop) = HasStopped old new from count stop × (line ≡ [])
