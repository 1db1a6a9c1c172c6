-- Why a call is refused: the causes of each call, in order.
use Rattle.std.specs.Prelude.{ℕ, ◌+◌, Bool, true, false, not, ◌&&◌, ◌||◌, ◌==◌, Option, Some, None, is_some, is_none, List, [], ◌∷◌, length, map, filter, find, slice_get, unwrap_or, option_map, option_and_then, nat_lt, nat_le}
use Rattle.std.specs.List.{list_any}
use Rattle.object_graph.specs.NameParts.{NameParts}
use Rattle.object_graph.specs.ObjectParts.{ObjectParts}
use Rattle.object_graph.specs.declared.calls.Phase.{Phase}
use Rattle.object_graph.specs.declared.calls.Phase.TheVariants.{Copying, Closed, Sweeping}
use Rattle.object_graph.specs.declared.calls.Call.{Call}
use Rattle.object_graph.specs.declared.calls.Call.TheVariants.{Begin, Get, Number, Set, Put, New, Commit, Abort, OpenCut, Copy, HandIn, Close, Mark, Sweep, EndCut, DropCut, Reopen}
use Rattle.object_graph.specs.declared.calls.Refusal.{Refusal}
use Rattle.object_graph.specs.declared.calls.Refusal.TheVariants.{NotOpen, Stranger, BadField, NoPage, Busy, TooWide, KnowsTooMany, PageFull, AlreadyOpen, TooMany, CutThere, NoCut, WrongPhase, AlreadyCopied, Uncopied, OtherCut, AlreadySwept, Unswept, Spent, Broken, Memory}
use Rattle.object_graph.specs.declared.limits.TheConstants.{MOST_OPEN, MOST_WRITTEN, MOST_KNOWN, MOST_COUNTED, LAST_GENERATION}
use Rattle.object_graph.specs.Graphs.{object_named, has_name, is_at, objects_at}
use Rattle.object_graph.specs.Slots.{below, least}
use Rattle.store_model.specs.Worlds.{World, Transaction, OpenedCut, Note, marks, slots_of, fields_of, find_transaction, transaction, is_unfreed, view}

-- a list of pages has this one
abbrev pub has_page : List ℕ → ℕ → Bool
has_page pages page = list_any (λ p. p == page) pages

-- the first cause that is met
abbrev pub first_met : List (Option Refusal) → Option Refusal
first_met [] = None
first_met (None ∷ causes) = first_met causes
first_met (Some why ∷ causes) = Some why

-- this refusal, where the cause is met
abbrev pub when : Bool → Refusal → Option Refusal
when true why = Some why
when false why = None

-- the least of the other open transactions that pass a test
abbrev pub holder : World → ℕ → (Transaction → Bool) → Option ℕ
holder w number test = least (map (λ t. t.number) (filter (λ t. not (t.number == number) && test t) w.transactions))

-- who stands in the way of reading a page, and of writing it
abbrev pub busy_to_read : World → ℕ → ℕ → Option Refusal
busy_to_read w number page = option_map (λ h. Busy h) (holder w number (λ t. has_page t.pages_written page))

abbrev pub busy_to_write : World → ℕ → ℕ → Option Refusal
busy_to_write w number page = option_map (λ h. Busy h) (holder w number (λ t. has_page t.pages_read page
    || has_page t.pages_written page))

-- what a field of an object has in a transaction's view
abbrev pub field_seen : World → ℕ → NameParts → ℕ → Option NameParts
field_seen w number name field =
    option_and_then (λ o. unwrap_or (slice_get o.refs field) None) (object_named (view w (transaction w number)) name)

-- the number of an object in a transaction's view
abbrev pub number_seen : World → ℕ → NameParts → ℕ
number_seen w number name = unwrap_or (option_map (λ o. o.number) (object_named (view w (transaction w number)) name)) 0

-- a slot that a transaction can't take: an unfreed object stands there, its own object does, or the last name was given
abbrev pub is_occupied : World → ℕ → ℕ → ℕ → Bool
is_occupied w number page slot =
    list_any (λ o. is_unfreed w.freed o || (o.name.generation == LAST_GENERATION)) (objects_at w.graph page slot)
    || list_any (is_at page slot) (transaction w number).own

-- the least slot of a page that a transaction can take
abbrev pub free_slot : World → ℕ → ℕ → Option ℕ
free_slot w number page = find (λ slot. not (is_occupied w number page slot)) (below (slots_of w page))

-- the name that is new at a slot
abbrev pub new_name_at : List ObjectParts → ℕ → ℕ → NameParts
new_name_at graph page slot = record { page = page; slot = slot; generation = 1 + length (objects_at graph page slot) }

-- the name that a transaction is given for a new object
abbrev pub new_name : World → ℕ → ℕ → Option NameParts
new_name w number page = option_map (new_name_at w.graph page) (free_slot w number page)

-- the causes, each by itself
abbrev pub broken : World → Option Refusal
broken w = option_map (λ count. Broken count) w.broken

abbrev pub not_open : World → ℕ → Option Refusal
not_open w number = when (is_none (find_transaction w number)) NotOpen

abbrev pub stranger : World → ℕ → NameParts → Option Refusal
stranger w number name = when (not (has_name (transaction w number).known name)) Stranger

abbrev pub strange_target : World → ℕ → Option NameParts → Option Refusal
strange_target w number None = None
strange_target w number (Some target) = stranger w number target

abbrev pub bad_field : World → NameParts → ℕ → Option Refusal
bad_field w name field = when (not (nat_lt field (fields_of w name.page))) BadField

abbrev pub no_page : World → ℕ → Option Refusal
no_page w page = when (not (nat_lt page w.pages)) NoPage

abbrev pub too_wide : World → ℕ → ℕ → Option Refusal
too_wide w number page =
    let written = (transaction w number).pages_written in
    when (nat_le MOST_WRITTEN (length written) && not (has_page written page)) TooWide

abbrev pub knows_too_many : World → ℕ → Option Refusal
knows_too_many w number = when (nat_le MOST_KNOWN (length (transaction w number).known)) KnowsTooMany

-- the answer would add a name to those known, and there is no room for it
abbrev pub knows_too_many_for : World → ℕ → Option NameParts → Option Refusal
knows_too_many_for w number None = None
knows_too_many_for w number (Some target) =
    when (nat_le MOST_KNOWN (length (transaction w number).known)
    && not (has_name (transaction w number).known target)) KnowsTooMany

abbrev pub page_full : World → ℕ → ℕ → Option Refusal
page_full w number page = when (is_none (free_slot w number page)) (PageFull page)

abbrev pub spent : ℕ → Option Refusal
spent count = when (nat_le MOST_COUNTED count) (Spent count)

abbrev pub cut_there : World → Option Refusal
cut_there w = option_map (λ cut. CutThere cut.number) w.cut

-- the causes of a call on the cut, where there is one
abbrev pub on_cut : World → (OpenedCut → List (Option Refusal)) → List (Option Refusal)
on_cut w causes = unwrap_or (option_map causes w.cut) (Some NoCut ∷ [])

abbrev pub is_phase : Phase → Phase → Bool
is_phase Copying Copying = true
is_phase Closed Closed = true
is_phase Sweeping Sweeping = true
is_phase Copying Closed = false
is_phase Copying Sweeping = false
is_phase Closed Copying = false
is_phase Closed Sweeping = false
is_phase Sweeping Copying = false
is_phase Sweeping Closed = false

abbrev pub wrong_phase : OpenedCut → Phase → Option Refusal
wrong_phase cut phase = when (not (is_phase cut.phase phase)) (WrongPhase cut.phase)

abbrev pub already_copied : OpenedCut → ℕ → Option Refusal
already_copied cut page = when (has_page cut.copied page) (AlreadyCopied page)

abbrev pub already_swept : OpenedCut → ℕ → Option Refusal
already_swept cut page = when (has_page cut.swept page) (AlreadySwept page)

-- the least page that isn't in a list
abbrev pub missing : World → List ℕ → Option ℕ
missing w pages = find (λ page. not (has_page pages page)) (below w.pages)

abbrev pub uncopied : World → OpenedCut → Option Refusal
uncopied w cut = option_map (λ page. Uncopied page) (missing w cut.copied)

abbrev pub unswept : World → OpenedCut → Option Refusal
unswept w cut = option_map (λ page. Unswept page) (missing w cut.swept)

abbrev pub other_cut : OpenedCut → ℕ → Option Refusal
other_cut cut number = when (not (cut.number == number)) (OtherCut cut.number)

-- the number of the cut whose marks were given
abbrev pub marks_number : Note → Option ℕ
marks_number (marks number) = number
marks_number _ = None

-- marks were given, of another cut or of none
abbrev pub wrong_marks : OpenedCut → Option ℕ → Option Refusal
wrong_marks cut None = Some Memory
wrong_marks cut (Some number) = other_cut cut number

-- the causes of a call, in their order
abbrev pub causes : World → Call → Note → List (Option Refusal)
causes w (Begin t) note = broken w ∷ when (is_some (find_transaction w t)) AlreadyOpen
    ∷ when (nat_le MOST_OPEN (length w.transactions)) TooMany ∷ []
causes w (Get t name field) note =
    broken w ∷ not_open w t ∷ stranger w t name ∷ bad_field w name field ∷ busy_to_read w t name.page
    ∷ knows_too_many_for w t (field_seen w t name field) ∷ []
causes w (Number t name) note = broken w ∷ not_open w t ∷ stranger w t name ∷ busy_to_read w t name.page ∷ []
causes w (Set t name field target) note =
    broken w ∷ not_open w t ∷ stranger w t name ∷ strange_target w t target ∷ bad_field w name field
    ∷ busy_to_write w t name.page ∷ too_wide w t name.page ∷ []
causes w (Put t name value) note =
    broken w ∷ not_open w t ∷ stranger w t name ∷ busy_to_write w t name.page ∷ too_wide w t name.page ∷ []
causes w (New t page) note =
    broken w ∷ not_open w t ∷ no_page w page ∷ busy_to_write w t page ∷ too_wide w t page ∷ knows_too_many w t
    ∷ page_full w t page ∷ []
causes w (Commit t) note = broken w ∷ not_open w t ∷ spent w.commits ∷ []
causes w (Abort t) note = broken w ∷ not_open w t ∷ []
causes w OpenCut note = broken w ∷ cut_there w ∷ spent w.last_cut ∷ []
causes w (Copy page) note = broken w
    ∷ on_cut w (λ cut. wrong_phase cut Copying ∷ no_page w page ∷ already_copied cut page ∷ [])
causes w (HandIn page number seen) note = broken w
    ∷ on_cut w (λ cut. wrong_phase cut Copying ∷ other_cut cut number ∷ already_copied cut page ∷ [])
causes w Close note = broken w ∷ on_cut w (λ cut. wrong_phase cut Copying ∷ uncopied w cut ∷ [])
causes w (Mark workers) note = broken w
    ∷ on_cut w (λ cut. wrong_phase cut Closed ∷ wrong_marks cut (marks_number note) ∷ [])
causes w (Sweep page) note = broken w
    ∷ on_cut w (λ cut. wrong_phase cut Sweeping ∷ no_page w page ∷ already_swept cut page ∷ [])
causes w EndCut note = broken w ∷ on_cut w (λ cut. wrong_phase cut Sweeping ∷ unswept w cut ∷ [])
causes w DropCut note = broken w ∷ on_cut w (λ cut. [])
causes w Reopen note = []

-- the first refusal, in order, whose cause is met
abbrev pub first_refusal : World → Call → Note → Option Refusal
first_refusal w call note = first_met (causes w call note)
