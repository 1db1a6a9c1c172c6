-- The world of a fresh store stands, and so does the world after each history.
use Rattle.std.proofs.Common.{ℕ, ◌<◌, List, [], ◌∷◌, sym, subst}
use Rattle.store_model.specs.Worlds.{World, Event, fresh_world}
use Rattle.store_model.specs.Steps.{next}
use Rattle.store_model.specs.Histories.{after, IsLegal}
use Rattle.store_model.proofs.Lawfulness.{fresh_is_lawful_world}
use Rattle.cut_model.specs.Standing.{CutBeside, nothing_copied, IsStanding, TurnsThrough}
use Rattle.cut_model.proofs.Phases.{event_stands}

-- ---- the fresh store

pub fresh_stands : (pages : ℕ) → 0 < pages → IsStanding (fresh_world pages) (nothing_copied 0)
fresh_stands pages some = record { lawful = fresh_is_lawful_world pages some; cut = tt }

-- ---- a history

pub history_stands : (w : World) (pages : CutBeside) (events : List Event) (last : CutBeside) → IsStanding w pages → IsLegal w events → TurnsThrough w pages events last
    → IsStanding (after w events) last
history_stands w pages [] last stands legal turns = subst (IsStanding w) (sym turns) stands
history_stands w pages (e ∷ events) last stands legal turns =
    history_stands (next w e) turns.0 events last (event_stands w e.entry.call e.note e.entry.reply pages turns.0 stands legal.0.1 turns.1) legal.1 turns.2
