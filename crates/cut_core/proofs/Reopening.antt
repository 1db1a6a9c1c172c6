-- What a reopening finds.
use Rattle.std.proofs.Common.{◌≡◌, Bool, true, false, refl}
use Rattle.store_model.specs.Worlds.{World}
use Rattle.image_model.specs.Opening.{StoreParts}
use Rattle.image_model.specs.Stands.{world_held}
use Rattle.store_model.specs.Steps.{reopened}
use Rattle.cut_core.specs.Reopening.{FindsNames, IsFound, with_last_cut}

-- there is a world after it: by what was found, where the disk tells; else the one that the store opens to
pub by_what_is_found : (told : Bool) (w : World) (held : StoreParts) → (told ≡ true → FindsNames w held) → (next : World) × IsFound told w held next
by_what_is_found true w held finds = (reopened w held.commits (finds refl).names, record { known = λ e. (finds refl, refl); other = λ e. absurd cc })
by_what_is_found false w held finds = (with_last_cut w.last_cut (world_held held), record { known = λ e. absurd cc; other = λ e. refl })
