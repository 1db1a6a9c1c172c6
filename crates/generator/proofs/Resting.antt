-- A store that was just made rests.
use Rattle.std.proofs.Common.{◌≡◌, ap, arith}
use Rattle.store_model.specs.Worlds.{World}
use Rattle.cut_core.specs.Starts.{IsJustOpened}
use Rattle.generator.specs.Rounds.{store_pages}
use Rattle.generator.specs.Between.{IsResting}

pub just_rests : (w : World) → IsJustOpened w → w.pages ≡ store_pages → w.commits ≡ 0 → IsResting w
just_rests w just pages commits = record {
  sound = record {
    right = pages;
    whole = ap (λ (v : World). v.broken) just.2;
    cuts = let none : w.last_cut ≡ 0 = ap (λ (v : World). v.last_cut) just.2 in omega arith;
    few = omega arith;
  };
  closed = ap (λ (v : World). v.transactions) just.2;
  no_cut = ap (λ (v : World). v.cut) just.2;
}
