-- Writing in pieces.
use Rattle.std.proofs.Common.{◌≡◌, sym, ap, ◌∙◌, ℕ, ◌<◌, List, ◌++◌, length, take, drop, Option, append_assoc}
use Rattle.std.proofs.lemmas.List.{take-append-drop}
use Rattle.std.proofs.KnownBytes.{Appends-trans, Appends-kept}
use Rattle.std.specs.Io.KnownBytes.{Appends, Keeps}
use Rattle.store_run.specs.Writing.{AppendsFront}

-- these bytes are written but for a rest
pub record Writing (bytes rest : List ℕ) (before now : Option (List ℕ)) (faults_before faults_now : ℕ) : Type 0 where
  pub front : List ℕ
  pub whole : bytes ≡ front ++ rest
  pub appends : Appends before now front
  pub calm : faults_now ≡ faults_before

pub writing_more : (bytes rest : List ℕ) (a b c : Option (List ℕ)) (f g h n : ℕ) → Writing bytes rest a b f g → Appends b c (take n rest) → h ≡ g
    → Writing bytes (drop n rest) a c f h
writing_more bytes rest a b c f g h n w more same = record {
  front = w.front ++ take n rest;
  whole = w.whole ∙ (ap (λ x. w.front ++ x) (sym (take-append-drop n rest)) ∙ sym (append_assoc w.front (take n rest) (drop n rest)));
  appends = Appends-trans a b c w.front (take n rest) w.appends more;
  calm = same ∙ w.calm;
}

pub writing_stops : (bytes rest : List ℕ) (a b c : Option (List ℕ)) (f g : ℕ) → Writing bytes rest a b f g → Keeps b c → 0 < length rest → AppendsFront a c bytes
writing_stops bytes rest a b c f g w kept some = record {
  front = w.front;
  rest = rest;
  whole = w.whole;
  some = some;
  appends = Appends-kept a b c w.front w.appends kept;
}
