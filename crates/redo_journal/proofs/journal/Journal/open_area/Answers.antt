use Rattle.std.proofs.Common.{◌≡◌, ℕ, List, ◌+◌, ◌*◌, ◌<◌, ◌≤◌, length, Result, Err, sym, ◌∙◌, ap, arith}
use Rattle.std.proofs.lemmas.Result.{err_from_is_err_and}
use Rattle.redo_journal.specs.Area.{read_area, area_of, first_gate}
use Rattle.redo_journal.specs.Places.{places_in}
use Rattle.redo_journal.specs.Record.{grammar}
use Rattle.redo_journal.specs.Replays.{images_in}
use Rattle.redo_journal.specs.declared.faults.AreaFault.{AreaFault}
use Rattle.redo_journal.specs.declared.faults.AreaFault.TheVariants.{BadRecord}
use Rattle.redo_journal.proofs.GrammarLaws.{weights-commits}
use Rattle.redo_journal.proofs.Laying.{laid_first}
use Rattle.redo_journal.proofs.Moments.{if_some_map}
use Rattle.redo_journal.proofs.journal.Journal.open_area.Goals as goal
use Rattle.redo_journal.specs.declared.sizes.TheConstants.{HEAD_SIZE, AREA_SIZE, HOMES_START, PAGE_SIZE}

-- what a `?` handed on
handed : {T : Type 0} (r : Result T AreaFault) (y fault : AreaFault) (at : ℕ) → r ≡ Err y → y ≡ fault → r ≡ Err (BadRecord at) → fault ≡ BadRecord at
handed r y fault at is same bad = cc

pub returns-in_err-bytes-clause-bad : goal.returns-in_err-bytes-clause-bad
returns-in_err-bytes-clause-bad g c at is =
    let p = err_from_is_err_and c.from_residual.result c.from_residual.ensures.1 in
    absurd (c.in_err-bytes.ensures.unread at (ap (λ (x : AreaFault). Err x) (handed c.from_residual.result p.0 c.in_err-bytes.field-0.0 at p.1 p.2 is)))

within : (area pages size long : ℕ) → area < 2 → HOMES_START + PAGE_SIZE * pages ≤ size → long ≡ size → HEAD_SIZE + AREA_SIZE * area + AREA_SIZE ≤ long
within area pages size long which fits is = omega (arith, which, fits, is)

pub returns-clause-found : goal.returns-clause-found
returns-clause-found g c =
    let a = c.args in
    let read = c.in_ok-found.ensures.read in
    if_some_map (g.D.Disk.content a.disk.now) (λ d. c.in_ok-bytes.bytes.items ≡ area_of a.area d) _
    (λ d told is.
    let area_is : c.deref.result.now ≡ area_of a.area d = c.deref.ensures.value ∙ is in
    let here = ap (λ (s : ℕ). read_area (grammar a.pages) s (area_of a.area d)) (sym c.start_of.ensures) ∙ ap (λ (x : List ℕ). read_area (grammar a.pages) c.start_of.result x) (sym area_is) ∙ read.1 in (
      read.0,
      record {
        holds = record { long = within a.area a.pages (g.D.Disk.size a.disk.now) (length d) c.requires.which c.requires.long (g.met.D.Disk.told_whole a.disk.now d told); reads = here };
        end = read.2;
        commits = read.3 ∙ sym (weights-commits a.pages read.0);
        places = read.5 ∙ ap (λ (s : ℕ). places_in (s + first_gate) read.0) c.start_of.ensures;
      },
      record {
        commits = read.3;
        ascending = c.in_ok-found.ensures.kept.ascending;
        each = laid_first (images_in read.0) c.in_ok-found.found.replay.images.items read.4;
      },
    ))
    c.in_ok-bytes.ensures.read
