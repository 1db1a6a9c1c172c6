use Rattle.std.proofs.Common.{◌≡◌, refl, sym, ◌∙◌, subst, ℕ, List, ◌++◌, length, ap, arith, rules}
use Rattle.lanes_run.specs.Judging.{BytesRead, EndJudged}
use Rattle.lanes_run.proofs.Taken.{Reading, Fed, reading_start, reading_bound, no_memory, read_stops, more_behind, fed, reading_more, piece_stops, at_end, end_stops}
use Rattle.lanes_run.proofs.reading.read_pieces.Goals as goal

pub pieces-init : goal.pieces-init
pieces-init g c = record {
  reading = reading_start c.args.pages (g.S.Source.left c.args.source.now) c.args.bytes.now.items c.args.unread.now.ahead.items c.args.unread.now.taken
      c.requires.nothing_yet c.requires.nothing_ahead c.requires.nothing_taken;
  calm = refl;
  room = c.requires.unread_room;
}

pub returns-then-is_err-clause-read : goal.returns-then-is_err-clause-read
returns-then-is_err-clause-read g c =
    no_memory c.args.pages (g.S.Source.left c.args.source.now) (g.S.Source.left c.pieces.source) c.pieces.bytes.items c.pieces.unread.ahead.items c.pieces.unread.taken c.pieces.tally c.pieces.invariant.reading

pub returns-in-Err-clause-read : goal.returns-in-Err-clause-read
returns-in-Err-clause-read g c =
    read_stops c.args.pages (g.S.Source.left c.args.source.now) (g.S.Source.left c.pieces.source) (g.S.Source.left c.read_piece.new.source) c.pieces.bytes.items c.pieces.unread c.read_piece.new.self c.pieces.tally
    c.in-Err.status c.pieces.invariant.reading c.in-Err.ensures.read

pub judge_end-requires-clause-entries : goal.judge_end-requires-clause-entries
judge_end-requires-clause-entries g c =
    reading_bound c.args.pages (g.S.Source.left c.args.source.now) (g.S.Source.left c.pieces.source) c.pieces.bytes.items c.pieces.unread.ahead.items c.pieces.unread.taken c.pieces.tally (omega arith)
    c.pieces.invariant.reading

pub returns-then-count-eq0-clause-read : goal.returns-then-count-eq0-clause-read
returns-then-count-eq0-clause-read g c =
    let end = at_end c.args.pages (g.S.Source.left c.args.source.now) (g.S.Source.left c.pieces.source) (g.S.Source.left c.read_piece.new.source) c.pieces.bytes.items c.pieces.unread c.read_piece.new.self c.pieces.tally
    c.in-Ok.count c.pieces.invariant.reading c.in-Ok.ensures.read c.if-count-eq0.true in
    subst (λ (xs : List ℕ). BytesRead c.args.pages (g.S.Source.left c.args.source.now) (g.S.Source.left c.read_piece.new.source) xs c.judge_end.result) (sym c.reserve.ensures.items)
    (end_stops c.args.pages (g.S.Source.left c.args.source.now) (g.S.Source.left c.read_piece.new.source) c.pieces.bytes.items c.read_piece.new.self.ahead.items c.pieces.unread.taken c.pieces.tally
    c.judge_end.result end.0 end.1 (subst (λ (xs : List ℕ). EndJudged c.args.pages xs c.pieces.tally c.judge_end.result) c.deref.ensures.value c.judge_end.ensures))

pub judge_piece-requires-clause-entries : goal.judge_piece-requires-clause-entries
judge_piece-requires-clause-entries g c =
    reading_bound c.args.pages (g.S.Source.left c.args.source.now) (g.S.Source.left c.pieces.source) c.pieces.bytes.items c.pieces.unread.ahead.items c.pieces.unread.taken c.pieces.tally (omega arith)
    c.pieces.invariant.reading

pub pieces-preserved : goal.pieces-preserved
pieces-preserved g c =
    let p = c.in-Ok.ensures.read in
    let len : c.len-before.result ≡ length c.pieces.unread.ahead.items = search rules in
    let more : c.split_at.result.1.now ≡ p.more =
    more_behind c.len-before.result c.pieces.unread.ahead.items p.more c.deref-in-pieces.result.now c.split_at.result.1.now (c.deref-in-pieces.ensures.value ∙ p.ahead) len c.split_at.ensures.back in
    let bytes : c.append.new.bytes.items ≡ c.pieces.bytes.items ++ c.split_at.result.1.now = c.append.ensures.items ∙ ap (λ xs. xs ++ c.split_at.result.1.now) c.reserve.ensures.items in
    let f : Fed c.args.pages (g.S.Source.left c.args.source.now) (g.S.Source.left c.read_piece.new.source) c.append.new.bytes.items c.read_piece.new.self.ahead.items c.read_piece.new.self.taken c.pieces.tally =
    subst (λ (xs : List ℕ). Fed c.args.pages (g.S.Source.left c.args.source.now) (g.S.Source.left c.read_piece.new.source) xs c.read_piece.new.self.ahead.items c.read_piece.new.self.taken c.pieces.tally) (sym bytes)
    (fed c.args.pages (g.S.Source.left c.args.source.now) (g.S.Source.left c.pieces.source) (g.S.Source.left c.read_piece.new.source) c.pieces.bytes.items c.split_at.result.1.now c.pieces.unread c.read_piece.new.self
    c.pieces.tally c.in-Ok.count c.pieces.invariant.reading p more) in
    record {
      reading = subst (λ (taken : ℕ). Reading c.args.pages (g.S.Source.left c.args.source.now) (g.S.Source.left c.read_piece.new.source) c.append.new.bytes.items c.judge_piece.new.unread.ahead.items taken
          c.in-Ok-judge_piece.now) (sym c.in-Ok-judge_piece.ensures.taken)
          (reading_more c.args.pages (g.S.Source.left c.args.source.now) (g.S.Source.left c.read_piece.new.source) c.append.new.bytes.items c.read_piece.new.self.ahead.items c.judge_piece.new.unread.ahead.items
          c.read_piece.new.self.taken c.pieces.tally c.in-Ok-judge_piece.now f c.in-Ok-judge_piece.ensures.judged);
      calm = c.in-Ok.ensures.calm (λ e. cc) ∙ c.pieces.invariant.calm;
      room = omega (arith, c.in-Ok-judge_piece.ensures.room, c.in-Ok.ensures.room);
    }

pub returns-in-Err-judge_piece-clause-read : goal.returns-in-Err-judge_piece-clause-read
returns-in-Err-judge_piece-clause-read g c =
    let p = c.in-Ok.ensures.read in
    let len : c.len-before.result ≡ length c.pieces.unread.ahead.items = search rules in
    let more : c.split_at.result.1.now ≡ p.more =
    more_behind c.len-before.result c.pieces.unread.ahead.items p.more c.deref-in-pieces.result.now c.split_at.result.1.now (c.deref-in-pieces.ensures.value ∙ p.ahead) len c.split_at.ensures.back in
    piece_stops c.args.pages (g.S.Source.left c.args.source.now) (g.S.Source.left c.read_piece.new.source) (c.pieces.bytes.items ++ c.split_at.result.1.now) c.read_piece.new.self.ahead.items
    c.read_piece.new.self.taken c.pieces.tally c.in-Err-judge_piece.status
    (fed c.args.pages (g.S.Source.left c.args.source.now) (g.S.Source.left c.pieces.source) (g.S.Source.left c.read_piece.new.source) c.pieces.bytes.items c.split_at.result.1.now c.pieces.unread c.read_piece.new.self
    c.pieces.tally c.in-Ok.count c.pieces.invariant.reading p more) c.in-Err-judge_piece.ensures.judged
