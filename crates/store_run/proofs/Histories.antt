-- Histories in two parts.
use Rattle.std.proofs.Common.{◌≡◌, refl, sym, ap, ◌∙◌, subst, ℕ, Bool, true, false, List, [], ◌∷◌, ◌++◌, map, append_assoc}
use Rattle.std.proofs.lemmas.List.{map-append}
use Rattle.std.proofs.lemmas.Grind.{flat_map-append}
use Rattle.std.specs.Prelude.{MatchBool}
use Rattle.object_graph.specs.declared.calls.Call.{Call}
use Rattle.store_model.specs.Worlds.{Event}
use Rattle.store_model.specs.Histories.{collection, Makes, Starts, Follows, is_refused}
use Rattle.store_model.specs.Texts.{history_text, event_text}
use Rattle.script_lang.specs.declared.line.Line.{Line}
use Rattle.script_lang.specs.declared.line.Line.TheVariants.{One, Collect, Note}
use Rattle.script_lang.specs.Script.{Says}
use Rattle.store_run.specs.Following.{calls_of, SayInTurn, FollowsLines, FollowsFront}

either_more : {A B C D : Type 0} (b : Bool) → (A → C) → (B → D) → MatchBool b A B → MatchBool b C D
either_more true f g x = f x
either_more false f g x = g x

makes_more : (calls : List Call) (events rest more : List Event) → Makes calls events rest → Makes calls (events ++ more) (rest ++ more)
makes_more [] events rest more m = ap (λ h. h ++ more) m
makes_more (call ∷ calls) [] rest more m = absurd m
makes_more (call ∷ calls) (e ∷ events) rest more m = (m.0, either_more (is_refused e.entry.reply) (ap (λ h. h ++ more)) (makes_more calls events rest more) m.1)

follows_join : (first second : List (List Call)) (history part : List Event) → Follows first history → Follows second part → Follows (first ++ second) (history ++ part)
follows_join [] second history part f s = subst (λ (h : List Event). Follows second (h ++ part)) (sym f) s
follows_join (calls ∷ first) second history part f s = (f.0 ++ part, makes_more calls history f.0 part f.1, follows_join first second f.0 part f.2 s)

say_join : (first second : List (List ℕ)) (meanings more : List Line) → SayInTurn first meanings → SayInTurn second more → SayInTurn (first ++ second) (meanings ++ more)
say_join [] second meanings more f s = subst (λ (ms : List Line). SayInTurn second (ms ++ more)) (sym f) s
say_join (line ∷ first) second [] more f s = absurd f
say_join (line ∷ first) second (m ∷ meanings) more f s = (f.0, say_join first second meanings more f.1 s)

pub lines_join : (pages : ℕ) (first second : List (List ℕ)) (history part : List Event) → FollowsLines pages first history → FollowsLines pages second part
    → FollowsLines pages (first ++ second) (history ++ part)
lines_join pages first second history part f s = record {
  meanings = f.meanings ++ s.meanings;
  say = say_join first second f.meanings s.meanings f.say s.say;
  follows = subst (λ (c : List (List Call)). Follows c (history ++ part)) (sym (map-append (calls_of pages) f.meanings s.meanings))
      (follows_join (map (calls_of pages) f.meanings) (map (calls_of pages) s.meanings) history part f.follows s.follows);
}

pub no_lines : (pages : ℕ) → FollowsLines pages [] []
no_lines pages = record { meanings = []; say = refl; follows = refl }

pub note_line : (pages : ℕ) (line : List ℕ) → Says line Note → FollowsLines pages (line ∷ []) []
note_line pages line says = record { meanings = Note ∷ []; say = (says, refl); follows = ([], refl, refl) }

ends_there : (refused : Bool) → MatchBool refused (◌≡◌ {A = List Event} [] []) (◌≡◌ {A = List Event} [] [])
ends_there true = refl
ends_there false = refl

pub call_line : (pages : ℕ) (line : List ℕ) (call : Call) (e : Event) → e.entry.call ≡ call → Says line (One call) → FollowsLines pages (line ∷ []) (e ∷ [])
call_line pages line call e is says = record { meanings = One call ∷ []; say = (says, refl); follows = ([], (is, ends_there (is_refused e.entry.reply)), refl) }

pub collect_line : (pages workers : ℕ) (line : List ℕ) (events : List Event) → Says line (Collect workers) → Makes (collection pages workers) events [] → FollowsLines pages (line ∷ []) events
collect_line pages workers line events says makes = record { meanings = Collect workers ∷ []; say = (says, refl); follows = ([], makes, refl) }

-- ---- a line that is begun

pub call_front : (pages : ℕ) (line : List ℕ) (call : Call) (e : Event) → e.entry.call ≡ call → Says line (One call) → FollowsFront pages (line ∷ []) (e ∷ [])
call_front pages line call e is says = record {
  whole = [];
  last = line;
  are = refl;
  done = [];
  begun = e ∷ [];
  split = refl;
  follows = no_lines pages;
  meaning = One call;
  says = says;
  begins = (is, ends_there (is_refused e.entry.reply));
}

pub collect_front : (pages workers : ℕ) (line : List ℕ) (events : List Event) → Says line (Collect workers) → Starts (collection pages workers) events → FollowsFront pages (line ∷ []) events
collect_front pages workers line events says starts = record {
  whole = [];
  last = line;
  are = refl;
  done = [];
  begun = events;
  split = refl;
  follows = no_lines pages;
  meaning = Collect workers;
  says = says;
  begins = starts;
}

pub front_join : (pages : ℕ) (first second : List (List ℕ)) (history part : List Event) → FollowsLines pages first history → FollowsFront pages second part
    → FollowsFront pages (first ++ second) (history ++ part)
front_join pages first second history part f s = record {
  whole = first ++ s.whole;
  last = s.last;
  are = ap (λ l. first ++ l) s.are ∙ sym (append_assoc first s.whole (s.last ∷ []));
  done = history ++ s.done;
  begun = s.begun;
  split = ap (λ h. history ++ h) s.split ∙ sym (append_assoc history s.done s.begun);
  follows = lines_join pages first s.whole history s.done f s.follows;
  meaning = s.meaning;
  says = s.says;
  begins = s.begins;
}

-- ---- texts

pub text_join : (history part : List Event) → history_text (history ++ part) ≡ history_text history ++ history_text part
text_join history part = flat_map-append event_text history part

pub texts_join : (first second : List Event) (bytes : List ℕ) → history_text first ++ (history_text second ++ bytes) ≡ history_text (first ++ second) ++ bytes
texts_join first second bytes = sym (append_assoc (history_text first) (history_text second) bytes) ∙ ap (λ x. x ++ bytes) (sym (text_join first second))
