-- No event changes the number of pages.
use Rattle.std.proofs.Common.{◌≡◌, ℕ, refl, ap, ◌∙◌, ⊎_elim, Bool, false, List, [], ◌∷◌, Option, Some, None}
use Rattle.object_graph.specs.NameParts.{NameParts}
use Rattle.object_graph.specs.declared.calls.Call.{Call}
use Rattle.object_graph.specs.declared.calls.Call.TheVariants.{New}
use Rattle.object_graph.specs.declared.calls.Reply.{Reply}
use Rattle.object_graph.specs.declared.calls.Reply.TheVariants.{Refused, Reopened}
use Rattle.object_graph.specs.declared.calls.Refusal.{Refusal}
use Rattle.object_graph.specs.declared.calls.Refusal.TheVariants.{DiskFault}
use Rattle.store_model.specs.Worlds.{World, Event, Note}
use Rattle.store_model.specs.Causes.{new_name}
use Rattle.store_model.specs.Steps.{after_refusal, after_answer, after_reply, with_new}
use Rattle.cut_core.specs.Reopening.{IsOpenedAnew}
use Rattle.store_machine.specs.Acts.{FindsAnew, ReopensAnew, StepsTo, RunsTo}

pages-after_refusal : (w : World) (call : Call) (note : Note) (why : Refusal) → (after_refusal w call note why).pages ≡ w.pages
pages-after_refusal w call note DiskFault = refl
pages-after_refusal w call note _ = refl

pages-with_new : (w : World) (t : ℕ) (name : Option NameParts) → (with_new w t name).pages ≡ w.pages
pages-with_new w t None = refl
pages-with_new w t (Some name) = refl

pages-after_answer : (w : World) (call : Call) (note : Note) (reply : Reply) → (after_answer w call note reply).pages ≡ w.pages
pages-after_answer w (New t page) note reply = pages-with_new w t (new_name w t page)
pages-after_answer w _ note reply = refl

pub pages-after_reply : (w : World) (call : Call) (note : Note) (reply : Reply) → (after_reply w call note reply).pages ≡ w.pages
pages-after_reply w call note (Refused why) = pages-after_refusal w call note why
pages-after_reply w call note reply = pages-after_answer w call note reply

-- ---- nor does a run

anew-pages : (w v : World) (commits : ℕ) → IsOpenedAnew w commits v → v.pages ≡ w.pages
anew-pages w v commits a = ap (λ (x : World). x.pages) a.is ∙ a.pages

finds-pages : (w v : World) (reply : Reply) → FindsAnew w reply v → v.pages ≡ w.pages
finds-pages w v (Reopened commits) f = anew-pages w v commits f
finds-pages w v (Refused why) f = ap (λ (x : World). x.pages) f
finds-pages w v _ f = absurd f

step-pages : (told : Bool) (w v : World) (e : Event) → StepsTo told w e v → v.pages ≡ w.pages
step-pages told w v e s =
    ⊎_elim (λ m. ap (λ (x : World). x.pages) m.1 ∙ pages-after_reply w e.entry.call e.note e.entry.reply)
    (λ (o : (told ≡ false) × ReopensAnew w e v). finds-pages w v e.entry.reply o.1.finds) s.is

pub pages-run : (told : Bool) (w last : World) (events : List Event) → RunsTo told w events last → last.pages ≡ w.pages
pages-run told w last [] r = ap (λ (x : World). x.pages) r
pages-run told w last (e ∷ events) r = pages-run told r.0 last events r.2 ∙ step-pages told w r.0 e r.1
