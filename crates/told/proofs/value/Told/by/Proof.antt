-- `by` makes a value of no bytes, whose ghost field is the one that the source is known to tell. Assumes `Logic`.
use Rattle.std.proofs.Common.{List, [], ◌∷◌, ◌++◌, refl}
use seplogic.Ra.Ura.{Ura}
use mir.Syntax.{Fn, Args, Dict, a_type, dcons, dnil}
use mir.Val.{Val, vptr, vstruct, vcons, vnil}
use mir.MapTy.{inst_fn}
use base.Logic.{SProp, ent}
use base.Fml.{Fml}
use prog.Memory.{Memory}
use prog.Routine.{Routine}
use prog.Wp.{Calls, Loops, WpFn, Tables}
use contract.BorrowLft.{◌⊑◌}
use contract.Monad.{Fun, fact}
use contract.Running.{tables, tables_of}
use sound.WpLaws.{WpFn-mono}
use types.Logic.{Logic}
use types.Kit.{‵, raw, ◌⊛◌, prop, ◌$◌, ◌∵◌, !, qed, move, keep, drop, split, fsplit, fjoin, feq_l, regoal, suffices, done, use0}
use types.Part.{agg}
use types.Run.{enter, returns, no_more, and_then}
use types.ByLocal.{alloc_all, pass_all, free_all, look_at, sets, get}
use denote.Exit.{yes}
use denote.RattleType.{RattleType, owns}
use denote.Builtin.{RefOf}
use denote.Param.{param, bounded}
use denote.Shadow.{makes_shadow}
use denote.Signature.{plain, types_at, type_at}
use denote.Steps.{nothing, heard}
use denote.Triple.Clauses.{Clauses, Ended, closing}
use denote.Triple.Entry.{alive, Res}
use denote.Triple.Spec.{Meets, triple_of}
use denote.Triple.Table.{entered}
use denote.Triple.Walked.{says, Stays, stay_dropped, walk_of, ends_at, walk_Meets, Goes-dropped}
use Rattle.told.specs.declared.tells.Tells as Tells
use Rattle.told.specs.contracts.value.Told.by as F
use Rattle.told.specs.contracts.value.Told.by.Key.{name as #self}
use Rattle.told.proofs.value.Told.by.Statement as stated
use Rattle.told.proofs.value.Told.by.Code as code

module _ (Y S : RattleType) (ghosts : Tells.Ghosts S.Denot Y.Denot) (dict : Dict) where
  abbrev args : Args
  args = bounded (a_type ∷ a_type ∷ []) (Y, (S, tt)) (dcons dict dnil)

  abbrev function : Fn
  function = inst_fn args code.function

  abbrev ended : Ended
  ended = F.ended Y S ghosts dict

  abbrev stayed : Stays ended.signature.params ended.kept
  stayed = (stay_dropped (RefOf (0 ∷ []) tt (plain (λ _. param 1 S)) (λ _. tt)) yes, tt)

  module _ {M : Type 1} {𝓤 : Ura M} (𝓛 : Logic 𝓤) (at_mem : Memory → SProp 𝓤) (run : Routine → Fun 𝓤) where
    open 𝓛 use {H}

    abbrev held : Clauses 𝓤 ended
    held = F.clauses Y S ghosts dict 𝓛 at_mem run

    module _ (C : Calls 𝓤 H) (Λ : Loops 𝓤 H) (z : (walk_of 𝓛 ended stayed held).Ghost) where
      abbrev Post : Val → SProp 𝓤
      Post = (walk_of 𝓛 ended stayed held).post z

      abbrev toks : SProp 𝓤
      toks = alive 𝓛 ended.signature z.0.0 z.0.1

      walks : ent 𝓤 ((walk_of 𝓛 ended stayed held).pre z) (WpFn 𝓤 H C Λ function ((walk_of 𝓛 ended stayed held).args z) Post)
      walks =
          let a = z.0.3 in
          let vss = z.0.4 in
          let p = vptr a.0.ref_ptr.0 a.0.ref_ptr.1 in
          let v : Val = vstruct (vcons (vstruct vnil) vnil) in
          qed 𝓛 ((raw toks ⊛ ‵ (owns (types_at ended.signature.params z.0.0) a vss))
          ∷ (raw (fact 𝓤 (z.0.0.1.0 ⊑ Y.lives)) ⊛ (raw (fact 𝓤 (z.0.0.1.1.0 ⊑ S.lives)) ⊛ raw (fact 𝓤 ((value : Y.Denot) × ghosts.tells a.0.now value)))) ∷ []) ∵
          move ! (1 ∷ []) $ split ! $ drop ! $ split ! $ drop ! $ heard ! _ (λ tells.
          let made : Res ended.signature z.0.0 = record { marker = record {}; value = tells.0 } in
          let O : Fml = (type_at ended.signature.result z.0.0).own_val made (v ∷ []) in
          keep ! (0 ∷ []) $ split ! $ move ! (1 ∷ []) $ fsplit ! $ fsplit ! $ feq_l ! (λ is₀. drop ! $ drop ! $
          regoal ! (λ (us : List Val). prop (WpFn 𝓤 H C Λ function (us ++ []) Post)) is₀ refl $
          enter ! C Λ function (p ∷ []) Post $ alloc_all ! (λ l. pass_all ! refl ((tt, tt), tt) $
          sets ! (agg ! (no_more !)) refl (tt, tt) $ sets ! (agg ! (and_then ! (get ! refl) (no_more !))) refl (tt, (tt, tt)) $
          returns ! (look_at ! 0 refl) $ free_all ! refl $
          use0 𝓛 (‵ O) (makes_shadow 𝓛 O ((λ vss. (tt, ((λ uss. (tt, tt)), tt))), tt) (((vstruct vnil ∷ [], tt), (refl, ((tt, (refl, tt)), tt))), tt)) $
          suffices ! _ (ends_at 𝓛 ended stayed held z v made (tt, tt) (tt, tt)) $ says ! tells.1 $
          nothing ! $ nothing ! $ fjoin ! $ move ! (2 ∷ 0 ∷ 1 ∷ []) $ done !)))

    meets : (𝓣 : Tables 𝓤 H) → Meets 𝓛 ended.signature (WpFn 𝓤 H 𝓣.C 𝓣.Λ function) (closing 𝓛 ended held)
    meets 𝓣 =
        walk_Meets 𝓛 ended stayed (Goes-dropped 𝓛 3 (RefOf (0 ∷ []) tt (plain (λ _. param 1 S)) (λ _. tt)) yes (λ κs x f. refl), tt) held
        (WpFn 𝓤 H 𝓣.C 𝓣.Λ function) (WpFn-mono 𝓤 H 𝓛.laws 𝓣 function) (walks 𝓣.C 𝓣.Λ)

pub by_spec : {M : Type 1} → stated.statement M
unfolding tables_of
by_spec 𝓤 𝓛 𝓜 𝓡 wired Y S LY LS ghosts dict met =
    let 𝓣 : Tables 𝓤 𝓛.H = tables_of 𝓤 𝓛.H 𝓜 (tables 𝓤 𝓛.H 𝓜 𝓡 𝓡.env) in
    entered 𝓤 𝓛.H (triple_of 𝓛 (ended Y S ghosts dict).signature (closing 𝓛 (ended Y S ghosts dict) (held Y S ghosts dict 𝓛 𝓜.mem 𝓡.returns))) 𝓣.C 𝓣.Λ (#self (args Y S ghosts dict)) (function Y S ghosts dict)
    (code.unfolded 𝓤 𝓛.H 𝓜 𝓡 wired (Y, (S, tt)) dict) (meets Y S ghosts dict 𝓛 𝓜.mem 𝓡.returns 𝓣)
