use Rattle.std.proofs.Common.{sym, ◌∙◌, ap, Some, arith}
use Rattle.object_graph.specs.NameParts.{IsName}
use Rattle.std.specs.Option.{option_map}
use Rattle.script_lang.proofs.Fronts.{no_page, no_point, no_slot, no_second_point, no_generation, generation_zero, name_there, rest_there, ReadsName}
use Rattle.script_lang.proofs.words.name_in.Goals as goal

pub returns-in_err-page-clause-name : goal.returns-in_err-page-clause-name
returns-in_err-page-clause-name c = ap (option_map (λ p. p.0)) c.from_residual.ensures ∙ sym (no_page c.args.bytes.now c.in_err-page.ensures.number)

pub returns-in_err-rest-clause-name : goal.returns-in_err-rest-clause-name
returns-in_err-rest-clause-name c =
    ap (option_map (λ p. p.0)) c.from_residual-in_err-rest.ensures ∙ sym (no_point c.args.bytes.now (rw c.in_err-rest.was at c.in_ok-page.ensures.rest))

pub returns-in_err-slot-clause-name : goal.returns-in_err-slot-clause-name
returns-in_err-slot-clause-name c =
    ap (option_map (λ p. p.0)) c.from_residual-in_err-slot.ensures
    ∙ sym (no_slot c.args.bytes.now c.in_ok-rest.field-0.now (rw c.in_ok-rest.was at c.in_ok-page.ensures.rest) c.in_err-slot.ensures.number)

pub returns-in_err-rest-2-clause-name : goal.returns-in_err-rest-2-clause-name
returns-in_err-rest-2-clause-name c =
    ap (option_map (λ p. p.0)) c.from_residual-in_err-rest-2.ensures
    ∙ sym (no_second_point c.args.bytes.now c.in_ok-rest.field-0.now (rw c.in_ok-rest.was at c.in_ok-page.ensures.rest) (rw c.in_err-rest-2.was at c.in_ok-slot.ensures.rest))

pub returns-in_err-generation-clause-name : goal.returns-in_err-generation-clause-name
returns-in_err-generation-clause-name c =
    ap (option_map (λ p. p.0)) c.from_residual-in_err-generation.ensures
    ∙ sym (no_generation c.args.bytes.now c.in_ok-rest.field-0.now c.in_ok-rest-2.field-0.now (rw c.in_ok-rest.was at c.in_ok-page.ensures.rest)
    (rw c.in_ok-rest-2.was at c.in_ok-slot.ensures.rest) c.in_err-generation.ensures.number)

pub returns-then-generation-eq0-clause-name : goal.returns-then-generation-eq0-clause-name
returns-then-generation-eq0-clause-name c =
    sym (generation_zero c.args.bytes.now c.in_ok-rest.field-0.now c.in_ok-rest-2.field-0.now c.in_ok-generation.generation (rw c.in_ok-rest.was at c.in_ok-page.ensures.rest)
    (rw c.in_ok-rest-2.was at c.in_ok-slot.ensures.rest) c.in_ok-generation.ensures.number c.if-generation-eq0.true)

valid : (c : goal.After-at) → IsName c.at.result
valid c = record {
  page = omega (arith, c.at.ensures.page, c.in_ok-page.ensures.most);
  slot = omega (arith, c.at.ensures.slot, c.in_ok-slot.ensures.most);
  first = omega (arith, c.at.ensures.generation, c.if-generation-eq0.false);
  last = omega (arith, c.at.ensures.generation, c.in_ok-generation.ensures.most);
}

reads : (c : goal.After-at) → ReadsName c.args.bytes.now c.at.result (option_map (λ r. r.now) c.in_ok-generation.rest)
reads c = record {
  after_page = c.in_ok-rest.field-0.now;
  after_slot = c.in_ok-rest-2.field-0.now;
  page = ap (λ n. Some n) c.at.ensures.page ∙ c.in_ok-page.ensures.number;
  page_ends = (rw c.in_ok-rest.was at c.in_ok-page.ensures.rest);
  slot = ap (λ n. Some n) c.at.ensures.slot ∙ c.in_ok-slot.ensures.number;
  slot_ends = (rw c.in_ok-rest-2.was at c.in_ok-slot.ensures.rest);
  generation = ap (λ n. Some n) c.at.ensures.generation ∙ c.in_ok-generation.ensures.number;
  ends = c.in_ok-generation.ensures.rest;
}

pub returns-clause-name : goal.returns-clause-name
returns-clause-name c = name_there c.args.bytes.now c.at.result _ (valid c) (reads c)

pub returns-clause-rest : goal.returns-clause-rest
returns-clause-rest c = rest_there c.args.bytes.now c.at.result _ (valid c) (reads c)
