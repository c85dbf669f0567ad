use Rattle.std.proofs.Common.{Err, sym, ap, ◌∙◌}
use Rattle.std.proofs.lemmas.Result.{err_from_is_err_and}
use Rattle.files.specs.Keyed.{Keyed, answer_of}
use Rattle.files.proofs.Handed.{keyed_end, keyed_more, keyed_stop, keyed_short}
use Rattle.files.proofs.Ruling.{keyed_by_rule}
use Rattle.files.proofs.keying.key_in.Goals as goal

pub returns-in_err-fit-clause-rule : goal.returns-in_err-fit-clause-rule
returns-in_err-fit-clause-rule c = keyed_by_rule _ _

pub loop-part-preserved : goal.loop-part-preserved
loop-part-preserved c =
    c.loop-part.invariant
    ∙ keyed_more _ _ _ _ _ _ _ _ c.in-Some.ensures.steps c.enter.ensures.answer c.enter.ensures.sheet c.locate.ensures _ c.in_ok-locate.was

pub returns-in_err-locate : goal.returns-in_err-locate
returns-in_err-locate c =
    let p = err_from_is_err_and c.from_residual-in_err-locate.result c.from_residual-in_err-locate.ensures.1 in
    let k =
    keyed_short _ _ _ c.fit.ensures _ c.in_ok-fit.was
    ∙ c.loop-part.invariant
    ∙ keyed_stop _ _ _ _ _ _ _ _ c.in-Some.ensures.steps c.enter.ensures.answer c.enter.ensures.sheet c.locate.ensures _ c.in_err-locate.was in
    record { answer = p.1 ∙ ap Err p.2 ∙ sym (ap (λ (x : Keyed). answer_of x.fault) k); sheet = sym (ap (λ (x : Keyed). x.content) k); rule = keyed_by_rule _ _ }

pub returns : goal.returns
returns c =
    let k = keyed_short _ _ _ c.fit.ensures _ c.in_ok-fit.was ∙ c.loop-part.invariant ∙ keyed_end _ _ c.in-None.ensures.steps.0 in
    record { answer = sym (ap (λ (x : Keyed). answer_of x.fault) k); sheet = sym (ap (λ (x : Keyed). x.content) k); rule = keyed_by_rule _ _ }
