use Rattle.std.proofs.Common.{rules, tests, ◌∙◌, arith}
use Rattle.graphs.specs.Masks.{has}
use Rattle.graphs.proofs.Chains.{any_of_run, any_above}
use Rattle.graphs.proofs.frontier.reaches_above.Goals as goal

pub returns : goal.returns
returns c =
    let t = has c.args.mask in
    any_of_run (λ r. r.next) (λ r. r.end) t c.after.result c.any.new.self _ c.any.result _ _ c.after.ensures.next c.after.ensures.end c.any.ensures.ran (λ x b q k. search (rules, tests))
    ∙ any_above t c.args.v 12 (omega (arith, c.after.ensures.next, c.after.ensures.within))
