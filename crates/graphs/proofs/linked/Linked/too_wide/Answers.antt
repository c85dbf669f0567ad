use Rattle.std.proofs.Common.{◌≡◌, ℕ, Option, Some, None, rules, tests, refl, ap, ap₂, ◌∙◌}
use Rattle.std.specs.List.{find}
use Rattle.std.specs.Option.{option_map}
use Rattle.std.proofs.lemmas.Iterator.Search.{find_from_yields_List}
use Rattle.graphs.specs.Masks.{twelve}
use Rattle.graphs.specs.Frontier.{too_wide, widest}
use Rattle.graphs.specs.Stored.{model_at}
use Rattle.graphs.proofs.Chains.{run, run_yields}
use Rattle.graphs.proofs.linked.Linked.too_wide.Goals as goal

as_it_is : (o : Option ℕ) → o ≡ option_map (λ x. x) o
as_it_is None = refl
as_it_is (Some x) = refl

pub returns : goal.returns
unfolding widest twelve
returns g c =
    let t = too_wide g.P.Price (model_at g.P.Price c.args.self.now.priced) in
    as_it_is c.find.result ∙ find_from_yields_List t c.find.new.self _ c.find.result c.find.ensures.ran (run_yields (λ r. r.next) (λ r. r.end) c.all.result) (λ x b q k. search (rules, tests))
    ∙ ap (find t) (ap₂ run c.all.ensures.next c.all.ensures.end)
