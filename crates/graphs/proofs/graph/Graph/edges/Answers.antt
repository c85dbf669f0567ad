use Rattle.std.proofs.Common.{ltb, length, Some, sym, ap, ap₂, ◌∙◌, subst, arith}
use Rattle.std.proofs.lemmas.Bool.{cond-false, le-ltb}
use Rattle.graphs.specs.Edges.{EdgesOf}
use Rattle.graphs.specs.Stored.{model_in, model_of}
use Rattle.graphs.proofs.Asking.{all_edges}
use Rattle.graphs.proofs.graph.Graph.edges.Goals as goal

pub returns-clause-value : goal.returns-clause-value
returns-clause-value g c =
    let m = c.args.memory.now in
    let is = c.in_ok-new.ensures in
    let es = c.edge_masks.result in
    let there = ap₂ (model_in g.P.Price) is.1 is.2 in
    ap Some (all_edges g.P.Price (model_of g.P.Price c.args.self.now m) es (omega arith) (subst (λ md. EdgesOf g.P.Price md es) there c.edge_masks.ensures))
    ∙ sym (cond-false (ltb (length m) 1710) _ _ (le-ltb (length m) 1710 is.0))
