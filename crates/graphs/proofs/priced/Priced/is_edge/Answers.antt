use Rattle.std.proofs.Common.{not, sym, ap, ◌∙◌, eqb-true, eq-eqb}
use Rattle.std.proofs.lemmas.Bool.{both_ways, not-false}
use Rattle.graphs.specs.Linking.{edge_same, edge_off, edge_off_right, edge_read}
use Rattle.graphs.proofs.priced.Priced.is_edge.Goals.{then-ne, else-ne, then-has, else-has}
use Rattle.graphs.proofs.priced.Priced.is_edge.Goals as goal

pub returns-then-has-2 : goal.returns-then-has-2
returns-then-has-2 g c = elim c.if-has.branch [
  | then-has w ↦ elim c.if-ne.branch [
    | then-ne x ↦
        c.are_linked.ensures ∙ edge_read g.P.Price c.args.self.now.graph c.args.self.now.prices.now c.args.u c.args.v
        (record { variable = x.has.ensures.variable; present = sym x.has.ensures.value ∙ sym x.value-is ∙ w.if-has.true })
        (record { variable = w.has-then-has.ensures.variable; present = sym w.has-then-has.ensures.value ∙ sym w.value-is ∙ c.if-has-2.true })
        (λ e. both_ways _ (ap not (eq-eqb c.args.u c.args.v e)) (sym x.if-ne.ensures))
    | else-ne x ↦ absurd (both_ways _ (x.value-is ∙ x.if-ne.false) w.if-has.true)
  ]
  | else-has w ↦ absurd (both_ways _ (w.value-is ∙ w.if-has.false) c.if-has-2.true)
]

pub returns-else-has-2 : goal.returns-else-has-2
returns-else-has-2 g c = elim c.if-has.branch [
  | then-has w ↦ c.if-has-2.false ∙ sym (edge_off_right g.P.Price c.args.self.now.graph c.args.self.now.prices.now c.args.u c.args.v w.has-then-has.ensures.variable (sym w.has-then-has.ensures.value ∙ sym w.value-is ∙ c.if-has-2.false))
  | else-has w ↦ elim c.if-ne.branch [
    | then-ne x ↦ c.if-has-2.false ∙ sym (edge_off g.P.Price c.args.self.now.graph c.args.self.now.prices.now c.args.u c.args.v x.has.ensures.variable (sym x.has.ensures.value ∙ sym x.value-is ∙ w.if-has.false))
    | else-ne x ↦ c.if-has-2.false ∙ sym (edge_same g.P.Price c.args.self.now.graph c.args.self.now.prices.now c.args.u c.args.v (eqb-true c.args.u c.args.v (not-false _ (sym x.if-ne.ensures))))
  ]
]
