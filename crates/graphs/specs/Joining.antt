-- The edges found are those of the rule.
use Rattle.std.specs.Prelude.{◌≡◌, ℕ, ◌<◌, true, not, ◌&&◌, ◌==◌, ◌≢◌}
use Rattle.std.proofs.Common.{sym, ap, ◌∙◌, ⊎_elim}
use Rattle.std.proofs.lemmas.Bool.{and_from, and_parts, both_ways, cases_Bool, eq-eqb, ne_eqb}
use Rattle.prices.specs.declared.price.Price.{Ghosts as Kind}
use Rattle.graphs.specs.Masks.{has, mem, some_below}
use Rattle.graphs.specs.Model.{Model}
use Rattle.graphs.specs.Edges.{priced, linked, edge, edges, Joined, EdgesByRule}
use Rattle.graphs.specs.Bitwise.{has_by}
use Rattle.graphs.specs.Linking.{edge_sym}
use Rattle.graphs.specs.Low.{le_same}
use Rattle.graphs.specs.Reading.{in_mem, mem_in}
use Rattle.graphs.specs.Twelve.{some_at, some_found}

module _ {P : Type 0} (k : Kind P) (g : Model P) where
  pub has_edges : (u v : ℕ) → v < 12 → has (edges k g u) v ≡ edge k g u v
  unfolding edges
  has_edges u v h = has_by (edge k g u) 12 v h

  found : (u v : ℕ) → v < 12 → has (edges k g u) v ≡ true → Joined k g u v
  found u v h e =
      let p = and_parts ((mem u g.variables && mem v g.variables) && not (u == v)) (linked k g u v) (sym (has_edges u v h) ∙ e) in
      let q = and_parts (mem u g.variables && mem v g.variables) (not (u == v)) p.0 in
      let m = and_parts (mem u g.variables) (mem v g.variables) q.0 in
      let r = some_found (g.count u) (λ i. some_below (g.count v) (priced k g u v i)) p.1 in
      let s = some_found (g.count v) (priced k g u v r.place) r.there.1 in
      record {
        left = in_mem u g.variables m.0;
        right = in_mem v g.variables m.1;
        apart = λ same. both_ways (not (u == v)) (ap not (eq-eqb u v same)) q.1;
        i = r.place;
        j = s.place;
        i_within = r.there.0;
        j_within = s.there.0;
        priced = λ zero. both_ways (priced k g u v r.place s.place) (ap not (le_same k zero)) s.there.1;
      }

  costs : (p : P) → (p ≢ k.least) → not (k.at_most p k.least) ≡ true
  costs p h = ⊎_elim (λ t. absurd (h (k.laws.no_ties _ _ t (k.laws.least p)))) (λ f. ap not f) (cases_Bool (k.at_most p k.least))

  every : (u v : ℕ) → v < 12 → Joined k g u v → has (edges k g u) v ≡ true
  every u v h r = has_edges u v h ∙ and_from _ _
      (and_from _ _ (and_from _ _ (mem_in u g.variables r.left) (mem_in v g.variables r.right)) (ap not (ne_eqb u v r.apart)))
      (some_at (g.count u) (λ i. some_below (g.count v) (priced k g u v i)) r.i r.i_within
      (some_at (g.count v) (priced k g u v r.i) r.j r.j_within (costs _ r.priced)))

  pub edges_by_rule : EdgesByRule k g
  edges_by_rule = record { found = found; every = every; either_side = λ u v hu hv. has_edges u v hv ∙ edge_sym k g u v ∙ sym (has_edges v u hu) }
