use Rattle.std.proofs.Common.{◌≡◌, ◌<◌, ◌==◌, ℕ, List, true, false, length, get_or, sym, subst, arith, ◌∙◌, inl, inr, Contains}
use Rattle.std.proofs.lemmas.Bool.Decides.{eqb_tells}
use Rattle.std.proofs.lemmas.List.Elements.{Contains-get_or}
use Rattle.pk_plan.specs.Digraphs.{Edge}
use Rattle.pk_plan.proofs.Drawing.{edge_more_of}
use Rattle.pk_wpo.proofs.constraints.add_if_none.Goals as goal

-- what isn't zero
positive : (n : ℕ) → (n == 0) ≡ false → 0 < n
positive n told = elim (eqb_tells n 0) [
  | inl same ↦ absurd (let other : (n == 0) ≡ true = same.0 in cc)
  | inr differ ↦ let ne = differ.1 in omega (arith, ne)
]

zero_of : (n : ℕ) → (n == 0) ≡ true → n ≡ 0
zero_of n told = elim (eqb_tells n 0) [
  | inl same ↦ same.1
  | inr differ ↦ absurd (let other : (n == 0) ≡ false = differ.0 in cc)
]

pub returns-else-is_empty-clause-edges : goal.returns-else-is_empty-clause-edges
returns-else-is_empty-clause-edges c =
    let g = c.args.constraints.now in
    let from = c.args.from in
    let some : 0 < length c.successors.result.now = positive (length c.successors.result.now) (sym c.is_empty.ensures ∙ c.if-is_empty.false) in
    let edge : Edge g from (get_or c.successors.result.now 0 0) = subst (λ (xs : List ℕ). Contains xs (get_or c.successors.result.now 0 0)) c.successors.ensures.successors (Contains-get_or c.successors.result.now 0 0 some) in
    record {
      kept = λ a b e. e;
      only = λ a b e. inl e;
      drawn = λ none. absurd (none (get_or c.successors.result.now 0 0) edge);
      leads = (get_or c.successors.result.now 0 0, edge);
    }

pub returns-in_ok-add_edge-clause-edges : goal.returns-in_ok-add_edge-clause-edges
returns-in_ok-add_edge-clause-edges c =
    let g = c.args.constraints.now in
    let from = c.args.from in
    let empty : length c.successors.result.now ≡ 0 = zero_of (length c.successors.result.now) (sym c.is_empty.ensures ∙ c.if-is_empty.true) in
    let none : (b : ℕ) → Edge g from b → ⊥ = λ b e. let e' : Contains c.successors.result.now b = subst (λ (xs : List ℕ). Contains xs b) (sym c.successors.ensures.successors) e in let less = e'.1 in absurd (omega (arith, less, empty)) in
    let more = edge_more_of g c.add_edge.new.self from c.args.to c.requires.from c.in_ok-add_edge.ensures.ok in
    record {
      kept = more.old;
      only = λ a b e. elim (more.only a b e) [
        | inl old ↦ inl old
        | inr new ↦ inr (new.0, new.1, none)
      ];
      drawn = λ none'. more.new;
      leads = (c.args.to, more.new);
    }
