-- Values that are pushed and written one after another.
use Rattle.std.specs.Prelude.{◌≡◌, ◌↔◌, Bool, true, false, ℕ, suc, ◌+◌, ◌<◌, List, [], ◌∷◌, ◌++◌, length, take, slice_index_or, slice_set, Option, Some, None}
use Rattle.std.proofs.Common.{arith, refl, sym, ap, subst, ◌∙◌, inl, inr}
use Rattle.std.proofs.Math.Seq.{take-length, take-suc, take-suc-set, get_or-append_seam}
use Rattle.std.proofs.lemmas.Bool.{cases_eq}
use Rattle.std.proofs.lemmas.List.{length-append, length-set, length-map, get_or_append_left}
use Rattle.pk_ctypes.specs.declared.types.IntType.TheVariants.{Int}
use Rattle.pk_octmat.specs.Octagon.{Octagon, octagon_of, top_bound}
use Rattle.pk_value.specs.Known.{Known, any_of}
use Rattle.pk_octagons.specs.Values.{type_at, known_at, IsValue}
use Rattle.pk_state.specs.Layouts.{Layout}
use Rattle.pk_state.specs.Facts.{AreFactsIf, Facts, Stated, top_facts}
use Rattle.pk_state.specs.Changes.{with_known, with_bounds}
use Rattle.pk_cert_states.specs.Lines.{HasOne}
use Rattle.pk_cert_states.specs.Parts.{AreIn, HasFacts}
use Rattle.pk_cert_states.proofs.Ones.{one_of, put_one}

-- ---- pushed

pub record AreInTo (l : Layout) (vs : List Known) (n : ℕ) : Type 0 where
  pub size : length vs ≡ n
  pub each : (j : ℕ) → j < n → IsValue (type_at l.types j) (known_at vs j)

pub pushed : (l : Layout) (vs : List Known) (n : ℕ) (v : Known) → AreInTo l vs n → IsValue (type_at l.types n) v → AreInTo l (vs ++ v ∷ []) (n + 1)
pushed l vs n v h is = record {
  size = omega (arith, length-append vs (v ∷ []), h.size);
  each = λ j p. elim (cases_eq j n) [
    | inl s ↦
        let last : known_at (vs ++ v ∷ []) j ≡ v = ap (λ k. slice_index_or (vs ++ v ∷ []) k (any_of Int)) (s ∙ sym h.size) ∙ get_or-append_seam vs v [] (any_of Int) in
        subst (λ (k : Known). IsValue (type_at l.types j) k) (sym last) (subst (λ (k : ℕ). IsValue (type_at l.types k) v) (sym s) is)
    | inr s ↦
        let q : j < n = omega (arith, p, s) in
        subst (λ (k : Known). IsValue (type_at l.types j) k) (sym (get_or_append_left vs (v ∷ []) (any_of Int) j (omega (arith, q, h.size)))) (h.each j q)
  ];
}

pub pushed_all : (l : Layout) (vs : List Known) (n : ℕ) → AreInTo l vs n → n ≡ length l.types → AreIn l vs
pushed_all l vs n h e = record { size = h.size ∙ e; each = λ j p. h.each j (omega (arith, p, e)) }

-- ---- written

-- the first x of the values of the state's facts are these
pub record IsWrittenTo (l : Layout) (vs : List Known) (x : ℕ) (s : Stated) : Type 0 where
  pub layout : s.layout ≡ l
  pub facts : Facts
  pub is : s.facts ≡ Some facts
  pub size : length facts.values ≡ length vs
  pub one : length facts.octagons ≡ 1
  pub same : take x facts.values ≡ take x vs

pub top_filled : (l : Layout) (s : Stated) → HasOne l → s ≡ record { layout = l; facts = Some (top_facts l) } → HasFacts l s
top_filled l s one e = record {
  layout = ap (λ (z : Stated). z.layout) e;
  facts = top_facts l;
  is = ap (λ (z : Stated). z.facts) e;
  size = length-map l.types any_of;
  one = length-map l.packs (λ (chosen : List ℕ). octagon_of (length chosen) top_bound) ∙ ap (λ (packs : List (List ℕ)). length packs) one;
}

-- some run comes to a state with facts
facts_filled : (l : Layout) (f : Option Facts) → HasOne l → AreFactsIf l f → (f ≡ None → ⊥) → HasFacts l (record { layout = l; facts = f })
facts_filled l None one are some = absurd (some refl)
facts_filled l (Some f) one are some = record { layout = refl; facts = f; is = refl; size = are.values.size; one = ap (λ (ms : List Octagon). length ms) (one_of l f one are).only }

pub not_bottom : (f : Option Facts) (b : Bool) → (b ≡ true ↔ f ≡ None) → b ≡ false → f ≡ None → ⊥
not_bottom f b is isnt none = let bottom = is.1 none in absurd (cc)

pub state_filled : (l : Layout) (s : Stated) → HasOne l → s.layout ≡ l → AreFactsIf s.layout s.facts → (s.facts ≡ None → ⊥) → HasFacts l s
state_filled l s one same are some =
    subst (λ (y : Layout). HasFacts y s) same (facts_filled s.layout s.facts (subst HasOne (sym same) one) are some)

pub written_none : (l : Layout) (vs : List Known) (s : Stated) → length vs ≡ length l.types → HasFacts l s → IsWrittenTo l vs 0 s
written_none l vs s size h = record { layout = h.layout; facts = h.facts; is = h.is; size = h.size ∙ sym size; one = h.one; same = refl }

pub written_on : (l : Layout) (vs : List Known) (x : ℕ) (s t : Stated) (v : Known) → IsWrittenTo l vs x s → x < length vs → v ≡ known_at vs x → t ≡ record { layout = s.layout; facts = with_known s.facts x v } → IsWrittenTo l vs (x + 1) t
written_on l vs x s t v h p q e = record {
  layout = ap (λ (z : Stated). z.layout) e ∙ h.layout;
  facts = record { values = slice_set h.facts.values x v; octagons = h.facts.octagons };
  is = ap (λ (z : Stated). z.facts) e ∙ ap (λ (f : Option Facts). with_known f x v) h.is;
  size = length-set h.facts.values x v ∙ h.size;
  one = h.one;
  same =
      let step : x + 1 ≡ suc x = omega arith in
      ap (λ n. take n (slice_set h.facts.values x v)) step ∙ take-suc-set h.facts.values x v (omega (arith, p, h.size)) ∙ ap (λ (r : List Known). r ++ v ∷ []) h.same ∙ ap (λ (w : Known). take x vs ++ w ∷ []) q
      ∙ sym (ap (λ n. take n vs) step ∙ take-suc vs x (any_of Int) p);
}

pub written_all : (l : Layout) (vs : List Known) (x : ℕ) (s t : Stated) (m : Octagon) → IsWrittenTo l vs x s → x ≡ length vs → t ≡ record { layout = s.layout; facts = with_bounds s.facts 0 m }
    → t ≡ record { layout = l; facts = Some (record { values = vs; octagons = m ∷ [] }) }
written_all l vs x s t m h e is =
    let all : h.facts.values ≡ vs = sym (take-length h.facts.values) ∙ ap (λ n. take n h.facts.values) (h.size ∙ sym e) ∙ h.same ∙ ap (λ n. take n vs) e ∙ take-length vs in
    is ∙ ap (λ (f : Option Facts). let z : Stated = record { layout = s.layout; facts = with_bounds f 0 m } in z) h.is
    ∙ ap (λ (ms : List Octagon). let z : Stated = record { layout = s.layout; facts = Some (record { values = h.facts.values; octagons = ms }) } in z) (put_one h.facts.octagons m h.one)
    ∙ ap (λ (y : Layout). let z : Stated = record { layout = y; facts = Some (record { values = h.facts.values; octagons = m ∷ [] }) } in z) h.layout
    ∙ ap (λ (ws : List Known). let z : Stated = record { layout = l; facts = Some (record { values = ws; octagons = m ∷ [] }) } in z) all
