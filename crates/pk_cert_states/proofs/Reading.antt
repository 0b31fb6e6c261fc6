-- The facts of a line.
use Rattle.std.specs.Prelude.{◌≡◌, ℕ, ◌<◌, List, [], ◌∷◌, ◌++◌, map, length, Option, Some, None, MatchOption}
use Rattle.std.proofs.Common.{arith, sym, ap, subst, ◌∙◌}
use Rattle.std.proofs.lemmas.List.{length-map, map-append}
use Rattle.std.proofs.lemmas.Simd.{map-map}
use Rattle.pk_graph.specs.declared.graphs.Variable.{Variable}
use Rattle.pk_graph.specs.Graphs.{VariableOf, GraphOf, variable_view, kinds_of}
use Rattle.pk_value.specs.Known.{Known}
use Rattle.pk_octagons.specs.Values.{type_at, AreValues, known_at, IsValue}
use Rattle.pk_state.specs.Layouts.{Layout}
use Rattle.pk_state.specs.Facts.{Facts, Stated, AreFacts}
use Rattle.pk_cert.specs.declared.rows.Symbol.{Symbol}
use Rattle.pk_cert.specs.Rows.{kept}
use Rattle.pk_cert_states.specs.Lines.{own_octagon, own_pack, HasOne, fours_at, symbols_in}
use Rattle.pk_cert_states.specs.Parts.{kinds_in, AreIn, AreFirst, AreFilled, AreBoundsOf, IsBounded, IsRead}
use Rattle.pk_cert_states.proofs.Fours.{fours_length, parted_same}
use Rattle.pk_cert_states.proofs.Ones.{one_of}

pub kinds_same : (g : GraphOf) (vs : List Variable) → map variable_view vs ≡ g.variables → kinds_in vs ≡ kinds_of g
kinds_same g vs e = sym (map-map (λ (v : VariableOf). v.kind) variable_view vs) ∙ ap (λ (xs : List VariableOf). map (λ (v : VariableOf). v.kind) xs) e

pub values_in : (l : Layout) (vs : List Known) → AreValues l.types vs → AreIn l vs
values_in l vs h = record {
  size = h.size;
  each = λ j p.
      let q : j < length vs = omega (arith, p, h.size) in
      record { inside = h.inside j q; some = h.some j q; class = h.classes j q };
}

pub in_types : (l : Layout) (vs : List Known) → AreIn l vs → (j : ℕ) → j < length vs → IsValue (type_at l.types j) (known_at vs j)
in_types l vs h j p = h.each j (omega (arith, p, h.size))

kept_symbols : (slots : List ℕ) (f : Facts) → map kept (symbols_in slots f) ≡ map kept (fours_at slots f.values) ++ map kept (own_octagon f).cells
kept_symbols slots f = map-append kept (fours_at slots f.values) (own_octagon f).cells

-- a line of facts begins with the numbers of values
pub facts_first : (l : Layout) (slots : List ℕ) (symbols : List Symbol) (f : Facts) → AreFacts l f → symbols ≡ map kept (symbols_in slots f) → AreFirst l slots symbols f.values
facts_first l slots symbols f h told = record { values = values_in l f.values h.values; told = (map kept (own_octagon f).cells, told ∙ kept_symbols slots f) }

-- what is left are its bounds
pub bounds_left : (l : Layout) (slots : List ℕ) (symbols rest : List Symbol) (vs : List Known) (f : Facts) → HasOne l → AreFilled l slots symbols rest vs → AreFacts l f → symbols ≡ map kept (symbols_in slots f)
    → AreBoundsOf (length (own_pack l)) rest (own_octagon f)
bounds_left l slots symbols rest vs f single read h told =
    let many : length (map kept (fours_at slots vs)) ≡ length (map kept (fours_at slots f.values)) = length-map (fours_at slots vs) kept ∙ fours_length slots vs f.values ∙ sym (length-map (fours_at slots f.values) kept) in
    let parted = parted_same (map kept (fours_at slots vs)) (map kept (fours_at slots f.values)) rest (map kept (own_octagon f).cells) many (sym read.told ∙ told ∙ kept_symbols slots f) in
    let one = one_of l f single h in
    record { vars = one.vars; octagon = one.octagon; told = parted.1 }

pub read_whole : (l : Layout) (slots : List ℕ) (symbols rest : List Symbol) (vs : List Known) (s : Stated) → AreFilled l slots symbols rest vs → IsBounded l vs rest s → IsRead slots l symbols s
read_whole l slots symbols rest vs s read b =
    let f : Facts = record { values = vs; octagons = b.octagon ∷ [] } in
    record {
      facts = f;
      state = b.state;
      told = read.told ∙ ap (λ (r : List Symbol). map kept (fours_at slots vs) ++ r) b.bounds.told ∙ sym (kept_symbols slots f);
    }

-- what is said of an answer that is none, or some

pub none_of : {X : Type 0} (o : Option X) (A : Type 0) (P : X → Type 0) → MatchOption o A P → o ≡ None → A
none_of o A P h e = subst (λ q. MatchOption q A P) e h

pub some_of : {X : Type 0} (o : Option X) (A : Type 0) (P : X → Type 0) (x : X) → MatchOption o A P → o ≡ Some x → P x
some_of o A P x h e = subst (λ q. MatchOption q A P) e h
