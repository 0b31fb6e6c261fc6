-- What is written is read back.
use Rattle.std.specs.Prelude.{◌≡◌, ◌⊎◌, ℕ, suc, ◌<◌, List, [], ◌∷◌, ◌++◌, map, length, drop, slice_index_or, Option, None}
use Rattle.std.proofs.Common.{arith, refl, sym, ap, subst, ◌∙◌, inl, inr}
use Rattle.std.proofs.lemmas.Bool.{cases_lt}
use Rattle.std.proofs.lemmas.List.{length-map}
use Rattle.std.proofs.Math.ListN.{get_or-map}
use Rattle.pk_graph.specs.Graphs.{GraphOf, kinds_of}
use Rattle.pk_state.specs.Facts.{Facts, Stated, AreFactsIf}
use Rattle.pk_transfer.specs.Graphs.{layout_of}
use Rattle.pk_phases.specs.declared.equations.Cell.{Cell}
use Rattle.pk_cert.specs.Rows.{IsLine, AreLines, Line, EachOf, lines_text}
use Rattle.pk_cert.specs.Heads.{HeadOf, IsHead, head_text}
use Rattle.pk_cert.specs.Certificates.{IsCertificate}
use Rattle.pk_cert.specs.Laws.{HeadsAreTold, LinesAreTold, FirstWrongIsOne}
use Rattle.pk_cert_states.specs.Lines.{line_of, IsState}
use Rattle.pk_cert_states.specs.Laws.{FactsHaveLines}
use Rattle.pk_cert_cells.specs.Cells.{certificate_of}
use Rattle.pk_cert_cells.specs.Reading.{cell_of, shape_in, AreReadCells, IsStateless, IsUnfit}
use Rattle.pk_cert_cells.specs.Laws.{ArePointFacts, IsReadBack, WrittenIsRead, OneReading}
use Rattle.pk_cert_cells.specs.declared.failures.Unfit.{Unfit}
use Rattle.pk_cert_cells.specs.declared.failures.Unfit.TheVariants.{Byte, State, Memory}

module _ (heads : HeadsAreTold) (told : LinesAreTold) (wrong : FirstWrongIsOne) (law : FactsHaveLines) where
  module _ (g : GraphOf) (h : HeadOf) where
    lines_each : (known : List (Option Facts)) → ((v : ℕ) → v < length known → AreFactsIf (layout_of g h.oct) (slice_index_or known v None))
        → EachOf (λ (m : ℕ). IsLine (shape_in g h)) (map (line_of (kinds_of g)) known)
    lines_each [] f = tt
    lines_each (o ∷ known) f = ((law g h.oct o (f 0 (omega arith))).line, lines_each known (λ v p. f (suc v) (omega (arith, p))))

    lines_are : (known : List (Option Facts)) → ArePointFacts g h.oct known → AreLines (shape_in g h) (length g.points) (map (line_of (kinds_of g)) known)
    lines_are known k = record {
      size = length-map known (line_of (kinds_of g)) ∙ k.each;
      each = lines_each known (λ v p. k.facts v (omega (arith, p, k.each)));
    }

    -- lines tell the facts
    facts_told : (a b : List (Option Facts)) → length a ≡ length b → ((v : ℕ) → v < length a → AreFactsIf (layout_of g h.oct) (slice_index_or a v None))
        → ((v : ℕ) → v < length b → AreFactsIf (layout_of g h.oct) (slice_index_or b v None)) → map (line_of (kinds_of g)) a ≡ map (line_of (kinds_of g)) b → a ≡ b
    facts_told [] [] n p q e = refl
    facts_told [] (y ∷ b) n p q e = absurd (omega (arith, n))
    facts_told (x ∷ a) [] n p q e = absurd (omega (arith, n))
    facts_told (x ∷ a) (y ∷ b) n p q e =
        let line : line_of (kinds_of g) x ≡ line_of (kinds_of g) y = ap (λ (ls : List Line). slice_index_or ls 0 None) e in
        let rest : map (line_of (kinds_of g)) a ≡ map (line_of (kinds_of g)) b = ap (drop 1) e in
        let one = (law g h.oct x (p 0 (omega arith))).only y (q 0 (omega arith)) line in
        ap (λ (o : Option Facts). o ∷ a) one ∙ ap (λ (os : List (Option Facts)). y ∷ os) (facts_told a b (omega (arith, n)) (λ v i. p (suc v) (omega (arith, i))) (λ v i. q (suc v) (omega (arith, i))) rest)

    module _ (known : List (Option Facts)) (is : IsHead h) (k : ArePointFacts g h.oct known) where
      head_back : (j : HeadOf) (rest : List ℕ) → IsHead j → certificate_of g h known ≡ head_text j ++ rest → j ≡ h
      head_back j rest i e = sym (heads h j (lines_text (map (line_of (kinds_of g)) known)) rest is i e).0

      cells_back : (cells : List (Cell Stated)) → AreReadCells g h (certificate_of g h known) cells → cells ≡ map (cell_of (layout_of g h.oct)) known
      cells_back cells r =
          let others : ArePointFacts g h.oct r.known = record { each = r.each; facts = r.facts } in
          let same = (told (shape_in g h) (length g.points) h h (map (line_of (kinds_of g)) known) (map (line_of (kinds_of g)) r.known) is is (lines_are known k) (lines_are r.known others) r.told).1 in
          let facts = facts_told known r.known (k.each ∙ sym r.each) (λ v p. k.facts v (omega (arith, p, k.each))) (λ v p. r.facts v (omega (arith, p, r.each))) same in
          r.cells_are ∙ ap (map (cell_of (layout_of g h.oct))) (sym facts)

      all_states : (v : ℕ) → IsStateless g h (certificate_of g h known) v → ⊥
      all_states v s =
          let same = (told (shape_in g h) (length g.points) h h (map (line_of (kinds_of g)) known) s.lines is is (lines_are known k) s.are s.told).1 in
          s.none (slice_index_or known v None, k.facts v s.point, ap (λ (ls : List Line). slice_index_or ls v None) (sym same) ∙ get_or-map (line_of (kinds_of g)) known v None)

      fits : (e : Unfit) → IsUnfit g h (certificate_of g h known) e → e ≡ Memory
      fits (Byte n) w = absurd ((wrong.lines (shape_in g h) (length g.points) h (certificate_of g h known)).none n w (map (line_of (kinds_of g)) known, lines_are known k, refl))
      fits (State v) s = absurd (all_states v s)
      fits Memory u = refl

  pub written_is_read : WrittenIsRead
  written_is_read g h known is k = record {
    certificate = (map (line_of (kinds_of g)) known, lines_are g h known k, refl);
    head = λ j n i first. head_back g h known is k j (drop n (certificate_of g h known)) i first.told;
    cells = λ cells r. cells_back g h known is k cells r;
    fit = λ e u. fits g h known is k e u;
  }

  -- ---- in one way

  module _ (g : GraphOf) (h : HeadOf) (bytes : List ℕ) (is : IsHead h) where
    written : (cells : List (Cell Stated)) (r : AreReadCells g h bytes cells) → IsReadBack g h r.known
    written cells r = written_is_read g h r.known is (record { each = r.each; facts = r.facts })

    read_once : (a b : List (Cell Stated)) → AreReadCells g h bytes a → AreReadCells g h bytes b → a ≡ b
    read_once a b r s = r.cells_are ∙ sym ((written a r).cells b (subst (λ (x : List ℕ). AreReadCells g h x b) r.told s))

    read_fit : (cells : List (Cell Stated)) (e : Unfit) → AreReadCells g h bytes cells → IsUnfit g h bytes e → e ≡ Memory
    read_fit cells e r u = (written cells r).fit e (subst (λ (x : List ℕ). IsUnfit g h x e) r.told u)

    stateless_less : (u v : ℕ) → IsStateless g h bytes u → IsStateless g h bytes v → u < v → ⊥
    stateless_less u v r s p =
        let same = (told (shape_in g h) (length g.points) h h r.lines s.lines is is r.are s.are (sym r.told ∙ s.told)).1 in
        r.none (subst (λ (ls : List Line). IsState (kinds_of g) (layout_of g h.oct) (slice_index_or ls u None)) (sym same) (s.before u p))

    stateless_once : (u v : ℕ) → IsStateless g h bytes u → IsStateless g h bytes v → u ≡ v
    stateless_once u v r s = elim (cases_lt u v) [
      | inl p ↦ absurd (stateless_less u v r s p)
      | inr p ↦ elim (cases_lt v u) [ inl q ↦ absurd (stateless_less v u s r q) | inr q ↦ omega (arith, p, q) ]
    ]

    certified : (v : ℕ) → IsStateless g h bytes v → IsCertificate (shape_in g h) (length g.points) h bytes
    certified v s = (s.lines, s.are, s.told)

    unfit_once : (d e : Unfit) → IsUnfit g h bytes d → IsUnfit g h bytes e → (d ≡ Memory) ⊎ ((e ≡ Memory) ⊎ (d ≡ e))
    unfit_once Memory e u w = inl refl
    unfit_once (Byte m) Memory u w = inr (inl refl)
    unfit_once (Byte m) (Byte n) u w = inr (inr (ap (λ (k : ℕ). Byte k) ((wrong.lines (shape_in g h) (length g.points) h bytes).one m n u w)))
    unfit_once (Byte m) (State v) u w = absurd ((wrong.lines (shape_in g h) (length g.points) h bytes).none m u (certified v w))
    unfit_once (State v) Memory u w = inr (inl refl)
    unfit_once (State v) (Byte m) u w = absurd ((wrong.lines (shape_in g h) (length g.points) h bytes).none m w (certified v u))
    unfit_once (State u) (State v) r s = inr (inr (ap (λ (k : ℕ). State k) (stateless_once u v r s)))

  pub one_reading : OneReading
  one_reading g h bytes is = record { cells = read_once g h bytes is; fit = read_fit g h bytes is; unfit = unfit_once g h bytes is }
