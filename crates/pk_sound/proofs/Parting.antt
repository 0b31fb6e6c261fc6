-- The heads and exits of a plan's components are those of its analysis, and what a point reads stands ahead of it.
use Rattle.std.proofs.Common.{◌≡◌, ◌≢◌, ◌<◌, ◌⊎◌, ℕ, ap, ◌∙◌, sym, subst, refl, inl, inr, List, [], ◌∷◌, ℤ, Contains, arith}
use Rattle.std.proofs.lemmas.Bool.Decides.{eqb_tells}
use Rattle.pk_graph.specs.Graphs.{GraphOf}
use Rattle.pk_plan.specs.declared.components.Component.{Component}
use Rattle.pk_plan.specs.Digraphs.{Edge}
use Rattle.pk_plan.specs.Order.{Level}
use Rattle.pk_plan.specs.Plans.{PlanView}
use Rattle.pk_plan.specs.Axioms.{Axioms}
use Rattle.pk_plan.proofs.PlanLemmas.{head_is_point, head_within, exit_at, exit_within, same_head, same_exit}
use Rattle.pk_wpo.specs.Made.{Fits}
use Rattle.pk_plan.specs.Linear.{IsLinear}
use Rattle.pk_linear.proofs.ListLemmas.{contains_none, contains_here, contains_there, contains_cases}
use Rattle.pk_iterate.specs.Settled.{In, Ahead}
use Rattle.pk_iterate.specs.BoundedTurns.{HasComponent}
use Rattle.pk_phases.specs.declared.equations.Part.{Part}
use Rattle.pk_phases.specs.declared.equations.Part.TheVariants.{Point, HeadOf, ExitOf}
use Rattle.pk_phases.specs.Equations.{PartsAreOf}
use Rattle.pk_phases.specs.Solved.{SourcesAhead}
use Rattle.pk_analysis.specs.Arrows.{arrows_at, origins}
use Rattle.pk_analysis.specs.Digraphs.{digraph_of}
use Rattle.pk_analysis.specs.Parts.{part_in, part_at, AreParts}
use Rattle.pk_state.specs.Layouts.{Layout}
use Rattle.pk_sound.proofs.Systems.{system_of}
use Rattle.pk_sound.proofs.Ahead.{component_of, precedes_ahead}
use Rattle.pk_sound.proofs.Arrows_at.{origin_edge}

-- ---- parts of a list of components

head_part : (cs : List Component) (c : Component) → Contains cs c → ((d : Component) → Contains cs d → d.head ≡ c.head → d ≡ c) → ((d : Component) → Contains cs d → d.exit ≢ c.head) → part_in cs c.head ≡ HeadOf c.exit
head_part [] c has one apart = absurd (contains_none has)
head_part (d ∷ cs) c has one apart = elim (eqb_tells d.head c.head) [
  | inl equal ↦ rw equal.0 (ap (λ (x : Component). HeadOf x.exit) (one d (contains_here d cs) equal.1))
  | inr differs ↦ elim (eqb_tells d.exit c.head) [
    | inl bad ↦ absurd (apart d (contains_here d cs) bad.1)
    | inr other ↦ rw (differs.0, other.0) (head_part cs c (later differs.1) (λ x h. one x (contains_there d cs h)) (λ x h. apart x (contains_there d cs h)))
  ]
]
  where
    later : d.head ≢ c.head → Contains cs c
    later ne = elim (contains_cases d c cs has) [ inl same ↦ absurd (ne (ap (λ (x : Component). x.head) same)) | inr more ↦ more ]

exit_part : (cs : List Component) (c : Component) → Contains cs c → ((d : Component) → Contains cs d → d.exit ≡ c.exit → d ≡ c) → ((d : Component) → Contains cs d → d.head ≢ c.exit) → part_in cs c.exit ≡ ExitOf c.head
exit_part [] c has one apart = absurd (contains_none has)
exit_part (d ∷ cs) c has one apart = elim (eqb_tells d.head c.exit) [
  | inl bad ↦ absurd (apart d (contains_here d cs) bad.1)
  | inr differs ↦ elim (eqb_tells d.exit c.exit) [
    | inl equal ↦ rw (differs.0, equal.0) (ap (λ (x : Component). ExitOf x.head) (one d (contains_here d cs) equal.1))
    | inr other ↦ rw (differs.0, other.0) (exit_part cs c (later other.1) (λ x h. one x (contains_there d cs h)) (λ x h. apart x (contains_there d cs h)))
  ]
]
  where
    later : d.exit ≢ c.exit → Contains cs c
    later ne = elim (contains_cases d c cs has) [ inl same ↦ absurd (ne (ap (λ (x : Component). x.exit) same)) | inr more ↦ more ]

-- an element is no part of a component, or a head or an exit of one
abbrev IsPartOf : List Component → ℕ → Type 0
IsPartOf cs e = (part_in cs e ≡ Point) ⊎ (((c : Component) × Contains cs c × (c.head ≡ e)) ⊎ ((c : Component) × Contains cs c × (c.exit ≡ e)))

part_of : (cs : List Component) (e : ℕ) → IsPartOf cs e
part_of [] e = inl refl
part_of (d ∷ cs) e = elim (eqb_tells d.head e) [
  | inl equal ↦ inr (inl (d, contains_here d cs, equal.1))
  | inr differs ↦ elim (eqb_tells d.exit e) [
    | inl equal ↦ inr (inr (d, contains_here d cs, equal.1))
    | inr other ↦ elim (part_of cs e) [
      | inl point ↦ inl (rw (differs.0, other.0) point)
      | inr more ↦ inr (elim more [ inl c ↦ inl (c.0, contains_there d cs c.1, c.2) | inr c ↦ inr (c.0, contains_there d cs c.1, c.2) ])
    ]
  ]
]

-- ---- parts of a plan

module _ (p : PlanView) (axioms : Axioms p) (parts : List Part) (are : AreParts p parts) where
  apart : (c d : Component) → Contains p.components c → Contains p.components d → c.exit ≢ d.head
  apart c d of_c of_d same = let point = head_is_point p d axioms of_d in let at = exit_at p c axioms of_c in absurd (omega (arith, point, at, same))

  pub head_is : (c : Component) → Contains p.components c → part_at parts c.head ≡ HeadOf c.exit
  head_is c of = are.each c.head (head_within p c axioms of) ∙ head_part p.components c of (λ d h e. same_head p d c axioms h of e) (λ d h. apart d c h of)

  pub exit_is : (c : Component) → Contains p.components c → part_at parts c.exit ≡ ExitOf c.head
  exit_is c of = are.each c.exit (exit_within p c axioms of) ∙ exit_part p.components c of (λ d h e. same_exit p d c axioms h of e) (λ d h e. apart c d of h (sym e))

  -- a point is a head, or no part of a component
  pub point_is : (e : ℕ) → e < p.points → (part_at parts e ≡ Point) ⊎ ((c : Component) × Contains p.components c × (c.head ≡ e))
  point_is e below =
      let inside : e < p.elements = omega (arith, below, axioms.counted) in
      elim (part_of p.components e) [
        | inl point ↦ inl (are.each e inside ∙ point)
        | inr more ↦ elim more [ inl c ↦ inr c | inr c ↦ absurd (let at = exit_at p c.0 axioms c.1 in let is = c.2 in omega (arith, at, is, below)) ]
      ]

-- ---- the analysis over the linear order

named : (f : ℕ → Part) (c : Component) (head exit : ℕ) → c.head ≡ head → c.exit ≡ exit → f c.head ≡ HeadOf c.exit → f c.exit ≡ ExitOf c.head → (f head ≡ HeadOf exit) × (f exit ≡ ExitOf head)
named f c head exit h x e k = (ap f (sym h) ∙ e ∙ ap HeadOf x, ap f (sym x) ∙ k ∙ ap ExitOf h)

no_point_head : (x : ℕ) → Point ≡ HeadOf x → ⊥
no_point_head x e = cc

module _ (g : GraphOf) (l : Layout) (thresholds : List ℤ) (parts : List Part) (delay narrow : ℕ) (p : PlanView) (order : Level) (axioms : Axioms p) (linear : IsLinear p order) (are : AreParts p parts) where
  pub parts_are : PartsAreOf (system_of g l thresholds parts delay narrow) order
  parts_are head exit i =
      let c = component_of p order axioms linear head exit i in
      named (part_at parts) c.0 head exit c.2 c.3 (head_is p axioms parts are c.0 c.1) (exit_is p axioms parts are c.0 c.1)

  pub sources_ahead : Fits (digraph_of g) p → SourcesAhead (system_of g l thresholds parts delay narrow) order
  sources_ahead fits = record { points = points; heads = heads }
    where
      points : (v u : ℕ) → In order v → part_at parts v ≡ Point → Contains (origins (arrows_at g v)) u → Ahead order u v
      points v u i point has = elim (fits.edges u v (origin_edge g v u has)) [
        | inl before ↦ precedes_ahead p order axioms linear u v before
        | inr back ↦ absurd (no_point_head back.0.exit (sym point ∙ ap (part_at parts) (sym back.2) ∙ head_is p axioms parts are back.0 back.1))
      ]

      heads : (head exit u : ℕ) → HasComponent order head exit → Contains (origins (arrows_at g head)) u → Ahead order u exit
      heads head exit u i has =
          let c = component_of p order axioms linear head exit i in
          let edge : Edge (digraph_of g) u c.0.head = subst (λ (h : ℕ). Edge (digraph_of g) u h) (sym c.2) (origin_edge g head u has) in
          subst (λ (x : ℕ). Ahead order u x) c.3 (precedes_ahead p order axioms linear u c.0.exit (fits.inputs_of_exit c.0 u c.1 edge))
